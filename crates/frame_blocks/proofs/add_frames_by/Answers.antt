-- `frame_blocks::add_frames_by` meets its contract: each width is one call. Assumes nothing.
use Rattle.frame_blocks.proofs.add_frames_by.Goals as goal

pub add_frames-requires : goal.add_frames-requires
add_frames-requires c = rw c.in-0.is at c.requires

pub returns-in-0 : goal.returns-in-0
returns-in-0 c = rw c.in-0.is c.add_frames.ensures

pub add_frames-requires-in-1 : goal.add_frames-requires-in-1
add_frames-requires-in-1 c = rw c.in-1.is at c.requires

pub returns-in-1 : goal.returns-in-1
returns-in-1 c = rw c.in-1.is c.add_frames-in-1.ensures

pub add_frames-requires-in-2 : goal.add_frames-requires-in-2
add_frames-requires-in-2 c = rw c.in-2.is at c.requires

pub returns-in-2 : goal.returns-in-2
returns-in-2 c = rw c.in-2.is c.add_frames-in-2.ensures

pub add_frames-requires-in-3 : goal.add_frames-requires-in-3
add_frames-requires-in-3 c = rw c.in-3.is at c.requires

pub returns-in-3 : goal.returns-in-3
returns-in-3 c = rw c.in-3.is c.add_frames-in-3.ensures

pub add_frames-requires-in-4 : goal.add_frames-requires-in-4
add_frames-requires-in-4 c = rw c.in-4.is at c.requires

pub returns-in-4 : goal.returns-in-4
returns-in-4 c = rw c.in-4.is c.add_frames-in-4.ensures

pub add_frames-requires-in-5 : goal.add_frames-requires-in-5
add_frames-requires-in-5 c = rw c.in-5.is at c.requires

pub returns-in-5 : goal.returns-in-5
returns-in-5 c = rw c.in-5.is c.add_frames-in-5.ensures

pub add_frames-requires-in-6 : goal.add_frames-requires-in-6
add_frames-requires-in-6 c = rw c.in-6.is at c.requires

pub returns-in-6 : goal.returns-in-6
returns-in-6 c = rw c.in-6.is c.add_frames-in-6.ensures

pub add_frames-requires-in-7 : goal.add_frames-requires-in-7
add_frames-requires-in-7 c = rw c.in-7.is at c.requires

pub returns-in-7 : goal.returns-in-7
returns-in-7 c = rw c.in-7.is c.add_frames-in-7.ensures

pub add_frames-requires-in-8 : goal.add_frames-requires-in-8
add_frames-requires-in-8 c = rw c.in-8.is at c.requires

pub returns-in-8 : goal.returns-in-8
returns-in-8 c = rw c.in-8.is c.add_frames-in-8.ensures

pub add_frames-requires-in-9 : goal.add_frames-requires-in-9
add_frames-requires-in-9 c = rw c.in-9.is at c.requires

pub returns-in-9 : goal.returns-in-9
returns-in-9 c = rw c.in-9.is c.add_frames-in-9.ensures
