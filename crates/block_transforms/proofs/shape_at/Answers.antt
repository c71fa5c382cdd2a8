-- `block_transforms::shape_at` meets its contract: the two words inside the shapes, none past their end. Assumes nothing.
use borrow.Author.Tests.{lt-ltb, le-ltb}
use Rattle.block_transforms.specs.Transform.{shape_at}
use Rattle.block_transforms.proofs.shape_at.Goals as goal

pub returns-then-k-shapes : goal.returns-then-k-shapes
unfolding shape_at
returns-then-k-shapes c = rw (lt-ltb _ _ c.if-k-shapes.true) c.shape_of.ensures

pub returns : goal.returns
unfolding shape_at
returns c = rw (le-ltb _ _ c.if-k-shapes.false)
