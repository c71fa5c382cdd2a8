-- Accumulating a match list: the calls that the contracts speak of, from their own inputs and the two lengths. Definitions only.
use Rattle.std.specs.Prelude.{ℕ, Bool, ◌||◌, List, ◌++◌, length, Float}
use Rattle.refusals.specs.Refusal.{Reason, first_of}
use Rattle.normal_blocks.specs.Map.{lookup}
use Rattle.normal_blocks.specs.Calls.{bad_target}
use Rattle.match_sums.specs.Groups.{list_cost, list_block, list_vector}
use Rattle.call_lists.specs.Calls.{Call, judged}
use Rattle.call_lists.specs.Frames.{Frames, framed}
use Rattle.block_transforms.specs.Transform.{Beside, without, shape_at, through}
use Rattle.block_transforms.specs.Reasons.{bad_beside, through_reasons}
use Rattle.map_planes.specs.Calls.{matches_reasons}

-- the call's own inputs, beside which transforms may lie
pub record Work : Type 0 where
  pub dof : ℕ
  pub matches : List Float
  pub action : List Float
  pub map : List ℕ

-- ---- why it is refused: m cells of the Hessian, n of the gradient

-- 3, of the slices beside the list: the target with its map, and what lies beside the map
abbrev pub bad_slices : ℕ → ℕ → Beside Work → Bool
bad_slices m n b = bad_target (length b.work.map) m n || bad_beside (length b.work.map) (length b.shapes) (length b.transforms)

-- 9, 14 and 10, of one frame, that of word 0
abbrev pub last_reasons : ℕ → Beside Work → List Reason
last_reasons n b = through_reasons b.work.map (shape_at b.shapes) 1 b.work.dof n

-- "Every call on matches tests 1, 2, 3, then 6 and 7 match by match, then 8, and when accumulating 9 and 10"; "14 .. directly after 9"
unfoldable pub transformed_matches_refusal : ℕ → ℕ → Beside Work → ℕ
transformed_matches_refusal m n b =
    first_of (matches_reasons b.work.dof b.work.matches (bad_slices m n b) b.work.action ++ last_reasons n b)

-- ---- what it is where it is accepted

-- "Accepted matches: likewise as one frame, summed by groups"
abbrev pub one_frame : Work → Frames
one_frame w = record {
  layout = record { count = 1; place = lookup w.map; width = λ k. w.dof };
  block = λ k. list_block w.action w.matches;
  vector = λ k. list_vector w.action w.matches;
}

-- through the transform of word 0
abbrev pub frames_of : Beside Work → Frames
frames_of b = through (shape_at b.shapes) b.transforms (one_frame b.work)

-- THE CALL
unfoldable pub transformed_matches_call : ℕ → ℕ → Beside Work → Call
transformed_matches_call m n b = judged (transformed_matches_refusal m n b) (framed n (list_cost b.work.action b.work.matches) (frames_of b))

-- A CALL THAT TAKES NO TRANSFORMS is one with empty slices
abbrev pub accumulate_refusal : ℕ → ℕ → Work → ℕ
accumulate_refusal m n w = transformed_matches_refusal m n (without w)

abbrev pub matches_call : ℕ → ℕ → Work → Call
matches_call m n w = transformed_matches_call m n (without w)
