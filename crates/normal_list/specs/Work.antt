-- The accumulating calls as data, all four: what is handed to a call beside the Hessian and the gradient, and what it hands back. A call that takes no
-- transforms is one with empty slices (`without`). Definitions only.
use Rattle.std.specs.Prelude.{ℕ, Float}
use Rattle.call_lists.specs.Calls.{Answer, Call, Made}
use Rattle.call_lists.specs.Accumulated.{told}
use Rattle.block_transforms.specs.Transform.{Beside}
use Rattle.plane_moments.specs.Accumulate.{FramesWork, transformed_frames_refusal, transformed_frames_call}
use Rattle.map_planes.specs.Accumulate.{transformed_matches_refusal, transformed_matches_call}
use Rattle.map_planes.specs.Accumulate as map_planes

-- frames of one plane, or a match list, with what lies beside the map
pub data Work : Type 0 where
  frames : Beside FramesWork → Work
  matches : Beside map_planes.Work → Work

-- the reason to refuse it, with a Hessian of m cells and a gradient of n
abbrev pub refusal_of : ℕ → ℕ → Work → ℕ
refusal_of m n (frames b) = transformed_frames_refusal m n b
refusal_of m n (matches b) = transformed_matches_refusal m n b

-- the call that the contracts speak of
abbrev pub call_of : ℕ → ℕ → Work → Call
call_of m n (frames b) = transformed_frames_call m n b
call_of m n (matches b) = transformed_matches_call m n b

-- what is handed back: the number, and what stands behind the pointer to the cost
pub record Got : Type 0 where
  pub number : ℕ
  pub cost : Float

abbrev pub answer_of : Got → Answer
answer_of r = told r.number r.cost

-- calls that were made, with the number and the cost that they left
abbrev pub frames_made : Beside FramesWork → ℕ → Float → Made Work Got
frames_made b number cost = record { work = frames b; got = record { number = number; cost = cost } }

abbrev pub matches_made : Beside map_planes.Work → ℕ → Float → Made Work Got
matches_made b number cost = record { work = matches b; got = record { number = number; cost = cost } }
