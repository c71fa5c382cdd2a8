-- Sets that a host makes on slices by the exported calls. Definitions only.
use Rattle.std.specs.Prelude.{ℕ, ◌/◌, ◌≡◌, List, length, Float}
use Rattle.lists.specs.Part.{part}
use Rattle.refusals.specs.Refusal.{first_of}
use Rattle.point_moments.specs.Moments as Moments
use Rattle.moment_lists.specs.Calls.{FromPoints, Pushes, Merges}
use Rattle.exact_moments.specs.Plan as Plan

-- how a slice came to hold a set: thirteen zeros that the host wrote; a list of points that was gathered; a point pushed; the set of another slice merged
pub data Calls : Type 0 where
  zeros : Calls
  gather : List Float → Calls
  push : Calls → List Float → Calls
  merge : Calls → Calls → Calls

-- the plan that was followed
unfoldable pub plan : Calls → Plan.Plan
plan zeros = Plan.empty
plan (gather l) = Plan.pushes (length l / 3) l
plan (push c p) = Plan.push (plan c) (part 3 p 0)
plan (merge c d) = Plan.merge (plan c) (plan d)

-- each list is one that `from_points` takes, and each point has three numbers
unfoldable pub Sized : Calls → Type 0
Sized zeros = Unit
Sized (gather l) = first_of (Moments.point_reasons l) ≡ 0
Sized (push c p) = Sized c × (length p ≡ 3)
Sized (merge c d) = Sized c × Sized d

-- the calls were made, each did what its exported contract says, and m is what the slice holds afterwards; `from_points` got a slice of thirteen numbers
abbrev pub Made : Calls → List Float → Type 0
Made zeros m = m ≡ Moments.moments_list Moments.empty
Made (gather l) m = (old : List Float) × (r : ℕ) × (length old ≡ Moments.MOMENTS) × FromPoints l old r m
Made (push c p) m = (old : List Float) × (r : ℕ) × Made c old × Pushes old p r m
Made (merge c d) m = (old other : List Float) × (r : ℕ) × Made c old × Made d other × Merges old other r m

-- all of them answered 0
unfoldable pub Taken : (c : Calls) (m : List Float) → Made c m → Type 0
Taken zeros m made = Unit
Taken (gather l) m (old, r, sized, call) = r ≡ 0
Taken (push c p) m (old, r, before, call) = Taken c old before × (r ≡ 0)
Taken (merge c d) m (old, other, r, before, beside, call) = Taken c old before × Taken d other beside × (r ≡ 0)
