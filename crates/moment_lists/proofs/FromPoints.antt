-- What a host's `from_points` is refused for: the reasons of its slices alone, since of so few points no push is refused. Assumes nothing.
use Prim.Native.Nat.{◌/◌, ◌%◌}
use mathlib.Core.Path.{◌≡◌, refl}
use mathlib.Core.Bool.{Bool, true, false, not, ◌||◌, cond}
use mathlib.Core.List.{List, [], ◌∷◌}
use native.Mathlib.Omega.{arith}
use lib.ListN.{length}
use lib.Dec.{eqb, ltb}
use lib.Ieee.{Float}
use borrow.Author.Tests.{ltb-false}
use Rattle.refusals.specs.Refusal.{◌when◌, first_of, wrong_length}
use Rattle.point_moments.specs.Moments.{MOMENTS, MOST_POINTS, point_reasons}
use Rattle.counted_moments.specs.Counted.{pushes_reasons}
use Rattle.counted_moments.proofs.Pushes.{pushes_accepted}
use Rattle.moment_lists.specs.Calls.{gather_refusal}

pub no_push_refused : (p m : List Float) → gather_refusal p m ≡ first_of (3 when wrong_length ((length m, MOMENTS) ∷ []) ∷ point_reasons p)
unfolding gather_refusal point_reasons
no_push_refused p m = go (wrong_length ((length m, MOMENTS) ∷ [])) (eqb (length p % 3) 0) (ltb MOST_POINTS (length p / 3)) refl
  where
    few : ltb MOST_POINTS (length p / 3) ≡ false → first_of (pushes_reasons (length p / 3) p) ≡ 0
    few h = let l = ltb-false MOST_POINTS (length p / 3) h in pushes_accepted (length p / 3) p (omega arith)

    go : (w e t : Bool) → ltb MOST_POINTS (length p / 3) ≡ t → cond w 3 (cond (not e || t) 3 (first_of (pushes_reasons (length p / 3) p))) ≡ cond w 3 (cond (not e || t) 3 0)
    go true e t h = refl
    go false false t h = refl
    go false true true h = refl
    go false true false h = few h
