-- Each call on lists has the answer of its call on arrays where the lists have the lengths for it. Assumes nothing.
use mathlib.Core.Path.{◌≡◌, refl}
use mathlib.Core.Bool.{Bool, true, false, cond}
use mathlib.Core.List.{List}
use lib.Dec.{eqb}
use lib.ListN.{length}
use lib.Ieee.{Float}
use Rattle.std.specs.Prelude.{Ok, Err}
use Rattle.refusals.specs.Refusal.{wrong_length, Answered, accepted}
use Rattle.refusals.specs.Number.{number_of}
use Rattle.refusals.specs.declared.Refusal.{Refusal}
use Rattle.plane.specs.declared.Plane.{Plane}
use Rattle.plane.specs.Plane.{PLANE, plane_new, plane_list}
use Rattle.plane.specs.Sigma.{deviation}
use Rattle.plane_lists.specs.Calls.{new_refusal, new_plane, Inputs, lengths, variance_of, sigma_refusal, sigma}

-- an answer that one test decides
tested_ok : {A E : Type 0} (b : Bool) (x y : A) (k : E) → Ok y ≡ cond b (Ok x) (Err k) → (b ≡ true) × (y ≡ x)
tested_ok true x y k h = (refl, cc)
tested_ok false x y k h = cc

tested_err : {A E : Type 0} (b : Bool) (x : A) (k e : E) → Err e ≡ cond b (Ok x) (Err k) → (b ≡ false) × (e ≡ k)
tested_err true x k e h = cc
tested_err false x k e h = (refl, cc)

module _ (n : List Float) (d : Float) (old : List Float) (three : eqb (length n) 3 ≡ true) (four : eqb (length old) PLANE ≡ true) where
  pub new-refused : (e : Refusal) → Err e ≡ plane_new n d → new_refusal n old ≡ number_of e
  unfolding new_refusal plane_new
  new-refused e h = let no = tested_err _ _ _ _ h in rw (three, four, no.0, no.1)

  pub new-made : (p : Plane) → Ok p ≡ plane_new n d → Answered (new_refusal n old) 0 old (plane_list p) (new_plane n d)
  unfolding new_refusal new_plane plane_new
  new-made p h = let yes = tested_ok _ _ _ _ h in accepted (rw (three, four, yes.0)) (rw yes.1)

module _ (x : Inputs) (fits : wrong_length (lengths x) ≡ false) where
  pub sigma-refused : (e : Refusal) → Err e ≡ deviation (variance_of x) → sigma_refusal x ≡ number_of e
  unfolding sigma_refusal deviation
  sigma-refused e h = let no = tested_err _ _ _ _ h in rw (fits, no.0, no.1)

  pub sigma-found : (old y : Float) → Ok y ≡ deviation (variance_of x) → Answered (sigma_refusal x) 0 old y (sigma x)
  unfolding sigma_refusal sigma deviation
  sigma-found old y h = let yes = tested_ok _ _ _ _ h in accepted (rw (fits, yes.0)) yes.1
