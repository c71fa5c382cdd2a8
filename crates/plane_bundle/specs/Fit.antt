-- The call that asks for a bundle's centroid and scatter: why it is refused, and what it leaves. Definitions only.
use Rattle.std.specs.Prelude.{ℕ, not, List, ◌++◌, eqb, length, Float}
use Rattle.refusals.specs.Refusal.{first_of, Answered}
use Rattle.bundle_points.specs.Points.{fit_of}
use Rattle.plane_bundle.specs.Calls.{bundle_reasons}

-- "Asking tests 2 to 6"
unfoldable pub fit_refusal : List ℕ → List Float → List Float → ℕ → ℕ
fit_refusal counts points fixed out = first_of (bundle_reasons counts points fixed (not (eqb out 12)))

-- the call with the answer r: the output before, and after
abbrev pub Fits : List ℕ → List Float → List Float → List Float → ℕ → List Float → Type 0
Fits counts points fixed out r out' = Answered (fit_refusal counts points fixed (length out)) r out out' (fit_of (points ++ fixed))
