-- On every input on which the strict build does not answer 13, it answers and leaves what the build does. Assumes nothing.
use Prim.Native.Nat.{ℕ}
use mathlib.Core.Path.{◌≡◌, sym, ap, ◌∙◌}
use mathlib.Core.List.{List}
use lib.Ieee.{Float}
use Rattle.refusals.specs.Refusal.{kept}
use Rattle.plane_moments.specs.Build.{Outputs, outputs, built, Builds}
use Rattle.strict_build.specs.Strict.{BuildsStrictly}
use Rattle.strict_build.proofs.Laws.{not_13}

-- what both calls are handed, and what their outputs hold before
module _ (dof : ℕ) (frames fixed : List Float) (sigma : Float) (out_frames out_fixed : List Float) (points : Float) (drop : ℕ) where
  -- the strict call answers r and leaves what is marked '; the old call answers q and leaves what is marked ''
  pub strict_agrees : {r : ℕ} {outFrames' outFixed' : List Float} {points' : Float} {drop' : ℕ} {q : ℕ} {outFrames'' outFixed'' : List Float} {points'' : Float} {drop'' : ℕ}
      → BuildsStrictly dof frames fixed sigma out_frames out_fixed points drop r outFrames' outFixed' points' drop'
      → Builds dof frames fixed sigma out_frames out_fixed points drop q outFrames'' outFixed'' points'' drop''
      → (r ≡ 13 → ⊥)
      → (r ≡ q) × (outFrames' ≡ outFrames'') × (outFixed' ≡ outFixed'') × (points' ≡ points'') × (drop' ≡ drop'')
  strict_agrees strict old n =
      let e = not_13 dof frames fixed sigma out_frames out_fixed (λ z. n (strict.number_is ∙ z)) in
      let left = strict.left_is ∙ ap (λ (k : ℕ). kept k (outputs out_frames out_fixed points drop) (built frames fixed out_fixed)) e ∙ sym old.left_is in (
        strict.number_is ∙ e ∙ sym old.number_is,
        ap (λ (o : Outputs). o.frames) left,
        ap (λ (o : Outputs). o.fixed) left,
        ap (λ (o : Outputs). o.points) left,
        ap (λ (o : Outputs). o.dropped) left,
      )
