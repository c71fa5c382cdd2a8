-- The ways out of an accumulating call: refused, without plane, and with all frames added. Assumes nothing.
use Rattle.std.specs.Prelude.{ℕ, zero, suc, ◌≡◌, refl, List, Float}
use Rattle.std.proofs.Common.{ap}
use Rattle.terms.specs.Terms.{add_all, upto}
use Rattle.terms.proofs.Laws.{add_all-none}
use Rattle.call_lists.specs.Calls.{cost, Call, judged}
use Rattle.call_lists.specs.Frames.{Frames, frame_hessian, frame_gradient, framed, idle}
use Rattle.call_lists.specs.Accumulated.{Accumulated}

module _ (h g : List Float) (x : Float) where
  pub accumulated_refused : (r k : ℕ) (c : Call) → k ≡ r → (k ≡ 0 → ⊥) → Accumulated (judged r c) h g x k h g x
  accumulated_refused r zero c e no_zero = absurd (no_zero refl)
  accumulated_refused r (suc k) c e no_zero =
      rw (← e) (record { ran = record { answered = refl; hessian = add_all-none h; gradient = add_all-none g }; kept = λ n. refl })

  pub accumulated_idle : (r : ℕ) (y : Float) → r ≡ 0 → Accumulated (judged r (idle y)) h g x 0 h g y
  accumulated_idle r y e =
      rw e (record { ran = record { answered = refl; hessian = add_all-none h; gradient = add_all-none g }; kept = λ n. absurd (n refl) })

  pub accumulated_framed : (r n : ℕ) (y z : Float) (f : Frames) (h' g' : List Float) → r ≡ 0 → z ≡ y → h' ≡ add_all h (upto f.layout.count (frame_hessian n f))
      → g' ≡ add_all g (upto f.layout.count (frame_gradient f)) → Accumulated (judged r (framed n y f)) h g x 0 h' g' z
  accumulated_framed r n y z f h' g' e same hs gs =
      rw e (record { ran = record { answered = ap cost same; hessian = hs; gradient = gs }; kept = λ m. absurd (m refl) })
