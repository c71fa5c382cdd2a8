-- What linearizing goes by: what is known once 1 to 5 are tested, and the answer put together. Assumes nothing.
use Prim.Native.Nat.{ℕ, ◌+◌, ◌*◌, ◌≤◌}
use mathlib.Core.Path.{◌≡◌, refl, ap, ◌∙◌}
use mathlib.Core.Bool.{Bool, true, false, not}
use mathlib.Core.List.{List, [], ◌∷◌, ◌++◌}
use native.Mathlib.Nat.{mul_assoc}
use native.Mathlib.Omega.{arith}
use lib.Dec.{ltb, eqb}
use lib.ListN.{length, replicate}
use lib.Ieee.{Float, binary64, sub, div, lt}
use borrow.Author.Tests.{ltb-false, eq-eqb, ne_eqb, eqb-true, not-false}
use Rattle.refusals.specs.Refusal.{◌when◌, first_of, wrong_length, none, either_none, not-both}
use Rattle.sums.specs.Sum.{zero_f, tab, grid}
use Rattle.validate.specs.Finite.{finite_positive}
use Rattle.decomposition.specs.Axes.{DECOMPOSITION, rising_of}
use Rattle.decomposition.specs.Gaps.{MIN_POINTS_GAP, one, points_plane}
use Rattle.decomposition.specs.declared.Axes.{Axes}
use Rattle.derivative.specs.Action.{most_dof}
use Rattle.bundle_points.specs.Points.{point_count, centroid}
use Rattle.bundle_rows.specs.Rows.{total, residual_at, jacobian_cell}
use Rattle.plane_bundle.specs.Calls.{not_finite}
use Rattle.plane_bundle.specs.Linearize.{Bundle, rows, columns, bad_rows, linearize_refusal, under_plane, linearized}
use Rattle.plane_bundle.specs.Steps.{linearize_shape, bad_sizes, shape_of, Fitting}
use Rattle.plane_bundle.proofs.Laws.{shaped, shape-refused, shape_passed}

module _ (b : Bundle) (residuals cells : ℕ) where
  -- a refusal by one of them is the call's
  pub refused-shape : (k : ℕ) → (k ≡ 0 → ⊥) → shape_of b residuals cells ≡ k → linearize_refusal b residuals cells ≡ k
  unfolding linearize_refusal linearize_shape bad_rows bad_sizes
  refused-shape k some h = go (ltb most_dof b.dof) refl
    where
      go : (t : Bool) → ltb most_dof b.dof ≡ t → linearize_refusal b residuals cells ≡ k
      go true e = rw e (rw e at h)
      go false e = rw e (shape-refused b.counts b.points b.fixed (bad_rows b residuals cells) (7 when not (finite_positive b.sigma) ∷ []) k some (rw e at h))

  -- and without one, 6 and 7 are next
  pub passed_shape : shape_of b residuals cells ≡ 0 → Fitting b residuals cells × (linearize_refusal b residuals cells ≡ first_of (6 when not_finite b.points b.fixed ∷ 7 when not (finite_positive b.sigma) ∷ []))
  unfolding linearize_refusal linearize_shape bad_rows bad_sizes
  passed_shape h =
      let site = total b.counts in
      let o = none (ltb most_dof b.dof) 0 _ h in
      let p = shape_passed b.counts b.points b.fixed _ (7 when not (finite_positive b.sigma) ∷ []) o.1 in
      let q = either_none (wrong_length ((length b.d_state, site * b.dof * 3) ∷ (length b.decomposition, DECOMPOSITION) ∷ (residuals, rows b) ∷ [])) _ p.1 in
      let s = either_none (not (eqb (length b.d_state) (site * b.dof * 3))) _ q.0 in
      let d = either_none (not (eqb (length b.decomposition) DECOMPOSITION)) _ s.1 in
      let r = either_none (not (eqb residuals (rows b))) _ d.1 in (
        record {
          narrow = ltb-false most_dof b.dof o.0;
          shaped = shaped b.counts b.points b.fixed p.0;
          state_whole = eqb-true (length b.d_state) (site * b.dof * 3) (not-false _ s.0);
          patterns_whole = eqb-true (length b.decomposition) DECOMPOSITION (not-false _ d.0);
          residuals_whole = eqb-true residuals (rows b) (not-false _ r.0);
          cells_whole = λ some. eqb-true cells (columns b * rows b) (not-both (eqb cells 0) (eqb cells (columns b * rows b)) (ne_eqb cells 0 some) q.1);
        },
        rw o.0 p.2,
      )

  module _ (t : Fitting b residuals cells) where
    pub counted-rows : point_count b.points + point_count b.fixed ≡ rows b
    counted-rows = ap (λ (n : ℕ). n + point_count b.fixed) t.shaped.counted

    -- what writing the Jacobian asks for
    pub jacobian_room : (m : ℕ) → m ≡ rows b → (cells ≡ 0 → ⊥)
        → (b.dof ≤ 9) × (m ≤ 65536) × (length b.counts ≤ 256) × (total b.counts ≤ m) × (total b.counts * b.dof * 3 ≤ length b.d_state) × (cells ≡ length b.counts * (b.dof * m))
    jacobian_room m e some = (
      t.narrow,
      omega (arith, t.shaped.taken.few, counted-rows),
      t.shaped.frames,
      omega arith,
      omega (arith, t.state_whole),
      rw e (t.cells_whole some ∙ mul_assoc (length b.counts) b.dof (rows b)),
    )

-- ---- what an accepted call leaves
module _ (b : Bundle) (residual jacobian : List Float) (axes : Axes) (sorted : axes ≡ rising_of b.decomposition) where
  -- without a plane
  pub no_plane : (residual' jacobian' : List Float) → lt (sub binary64 axes.second axes.first) MIN_POINTS_GAP ≡ true
      → residual' ≡ replicate (length residual) zero_f → jacobian' ≡ replicate (length jacobian) zero_f → (residual', jacobian') ≡ linearized b residual jacobian
  unfolding linearized points_plane
  no_plane residual' jacobian' g r j = rw (r, j, ← sorted, g)

  module _ (gap : lt (sub binary64 axes.second axes.first) MIN_POINTS_GAP ≡ false) (q : List Float) (centred : q ≡ centroid (b.points ++ b.fixed)) (m : ℕ) (e : m ≡ rows b)
      (residual' : List Float) (written : residual' ≡ tab m (residual_at (b.points ++ b.fixed) q axes.normal (div binary64 one b.sigma))) where
    here : tab m (residual_at (b.points ++ b.fixed) q axes.normal (div binary64 one b.sigma))
        ≡ tab (rows b) (residual_at (b.points ++ b.fixed) (centroid (b.points ++ b.fixed)) (rising_of b.decomposition).normal (div binary64 one b.sigma))
    here = rw (e, centred, sorted)

    -- under the plane, the Jacobian not wanted
    pub rows-alone : length jacobian ≡ 0 → (residual', jacobian) ≡ linearized b residual jacobian
    unfolding linearized points_plane under_plane
    rows-alone z = rw (written, here, ← sorted, gap, eq-eqb (length jacobian) 0 z)

    -- and with the Jacobian
    pub rows-and_cells : (jacobian' : List Float) (n : ℕ) → n ≡ rows b → (length jacobian ≡ 0 → ⊥) → jacobian' ≡ grid n (columns b) (jacobian_cell b.counts b.dof b.d_state axes.normal (div binary64 one b.sigma))
        → (residual', jacobian') ≡ linearized b residual jacobian
    unfolding linearized points_plane under_plane
    rows-and_cells jacobian' n f some j = rw (written, here, j, f, sorted, rw sorted at gap, ne_eqb (length jacobian) 0 some)
