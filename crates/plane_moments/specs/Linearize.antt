-- Linearizing frames: why the call is refused, and the residuals and the Jacobian that it leaves where it is not. Definitions, and what an accepted call is
-- known by; assumes nothing.
-- frames, fixed: centred sets; ds: the decompositions by their bit patterns, the fit's, one a frame, and the fixed set's if there is one.
use Rattle.std.specs.Prelude.{ℕ, ◌+◌, ◌*◌, ◌≤◌, ◌≡◌, refl, Bool, not, ◌||◌, ◌&&◌, ltb, eqb, Option, Some, None, Float}
use Rattle.std.proofs.Common.{mul-zero, zero-mul, sym, ap₂, ◌∙◌}
use native.Mathlib.Omega.{arith}
use Rattle.std.proofs.Math.Path.{ap}
use Rattle.std.proofs.Math.Bool.{true, false, cond}
use mathlib.Core.List.{List, [], ◌∷◌}
use Rattle.std.proofs.Math.ListN.{length, replicate}
use Rattle.std.specs.Float.Ieee.{binary64, div}
use borrow.Author.Tests.{ltb-false, eqb-true, ne_eqb, not-false}
use Rattle.refusals.specs.Refusal.{◌when◌, first_of, Answered, accepted, none, either_none}
use Rattle.sums.specs.Sum.{zero_f}
use Rattle.validate.specs.Finite.{finite_positive}
use Rattle.decomposition.specs.Axes.{DECOMPOSITION}
use Rattle.decomposition.specs.Gaps.{one}
use Rattle.plane_fit.specs.Axis.{smallest_axis}
use Rattle.plane_fit.specs.Fit.{Shaped, frame_count, fit_mean}
use Rattle.plane_fit.specs.Calls.{bad_frames, bad_fixed, bad_actions, whole_fixed, one_each, shaped}
use Rattle.plane.specs.declared.Plane.{Plane}
use Rattle.point_moments.specs.Scatter.{CENTRED}
use Rattle.derivative.specs.Action.{action_size, most_dof}
use Rattle.frame_roots.specs.Roots.{decomposition_at}
use Rattle.frame_rows.specs.Rows.{residual_of, jacobian_of, row_count}
use Rattle.frame_rows.specs.Steps.{Room, FixedRoom}

-- ---- why it is refused, by the lengths of what is handed in

-- 3: not a decomposition for the fit, for each frame, and for the fixed set if there is one
unfoldable pub bad_decompositions : ℕ → ℕ → ℕ → Bool
bad_decompositions patterns count fixed = not (eqb patterns ((count + cond (eqb fixed 0) 1 2) * DECOMPOSITION))

-- 3: not four residuals a frame and four for the fixed set, or a Jacobian that is neither empty nor that many rows and dof columns a frame
unfoldable pub bad_outputs : ℕ → ℕ → ℕ → ℕ → Bool
bad_outputs count dof residuals cells =
    not (eqb residuals ((count + 1) * 4)) || (not (eqb cells 0) && not (eqb cells (count * dof * ((count + 1) * 4))))

-- 3: of all that is handed in but the actions
unfoldable pub bad_lengths : ℕ → List Float → List Float → ℕ → ℕ → ℕ → Bool
bad_lengths dof frames fixed patterns residuals cells =
    bad_frames frames || (bad_fixed fixed || (bad_decompositions patterns (frame_count frames) (length fixed) || bad_outputs (frame_count frames) dof residuals cells))

-- "linearizing tests 1, 2, 3, 7, 8"
unfoldable pub linearize_refusal : ℕ → List Float → List Float → Float → List Float → ℕ → ℕ → ℕ → ℕ
linearize_refusal dof frames fixed sigma actions patterns residuals cells =
    first_of
    (1 when ltb most_dof dof ∷
    2 when eqb (length frames) 0 ∷
    3 when bad_lengths dof frames fixed patterns residuals cells ∷
    7 when not (finite_positive sigma) ∷
    8 when bad_actions frames actions ∷ [])

-- ---- what it leaves where it is accepted

-- how many columns a frame has in a Jacobian of so many cells: an empty one is not wanted
unfoldable pub wanted : ℕ → ℕ → ℕ
wanted dof cells = cond (eqb cells 0) 0 dof

-- the residuals and the Jacobian under a plane; without one all residuals and the whole Jacobian are +0
unfoldable pub under_fit : Option Plane → List Float → List Float → List Float → List ℕ → Float → ℕ → List Float × List Float
under_fit (Some p) frames fixed actions ds info width =
    (residual_of frames fixed actions ds p.normal p.offset info, jacobian_of frames actions ds p.normal info width)
under_fit None frames fixed actions ds info width =
    (replicate (row_count frames) zero_f, replicate (frame_count frames * width * row_count frames) zero_f)

-- the fit's decomposition is the first of the list; information is 1 / sigma
unfoldable pub linearized : List Float → List Float → Float → List Float → List ℕ → ℕ → List Float × List Float
linearized frames fixed sigma actions ds width =
    under_fit (smallest_axis (decomposition_at ds 0) (fit_mean frames fixed actions)) frames fixed actions ds (div binary64 one sigma) width

-- the call with the answer r: residuals and Jacobian before, and after
abbrev pub Linearizes : ℕ → List Float → List Float → Float → List Float → List ℕ → List Float → List Float → ℕ → List Float → List Float → Type 0
Linearizes dof frames fixed sigma actions ds residual jacobian r residual' jacobian' =
    Answered (linearize_refusal dof frames fixed sigma actions (length ds) (length residual) (length jacobian)) r
    (residual, jacobian) (residual', jacobian')
    (linearized frames fixed sigma actions ds (wanted dof (length jacobian)))

-- ---- what is known where no test applies

-- the Jacobian has as many cells as its rows and the wanted columns make
wanted_cells : (count dof rows cells : ℕ) → (not (eqb cells 0) && not (eqb cells (count * dof * rows))) ≡ false → cells ≡ count * wanted dof cells * rows
unfolding wanted
wanted_cells count dof rows cells h = go (eqb cells 0) refl
  where
    go : (b : Bool) → eqb cells 0 ≡ b → cells ≡ count * cond b 0 dof * rows
    go true e = eqb-true cells 0 e ∙ rw (mul-zero count, zero-mul rows)
    go false e = eqb-true cells (count * dof * rows) (not-false _ (rw e at h))

wanted-narrow : (dof cells : ℕ) → dof ≤ most_dof → wanted dof cells ≤ most_dof
unfolding wanted
wanted-narrow dof cells h = go (eqb cells 0)
  where
    go : (b : Bool) → cond b 0 dof ≤ most_dof
    go true = omega arith
    go false = h

pub record Accepted (dof : ℕ) (frames fixed actions : List Float) (ds : List ℕ) (residuals cells : ℕ) : Type 0 where
  pub whole : Shaped frames fixed actions
  pub room : Room frames actions ds residuals cells (wanted dof cells)
  pub fixed_room : FixedRoom fixed ds (frame_count frames) residuals

module _ (dof : ℕ) (frames fixed : List Float) (sigma : Float) (actions : List Float) (ds : List ℕ) (residuals cells : ℕ) (taken : linearize_refusal dof frames fixed sigma actions (length ds) residuals cells ≡ 0) where
  pub accepted_call : Accepted dof frames fixed actions ds residuals cells
  unfolding linearize_refusal bad_lengths bad_decompositions bad_outputs
  accepted_call =
      let count = frame_count frames in
      let rows = (count + 1) * 4 in
      let t1 = none (ltb most_dof dof) 0 _ taken in
      let t2 = none (eqb (length frames) 0) 1 _ t1.1 in
      let t3 = none (bad_lengths dof frames fixed (length ds) residuals cells) 2 _ t2.1 in
      let t7 = none (not (finite_positive sigma)) 6 _ t3.1 in
      let t8 = none (bad_actions frames actions) 7 _ t7.1 in
      let p = either_none (bad_frames frames) _ t3.0 in
      let q = either_none (bad_fixed fixed) _ p.1 in
      let d = either_none (bad_decompositions (length ds) count (length fixed)) _ q.1 in
      let o = either_none (not (eqb residuals rows)) _ d.1 in
      let sets : length ds ≡ (count + cond (eqb (length fixed) 0) 1 2) * DECOMPOSITION = eqb-true (length ds) ((count + cond (eqb (length fixed) 0) 1 2) * DECOMPOSITION) (not-false _ d.0) in
      let r : residuals ≡ rows = eqb-true residuals rows (not-false _ o.0) in
      record {
        whole = shaped frames fixed actions p.0 q.0 t8.0;
        room = record {
          actions_whole = one_each CENTRED frames action_size actions t8.0;
          ds_enough = enough count (eqb (length fixed) 0) (length ds) sets;
          residual_whole = r;
          jacobian_whole = wanted_cells count dof rows cells o.1;
          narrow = wanted-narrow dof cells (ltb-false most_dof dof t1.0);
        };
        fixed_room = record {
          fixed_whole = whole_fixed fixed q.0;
          own_decomposition = λ some. own count (length ds) (sets ∙ ap (λ b. (count + cond b 1 2) * DECOMPOSITION) (ne_eqb (length fixed) 0 some));
          residual_whole = r;
        };
      }
    where
      enough : (count : ℕ) (b : Bool) (n : ℕ) → n ≡ (count + cond b 1 2) * 12 → (count + 1) * 12 ≤ n
      enough count true n e = omega arith
      enough count false n e = omega arith

      own : (count n : ℕ) → n ≡ (count + 2) * 12 → (count + 2) * 12 ≤ n
      own count n e = omega arith

-- ---- the call's two answers where it is accepted
module _ (dof : ℕ) (frames fixed : List Float) (sigma : Float) (actions : List Float) (ds : List ℕ) (residual jacobian : List Float) (taken : linearize_refusal dof frames fixed sigma actions (length ds) (length residual) (length jacobian) ≡ 0) (mean : List Float) (d : List ℕ) (fit : Option Plane) (centred : mean ≡ fit_mean frames fixed actions) (first : d ≡ decomposition_at ds 0) (fitted : fit ≡ smallest_axis d mean) where
  fit_is : fit ≡ smallest_axis (decomposition_at ds 0) (fit_mean frames fixed actions)
  fit_is = fitted ∙ ap (λ (x : List ℕ). smallest_axis x mean) first ∙ ap (λ (m : List Float). smallest_axis (decomposition_at ds 0) m) centred

  -- the answer by the fit that was found
  answer : (found : Option Plane) (residual' jacobian' : List Float) → fit ≡ found → (residual', jacobian') ≡ under_fit found frames fixed actions ds (div binary64 one sigma) (wanted dof (length jacobian)) → Linearizes dof frames fixed sigma actions ds residual jacobian 0 residual' jacobian'
  unfolding linearized
  answer found residual' jacobian' e h =
      accepted taken (h ∙ ap (λ (f : Option Plane). under_fit f frames fixed actions ds (div binary64 one sigma) (wanted dof (length jacobian))) (sym e ∙ fit_is))

  pub plane_call : (p : Plane) (width : ℕ) (residual' jacobian' : List Float) → fit ≡ Some p → width ≡ wanted dof (length jacobian)
      → residual' ≡ residual_of frames fixed actions ds p.normal p.offset (div binary64 one sigma)
      → jacobian' ≡ jacobian_of frames actions ds p.normal (div binary64 one sigma) width
      → Linearizes dof frames fixed sigma actions ds residual jacobian 0 residual' jacobian'
  unfolding under_fit
  plane_call p width residual' jacobian' e w r j =
      answer (Some p) residual' jacobian' e
      (ap₂ (λ (x y : List Float). (x, y)) r (j ∙ ap (λ (m : ℕ). jacobian_of frames actions ds p.normal (div binary64 one sigma) m) w))

  pub no_plane_call : (residual' jacobian' : List Float) → fit ≡ None → residual' ≡ replicate (length residual) zero_f → jacobian' ≡ replicate (length jacobian) zero_f → Linearizes dof frames fixed sigma actions ds residual jacobian 0 residual' jacobian'
  unfolding under_fit
  no_plane_call residual' jacobian' e r j =
      let room = (accepted_call dof frames fixed sigma actions ds (length residual) (length jacobian) taken).room in
      answer None residual' jacobian' e
      (ap₂ (λ (x y : List Float). (x, y)) (r ∙ ap (λ (m : ℕ). replicate m zero_f) room.residual_whole) (j ∙ ap (λ (m : ℕ). replicate m zero_f) room.jacobian_whole))
