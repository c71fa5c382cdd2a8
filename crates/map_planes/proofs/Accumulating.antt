-- Laws of accumulating a match list: its tests in two parts, what an accepted call is known by, the ways out, and a call without transforms. Assumes nothing.
use Prim.Native.Nat.{ℕ, ◌*◌}
use mathlib.Core.Path.{◌≡◌, refl, sym, ap, ap₂, ◌∙◌}
use native.Mathlib.Nat.{suc-ne-zero}
use mathlib.Core.Bool.{Bool, true, false, not, ◌||◌}
use mathlib.Core.List.{List, [], ◌∷◌, ◌++◌}
use lib.Dec.{eqb}
use lib.ListN.{length}
use lib.Ieee.{Float}
use Rattle.refusals.specs.Refusal.{Reason, ◌when◌, first_of, either_none}
use Rattle.derivative.specs.Action.{action_size}
use Rattle.terms.specs.Terms.{add_all, upto}
use Rattle.normal_blocks.specs.Calls.{map_reasons, map_refusal, bad_target, square}
use Rattle.match_sums.specs.Groups.{match_count, list_cost}
use Rattle.call_lists.specs.ListLaws.{every_append}
use Rattle.call_lists.specs.Frames.{frame_hessian, frame_gradient}
use Rattle.call_lists.specs.Accumulated.{Accumulated}
use Rattle.call_lists.specs.Outcomes.{accumulated_refused, accumulated_framed}
use Rattle.block_transforms.specs.Transform.{Beside, without, shape_at}
use Rattle.block_transforms.specs.Reasons.{bad_beside, through_refusal}
use Rattle.block_transforms.proofs.Laws.{Passed, passed, refusal_none, through-none}
use Rattle.map_planes.specs.Reasons.{Numbered, or_else, or_else-some, first-append, neither, parts_numbered}
use Rattle.map_planes.specs.Calls.{Fit, fit, matches_reasons, matches_refusal, list_reasons, reasons_at, reasons_numbered}
use Rattle.map_planes.specs.Accumulate.{Work, bad_slices, last_reasons, transformed_matches_refusal, one_frame, frames_of, transformed_matches_call, accumulate_refusal}

matches_numbered : (dof : ℕ) (ms : List Float) (misfit : Bool) (x : List Float) → Numbered (matches_reasons dof ms misfit x)
matches_numbered dof ms misfit x =
    (suc-ne-zero 0, (suc-ne-zero 1, (suc-ne-zero 2, every_append (λ (r : Reason). r.number ≡ 0 → ⊥) (list_reasons ms) (8 when not (eqb (length x) action_size) ∷ []) (parts_numbered (reasons_at ms) (reasons_numbered ms) (match_count ms)) (suc-ne-zero 7, tt))))

-- the list's tests, and those of map and transforms
abbrev first_tests : ℕ → ℕ → Beside Work → ℕ
first_tests m n b = matches_refusal b.work.dof b.work.matches (bad_slices m n b) b.work.action

abbrev last_tests : ℕ → Beside Work → ℕ
last_tests n b = through_refusal b.work.map (shape_at b.shapes) 1 b.work.dof n

in_two_parts : (m n : ℕ) (b : Beside Work) → transformed_matches_refusal m n b ≡ or_else (first_tests m n b) (last_tests n b)
unfolding transformed_matches_refusal matches_refusal through_refusal
in_two_parts m n b =
    let w = b.work in
    first-append (matches_reasons w.dof w.matches (bad_slices m n b) w.action) (last_reasons n b) (matches_numbered w.dof w.matches (bad_slices m n b) w.action)

-- what is known of a call that is accepted
pub record Accepted (m n : ℕ) (b : Beside Work) : Type 0 where
  pub list : Fit b.work.dof b.work.matches (bad_slices m n b) b.work.action
  pub square : m ≡ n * n
  pub slices : bad_beside (length b.work.map) (length b.shapes) (length b.transforms) ≡ false
  pub last : Passed b.work.map (shape_at b.shapes) 1 b.work.dof n

pub accepted_list : (m n : ℕ) (b : Beside Work) → transformed_matches_refusal m n b ≡ 0 → Accepted m n b
accepted_list m n b e =
    let w = b.work in
    let both = neither (first_tests m n b) (last_tests n b) (sym (in_two_parts m n b) ∙ e) in
    let list = fit w.dof w.matches (bad_slices m n b) w.action both.0 in
    let slices = either_none (bad_target (length w.map) m n) _ list.fits in
    record {
      list = list;
      square = (square (length w.map) m n slices.0).1;
      slices = slices.1;
      last = passed w.map (shape_at b.shapes) 1 w.dof n both.1;
    }

-- ---- the tests as code makes them: the list's with what the lengths of the other slices said, then those of map and transforms
module _ (m n : ℕ) (b : Beside Work) (misfit : Bool) (why : ℕ) (lengths : misfit ≡ bad_slices m n b)
    (asked : why ≡ matches_refusal b.work.dof b.work.matches misfit b.work.action) where
  same : why ≡ first_tests m n b
  same = asked ∙ ap (λ (t : Bool). matches_refusal b.work.dof b.work.matches t b.work.action) lengths

  pub list_refuses : (why ≡ 0 → ⊥) → why ≡ transformed_matches_refusal m n b
  list_refuses no_zero = sym (in_two_parts m n b ∙ or_else-some _ _ why (sym same) no_zero)

  pub map_decides : why ≡ 0 → transformed_matches_refusal m n b ≡ last_tests n b
  map_decides e = in_two_parts m n b ∙ ap (λ (k : ℕ). or_else k (last_tests n b)) (sym same ∙ e)

-- ---- the ways out: refused, and one frame added
module _ (m n : ℕ) (b : Beside Work) (h g : List Float) (x : Float) where
  pub accumulated_no : (k : ℕ) → k ≡ transformed_matches_refusal m n b → (k ≡ 0 → ⊥) → Accumulated (transformed_matches_call m n b) h g x k h g x
  unfolding transformed_matches_call
  accumulated_no k e no_zero = accumulated_refused h g x (transformed_matches_refusal m n b) k _ e no_zero

  pub accumulated_one : (y : Float) (h' g' : List Float) → transformed_matches_refusal m n b ≡ 0 → y ≡ list_cost b.work.action b.work.matches
      → h' ≡ add_all h (frame_hessian n (frames_of b) 0) → g' ≡ add_all g (frame_gradient (frames_of b) 0) → Accumulated (transformed_matches_call m n b) h g x 0 h' g' y
  unfolding transformed_matches_call upto
  accumulated_one y h' g' e c hs gs =
      accumulated_framed h g x (transformed_matches_refusal m n b) n (list_cost b.work.action b.work.matches) y (frames_of b) h' g' e c hs gs

-- ---- WITHOUT TRANSFORMS, which document 01 knows nothing of: its tests, and its one frame
slices_none : (m n : ℕ) (w : Work) → bad_slices m n (without w) ≡ bad_target (length w.map) m n
unfolding bad_beside
slices_none m n w = go (bad_target (length w.map) m n)
  where
    go : (t : Bool) → (t || false) ≡ t
    go true = refl
    go false = refl

pub plain_refusal : (m n : ℕ) (w : Work)
    → accumulate_refusal m n w ≡ first_of (matches_reasons w.dof w.matches (bad_target (length w.map) m n) w.action ++ map_reasons w.map 1 w.dof n)
unfolding matches_refusal map_refusal
plain_refusal m n w =
    let target = bad_target (length w.map) m n in
    in_two_parts m n (without w)
    ∙ ap₂ or_else (ap (λ (t : Bool). matches_refusal w.dof w.matches t w.action) (slices_none m n w)) (refusal_none w.map 1 w.dof n)
    ∙ sym (first-append (matches_reasons w.dof w.matches target w.action) (map_reasons w.map 1 w.dof n) (matches_numbered w.dof w.matches target w.action))

pub plain_frame : (w : Work) → frames_of (without w) ≡ one_frame w
plain_frame w = through-none [] (one_frame w)
