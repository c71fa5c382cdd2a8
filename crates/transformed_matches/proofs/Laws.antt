-- Laws of a match list that is added through the transform of word 0. Assumes nothing.
use Prim.Native.Nat.{ℕ, ◌+◌}
use native.Mathlib.Nat.{zero-add}
use native.Mathlib.Omega.{arith}
use mathlib.Core.Path.{◌≡◌, refl, ap, ◌∙◌}
use mathlib.Core.List.{List}
use lib.ListN.{length}
use lib.Ieee.{Float}
use borrow.Author.Tests.{lt-ltb, le-ltb}
use Rattle.std.specs.Prelude.{Option, Some, None, Result}
use Rattle.std.specs.Result.{IsErrAnd}
use Rattle.std.proofs.lemmas.Result.{err_from_is_err_and}
use Rattle.refusals.specs.declared.Refusal.{Refusal}
use Rattle.refusals.specs.Number.{number_of, number}
use Rattle.refusals.proofs.Exits.{some_number}
use Rattle.lists.specs.Part.{◌!◌}
use Rattle.terms.specs.Terms.{add_all, segment, block}
use Rattle.terms.proofs.Laws.{block_same, segment-same}
use Rattle.normal_blocks.specs.Map.{lookup}
use Rattle.normal_blocks.proofs.Laws.{fits}
use Rattle.normal_blocks.specs.Target.{entry_of, number_from}
use Rattle.normal_blocks.specs.TargetLaws.{hessian_mapped, gradient_mapped, hessian_unmapped, gradient_unmapped, hessian_same, gradient_same}
use Rattle.match_sums.specs.declared.MatchSums.{MatchSums}
use Rattle.match_sums.specs.Sums.{SumsAre}
use Rattle.match_sums.specs.Groups.{list_cost, list_block, list_vector}
use Rattle.call_lists.specs.Accumulated.{Accumulated}
use Rattle.call_lists.specs.Frames.{frame_hessian, frame_gradient}
use Rattle.block_transforms.specs.Transform.{Beside, sized, shape_at, entry_from, width_under, width_at}
use Rattle.block_transforms.proofs.Laws.{transform_fits, every_fits, transform_there}
use Rattle.block_transforms.specs.declared.Shape.{Shape}
use Rattle.transform_products.specs.Rows.{row_with, spaced, Rows, AddedThrough}
use Rattle.transform_products.proofs.Laws.{block-through, vector_through, Tall, under_same, under_run}
use Rattle.map_planes.specs.Accumulate.{Work, transformed_matches_refusal, transformed_matches_call}
use Rattle.map_planes.proofs.Accumulating.{accepted_list, accumulated_no, accumulated_one}
use Rattle.transformed_matches.specs.Steps.{Ready, SumsAdded, ListAdded}

pub ready : (m n : ℕ) (b : Beside Work) → transformed_matches_refusal m n b ≡ 0 → Ready m n b.work.dof b.work.map b.shapes b.transforms b.work.action
unfolding width_at
ready m n b e =
    let a = accepted_list m n b e in
    let map = b.work.map in
    record {
      narrow = a.list.narrow;
      action_size_lem = a.list.action_size_lem;
      square = a.square;
      fits = fits n (width_at (shape_at b.shapes) b.work.dof) (lookup map) 1 a.last.fits 0 (omega arith);
      there = λ rows cols sized.
          let p = transform_there (length map) b.shapes (length b.transforms) 0 rows cols a.slices sized in
          let f = transform_fits b.work.dof rows cols (shape_at b.shapes 0) sized (every_fits b.work.dof (shape_at b.shapes) (length map) a.last.fitting 0 p.0) in
          (f.narrow, f.tall, p.1);
    }

-- ---- a block and a vector at row `at`, without a transform, and laid by rows with one
module _ (n at dof : ℕ) (s : Option Shape) (t m v h h' g g' : List Float) where
  pub plain_added : s ≡ None → h' ≡ add_all h (block n at dof (entry_of 9 m)) → g' ≡ add_all g (segment at dof (number_from v 0)) → SumsAdded n at dof s (entry_from t 0) m v h h' g g'
  unfolding number_from
  plain_added none hs gs = rw none (record { hessian = hs; gradient = gs ∙ ap (add_all g) (segment-same at dof _ _ (λ i l. rw (zero-add i) refl)) })

  pub laid_added : (rows cols : ℕ) (laid u : List Float) → s ≡ sized rows cols → rows ≡ dof → Rows 10 (rows + 1) (row_with rows (entry_of 9 m) (λ i. v ! i)) rows laid
      → AddedThrough n at rows cols 10 t 0 laid u h h' g g' → SumsAdded n at dof s (entry_from t 0) m v h h' g g'
  unfolding row_with spaced
  laid_added rows cols laid u sized tall is a =
      rw sized (record {
        hessian = a.hessian ∙ ap (add_all h) (block_same n at cols _ _ (λ i j li lj. block-through rows (entry_from t 0 rows) _ (entry_of 9 m) (λ r k lr lk. is.are r k lr (omega arith) ∙ rw (lt-ltb k rows lk) refl) i j));
        gradient = a.gradient ∙ ap (add_all g) (segment-same at cols _ _ (λ i li. vector_through rows (entry_from t 0 rows) _ (λ r. v ! r) (λ r lr. is.are r rows lr (omega arith) ∙ rw (le-ltb rows rows (omega arith)) refl) i));
      })

-- ---- the list's sums at the place of word 0, and a list that goes nowhere
module _ (n dof : ℕ) (s : Option Shape) (t : ℕ → ℕ → ℕ → Float) (p : Option ℕ) (x ms : List Float) (r : Float) (h h' g g' : List Float) where
  pub list_mapped : (at : ℕ) (sums : MatchSums) → p ≡ Some at → Tall dof s → SumsAre x ms dof sums → r ≡ sums.cost → SumsAdded n at dof s t sums.block sums.vector h h' g g'
      → ListAdded n dof s t p x ms r h h' g g'
  unfolding entry_of number_from
  list_mapped at sums mapped tall are c a = record {
    cost = c ∙ are.cost_is;
    hessian = hessian_mapped (width_under s dof) p at mapped n _ h h' a.hessian ∙ ap (add_all h) (hessian_same n (width_under s dof) p _ _ (under_same dof s t _ (list_block x ms) tall are.block_is));
    gradient = gradient_mapped (width_under s dof) p at mapped _ g g' a.gradient ∙ ap (add_all g) (gradient_same (width_under s dof) p _ _ (under_run dof s t _ (list_vector x ms) tall are.vector_is));
  }

pub list_unmapped : (n dof : ℕ) (s : Option Shape) (t : ℕ → ℕ → ℕ → Float) (p : Option ℕ) (x ms : List Float) (r : Float) (h g : List Float) → p ≡ None → r ≡ list_cost x ms → ListAdded n dof s t p x ms r h h g g
list_unmapped n dof s t p x ms r h g nowhere c = record { cost = c; hessian = hessian_unmapped _ p nowhere n _ h; gradient = gradient_unmapped _ p nowhere _ g }

-- ---- the call: it hands on a refusal by `?`, where e is what the callee answered, or has done its work
pub handed_on : (m n : ℕ) (b : Beside Work) (h g : List Float) (x : Float) (r : Result Unit Refusal) (e : Refusal) → IsErrAnd r (λ y. y ≡ e)
    → number_of e ≡ transformed_matches_refusal m n b → Accumulated (transformed_matches_call m n b) h g x (number r) h g x
handed_on m n b h g x r e is same =
    let told = err_from_is_err_and r is in
    rw (told.1, told.2) (accumulated_no m n b h g x (number_of e) same (some_number e))

pub list_added : (m n : ℕ) (b : Beside Work) (h g : List Float) (x y : Float) (h' g' : List Float) → transformed_matches_refusal m n b ≡ 0
    → ListAdded n b.work.dof (shape_at b.shapes 0) (entry_from b.transforms 0) (lookup b.work.map 0) b.work.action b.work.matches y h h' g g'
    → Accumulated (transformed_matches_call m n b) h g x 0 h' g' y
unfolding frame_hessian frame_gradient width_at
list_added m n b h g x y h' g' e added = accumulated_one m n b h g x y h' g' e added.cost added.hessian added.gradient
