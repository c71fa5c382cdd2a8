-- DEMAND 3 holds: of any list of calls, in any order where rows are apart, and every list of works has its calls. Assumes nothing.
use Rattle.std.specs.Prelude.{ℕ, zero, suc, ◌*◌, ◌<◌, ◌≡◌, Bool, true, false, ◌||◌, eqb, ltb, length, get_or, Option, Some, None, Float}
use Rattle.std.proofs.Math.Path.{refl, ap}
use Rattle.std.proofs.Common.{sym, ◌∙◌, arith, ne_eqb}
use Rattle.std.proofs.Math.Bool.{not, or-true}
use mathlib.Core.List.{List, [], ◌∷◌, ◌++◌, Permᴰ}
use Rattle.std.specs.Float.{nan}
use Rattle.refusals.specs.Refusal.{Reason, ◌when◌, first_of}
use Rattle.validate.specs.Finite.{finite_positive}
use Rattle.sums.specs.Sum.{zero_f}
use Rattle.terms.specs.Terms.{cell_of, at_cell}
use Rattle.terms.proofs.Places.{same_row, same-column, cell_fits}
use Rattle.normal_blocks.specs.Map.{some_exceeds}
use Rattle.normal_blocks.specs.Calls.{bad_target}
use Rattle.derivative.specs.Action.{action_size, most_dof}
use Rattle.plane_fit.specs.Fit.{frame_count}
use Rattle.plane_fit.specs.Calls.{bad_actions}
use Rattle.call_lists.specs.Lists.{In}
use Rattle.call_lists.specs.ListLaws.{in_every}
use Rattle.call_lists.specs.Segments.{Segment, segments_of, HasCell}
use Rattle.call_lists.specs.Calls.{refusal, cost, Call, answer, judged, hessian_terms, gradient_terms, HasPlace, Tame, Made, works, SameEnd}
use Rattle.call_lists.specs.Frames.{Frames, framed}
use Rattle.call_lists.specs.FrameLaws.{framed_tame, framed_hessian, framed_gradient}
use Rattle.call_lists.specs.Fold.{cell_after, after_none}
use Rattle.call_lists.proofs.Chain.{HasChain, has_chain, whole, Folded, folded, hessian_unowned, gradient_unowned, settled, any_order}
use Rattle.plane.specs.declared.Plane.{Plane}
use Rattle.block_transforms.specs.Transform.{Beside, shape_at}
use Rattle.block_transforms.specs.Reasons.{through_reasons}
use Rattle.plane_moments.specs.Accumulate.{FramesWork, bad_lengths, transformed_frames_refusal, fit_of, frames_of, cost_under, under_fit, called, transformed_frames_call}
use Rattle.plane_moments.specs.Accumulate as plane_moments
use Rattle.plane_moments.proofs.Accumulating.{accepted_call}
use Rattle.match_sums.specs.Groups.{list_cost}
use Rattle.map_planes.specs.Calls.{bad_matches, list_reasons}
use Rattle.map_planes.specs.Accumulate.{transformed_matches_refusal, transformed_matches_call}
use Rattle.map_planes.proofs.Accumulating.{accepted_list}
use Rattle.map_planes.specs.Accumulate as map_planes
use Rattle.normal_list.specs.Work.{Work, frames, matches, refusal_of, call_of, Got, answer_of}
use Rattle.normal_list.specs.Book.{layout_of, unless_refused, own_segments, OwnsRow, OwnsCell, Apart, Page, unchanged, entered, frames_page, accepted_page, judged_page, page_of, hessian_book, gradient_book}
use Rattle.normal_list.specs.Demand.{Calls, InTheBook, OwnersAlone, AllRefused, Square, Demand3, WithoutPlane}

-- ---- a call adds to no cell that it does not own
judged_tame : (n r : ℕ) (ss : List Segment) (c : Call) → (r ≡ 0 → Tame n ss c) → Tame n (unless_refused r ss) (judged r c)
judged_tame n zero ss c t = t refl
judged_tame n (suc r) ss c t = record { hessian = tt; gradient = tt }

under_tame : (n : ℕ) (b : Beside FramesWork) (f : Option Plane) → some_exceeds n (layout_of (frames b)).width (layout_of (frames b)).place (layout_of (frames b)).count ≡ false → Tame n (segments_of (layout_of (frames b))) (under_fit n b f)
unfolding under_fit
under_tame n b (Some p) fit = framed_tame n (cost_under b.work p.normal p.offset) (frames_of b p.normal p.offset) fit
under_tame n b None fit = record { hessian = tt; gradient = tt }

pub tame : (m n : ℕ) (w : Work) → Tame n (own_segments m n w) (call_of m n w)
unfolding own_segments transformed_frames_call called transformed_matches_call
tame m n (frames b) = judged_tame n (transformed_frames_refusal m n b) _ (called n b) (λ e. under_tame n b (fit_of b.work) (accepted_call m n b e).last.fits)
tame m n (matches b) =
    judged_tame n (transformed_matches_refusal m n b) _ _ (λ e. framed_tame n (list_cost b.work.action b.work.matches) (map_planes.frames_of b) (accepted_list m n b e).last.fits)

-- ---- the page of a call is what the call's terms make of the cells of n rows
record Same (n : ℕ) (c : Call) (p : Page) : Type 0 where
  answers : answer c ≡ p.answer
  hessian : (i j : ℕ) → i < n → (x : Float) → at_cell (cell_of n i j) (hessian_terms c) x ≡ p.hessian i j x
  gradient : (i : ℕ) (x : Float) → at_cell i (gradient_terms c) x ≡ p.gradient i x

entered-same : (n : ℕ) (x : Float) (f : Frames) → some_exceeds n f.layout.width f.layout.place f.layout.count ≡ false → Same n (framed n x f) (entered x f)
entered-same n x f fits = record { answers = refl; hessian = framed_hessian n x f fits; gradient = framed_gradient n x f }

judged-same : (n r : ℕ) (c : Call) (p : Page) → (r ≡ 0 → Same n c p) → Same n (judged r c) (judged_page r p)
unfolding at_cell
judged-same n zero c p s = s refl
judged-same n (suc r) c p s = record { answers = refl; hessian = λ i j l x. refl; gradient = λ i x. refl }

plane-same : (m n : ℕ) (b : Beside FramesWork) (f : Option Plane) → transformed_frames_refusal m n b ≡ 0 → Same n (under_fit n b f) (frames_page b f)
unfolding under_fit at_cell
plane-same m n b (Some p) e =
    entered-same n (cost_under b.work p.normal p.offset) (frames_of b p.normal p.offset) (accepted_call m n b e).last.fits
plane-same m n b None e = record { answers = refl; hessian = λ i j l x. refl; gradient = λ i x. refl }

page_same : (m n : ℕ) (w : Work) → Same n (call_of m n w) (page_of m n w)
unfolding page_of transformed_frames_call called transformed_matches_call
page_same m n (frames b) = judged-same n (transformed_frames_refusal m n b) (called n b) (frames_page b (fit_of b.work)) (plane-same m n b (fit_of b.work))
page_same m n (matches b) =
    judged-same n (transformed_matches_refusal m n b) _ (accepted_page (matches b))
    (λ e. entered-same n (list_cost b.work.action b.work.matches) (map_planes.frames_of b) (accepted_list m n b e).last.fits)

module _ (m n : ℕ) where
  hessian_pages : (i j : ℕ) → i < n → (ws : List Work) (x : Float) → cell_after (λ w. hessian_terms (call_of m n w)) (cell_of n i j) ws x ≡ hessian_book m n ws i j x
  unfolding cell_after hessian_book
  hessian_pages i j l [] x = refl
  hessian_pages i j l (w ∷ ws) x =
      hessian_pages i j l ws (at_cell (cell_of n i j) (hessian_terms (call_of m n w)) x) ∙ ap (hessian_book m n ws i j) ((page_same m n w).hessian i j l x)

  gradient_pages : (i : ℕ) (ws : List Work) (x : Float) → cell_after (λ w. gradient_terms (call_of m n w)) i ws x ≡ gradient_book m n ws i x
  unfolding cell_after gradient_book
  gradient_pages i [] x = refl
  gradient_pages i (w ∷ ws) x = gradient_pages i ws (at_cell i (gradient_terms (call_of m n w)) x) ∙ ap (gradient_book m n ws i) ((page_same m n w).gradient i x)

-- ---- a Hessian that is not square: the shape of the target is tested third
module _ (m n : ℕ) (other : m ≡ n * n → ⊥) where
  bad_target_lem : (words : ℕ) → bad_target words m n ≡ true
  unfolding bad_target
  bad_target_lem words = rw (ne_eqb m (n * n) other, or-true, or-true)

  by_three : (a b c : Bool) (rest : List Reason) → c ≡ true → (k : ℕ) × (k < 3) × (first_of (1 when a ∷ 2 when b ∷ 3 when c ∷ rest) ≡ suc k)
  by_three true b c rest e = (0, omega arith, refl)
  by_three false true c rest e = (1, omega arith, refl)
  by_three false false c rest e = (2, omega arith, rw e)

  bad_frames_lem : (b : Beside FramesWork) → plane_moments.bad_slices m n b ≡ true
  unfolding bad_lengths
  bad_frames_lem b = rw (bad_target_lem (length b.work.map), or-true, or-true, or-true)

  bad_list : (b : Beside map_planes.Work) → bad_matches b.work.matches || map_planes.bad_slices m n b ≡ true
  bad_list b = rw (bad_target_lem (length b.work.map), or-true)

  refused-first : (w : Work) → (k : ℕ) × (k < 3) × (refusal_of m n w ≡ suc k)
  unfolding transformed_frames_refusal transformed_matches_refusal
  refused-first (frames b) =
      let w = b.work in
      by_three (ltb most_dof w.dof) (eqb (length w.frames) 0) _
      (7 when not (finite_positive w.sigma) ∷ 8 when bad_actions w.frames w.actions ∷ through_reasons w.map (shape_at b.shapes) (frame_count w.frames) w.dof n) (bad_frames_lem b)
  refused-first (matches b) =
      let w = b.work in
      by_three (ltb most_dof w.dof) (eqb (length w.matches) 0) _
      ((list_reasons w.matches ++ (8 when not (eqb (length w.action) action_size) ∷ [])) ++ map_planes.last_reasons n b) (bad_list b)

  refused_call : (w : Work) (k : ℕ) → refusal_of m n w ≡ suc k → (answer (call_of m n w) ≡ refusal (suc k)) × (hessian_terms (call_of m n w) ≡ []) × (gradient_terms (call_of m n w) ≡ [])
  unfolding transformed_frames_call transformed_matches_call
  refused_call (frames b) k e = (rw e, rw e, rw e)
  refused_call (matches b) k e = (rw e, rw e, rw e)

  first-refused : (w : Work) → (k : ℕ) × (k < 3) × (answer (call_of m n w) ≡ refusal (suc k)) × (hessian_terms (call_of m n w) ≡ []) × (gradient_terms (call_of m n w) ≡ [])
  first-refused w =
      let r = refused-first w in
      let c = refused_call w r.0 r.2 in
      (r.0, r.1, c.0, c.1, c.2)

-- ---- the theorems
module _ (h g : List Float) (es : List (Made Work Got)) (h' g' : List Float) (calls : Calls h g es h' g') where
  terms_added : Folded call_of answer_of (length h) (length g) h g es h' g'
  terms_added = folded call_of answer_of (length h) (length g) h g es h' g' refl refl calls

  at-cell : (ss : List Segment) (i j : ℕ) → i < length g → HasPlace (length g) ss (cell_of (length g) i j) → HasCell i j ss
  at-cell ss i j l p =
      let row : p.0 ≡ i = same_row (length g) p.0 p.1 i j p.2 l (sym p.3) in
      let column : p.1 ≡ j = same-column (length g) p.0 p.1 i j p.2 l (sym p.3) in
      rw (row, column) at p.4

  pub in_the_book : Square h g → InTheBook (length h) (length g) h g es h' g'
  in_the_book square =
      let m = length h in
      let n = length g in
      let inside : (i j : ℕ) → i < n → j < n → cell_of n i j < m = λ i j li lj. rw square (cell_fits n i j li lj) in
      record {
        answers = λ e o. terms_added.answers e o ∙ (page_same m n e.work).answers;
        hessian = λ i j li lj. terms_added.hessian (cell_of n i j) (inside i j li lj) ∙ hessian_pages m n i j li (works es) (get_or h (cell_of n i j) nan);
        gradient = λ i l. terms_added.gradient i l ∙ gradient_pages m n i (works es) (get_or g i nan);
        hessian_kept = λ i j li lj out. hessian_unowned call_of answer_of own_segments tame m n h g es h' g' terms_added (cell_of n i j) (inside i j li lj) (λ w o p. out w o (at-cell (own_segments m n w) i j li p));
        gradient_kept = gradient_unowned call_of answer_of own_segments tame m n h g es h' g' terms_added;
        hessian_length = terms_added.hessian_length;
        gradient_length = terms_added.gradient_length;
      }

  pub owners_alone : Square h g → Apart (length h) (length g) (works es) → OwnersAlone (length h) (length g) h g es h' g'
  owners_alone square apart =
      let m = length h in
      let n = length g in
      let s = settled call_of answer_of own_segments tame m n h g es h' g' terms_added apart in
      record {
        booked = in_the_book square;
        hessian = λ i j li lj w o own. s.hessian (cell_of n i j) (rw square (cell_fits n i j li lj)) w o (i, j, li, refl, own) ∙ (page_same m n w).hessian i j li (get_or h (cell_of n i j) nan);
        gradient = λ i l w o own. s.gradient i l w o own ∙ (page_same m n w).gradient i (get_or g i nan);
      }

  -- A HESSIAN THAT IS NOT SQUARE in the gradient's length: every call is refused, and both slices stay
  pub not-square : (Square h g → ⊥) → AllRefused h g es h' g'
  not-square other =
      let m = length h in
      let n = length g in
      let all = whole call_of answer_of m n h g es h' g' refl refl calls in
      record {
        answers = λ e o. let r = first-refused m n other e.work in (r.0, r.1, terms_added.answers e o ∙ r.2);
        hessian = all.hessian ∙ after_none (λ w. hessian_terms (call_of m n w)) (works es) h (in_every (λ (w : Work). hessian_terms (call_of m n w) ≡ []) (works es) (λ w o. (first-refused m n other w).3));
        gradient = all.gradient ∙ after_none (λ w. gradient_terms (call_of m n w)) (works es) g (in_every (λ (w : Work). gradient_terms (call_of m n w) ≡ []) (works es) (λ w o. (first-refused m n other w).4));
      }

  -- DEMAND 3
  pub demand_3 : Demand3 h g es h' g'
  demand_3 = record { booked = in_the_book; alone = owners_alone; not-square = not-square }

  -- ANY ORDER of the list, from the same first content, leaves the same cells and answers the same
  pub in_any_order : (ds : List (Made Work Got)) (h'' g'' : List Float) → Calls h g ds h'' g'' → Permᴰ (works es) (works ds) → Apart (length h) (length g) (works es) → SameEnd answer_of es ds h' g' h'' g''
  in_any_order ds h'' g'' others perm apart =
      any_order call_of answer_of own_segments tame (length h) (length g) h g es ds h' g' h'' g'' terms_added
      (folded call_of answer_of (length h) (length g) h g ds h'' g'' refl refl others) perm apart

-- ---- every list of works on any two slices has its calls: the hypothesis of the theorems can always be met
judged-result : (r : ℕ) (c : Call) (x : Float) → cost x ≡ answer c → (got : Got) × (answer_of got ≡ answer (judged r c))
judged-result zero c x e = (record { number = 0; cost = x }, e)
judged-result (suc r) c x e = (record { number = suc r; cost = zero_f }, refl)

under_cost : (n : ℕ) (b : Beside FramesWork) (f : Option Plane) → (x : Float) × (cost x ≡ answer (under_fit n b f))
unfolding under_fit
under_cost n b (Some p) = (cost_under b.work p.normal p.offset, refl)
under_cost n b None = (zero_f, refl)

result : (m n : ℕ) (w : Work) → (got : Got) × (answer_of got ≡ answer (call_of m n w))
unfolding transformed_frames_call called transformed_matches_call
result m n (frames b) = let c = under_cost n b (fit_of b.work) in judged-result (transformed_frames_refusal m n b) (called n b) c.0 c.1
result m n (matches b) = judged-result (transformed_matches_refusal m n b) _ (list_cost b.work.action b.work.matches) refl

pub calls_exist : (ws : List Work) (h g : List Float) → HasChain call_of answer_of ws h g
calls_exist = has_chain call_of answer_of result

-- ---- corollaries: the page of a call without plane costs +0 and changes nothing
pub no_plane_page : (m n : ℕ) (w : Work) → WithoutPlane m n w → page_of m n w ≡ unchanged (cost zero_f)
unfolding page_of
no_plane_page m n (frames b) p = rw (p.0, p.1)
no_plane_page m n (matches b) p = absurd p

-- so that with rows apart a cell whose owner has no plane keeps its content
module _ (m n : ℕ) (h g : List Float) (es : List (Made Work Got)) (h' g' : List Float) (alone : OwnersAlone m n h g es h' g') where
  pub no_plane_costs : (e : Made Work Got) → In e es → WithoutPlane m n e.work → answer_of e.got ≡ cost zero_f
  no_plane_costs e o none = alone.booked.answers e o ∙ ap (λ (p : Page). p.answer) (no_plane_page m n e.work none)

  pub no_plane_hessian : (i j : ℕ) → i < n → j < n → (w : Work) → In w (works es) → OwnsCell m n w i j → WithoutPlane m n w → get_or h' (cell_of n i j) nan ≡ get_or h (cell_of n i j) nan
  no_plane_hessian i j li lj w o own none = alone.hessian i j li lj w o own ∙ ap (λ (p : Page). p.hessian i j (get_or h (cell_of n i j) nan)) (no_plane_page m n w none)

  pub no_plane_gradient : (i : ℕ) → i < n → (w : Work) → In w (works es) → OwnsRow m n w i → WithoutPlane m n w → get_or g' i nan ≡ get_or g i nan
  no_plane_gradient i l w o own none = alone.gradient i l w o own ∙ ap (λ (p : Page). p.gradient i (get_or g i nan)) (no_plane_page m n w none)
