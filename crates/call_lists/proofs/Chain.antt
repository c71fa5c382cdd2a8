-- Many calls on one Hessian and one gradient, over an abstract call. W is what is handed to a call beside the two slices, R what it returns, `call_of` the
-- call of W with the two lengths m and n, and `answer_of` what a result says. Assumes nothing.
use Rattle.std.specs.Prelude.{ℕ, ◌<◌, ◌≡◌, refl, get_or, Float}
use Rattle.std.proofs.Common.{sym, subst, ◌∙◌, ext_get_or}
use Rattle.std.proofs.Math.Path.{ap}
use mathlib.Core.List.{List, [], ◌∷◌, ◌++◌, Permᴰ}
use Rattle.std.proofs.Math.ListN.{length}
use Rattle.std.specs.Float.{nan}
use Rattle.terms.specs.Terms.{Term, add_all, at_cell}
use Rattle.terms.proofs.Laws.{length-add_all}
use Rattle.terms.proofs.Places.{same_row}
use Rattle.call_lists.specs.Lists.{In, Every, Pairs}
use Rattle.call_lists.specs.ListLaws.{every_in, in_every, every_imp, some_imp, pairs_imp}
use Rattle.call_lists.specs.Segments.{Segment, Has, HasBoth, HasRow, HasCell, Disjoint}
use Rattle.call_lists.specs.Calls.{Answer, Call, answer, hessian_terms, gradient_terms, HasPlace, Tame, Ran, Made, works, Chain, SameEnd}
use Rattle.call_lists.specs.Fold.{cell_after, Claims, after, length-after, after_is, cell-kept, cell_owner, cell_order}

module _ {W R : Type 0} (call_of : ℕ → ℕ → W → Call) (answer_of : R → Answer) where
  -- one call more at the end, as a loop over calls makes it
  pub chain_more : (h g : List Float) (es : List (Made W R)) (e : Made W R) (h₁ g₁ h' g' : List Float) → Chain call_of answer_of h g es h₁ g₁
      → Ran (call_of (length h₁) (length g₁) e.work) h₁ g₁ (answer_of e.got) h' g' → Chain call_of answer_of h g (es ++ (e ∷ [])) h' g'
  chain_more h g [] e h₁ g₁ h' g' ch ran = (h', g', rw (ch.0, ch.1) at ran, (refl, refl))
  chain_more h g (d ∷ es) e h₁ g₁ h' g' ch ran = (ch.0, ch.1, ch.2, chain_more ch.0 ch.1 es e h₁ g₁ h' g' ch.3 ran)

  -- EVERY LIST OF WORKS HAS A CHAIN on any two slices, if every call has a result that says its answer
  pub record HasChain (ws : List W) (h g : List Float) : Type 0 where
    pub calls : List (Made W R)
    pub hessian : List Float
    pub gradient : List Float
    pub same-works : works calls ≡ ws
    pub chain : Chain call_of answer_of h g calls hessian gradient

  pub has_chain : ((m n : ℕ) (w : W) → (r : R) × (answer_of r ≡ answer (call_of m n w))) → (ws : List W) (h g : List Float) → HasChain ws h g
  has_chain result [] h g = record { calls = []; hessian = h; gradient = g; same-works = refl; chain = (refl, refl) }
  has_chain result (w ∷ ws) h g =
      let c = call_of (length h) (length g) w in
      let r = result (length h) (length g) w in
      let rest = has_chain result ws (add_all h (hessian_terms c)) (add_all g (gradient_terms c)) in
      record {
        calls = record { work = w; got = r.0 } ∷ rest.calls;
        hessian = rest.hessian;
        gradient = rest.gradient;
        same-works = ap (λ (l : List W). w ∷ l) rest.same-works;
        chain = (add_all h (hessian_terms c), add_all g (gradient_terms c), record { answered = r.1; hessian = refl; gradient = refl }, rest.chain);
      }

  -- WHAT A CHAIN HAS DONE, whatever the rows: each answer is the call's, and of each cell's first content the calls' terms for it are added, in order
  pub record Folded (m n : ℕ) (h g : List Float) (es : List (Made W R)) (h' g' : List Float) : Type 0 where
    pub answers : (e : Made W R) → In e es → answer_of e.got ≡ answer (call_of m n e.work)
    pub hessian : (k : ℕ) → k < m → get_or h' k nan ≡ cell_after (λ w. hessian_terms (call_of m n w)) k (works es) (get_or h k nan)
    pub gradient : (i : ℕ) → i < n → get_or g' i nan ≡ cell_after (λ w. gradient_terms (call_of m n w)) i (works es) (get_or g i nan)
    pub hessian_length : length h' ≡ m
    pub gradient_length : length g' ≡ n

  -- the two slices as a whole
  pub record Whole (m n : ℕ) (h g : List Float) (es : List (Made W R)) (h' g' : List Float) : Type 0 where
    pub hessian : h' ≡ after (λ w. hessian_terms (call_of m n w)) (works es) h
    pub gradient : g' ≡ after (λ w. gradient_terms (call_of m n w)) (works es) g
    pub answers : Every (λ e. answer_of e.got ≡ answer (call_of m n e.work)) es

  pub whole : (m n : ℕ) (h g : List Float) (es : List (Made W R)) (h' g' : List Float) → length h ≡ m → length g ≡ n → Chain call_of answer_of h g es h' g' → Whole m n h g es h' g'
  unfolding after
  whole m n h g [] h' g' lh lg ch = record { hessian = ch.0; gradient = ch.1; answers = tt }
  whole m n h g (e ∷ es) h' g' lh lg ch =
      let ran : Ran (call_of m n e.work) h g (answer_of e.got) ch.0 ch.1 = rw (lh, lg) at ch.2 in
      let rest = whole m n ch.0 ch.1 es h' g' (ap length ran.hessian ∙ length-add_all h _ ∙ lh) (ap length ran.gradient ∙ length-add_all g _ ∙ lg) ch.3 in
      record { hessian = rest.hessian ∙ ap (after _ (works es)) ran.hessian; gradient = rest.gradient ∙ ap (after _ (works es)) ran.gradient; answers = (ran.answered, rest.answers) }

  module _ (m n : ℕ) (h g : List Float) (es : List (Made W R)) (h' g' : List Float) (lh : length h ≡ m) (lg : length g ≡ n) (ch : Chain call_of answer_of h g es h' g') where
    pub folded : Folded m n h g es h' g'
    folded =
        let w = whole m n h g es h' g' lh lg ch in
        record {
          answers = every_in _ es w.answers;
          hessian = λ k l. ap (λ (x : List Float). get_or x k nan) w.hessian ∙ after_is _ (works es) h k (rw lh l);
          gradient = λ i l. ap (λ (x : List Float). get_or x i nan) w.gradient ∙ after_is _ (works es) g i (rw lg l);
          hessian_length = ap length w.hessian ∙ length-after _ (works es) h ∙ lh;
          gradient_length = ap length w.gradient ∙ length-after _ (works es) g ∙ lg;
        }

  -- ---- with the segments that each call owns: it adds to no cell outside of them
  module _ (segments_in : ℕ → ℕ → W → List Segment) (tame : (m n : ℕ) (w : W) → Tame n (segments_in m n w) (call_of m n w)) where
    module _ (m n : ℕ) where
      -- no row is in segments of two different calls
      abbrev pub RowsApart : List W → Type 0
      RowsApart ws = Pairs (λ v w. Disjoint (segments_in m n v) (segments_in m n w)) ws

      abbrev hessian_of : W → List Term
      hessian_of w = hessian_terms (call_of m n w)

      abbrev gradient_of : W → List Term
      gradient_of w = gradient_terms (call_of m n w)

      -- of one place or row: only its owners add to it, and two calls whose rows are apart do not both own it
      module _ (k : ℕ) where
        abbrev HasOwner : W → Type 0
        HasOwner w = HasPlace n (segments_in m n w) k

        abbrev RowOwner : W → Type 0
        RowOwner w = HasRow k (segments_in m n w)

        hessian_claims : (ws : List W) → Every (Claims hessian_of k HasOwner) ws
        hessian_claims ws =
            in_every (Claims hessian_of k HasOwner) ws
            (λ w o. every_imp (λ (t : Term). HasPlace n (segments_in m n w) t.cell) (λ (t : Term). k ≡ t.cell → HasOwner w)
            (λ t p e. subst (HasPlace n (segments_in m n w)) (sym e) p) (hessian_of w) (tame m n w).hessian)

        gradient_claims : (ws : List W) → Every (Claims gradient_of k RowOwner) ws
        gradient_claims ws =
            in_every (Claims gradient_of k RowOwner) ws
            (λ w o. every_imp (λ (t : Term). HasRow t.cell (segments_in m n w)) (λ (t : Term). k ≡ t.cell → RowOwner w)
            (λ t p e. subst (λ (i : ℕ). HasRow i (segments_in m n w)) (sym e) p) (gradient_of w) (tame m n w).gradient)

        row_of : (i j : ℕ) (ss : List Segment) → HasCell i j ss → HasRow i ss
        row_of i j ss = some_imp (HasBoth i j) (Has i) (λ s p. p.0) ss

        one_owner : (v w : W) → Disjoint (segments_in m n v) (segments_in m n w) → HasOwner v → HasOwner w → ⊥
        one_owner v w apart p q =
            let same : p.0 ≡ q.0 = same_row n p.0 p.1 q.0 q.1 p.2 q.2 (sym p.3 ∙ q.3) in
            apart q.0 (subst (λ (i : ℕ). HasRow i (segments_in m n v)) same (row_of p.0 p.1 (segments_in m n v) p.4)) (row_of q.0 q.1 (segments_in m n w) q.4)

        hessian_apart : (ws : List W) → RowsApart ws → Pairs (λ v w. HasOwner v → HasOwner w → ⊥) ws
        hessian_apart = pairs_imp (λ v w. Disjoint (segments_in m n v) (segments_in m n w)) (λ v w. HasOwner v → HasOwner w → ⊥) one_owner

        gradient_apart : (ws : List W) → RowsApart ws → Pairs (λ v w. RowOwner v → RowOwner w → ⊥) ws
        gradient_apart = pairs_imp (λ v w. Disjoint (segments_in m n v) (segments_in m n w)) (λ v w. RowOwner v → RowOwner w → ⊥) (λ v w f. f k)

    -- WHATEVER THE ROWS: a cell that no call owns keeps its content
    module _ (m n : ℕ) (h g : List Float) (es : List (Made W R)) (h' g' : List Float) (b : Folded m n h g es h' g') where
      pub hessian_unowned : (k : ℕ) → k < m → ((w : W) → In w (works es) → HasPlace n (segments_in m n w) k → ⊥) → get_or h' k nan ≡ get_or h k nan
      hessian_unowned k l out =
          let ws = works es in
          b.hessian k l ∙ cell-kept (hessian_of m n) k (HasOwner m n k) ws (hessian_claims m n k ws) (in_every (λ (w : W). HasOwner m n k w → ⊥) ws out) (get_or h k nan)

      pub gradient_unowned : (i : ℕ) → i < n → ((w : W) → In w (works es) → HasRow i (segments_in m n w) → ⊥) → get_or g' i nan ≡ get_or g i nan
      gradient_unowned i l out =
          let ws = works es in
          b.gradient i l ∙ cell-kept (gradient_of m n) i (RowOwner m n i) ws (gradient_claims m n i ws) (in_every (λ (w : W). RowOwner m n i w → ⊥) ws out) (get_or g i nan)

    -- WITH ROWS APART: a cell holds what its one owner's terms make of its first content
    pub record Settled (m n : ℕ) (h g : List Float) (ws : List W) (h' g' : List Float) : Type 0 where
      pub hessian : (k : ℕ) → k < m → (w : W) → In w ws → HasPlace n (segments_in m n w) k → get_or h' k nan ≡ at_cell k (hessian_terms (call_of m n w)) (get_or h k nan)
      pub gradient : (i : ℕ) → i < n → (w : W) → In w ws → HasRow i (segments_in m n w) → get_or g' i nan ≡ at_cell i (gradient_terms (call_of m n w)) (get_or g i nan)

    pub settled : (m n : ℕ) (h g : List Float) (es : List (Made W R)) (h' g' : List Float) → Folded m n h g es h' g' → RowsApart m n (works es) → Settled m n h g (works es) h' g'
    settled m n h g es h' g' b apart =
        let ws = works es in
        record {
          hessian = λ k l w o own. b.hessian k l ∙ cell_owner (hessian_of m n) k (HasOwner m n k) ws (hessian_claims m n k ws) (hessian_apart m n k ws apart) w o own (get_or h k nan);
          gradient = λ i l w o own. b.gradient i l ∙ cell_owner (gradient_of m n) i (RowOwner m n i) ws (gradient_claims m n i ws) (gradient_apart m n i ws apart) w o own (get_or g i nan);
        }

    -- two lists of the same works in two orders, each from the same first content, leave the same cells and answer the same
    pub any_order : (m n : ℕ) (h g : List Float) (es ds : List (Made W R)) (h' g' h'' g'' : List Float) → Folded m n h g es h' g' → Folded m n h g ds h'' g''
        → Permᴰ (works es) (works ds) → RowsApart m n (works es) → SameEnd answer_of es ds h' g' h'' g''
    any_order m n h g es ds h' g' h'' g'' b b' perm apart =
        let ws = works es in
        record {
          hessian = ext_get_or nan h' h'' (b.hessian_length ∙ sym b'.hessian_length)
              (λ k l.
              let l' : k < m = rw b.hessian_length at l in
              b.hessian k l' ∙ cell_order (hessian_of m n) k (HasOwner m n k) perm (hessian_claims m n k ws) (hessian_apart m n k ws apart) (get_or h k nan) ∙ sym (b'.hessian k l'));
          gradient = ext_get_or nan g' g'' (b.gradient_length ∙ sym b'.gradient_length)
              (λ i l.
              let l' : i < n = rw b.gradient_length at l in
              b.gradient i l' ∙ cell_order (gradient_of m n) i (RowOwner m n i) perm (gradient_claims m n i ws) (gradient_apart m n i ws apart) (get_or g i nan) ∙ sym (b'.gradient i l'));
          answers = λ e d o o' same. b.answers e o ∙ ap (λ (w : W). answer (call_of m n w)) same ∙ sym (b'.answers d o');
        }
