-- One accumulating call as a contract speaks of it: what it answers, and what it adds to a Hessian and a gradient; and many calls, one after the other. A call
-- comes from its own inputs and the two lengths alone: the content of the two slices is only what is added to. Definitions only.
use Rattle.std.specs.Prelude.{ℕ, zero, suc, ◌<◌, ◌≡◌, List, [], ◌∷◌, map, length, Float}
use Rattle.terms.specs.Terms.{Term, cell_of, add_all}
use Rattle.call_lists.specs.Lists.{In, Every}
use Rattle.call_lists.specs.Segments.{Segment, HasRow, HasCell}

-- what a call returns: the number of a refusal, or the cost
pub data Answer : Type 0 where
  refusal : ℕ → Answer
  cost : Float → Answer

-- A refused call is its number and nothing else. An accepted one has its cost, and the terms that it adds to the Hessian and to the gradient, in order.
pub data Call : Type 0 where
  refused : ℕ → Call
  accepted : Float → List Term → List Term → Call

abbrev pub answer : Call → Answer
answer (refused k) = refusal k
answer (accepted x hs gs) = cost x

abbrev pub hessian_terms : Call → List Term
hessian_terms (refused k) = []
hessian_terms (accepted x hs gs) = hs

abbrev pub gradient_terms : Call → List Term
gradient_terms (refused k) = []
gradient_terms (accepted x hs gs) = gs

-- a call by its refusal: turned away, or, with no reason to, as it is
abbrev pub judged : ℕ → Call → Call
judged zero c = c
judged (suc k) c = refused (suc k)

-- WHAT A CONTRACT SAYS OF ONE CALL: its answer, and each slice whole, the call's terms added one after the other
pub record Ran (c : Call) (h g : List Float) (a : Answer) (h' g' : List Float) : Type 0 where
  pub answered : a ≡ answer c
  pub hessian : h' ≡ add_all h (hessian_terms c)
  pub gradient : g' ≡ add_all g (gradient_terms c)

-- ---- many calls on one Hessian and one gradient

-- a call that was made: its own inputs W, and what it returned
pub record Made (W R : Type 0) : Type 0 where
  pub work : W
  pub got : R

-- the own inputs of the calls of a list
abbrev pub works : {W R : Type 0} → List (Made W R) → List W
works es = map (λ e. e.work) es

-- each call gets the two slices as the one before left them, and does what its contract says
module _ {W R : Type 0} (call_of : ℕ → ℕ → W → Call) (answer_of : R → Answer) where
  abbrev pub Chain : List Float → List Float → List (Made W R) → List Float → List Float → Type 0
  Chain h g [] h' g' = (h' ≡ h) × (g' ≡ g)
  Chain h g (e ∷ es) h' g' =
      (h₁ : List Float) × (g₁ : List Float) × Ran (call_of (length h) (length g) e.work) h g (answer_of e.got) h₁ g₁ × Chain h₁ g₁ es h' g'

-- two lists that end alike: the same cells, and the same answer to the same work
pub record SameEnd {W R : Type 0} (answer_of : R → Answer) (es ds : List (Made W R)) (h' g' h'' g'' : List Float) : Type 0 where
  pub hessian : h' ≡ h''
  pub gradient : g' ≡ g''
  pub answers : (e d : Made W R) → In e es → In d ds → e.work ≡ d.work → answer_of e.got ≡ answer_of d.got

-- ---- what the theorem over lists asks of a call

-- place k of a Hessian of n rows is a cell of the segments
abbrev pub HasPlace : ℕ → List Segment → ℕ → Type 0
HasPlace n ss k = (i : ℕ) × (j : ℕ) × (i < n) × (k ≡ cell_of n i j) × HasCell i j ss

-- a call adds to no cell outside of these segments
pub record Tame (n : ℕ) (ss : List Segment) (c : Call) : Type 0 where
  pub hessian : Every (λ t. HasPlace n ss t.cell) (hessian_terms c)
  pub gradient : Every (λ t. HasRow t.cell ss) (gradient_terms c)
