-- DEMAND 3: what a call owns, and what any list of accumulating calls of both factors, with transforms and without, refused ones included, does to one Hessian and one gradient.
-- Definitions only.
use Rattle.std.specs.Prelude.{ℕ, suc, ◌+◌, ◌*◌, ◌<◌, ◌≤◌, ◌≡◌, List, length, get_or, Some, None, Float}
use Rattle.std.specs.Float.{nan}
use Rattle.terms.specs.Terms.{cell_of}
use Rattle.normal_blocks.specs.Map.{lookup}
use Rattle.call_lists.specs.Lists.{In}
use Rattle.call_lists.specs.Calls.{refusal, Made, works, Chain}
use Rattle.block_transforms.specs.Transform.{shape_at, width_at}
use Rattle.plane_moments.specs.Accumulate.{transformed_frames_refusal, fit_of}
use Rattle.normal_list.specs.Work.{Work, frames, matches, call_of, Got, answer_of}
use Rattle.normal_list.specs.Book.{layout_of, OwnsRow, OwnsCell, Apart, page_of, hessian_book, gradient_book}

-- ---- what a call owns, in the paper's words

-- row i is one of so many rows from the offset on
abbrev pub Among : ℕ → ℕ → ℕ → Type 0
Among offset width i = (offset ≤ i) × (i < offset + width)

-- one of the first `count` frames is mapped, and row i is among its rows: as many as its transform has columns, dof without one
pub record InFrame (count dof : ℕ) (map shapes : List ℕ) (i : ℕ) : Type 0 where
  pub frame : ℕ
  pub exists : frame < count
  pub offset : ℕ
  pub mapped : lookup map frame ≡ Some offset
  pub row : Among offset (width_at (shape_at shapes) dof frame) i

-- and so is column j
pub record InOneFrame (count dof : ℕ) (map shapes : List ℕ) (i j : ℕ) : Type 0 where
  pub frame : ℕ
  pub exists : frame < count
  pub offset : ℕ
  pub mapped : lookup map frame ≡ Some offset
  pub row : Among offset (width_at (shape_at shapes) dof frame) i
  pub column : Among offset (width_at (shape_at shapes) dof frame) j

abbrev pub Exactly : Type 0 → Type 0 → Type 0
Exactly A B = (A → B) × (B → A)

-- WHAT A HOST LOOKS AT, words and shapes: no row is among the rows of a mapped frame of one call and among those of a mapped frame of the other
abbrev pub WordsApart : Work → Work → Type 0
WordsApart v w =
    (k l o p i : ℕ) → k < (layout_of v).count → l < (layout_of w).count → (layout_of v).place k ≡ Some o → (layout_of w).place l ≡ Some p
    → Among o ((layout_of v).width k) i → Among p ((layout_of w).width l) i → ⊥

-- ---- what a list of calls does

-- the calls of a list: each gets the two slices as the one before left them, and does what its contract says
abbrev pub Calls : List Float → List Float → List (Made Work Got) → List Float → List Float → Type 0
Calls = Chain call_of answer_of

-- WHATEVER THE ROWS: each call has answered as its page has it, each cell holds what the book makes of its first content, and a cell that no call owns keeps it
pub record InTheBook (m n : ℕ) (h g : List Float) (es : List (Made Work Got)) (h' g' : List Float) : Type 0 where
  pub answers : (e : Made Work Got) → In e es → answer_of e.got ≡ (page_of m n e.work).answer
  pub hessian : (i j : ℕ) → i < n → j < n → get_or h' (cell_of n i j) nan ≡ hessian_book m n (works es) i j (get_or h (cell_of n i j) nan)
  pub gradient : (i : ℕ) → i < n → get_or g' i nan ≡ gradient_book m n (works es) i (get_or g i nan)
  pub hessian_kept : (i j : ℕ) → i < n → j < n → ((w : Work) → In w (works es) → OwnsCell m n w i j → ⊥)
      → get_or h' (cell_of n i j) nan ≡ get_or h (cell_of n i j) nan
  pub gradient_kept : (i : ℕ) → i < n → ((w : Work) → In w (works es) → OwnsRow m n w i → ⊥) → get_or g' i nan ≡ get_or g i nan
  pub hessian_length : length h' ≡ m
  pub gradient_length : length g' ≡ n

-- AND WITH ROWS APART: a cell holds what the page of the one call that owns it makes of its first content
pub record OwnersAlone (m n : ℕ) (h g : List Float) (es : List (Made Work Got)) (h' g' : List Float) : Type 0 where
  pub booked : InTheBook m n h g es h' g'
  pub hessian : (i j : ℕ) → i < n → j < n → (w : Work) → In w (works es) → OwnsCell m n w i j
      → get_or h' (cell_of n i j) nan ≡ (page_of m n w).hessian i j (get_or h (cell_of n i j) nan)
  pub gradient : (i : ℕ) → i < n → (w : Work) → In w (works es) → OwnsRow m n w i → get_or g' i nan ≡ (page_of m n w).gradient i (get_or g i nan)

-- NO CALL ACCEPTED: each is refused by 1, 2 or 3, and both slices are as they were
pub record AllRefused (h g : List Float) (es : List (Made Work Got)) (h' g' : List Float) : Type 0 where
  pub answers : (e : Made Work Got) → In e es → (k : ℕ) × (k < 3) × (answer_of e.got ≡ refusal (suc k))
  pub hessian : h' ≡ h
  pub gradient : g' ≡ g

-- the Hessian is square in the gradient's length
abbrev pub Square : List Float → List Float → Type 0
Square h g = length h ≡ length g * length g

-- ALL OF IT, of a Hessian and a gradient of any lengths and any first content
pub record Demand3 (h g : List Float) (es : List (Made Work Got)) (h' g' : List Float) : Type 0 where
  pub booked : Square h g → InTheBook (length h) (length g) h g es h' g'
  pub alone : Square h g → Apart (length h) (length g) (works es) → OwnersAlone (length h) (length g) h g es h' g'
  pub not-square : (Square h g → ⊥) → AllRefused h g es h' g'

-- an accepted call of frames without plane
abbrev pub WithoutPlane : ℕ → ℕ → Work → Type 0
WithoutPlane m n (frames b) = (transformed_frames_refusal m n b ≡ 0) × (fit_of b.work ≡ None)
WithoutPlane m n (matches b) = ⊥
