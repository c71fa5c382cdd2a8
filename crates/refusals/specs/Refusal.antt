-- Why a call is turned away: its tests in order, each with its number, and what a call leaves in what it was lent. Assumes nothing.
use Rattle.std.specs.Prelude.{ℕ, zero, suc, ◌≡◌, refl, Bool, true, false, not, ◌||◌, ◌&&◌, cond, List, [], ◌∷◌, eqb}
use Rattle.std.proofs.Common.{sym, arith}

-- a reason to turn a call away: document 01's number, and whether it applies
pub record Reason : Type 0 where
  pub number : ℕ
  pub applies : Bool

infix 70 ◌when◌
abbrev pub ◌when◌ : ℕ → Bool → Reason
k when b = record { number = k; applies = b }

-- the number of the first reason that applies; 0 where none does
abbrev pub first_of : List Reason → ℕ
first_of [] = 0
first_of (r ∷ rs) = cond r.applies r.number (first_of rs)

-- reason 3: some length is not the one that the call wants
abbrev pub wrong_length : List (ℕ × ℕ) → Bool
wrong_length [] = false
wrong_length (l ∷ ls) = not (eqb l.0 l.1) || wrong_length ls

-- what a call leaves where it may write: the old content if it is refused, the new if not
abbrev pub kept : {A : Type 0} → ℕ → A → A → A
kept zero old new = new
kept (suc k) old new = old

-- a call's number, and what it leaves
pub record Answered {A : Type 0} (refusal number : ℕ) (old left new : A) : Type 0 where
  pub number_is : number ≡ refusal
  pub left_is : left ≡ kept refusal old new

-- refused by a number that is not 0, as a literal or as a callee's answer; accepted
pub refused : {A : Type 0} {refusal k : ℕ} {old new : A} → refusal ≡ suc k → Answered refusal (suc k) old old new
refused e = record { number_is = sym e; left_is = rw e }

pub refused_by : {A : Type 0} {refusal k : ℕ} {old new : A} → refusal ≡ k → (k ≡ 0 → ⊥) → Answered refusal k old old new
refused_by {k = zero} e n = absurd (n refl)
refused_by {k = suc k} e n = refused e

pub accepted : {A : Type 0} {refusal : ℕ} {old left new : A} → refusal ≡ 0 → left ≡ new → Answered refusal 0 old left new
accepted e w = record { number_is = sym e; left_is = rw e w }

-- ---- what is known where a call is accepted: its first reason does not apply, nor any of the others; of two tests neither; of two lengths one fits
pub none : (b : Bool) (k rest : ℕ) → cond b (suc k) rest ≡ 0 → (b ≡ false) × (rest ≡ 0)
none true k rest h = absurd (omega arith)
none false k rest h = (refl, h)

pub either_none : (a b : Bool) → (a || b) ≡ false → (a ≡ false) × (b ≡ false)
either_none true b h = (h, cc)
either_none false b h = (refl, h)

pub not-both : (a b : Bool) → a ≡ false → (not a && not b) ≡ false → b ≡ true
not-both a true e h = refl
not-both a false e h = sym (rw e at h)
