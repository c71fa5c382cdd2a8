-- Laws of transforms: what is known where a call is accepted, equal blocks, and transforms that there are none of. Assumes nothing.
use Prim.Native.Nat.{ℕ, zero, suc, ◌+◌, ◌*◌, ◌/◌, ◌≤◌, ◌<◌}
use native.Mathlib.Nat.{mul-le-mul_right}
use native.Mathlib.Omega.{arith}
use mathlib.Core.Path.{◌≡◌, refl, sym, ap, fun_ext}
use mathlib.Core.Bool.{Bool, true, false, not, ◌||◌, ◌&&◌}
use mathlib.Core.Logic.{◌⊎◌, inl, inr, ⊎_elim}
use mathlib.Core.List.{List, []}
use lib.Dec.{eqb, ltb}
use lib.ListN.{length}
use lib.Ieee.{Float}
use borrow.Author.Tests.{ltb-true, ltb-false, le-ltb, eqb-true, eqb-false, eq-eqb, ne_eqb, not-false}
use Rattle.std.specs.Prelude.{Option, None}
use Rattle.refusals.specs.Refusal.{none, either_none}
use Rattle.normal_blocks.specs.Somewhere.{somewhere, nowhere-at}
use Rattle.normal_blocks.specs.Map.{bad_words, lookup, some_exceeds}
use Rattle.normal_blocks.specs.Calls.{map_refusal}
use Rattle.call_lists.specs.Frames.{Frames}
use Rattle.block_transforms.specs.Transform.{ROOM, sized, shape_at, width_at, through}
use Rattle.block_transforms.specs.Reasons.{bad_beside, MOST_COLUMNS, misfit, misfit_at, some_misfit, through_refusal}
use Rattle.block_transforms.specs.declared.Shape.{Shape}

-- ---- the test of the lengths, as code makes it
pub beside_empty : (words shapes numbers : ℕ) → shapes ≡ 0 → not (eqb numbers 0) ≡ bad_beside words shapes numbers
unfolding bad_beside
beside_empty words shapes numbers e = rw (eq-eqb shapes 0 e) (go (eqb numbers 0) refl)
  where
    go : (b : Bool) → eqb numbers 0 ≡ b → not b ≡ (not b && (not (eqb shapes (2 * words)) || not (eqb numbers (ROOM * words))))
    go true q = refl
    go false q = sym (either_true (eqb shapes (2 * words)) (eqb numbers (ROOM * words)) (λ z. ne_eqb numbers (ROOM * words) (λ p. eqb-false numbers 0 q (omega (arith, eqb-true shapes (2 * words) z)))))
      where
        either_true : (a b : Bool) → (a ≡ true → b ≡ false) → not a || not b ≡ true
        either_true true b f = rw (f refl)
        either_true false b f = refl

module _ (words shapes numbers : ℕ) (some : shapes ≡ 0 → ⊥) where
  pub shapes_wrong : (shapes ≡ 2 * words → ⊥) → true ≡ bad_beside words shapes numbers
  unfolding bad_beside
  shapes_wrong other = rw (ne_eqb shapes 0 some, ne_eqb shapes (2 * words) other)

  pub numbers_wrong : shapes ≡ 2 * words → (numbers ≡ ROOM * words → ⊥) → true ≡ bad_beside words shapes numbers
  unfolding bad_beside
  numbers_wrong e other = rw (ne_eqb shapes 0 some, eq-eqb shapes (2 * words) e, ne_eqb numbers (ROOM * words) other)

  pub beside_right : shapes ≡ 2 * words → numbers ≡ ROOM * words → false ≡ bad_beside words shapes numbers
  unfolding bad_beside
  beside_right e q = rw (ne_eqb shapes 0 some, eq-eqb shapes (2 * words) e, eq-eqb numbers (ROOM * words) q)

-- ---- what is known where the tests do not apply

-- 3: the slices are empty, or as long as the words call for
pub beside_fits : (words shapes numbers : ℕ) → bad_beside words shapes numbers ≡ false
    → ((shapes ≡ 0) × (numbers ≡ 0)) ⊎ ((shapes ≡ 2 * words) × (numbers ≡ ROOM * words))
unfolding bad_beside
beside_fits words shapes numbers h = go (eqb shapes 0) (eqb numbers 0) refl refl h
  where
    long : not (eqb shapes (2 * words)) || not (eqb numbers (ROOM * words)) ≡ false → (shapes ≡ 2 * words) × (numbers ≡ ROOM * words)
    long e =
        let p = either_none (not (eqb shapes (2 * words))) _ e in
        (eqb-true shapes (2 * words) (not-false _ p.0), eqb-true numbers (ROOM * words) (not-false _ p.1))

    go : (a b : Bool) → eqb shapes 0 ≡ a → eqb numbers 0 ≡ b → not (a && b) && (not (eqb shapes (2 * words)) || not (eqb numbers (ROOM * words))) ≡ false
        → ((shapes ≡ 0) × (numbers ≡ 0)) ⊎ ((shapes ≡ 2 * words) × (numbers ≡ ROOM * words))
    go true true p q e = inl (eqb-true shapes 0 p, eqb-true numbers 0 q)
    go true false p q e = inr (long e)
    go false b p q e = inr (long e)

-- 14: a transform has dof rows and at most nine columns
pub record Fits (dof rows cols : ℕ) : Type 0 where
  pub narrow : cols ≤ MOST_COLUMNS
  pub tall : rows ≡ dof

pub transform_fits : (dof rows cols : ℕ) (s : Option Shape) → s ≡ sized rows cols → misfit dof s ≡ false → Fits dof rows cols
unfolding misfit
transform_fits dof rows cols s e h =
    let p = either_none (ltb MOST_COLUMNS cols) _ (rw e at h) in
    record { narrow = ltb-false MOST_COLUMNS cols p.0; tall = eqb-true rows dof (not-false _ p.1) }

pub every_fits : (dof : ℕ) (shape : ℕ → Option Shape) (words : ℕ) → some_misfit dof shape words ≡ false → (k : ℕ) → k < words → misfit dof (shape k) ≡ false
unfolding some_misfit misfit_at
every_fits dof shape words e k h = nowhere-at (misfit_at dof shape) words e k h

-- 9, 14 and 10
pub record Passed (map : List ℕ) (shape : ℕ → Option Shape) (count dof n : ℕ) : Type 0 where
  pub words : bad_words map ≡ false
  pub fitting : some_misfit dof shape (length map) ≡ false
  pub fits : some_exceeds n (width_at shape dof) (lookup map) count ≡ false

pub passed : (map : List ℕ) (shape : ℕ → Option Shape) (count dof n : ℕ) → through_refusal map shape count dof n ≡ 0 → Passed map shape count dof n
unfolding through_refusal
passed map shape count dof n h =
    let nine = none (bad_words map) 8 _ h in
    let fourteen = none (some_misfit dof shape (length map)) 13 _ nine.1 in
    let ten = none (some_exceeds n (width_at shape dof) (lookup map) count) 9 0 fourteen.1 in
    record { words = nine.0; fitting = fourteen.0; fits = ten.0 }

-- a word that has a transform is one of those that the shapes have words for
pub shape-past : (shapes : List ℕ) (k rows cols : ℕ) → shape_at shapes k ≡ sized rows cols → k < length shapes / 2
unfolding shape_at
shape-past shapes k rows cols e = go (ltb k (length shapes / 2)) refl
  where
    go : (b : Bool) → ltb k (length shapes / 2) ≡ b → k < length shapes / 2
    go true q = ltb-true k (length shapes / 2) q
    go false q = let z : ◌≡◌ {A = ℕ} 0 1 = cc (rw q at e) in absurd (omega arith)

-- so it is a word of the map, and its 81 numbers are there
pub transform_there : (words : ℕ) (shapes : List ℕ) (numbers k rows cols : ℕ) → bad_beside words (length shapes) numbers ≡ false → shape_at shapes k ≡ sized rows cols
    → (k < words) × (ROOM * k + ROOM ≤ numbers)
transform_there words shapes numbers k rows cols ok sized =
    let some : k < length shapes / 2 = shape-past shapes k rows cols sized in
    ⊎_elim (λ p. absurd (omega arith)) (λ p. (omega arith, omega arith)) (beside_fits words (length shapes) numbers ok)

-- and have room for all its entries
pub room : (rows cols : ℕ) → rows ≤ 9 → cols ≤ 9 → cols * rows ≤ ROOM
room rows cols few narrow = omega (arith, mul-le-mul_right rows narrow)

-- ---- BOTH SLICES EMPTY MEAN NONE: the frames, and the tests, are those of a call without transforms
pub shape-none : (k : ℕ) → shape_at [] k ≡ None
unfolding shape_at
shape-none k = rw (le-ltb k 0 (omega arith))

nowhere : (n : ℕ) (f : ℕ → Bool) → ((k : ℕ) → f k ≡ false) → somewhere n f ≡ false
unfolding somewhere
nowhere zero f out = refl
nowhere (suc n) f out = rw (nowhere n f out, out n)

pub misfit-none : (dof words : ℕ) → some_misfit dof (shape_at []) words ≡ false
unfolding some_misfit misfit_at misfit
misfit-none dof words = nowhere words _ (λ k. rw (shape-none k))

pub width_none : (dof : ℕ) → width_at (shape_at []) dof ≡ (λ k. dof)
unfolding width_at
width_none dof = fun_ext (λ k. rw (shape-none k))

pub exceeds-none : (n dof : ℕ) (map : List ℕ) (count : ℕ) → some_exceeds n (width_at (shape_at []) dof) (lookup map) count ≡ some_exceeds n (λ k. dof) (lookup map) count
exceeds-none n dof map count = ap (λ (w : ℕ → ℕ). some_exceeds n w (lookup map) count) (width_none dof)

pub refusal_none : (map : List ℕ) (count dof n : ℕ) → through_refusal map (shape_at []) count dof n ≡ map_refusal map count dof n
unfolding through_refusal map_refusal
refusal_none map count dof n = rw (misfit-none dof (length map), exceeds-none n dof map count)

pub through-none : (transforms : List Float) (f : Frames) → through (shape_at []) transforms f ≡ f
unfolding width_at
through-none transforms f = ap (λ (s : ℕ → Option Shape). through s transforms f) (fun_ext shape-none)
