-- Laws of block maps: words by their size, what an index list makes of a map, and what callers know where reason 10 does not apply. Assumes nothing.
use Rattle.std.specs.Prelude.{ℕ, zero, suc, ◌+◌, ◌-◌, ◌<◌, ◌≤◌, ◌≡◌, refl, Bool, true, false, ◌&&◌, List, [], ◌∷◌, eqb, ltb, length, get_or, take, set, Option, Some, None}
use Rattle.std.proofs.Common.{sym, ap, ◌∙◌, arith, take-suc, take-suc-set, take_all, add-one, eq-eqb, ne_eqb, lt-ltb, le-ltb, ltb-true, ltb-false, eqb-true, ⊎_elim, eq-or-lt_of_le, le_of_suc-le-suc, not-suc-le-zero}
use Rattle.std.proofs.Math.ListN.{get_or-map, get_or-eq_default}
use Rattle.normal_blocks.specs.Somewhere.{nowhere-at}
use Rattle.normal_blocks.specs.Map.{kind, low, place_of, UNMAPPED, bad_word, word_at, lookup, remapped, exceeds, exceeds_at, some_exceeds}

-- ---- words by their size
pub place_at : (w : ℕ) → w < UNMAPPED → place_of w ≡ Some w
unfolding place_of
place_at w h =
    let k : kind w ≡ 0 = omega arith in
    let l : low w ≡ w = omega arith in
    rw (eq-eqb (kind w) 0 k, l)

pub place_unmapped : (w : ℕ) → UNMAPPED ≤ w → place_of w ≡ None
unfolding place_of
place_unmapped w h =
    let k : kind w ≡ 0 → ⊥ = λ e. omega arith in
    rw (ne_eqb (kind w) 0 k)

unless : (a b : Bool) → (a ≡ true → b ≡ false) → a && b ≡ false
unless true b f = f refl
unless false b f = refl

word_bad : (w : ℕ) → UNMAPPED < w → bad_word w ≡ true
unfolding bad_word
word_bad w h =
    let k : kind w ≡ 0 → ⊥ = λ e. omega arith in
    let l : eqb (kind w) 1 ≡ true → low w ≡ 0 → ⊥ = λ e z. omega (arith, eqb-true (kind w) 1 e) in
    rw (ne_eqb (kind w) 0 k, unless (eqb (kind w) 1) (eqb (low w) 0) (λ e. ne_eqb (low w) 0 (l e)))

word_good : (w : ℕ) → w ≤ UNMAPPED → bad_word w ≡ false
unfolding bad_word
word_good w h =
    ⊎_elim (λ (e : w ≡ UNMAPPED). rw e) (λ (l : w < UNMAPPED). let k : kind w ≡ 0 = omega arith in rw (eq-eqb (kind w) 0 k)) (eq-or-lt_of_le h)

-- a word is bad if it is above the unmapped one
pub bad_is : (w : ℕ) → ltb UNMAPPED w ≡ bad_word w
bad_is w = go (ltb UNMAPPED w) refl
  where
    go : (b : Bool) → ltb UNMAPPED w ≡ b → b ≡ bad_word w
    go true e = sym (word_bad w (ltb-true UNMAPPED w e))
    go false e = sym (word_good w (ltb-false UNMAPPED w e))

-- ---- the word at a place, inside the map and past its end
get_or_any : (l : List ℕ) (k d e : ℕ) → k < length l → get_or l k d ≡ get_or l k e
get_or_any [] k d e h = absurd (not-suc-le-zero h)
get_or_any (x ∷ xs) zero d e h = refl
get_or_any (x ∷ xs) (suc k) d e h = get_or_any xs k d e (le_of_suc-le-suc h)

pub word_inside : (m : List ℕ) (k : ℕ) → k < length m → get_or m k 0 ≡ word_at m (Some k)
unfolding word_at
word_inside m k h = get_or_any m k 0 _ h

pub word_past : (m : List ℕ) (k : ℕ) → length m ≤ k → UNMAPPED ≡ word_at m (Some k)
unfolding word_at
word_past m k h = sym (get_or-eq_default m UNMAPPED h)

pub lookup_inside : (m : List ℕ) (k : ℕ) → k < length m → place_of (get_or m k 0) ≡ lookup m k
unfolding lookup
lookup_inside m k h = ap place_of (word_inside m k h)

pub lookup-past : (m : List ℕ) (k : ℕ) → length m ≤ k → None ≡ lookup m k
unfolding lookup
lookup-past m k h = rw (← word_past m k h) (sym (place_unmapped UNMAPPED (omega arith)))

-- ---- a map read through an index list
pub length-remapped : (m list : List ℕ) → length (remapped m list) ≡ length list
unfolding remapped
length-remapped m [] = refl
length-remapped m (w ∷ ws) = ap suc (length-remapped m ws)

-- word i of the new map is the old map's word at the list's place i
pub remapped-at : (m list : List ℕ) (i : ℕ) → get_or (remapped m list) i UNMAPPED ≡ word_at m (lookup list i)
unfolding remapped lookup word_at place_of
remapped-at m list i = get_or-map (λ w. word_at m (place_of w)) list i UNMAPPED

-- a new map that is written from the front: one more word, and all of them
pub remapped_more : (m list out : List ℕ) (k w : ℕ) → length out ≡ length list → k < length list → w ≡ word_at m (place_of (get_or list k 0))
    → take k out ≡ take k (remapped m list) → take (k + 1) (set out k w) ≡ take (k + 1) (remapped m list)
unfolding lookup
remapped_more m list out k w e h v p =
    let n : k < length out = omega arith in
    let l : k < length (remapped m list) = rw length-remapped h in
    let q : w ≡ get_or (remapped m list) k UNMAPPED = v ∙ rw (word_inside list k h) (sym (remapped-at m list k)) in
    rw (add-one k, take-suc-set out k w n, take-suc (remapped m list) k UNMAPPED l, q, p)

pub remapped_all : (m list out : List ℕ) → length out ≡ length list → take (length list) out ≡ take (length list) (remapped m list) → out ≡ remapped m list
remapped_all m list out e p =
    let n : length (remapped m list) ≡ length list = length-remapped m list in
    sym (take_all (length list) out (omega arith)) ∙ p ∙ take_all (length list) (remapped m list) (omega arith)

-- what f makes of a place, if there is one
abbrev pub and_then : Option ℕ → (ℕ → Option ℕ) → Option ℕ
and_then (Some k) f = f k
and_then None f = None

through : (m : List ℕ) (p : Option ℕ) → place_of (word_at m p) ≡ and_then p (lookup m)
unfolding lookup word_at place_of
through m (Some k) = refl
through m None = refl

-- frame i goes where the old map has the frame at the list's place i, and nowhere where the list has none
pub lookup-remapped : (m list : List ℕ) (i : ℕ) → lookup (remapped m list) i ≡ and_then (lookup list i) (lookup m)
unfolding lookup word_at
lookup-remapped m list i = ap place_of (remapped-at m list i) ∙ through m (lookup list i)

-- ---- what callers know where reason 10 does not apply
pub fits : (n : ℕ) (width : ℕ → ℕ) (place : ℕ → Option ℕ) (count : ℕ) → some_exceeds n width place count ≡ false
    → (k : ℕ) → k < count → exceeds n (width k) (place k) ≡ false
unfolding some_exceeds exceeds_at
fits n width place count e k h = nowhere-at (exceeds_at n width place) count e k h

pub fits_at : (n width offset : ℕ) (p : Option ℕ) → p ≡ Some offset → exceeds n width p ≡ false → offset + width ≤ n
unfolding exceeds
fits_at n width offset p e f = ltb-false n (offset + width) (rw e at f)

-- the test of one offset, as code makes it without a sum that could wrap
pub exceeds-wide : (n width offset : ℕ) → n < width → true ≡ ltb n (offset + width)
exceeds-wide n width offset l = sym (lt-ltb n (offset + width) (omega arith))

pub exceeds_room : (n width offset : ℕ) → width ≤ n → ltb (n - width) offset ≡ ltb n (offset + width)
exceeds_room n width offset l = go (ltb (n - width) offset) refl
  where
    go : (b : Bool) → ltb (n - width) offset ≡ b → b ≡ ltb n (offset + width)
    go true e = sym (lt-ltb n (offset + width) (omega (arith, ltb-true (n - width) offset e)))
    go false e = sym (le-ltb n (offset + width) (omega (arith, ltb-false (n - width) offset e)))
