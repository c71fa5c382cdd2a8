-- A list has one card and a card one list, and what a loop has carried from one to the other after each turn. Assumes nothing.
use Prim.Native.Nat.{ℕ, ◌+◌, ◌-◌, ◌<◌, ◌≤◌}
use mathlib.Core.Path.{◌≡◌, sym, ap, ◌∙◌}
use mathlib.Core.Logic.{⊎_elim}
use mathlib.Core.List.{List, [], ◌++◌}
use borrow.Rule.Slice.PartMut.{put_mid}
use native.Mathlib.Nat.{not-suc-le-zero}
use native.Mathlib.Omega.{arith}
use lib.ListN.{length, get_or, set, take, drop, replicate, length-set, length-replicate, length-append, length-drop, get_or-append}
use lib.Seq.{ext_get_or, get_or-set_same, get_or-set_other}
use Rattle.std.proofs.Common.{append-nil, drop_of_length-le, get_or-append-add, take_all}
use Rattle.std.proofs.lemmas.List.{get_or-take, get_or-drop, length-take, length-take-le}
use Rattle.total_order.proofs.Parts.{side}
use Rattle.cards.specs.Card.{grouped, place_of, listed, card_of, list_of}
use Rattle.cards.specs.Steps.{AtPlace, PlacedFrom, Carried}
use Rattle.cards.proofs.Lists.{length-listed, get_or-listed, length-put, get_or-put}
use Rattle.cards.proofs.EachPlace.{number_at, place_number, place_last, place_fits, place_stays, number_fits, apart, within}

pub one_card : (l c d : List ℕ) → Carried l c (length l) → Carried l d (length l) → c ≡ d
one_card l c d here there = ext_get_or 0 c d (here.0 ∙ sym there.0) same
  where
    same : (p : ℕ) → p < length c → get_or c p 0 ≡ get_or d p 0
    same p h =
        let i = number_at (length l) p in
        let m : i < length l = number_fits (length l) p (rw here.0 at h) in
        let e : place_of (length l) i ≡ p = place_number (length l) p in
        rw e at (here.1 i m ∙ sym (there.1 i m))

pub one_list : (l m c : List ℕ) → Carried l c (length l) → Carried m c (length m) → l ≡ m
one_list l m c here there =
    let e : length l ≡ length m = sym here.0 ∙ there.0 in
    ext_get_or 0 l m e (λ i h. sym (here.1 i h) ∙ rw (← e) at (there.1 i (rw e at h)))

-- those of the definitions
pub on_card : (l : List ℕ) → Carried l (card_of l) (length l)
unfolding card_of
on_card l =
    let n = length l in
    let blank : List ℕ = replicate n 0 in
    let size : length blank ≡ n = length-replicate n 0 in
    (length-put (place_of n) l blank ∙ size, get_or-put (place_of n) l blank (apart n) (λ i h. rw size (place_fits n i h)))

pub off_card : (c : List ℕ) → Carried (list_of c) c (length (list_of c))
unfolding list_of
off_card c =
    let n = length c in
    let from : ℕ → ℕ = λ i. get_or c (place_of n i) 0 in
    let size : length (listed n from) ≡ n = length-listed n from in
    (sym size, λ i h. rw size (sym (get_or-listed n from i (rw size at h))))

-- ---- loops that carry numbers over: none yet
pub none_yet : (l c : List ℕ) → length c ≡ length l → Carried l c 0
none_yet l c same = (same, λ i h. absurd (not-suc-le-zero h))

-- one more: after a step at number k it is at its place, and so is every other number that was before
abbrev pub Step : (ℕ → Type 0) → (ℕ → Type 0) → ℕ → Type 0
Step before after k = after k × ((i : ℕ) → (i ≡ k → ⊥) → before i → after i)

pub put_step : (l c : List ℕ) (k p v : ℕ) → length c ≡ length l → k < length l → p ≡ place_of (length l) k → v ≡ get_or l k 0 → Step (AtPlace l c) (AtPlace l (set c p v)) k
put_step l c k p v same h e w =
    let n = length l in (
      rw (← e) (get_or-set_same c p v 0 (rw (e, same) (place_fits n k h)) ∙ w),
      λ i other done. get_or-set_other c p (place_of n i) v 0 (λ s. other (apart n i k (s ∙ e))) ∙ done,
    )

pub read_step : (l c : List ℕ) (k v : ℕ) → k < length l → v ≡ get_or c (place_of (length l) k) 0 → Step (AtPlace l c) (AtPlace (set l k v) c) k
read_step l c k v h w =
    rw (length-set l k v) (sym w ∙ sym (get_or-set_same l k v 0 h), λ i other done. done ∙ sym (get_or-set_other l k i v 0 other))

module _ {before after : ℕ → Type 0} where
  further : (k from m : ℕ) → m ≡ k + 1 → Step before after k → ((i : ℕ) → from ≤ i → i < k → before i) → (i : ℕ) → from ≤ i → i < m → after i
  further k from m next step done i a b = ⊎_elim (λ (q : i < k). step.1 i (λ z. omega arith) (done i a q)) last (side i k)
    where
      last : k ≤ i → after i
      last q = let z : i ≡ k = omega arith in rw z step.0

  pub one_more : (k m : ℕ) → m ≡ k + 1 → Step before after k → ((i : ℕ) → i < k → before i) → (i : ℕ) → i < m → after i
  one_more k m next step done i b = further k 0 m next step (λ i a b. done i b) i (omega arith) b

-- two more: number k, and number m of a run behind it
module _ {before between after : ℕ → Type 0} where
  pub two_more : (k m from k' m' : ℕ) → k < from → from ≤ m → k' ≡ k + 1 → m' ≡ m + 1 → Step before between k → Step between after m
      → ((i : ℕ) → i < k → before i) → ((i : ℕ) → from ≤ i → i < m → before i) → ((i : ℕ) → i < k' → after i) × ((i : ℕ) → from ≤ i → i < m' → after i)
  two_more k m from k' m' a b next next' first second done behind = (
    λ i t. second.1 i (λ z. omega arith) (one_more k k' next first done i t),
    further m from m' next' second (λ i f t. first.1 i (λ z. omega arith) (behind i f t)),
  )

-- a run behind those carried joins them
pub joined : (l c : List ℕ) (k m : ℕ) → Carried l c k → PlacedFrom l c k m → Carried l c m
joined l c k m done behind = (done.0, λ i b. ⊎_elim (λ (q : i < k). done.1 i q) (λ (q : k ≤ i). behind i q b) (side i k))

-- ---- a last shorter group, copied as it is
front : (c d : List ℕ) (from i : ℕ) → from ≤ length c → i < from → get_or (take from c ++ d) i 0 ≡ get_or c i 0
front c d from i h b = grind (arith, get_or-append, get_or-take, length-take)

back : (c d : List ℕ) (from i : ℕ) → from ≤ length c → from ≤ i → get_or (take from c ++ drop from d) i 0 ≡ get_or d i 0
back c d from i h a =
    let n : length (take from c) ≡ from = length-take-le from c h in
    let e : i ≡ length (take from c) + (i - from) = omega arith in
    let w : from + (i - from) ≡ i = omega arith in
    ap (λ k. get_or (take from c ++ drop from d) k 0) e ∙ get_or-append-add (take from c) (drop from d) (i - from) 0 ∙ get_or-drop from d (i - from) 0 ∙ ap (λ k. get_or d k 0) w

spliced : (c d : List ℕ) (from : ℕ) → from ≤ length c → length c ≡ length d → length (take from c ++ drop from d) ≡ length d
spliced c d from h e = grind (arith, length-append, length-take, length-drop)

pub last_put : (l c : List ℕ) (from : ℕ) → from ≡ grouped (length l) → Carried l c from → Carried l (take from c ++ drop from l) (length l)
last_put l c from e done = (spliced c l from fits done.0, λ i h. ⊎_elim (inner i) (outer i) (side i from))
  where
    fits : from ≤ length c
    fits = let w = within (length l) in omega (arith, e, done.0)

    inner : (i : ℕ) → i < from → AtPlace l (take from c ++ drop from l) i
    inner i b = front c (drop from l) from (place_of (length l) i) fits (rw (← e) at (place_stays (length l) i (rw e at b))) ∙ done.1 i b

    outer : (i : ℕ) → from ≤ i → AtPlace l (take from c ++ drop from l) i
    outer i a = rw (place_last (length l) i (rw e at a)) (back c l from i fits a)

pub last_read : (l c : List ℕ) (from : ℕ) → from ≡ grouped (length c) → Carried l c from → Carried (take from l ++ drop from c) c (length (take from l ++ drop from c))
last_read l c from e done = (sym size, λ i h. rw size (⊎_elim (inner i) (outer i) (side i from)))
  where
    fits : from ≤ length l
    fits = let w = within (length c) in omega (arith, e, done.0)

    size : length (take from l ++ drop from c) ≡ length c
    size = spliced l c from fits (sym done.0)

    inner : (i : ℕ) → i < from → get_or c (place_of (length c) i) 0 ≡ get_or (take from l ++ drop from c) i 0
    inner i b = rw (done.0) (done.1 i b) ∙ sym (front l (drop from c) from i fits b)

    outer : (i : ℕ) → from ≤ i → get_or c (place_of (length c) i) 0 ≡ get_or (take from l ++ drop from c) i 0
    outer i a = rw (place_last (length c) i (rw e at a)) (sym (back l c from i fits a))

-- what the copy leaves in a slice from a place on, as the check writes it
pub copied : (c d x : List ℕ) (from : ℕ) → x ≡ take (length d - from) (drop from d) → put_mid from (length c - from) c x ≡ take from c ++ drop from d
copied c d x from e =
    let all : take (length d - from) (drop from d) ≡ drop from d = take_all (length d - from) (drop from d) (omega (arith, length-drop from d)) in
    let none : drop (length c - from) (drop from c) ≡ [] = drop_of_length-le (drop from c) (omega (arith, length-drop from c)) in
    rw (none, append-nil, e, all)
