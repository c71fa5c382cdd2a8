-- The numbers of a batch of things side by side in one array: of `batch` things at most, number e of the k-th stands at e·batch + k. Definitions,
-- then their laws, over the batch's length and over how many numbers a thing has. Assumes nothing.
use Rattle.std.specs.Prelude.{ℕ, zero, suc, ◌+◌, ◌*◌, ◌/◌, ◌%◌, ◌<◌, ◌≤◌, ◌≡◌, refl, ◌≢◌, List, length, set, Float}
use Rattle.std.proofs.Common.{add-one, not-suc-le-zero, zero-mul, zero-add, add-zero, mod-eq_of_lt, arith, sym, ap, ◌∙◌, length-set, get_or-set_same, get_or-set_other}
use Rattle.std.proofs.Math.Nat.{mul-add-div_right, mul-add-mod_self_right, div-eq_of_lt}
use Rattle.std.specs.Float.{nan}
use Rattle.sums.specs.Sum.{tab}
use Rattle.sums.specs.Laws.{tab-same, tab-get_or, up_to, cell}
use Rattle.lists.specs.Part.{◌!◌}

-- where number e of the k-th thing stands: at e·batch + k, and the first at k, as code writes it
abbrev pub place : ℕ → ℕ → ℕ → ℕ
place batch zero k = k
place batch (suc e) k = suc e * batch + k

-- the n numbers of the k-th thing
abbrev pub beside_of : ℕ → ℕ → List Float → ℕ → List Float
beside_of batch n cells k = tab n (λ e. cells ! place batch e k)

-- the same array with the first n numbers of v as those of the k-th thing
abbrev pub put_beside : ℕ → ℕ → List Float → ℕ → List Float → List Float
put_beside batch zero cells k v = cells
put_beside batch (suc n) cells k v = set (put_beside batch n cells k v) (place batch n k) (v ! n)

-- the first `size` things have the numbers v 0, .., v (size - 1), n each
pub record Beside (batch n : ℕ) (v : ℕ → List Float) (size : ℕ) (cells : List Float) : Type 0 where
  pub long : length cells ≡ n * batch
  pub each : (k : ℕ) → k < size → beside_of batch n cells k ≡ v k

-- ---- laws

-- a place tells which thing and which number it is for
module _ (batch e k : ℕ) (inside : k < batch) where
  pub number_at : (e * batch + k) / batch ≡ e
  number_at = mul-add-div_right (omega arith) e k ∙ ap (λ q. e + q) (div-eq_of_lt inside) ∙ add-zero e

  pub thing_at : (e * batch + k) % batch ≡ k
  thing_at = mul-add-mod_self_right e batch k ∙ mod-eq_of_lt inside

pub place_is : (batch e k : ℕ) → place batch e k ≡ e * batch + k
place_is batch zero k = rw (zero-mul, zero-add)
place_is batch (suc e) k = refl

module _ {batch : ℕ} (e d j k : ℕ) (l : j < batch) (m : k < batch) (q : place batch e j ≡ place batch d k) where
  one_place : e * batch + j ≡ d * batch + k
  one_place = sym (place_is batch e j) ∙ q ∙ place_is batch d k

  same_number : e ≡ d
  same_number = sym (number_at batch e j l) ∙ ap (λ i. i / batch) one_place ∙ number_at batch d k m

  same_thing : j ≡ k
  same_thing = sym (thing_at batch e j l) ∙ ap (λ i. i % batch) one_place ∙ thing_at batch d k m

module _ (batch : ℕ) (cells : List Float) (k : ℕ) (v : List Float) (inside : k < batch) where
  pub length_beside : (n : ℕ) → length (put_beside batch n cells k v) ≡ length cells
  length_beside zero = refl
  length_beside (suc n) = length-set (put_beside batch n cells k v) (place batch n k) (v ! n) ∙ length_beside n

  -- a number that was put, and one of another thing
  put_here : (n : ℕ) → n * batch ≤ length cells → (e : ℕ) → e < n → put_beside batch n cells k v ! place batch e k ≡ v ! e
  put_here zero long e h = absurd (not-suc-le-zero h)
  put_here (suc n) long e h =
      let old = put_beside batch n cells k v in
      let room = cell batch (suc n) k n inside (omega arith) in
      up_to {P = λ e. put_beside batch (suc n) cells k v ! place batch e k ≡ v ! e} n
      (get_or-set_same old (place batch n k) (v ! n) nan (omega (arith, length_beside n, place_is batch n k)))
      (λ d l. get_or-set_other old (place batch n k) (place batch d k) (v ! n) nan (λ q. omega (arith, same_number d n k k inside inside q)) ∙ put_here n (omega arith) d l)
      e (rw (add-one n) h)

  put_other : (n j : ℕ) → j < batch → j ≢ k → (e : ℕ) → put_beside batch n cells k v ! place batch e j ≡ cells ! place batch e j
  put_other zero j l other e = refl
  put_other (suc n) j l other e =
      get_or-set_other (put_beside batch n cells k v) (place batch n k) (place batch e j) (v ! n) nan (λ q. other (same_thing e n j k l inside q)) ∙ put_other n j l other e

  -- what was put is read back, and the other things' numbers stay
  pub beside_here : (n : ℕ) → n * batch ≤ length cells → length v ≡ n → beside_of batch n (put_beside batch n cells k v) k ≡ v
  beside_here n long whole = tab-same n _ _ (put_here n long) ∙ tab-get_or n v whole

  pub beside_other : (n j : ℕ) → j < batch → j ≢ k → beside_of batch n (put_beside batch n cells k v) j ≡ beside_of batch n cells j
  beside_other n j l other = tab-same n _ _ (λ e h. put_other n j l other e)

-- an array that is filled thing by thing: before the first, and after one more
pub beside_none : {batch n : ℕ} {v : ℕ → List Float} (cells : List Float) → length cells ≡ n * batch → Beside batch n v 0 cells
beside_none cells long = record { long = long; each = λ k l. absurd (not-suc-le-zero l) }

pub beside_more : {batch n : ℕ} (v : ℕ → List Float) {k : ℕ} {cells cells' new : List Float} → k < batch → new ≡ v k → length (v k) ≡ n → cells' ≡ put_beside batch n cells k new → Beside batch n v k cells → Beside batch n v (k + 1) cells'
beside_more {batch} {n} v {k} {cells} {cells'} {new} l is whole put before = rw (put, is) (record {
  long = length_beside batch cells k (v k) l n ∙ before.long;
  each = up_to {P = λ j. beside_of batch n (put_beside batch n cells k (v k)) j ≡ v j} k (beside_here batch cells k (v k) l n (omega (arith, before.long)) whole)
      (λ j b. beside_other batch cells k (v k) l n j (omega arith) (λ z. omega arith) ∙ before.each j b);
})
