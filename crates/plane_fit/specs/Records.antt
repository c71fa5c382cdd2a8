-- Record k of a lent list of records of one size. Definitions and their laws; assumes nothing.
use Rattle.std.specs.Prelude.{◌≡◌, cond, List, [], ℕ, zero, suc, ◌+◌, ◌*◌, ◌≤◌, ◌<◌, ◌/◌, leb, length, take, drop, get_or, Float}
use Rattle.std.specs.Simd.{first_chunks}
use Rattle.std.proofs.Common.{◌∙◌, not-suc-le-zero, mul-zero, drop-drop, le-div_iff_mul-le, div-lt_iff_lt-mul, suc-mul, mul_comm, arith, length-take, length-drop, get_or-take, get_or-drop, le-leb}
use Rattle.std.specs.Float.{nan}

-- "the thirteen numbers of frame k come back as a part of the lent slice, an empty part if the list ends before frame k does (k from 0)"
unfoldable pub record_of : ℕ → List Float → ℕ → List Float
record_of size l k = cond (leb (size * k + size) (length l)) (take size (drop (size * k) l)) []

-- record k is whole exactly if k is below the number of whole records
module _ (size : ℕ) (l : List Float) (k : ℕ) (some : 0 < size) where
  pub whole : k < length l / size → size * k + size ≤ length l
  whole h = omega (arith, (le-div_iff_mul-le some).0 h, suc-mul k size, mul_comm k size)

  pub short : length l / size ≤ k → length l < size * k + size
  short h = omega (arith, (div-lt_iff_lt-mul some).0 (lt-suc h), suc-mul k size, mul_comm k size)
    where
      lt-suc : {a b : ℕ} → a ≤ b → a < suc b
      lt-suc h = omega arith

-- a record that the list holds whole
module _ (size : ℕ) (l : List Float) (k : ℕ) (whole : size * k + size ≤ length l) where
  pub record_is : record_of size l k ≡ take size (drop (size * k) l)
  unfolding record_of
  record_is = rw (le-leb (size * k + size) (length l) whole)

  pub record_length : length (record_of size l k) ≡ size
  record_length = rw record_is (simp (length-take, length-drop) (omega arith))

  pub record_at : (i : ℕ) → i < size → get_or (record_of size l k) i nan ≡ get_or l (size * k + i) nan
  record_at i h = rw (record_is, get_or-take, get_or-drop)

-- record k of a list that is cut into records
pub record_among : (size count : ℕ) (l : List Float) (k : ℕ) → k < count → get_or (first_chunks size count l) k [] ≡ take size (drop (size * k) l)
record_among size zero l k h = absurd (not-suc-le-zero h)
record_among size (suc n) l zero h = rw mul-zero
record_among size (suc n) l (suc k) h =
    let e : size * suc k ≡ size + size * k = omega (arith, suc-mul k size, mul_comm size (suc k), mul_comm size k) in
    record_among size n (drop size l) k (omega arith) ∙ rw (drop-drop, e)
