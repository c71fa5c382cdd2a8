-- Laws of columns of four that are written at even steps. Assumes nothing.
use Rattle.std.specs.Prelude.{ℕ, zero, suc, ◌+◌, ◌*◌, ◌<◌, ◌≤◌, ◌≡◌, refl, List, length, Float}
use Rattle.std.proofs.Common.{add-one, arith, ap, ◌∙◌}
use Rattle.sums.specs.Fill.{written, written_same, length-written}
use Rattle.frame_rows.specs.Steps.{put_columns, put_blocks}

-- the loop that puts them: before its first turn, and after one more
pub put-none : (out : List Float) (from stride : ℕ) (f : ℕ → ℕ → Float) → out ≡ put_columns out from stride f 0
unfolding put_columns
put-none out from stride f = refl

pub put_more : (out left left' : List Float) (from stride : ℕ) (f : ℕ → ℕ → Float) (c : ℕ) → left ≡ put_columns out from stride f c → left' ≡ written left (from + c * stride) 4 (f c) → left' ≡ put_columns out from stride f (c + 1)
unfolding put_columns
put_more out left left' from stride f c e h = rw (add-one c, put_columns) (h ∙ ap (λ l. written l (from + c * stride) 4 (f c)) e)

-- numbers that are the same, of each column's four
pub put_same : (out : List Float) (from stride : ℕ) (f g : ℕ → ℕ → Float) (n : ℕ) → ((c : ℕ) → c < n → (k : ℕ) → k < 4 → f c k ≡ g c k) → put_columns out from stride f n ≡ put_columns out from stride g n
unfolding put_columns
put_same out from stride f g zero h = refl
put_same out from stride f g (suc c) h =
    ap (λ l. written l (from + c * stride) 4 (f c)) (put_same out from stride f g c (λ d j. h d (omega arith))) ∙ written_same (put_columns out from stride g c) (from + c * stride) 4 (f c) (g c) (h c (omega arith))

-- columns that end within the list leave its length
pub length-put : (out : List Float) (from stride : ℕ) (f : ℕ → ℕ → Float) (n : ℕ) → ((c : ℕ) → c < n → from + c * stride + 4 ≤ length out) → length (put_columns out from stride f n) ≡ length out
unfolding put_columns
length-put out from stride f zero h = refl
length-put out from stride f (suc c) h =
    let e = length-put out from stride f c (λ d j. h d (omega arith)) in
    length-written (put_columns out from stride f c) (from + c * stride) 4 (f c) (omega (arith, e, h c (omega arith))) ∙ e

-- blocks of a batch: before the first column, after one more, and numbers that are the same
pub blocks_none : (out : List Float) (from width rows size : ℕ) (f : ℕ → ℕ → ℕ → Float) → out ≡ put_blocks out from width rows size f 0
unfolding put_blocks
blocks_none out from width rows size f = refl

pub blocks_more : (out left left' : List Float) (from width rows size : ℕ) (f : ℕ → ℕ → ℕ → Float) (c : ℕ) → left ≡ put_blocks out from width rows size f c → left' ≡ put_columns left ((from * width + c) * rows + from * 4) (width * rows + 4) (f c) size → left' ≡ put_blocks out from width rows size f (c + 1)
unfolding put_blocks
blocks_more out left left' from width rows size f c e h = rw (add-one c, put_blocks) (h ∙ ap (λ l. put_columns l ((from * width + c) * rows + from * 4) (width * rows + 4) (f c) size) e)

pub blocks_same : (out : List Float) (from width rows size : ℕ) (f g : ℕ → ℕ → ℕ → Float) (n : ℕ) → ((c k : ℕ) → k < size → (r : ℕ) → r < 4 → f c k r ≡ g c k r) → put_blocks out from width rows size f n ≡ put_blocks out from width rows size g n
unfolding put_blocks
blocks_same out from width rows size f g zero h = refl
blocks_same out from width rows size f g (suc c) h =
    ap (λ l. put_columns l ((from * width + c) * rows + from * 4) (width * rows + 4) (f c) size) (blocks_same out from width rows size f g c h)
    ∙ put_same (put_blocks out from width rows size g c) ((from * width + c) * rows + from * 4) (width * rows + 4) (f c) (g c) size (h c)
