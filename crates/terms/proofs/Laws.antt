-- Laws of terms: for loops that add, over the number of turns. Assumes nothing.
use Rattle.std.specs.Prelude.{ℕ, zero, suc, ◌+◌, ◌*◌, ◌≤◌, ◌<◌, ◌≡◌, refl, List, [], ◌∷◌, ◌++◌, length, Float}
use Rattle.std.proofs.Common.{sym, ap, ap₂, ◌∙◌, add-zero, suc-mul, mul-le-mul_right, add-one, arith, length-set}
use Rattle.terms.specs.Terms.{Term, cell_of, add_at, add_all, upto, cell_at, segment, column_at, block}

pub length-add_all : (h : List Float) (ts : List Term) → length (add_all h ts) ≡ length h
unfolding add_all
length-add_all h [] = refl
length-add_all h (t ∷ ts) = length-add_all (add_at h t.cell t.value) ts ∙ length-set h t.cell _

pub add_all-none : (h : List Float) → h ≡ add_all h []
unfolding add_all
add_all-none h = refl

pub add_all-append : (h : List Float) (s t : List Term) → add_all h (s ++ t) ≡ add_all (add_all h s) t
unfolding add_all
add_all-append h [] t = refl
add_all-append h (x ∷ s) t = add_all-append (add_at h x.cell x.value) s t

-- ---- every loop that counts up and adds: before its first turn, and after turn k
pub upto-none : (h : List Float) (f : ℕ → List Term) → h ≡ add_all h (upto 0 f)
unfolding add_all upto
upto-none h f = refl

pub upto_more : (h₀ h h' : List Float) (f : ℕ → List Term) (k : ℕ) → h ≡ add_all h₀ (upto k f) → h' ≡ add_all h (f k)
    → h' ≡ add_all h₀ (upto (k + 1) f)
unfolding upto
upto_more h₀ h h' f k e g =
    g ∙ ap (λ (l : List Float). add_all l (f k)) e ∙ rw (add-one, upto) (sym (add_all-append h₀ (upto k f) (f k)))

-- turns 0 to size - 1 of g that are those of f from turn `from` on, added after the turns before them
pub upto-joined : (h₀ h : List Float) (f g : ℕ → List Term) (from size : ℕ) → h ≡ add_all h₀ (upto from f) → ((k : ℕ) → k < size → g k ≡ f (from + k))
    → add_all h (upto size g) ≡ add_all h₀ (upto (from + size) f)
unfolding upto
upto-joined h₀ h f g from zero e same = sym (upto-none h g) ∙ rw add-zero e
upto-joined h₀ h f g from (suc size) e same =
    let before = upto-joined h₀ h f g from size e (λ k l. same k (omega arith)) in
    let next : from + suc size ≡ from + size + 1 = omega arith in
    rw next (upto_more h₀ (add_all h (upto size g)) (add_all h (upto (suc size) g)) f (from + size) before
    (add_all-append h (upto size g) (g size) ∙ ap (add_all (add_all h (upto size g))) (same size (omega arith))))

-- one number added to cell base + r is turn r of a segment
pub segment_more : (h₀ h : List Float) (base : ℕ) (e : ℕ → Float) (r : ℕ) (v : Float) → h ≡ add_all h₀ (upto r (cell_at base e)) → v ≡ e r
    → add_at h (base + r) v ≡ add_all h₀ (upto (r + 1) (cell_at base e))
unfolding add_all cell_at
segment_more h₀ h base e r v p q = upto_more h₀ h _ (cell_at base e) r p (rw q)

pub segment_all : (h₀ h : List Float) (base width r : ℕ) (e : ℕ → Float) → r ≡ width → h ≡ add_all h₀ (upto r (cell_at base e))
    → h ≡ add_all h₀ (segment base width e)
unfolding segment
segment_all h₀ h base width r e q p = rw q at p

-- one column added is turn c of a block
pub block_more : (h₀ h h' : List Float) (n offset width : ℕ) (e : ℕ → ℕ → Float) (c : ℕ) → h ≡ add_all h₀ (upto c (column_at n offset width e))
    → h' ≡ add_all h (segment (cell_of n offset (offset + c)) width (λ r. e r c)) → h' ≡ add_all h₀ (upto (c + 1) (column_at n offset width e))
unfolding column_at
block_more h₀ h h' n offset width e c p q = upto_more h₀ h h' (column_at n offset width e) c p q

pub block_all : (h₀ h : List Float) (n offset width c : ℕ) (e : ℕ → ℕ → Float) → c ≡ width → h ≡ add_all h₀ (upto c (column_at n offset width e))
    → h ≡ add_all h₀ (block n offset width e)
unfolding block
block_all h₀ h n offset width c e q p = rw q at p

-- ---- equal entries
pub upto-same : {A : Type 0} (k : ℕ) (f g : ℕ → List A) → ((i : ℕ) → i < k → f i ≡ g i) → upto k f ≡ upto k g
unfolding upto
upto-same zero f g h = refl
upto-same (suc k) f g h = ap₂ ◌++◌ (upto-same k f g (λ i l. h i (omega arith))) (h k (omega arith))

pub segment-same : (offset width : ℕ) (e e' : ℕ → Float) → ((i : ℕ) → i < width → e i ≡ e' i) → segment offset width e ≡ segment offset width e'
unfolding segment cell_at
segment-same offset width e e' h =
    upto-same width _ _ (λ i l. ap (λ (v : Float). record { cell = offset + i; value = v } ∷ []) (h i l))

pub block_same : (n offset width : ℕ) (e e' : ℕ → ℕ → Float) → ((i j : ℕ) → i < width → j < width → e i j ≡ e' i j)
    → block n offset width e ≡ block n offset width e'
unfolding block column_at
block_same n offset width e e' h = upto-same width _ _ (λ j l. segment-same _ width _ _ (λ i k. h i j k l))

-- ---- places: of columns of n cells, column a ends before column b begins
pub column-before : (n a b : ℕ) → a < b → a * n + n ≤ b * n
column-before n a b h = rw suc-mul at (mul-le-mul_right n h)
