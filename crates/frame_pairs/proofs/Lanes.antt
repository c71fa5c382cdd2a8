-- Laws of numbers that are put into a pair: one more of them, a block's columns one after the other, and a whole part. Assumes nothing.
use Prim.Native.Nat.{ℕ, suc, ◌+◌, ◌*◌, ◌<◌}
use native.Mathlib.Nat.{not-suc-le-zero, add-zero, mul-le-mul_left}
use native.Mathlib.Omega.{arith}
use mathlib.Core.Path.{◌≡◌, refl, ◌∙◌}
use mathlib.Core.Logic.{◌≢◌}
use Rattle.std.specs.Prelude.{◌⊎◌}
use Rattle.std.proofs.Common.{inl, inr}
use mathlib.Core.List.{List}
use lib.ListN.{length, set, length-set}
use lib.Seq.{get_or-set_same, get_or-set_other}
use lib.Ieee.{Float, nan}
use Rattle.sums.specs.Laws.{up_to}
use Rattle.lists.specs.Part.{◌!◌}
use Rattle.block_transforms.specs.Transform.{ROOM, entry_from}
use Rattle.point_moments.specs.declared.scatter.Centred.{Centred}
use Rattle.plane_fit.specs.Fit.{frame_at, action_at}
use Rattle.frame_pairs.specs.Pairs.{lane, Put, Columns, block_in, vector_in, cost_in, Holds, Part, PARTS, Parts}

-- ---- a loop that puts: before its first turn, and after one more
module _ (k e : ℕ) (v : ℕ → Float) (cells₀ : List Float) where
  pub put-none : Put k e 0 v cells₀ cells₀
  put-none = record { long = refl; here = λ i l. absurd (not-suc-le-zero l); before = λ d l. refl; behind = λ d l. refl; other = λ j d l o. refl }

  pub put_more : (i : ℕ) (cells : List Float) (w : Float) → k < 2 → 2 * (e + i) + k < length cells → w ≡ v i → Put k e i v cells₀ cells → Put k e (i + 1) v cells₀ (set cells (2 * (e + i) + k) w)
  unfolding lane
  put_more i cells w l inside is p =
      let place = 2 * (e + i) + k in
      record {
        long = length-set cells place w ∙ p.long;
        here = up_to {P = λ d. set cells place w ! (2 * (e + d) + k) ≡ v d} i (get_or-set_same cells place w nan inside ∙ is)
            (λ d b. get_or-set_other cells place (2 * (e + d) + k) w nan (λ q. omega arith) ∙ p.here d b);
        before = λ d b. get_or-set_other cells place (2 * d + k) w nan (λ q. omega arith) ∙ p.before d b;
        behind = λ d b. get_or-set_other cells place (2 * d + k) w nan (λ q. omega arith) ∙ p.behind d (omega arith);
        other = λ j d b o. get_or-set_other cells place (2 * d + j) w nan (λ q. o (omega arith)) ∙ p.other j d b o;
      }

-- ---- a part of three or five columns

-- the numbers of a pair fit in memory
pub parts_fit : (cols n : ℕ) → (cols ≡ 3) ⊎ (cols ≡ 5) → n ≡ PARTS cols → n * 8 < 9223372036854775808
parts_fit cols n (inl three) e = rw (e, three) (omega arith)
parts_fit cols n (inr five) e = rw (e, five) (omega arith)

pub five_else : (cols : ℕ) → (cols ≡ 3) ⊎ (cols ≡ 5) → cols ≢ 3 → cols ≡ 5
five_else cols (inl three) not-three = absurd (not-three three)
five_else cols (inr five) not-three = five

-- the whole part: block, vector and cost
pub record Whole (cols k : ℕ) (f : ℕ → ℕ → Float) (g : ℕ → Float) (x : Float) (cells₀ cells : List Float) : Type 0 where
  pub long : length cells ≡ length cells₀
  pub block : (i j : ℕ) → i < cols → j < cols → block_in cols cells k i j ≡ f i j
  pub vector : (i : ℕ) → i < cols → vector_in cols cells k i ≡ g i
  pub cost : cost_in cols cells k ≡ x
  pub other : (l d : ℕ) → l < 2 → l ≢ k → lane cells l d ≡ lane cells₀ l d

module _ (cols k : ℕ) (f : ℕ → ℕ → Float) (cells₀ : List Float) where
  pub columns-none : Columns cols k f cells₀ 0 cells₀
  columns-none = record { long = refl; block = λ d l. absurd (not-suc-le-zero l); other = λ l d b o. refl }

  pub columns-all : {j : ℕ} {cells : List Float} → j ≡ cols → Columns cols k f cells₀ j cells → Columns cols k f cells₀ cols cells
  columns-all e p = rw e at p

  -- numbers that are put behind the first columns leave these
  kept : (j e width : ℕ) (v : ℕ → Float) {cells cells' : List Float} → e ≡ cols * j → Put k e width v cells cells' → (d : ℕ) → d < j → (i : ℕ) → i < cols → block_in cols cells' k i d ≡ block_in cols cells k i d
  unfolding block_in
  kept j e width v at p d b i l = p.before (cols * d + i) (omega (arith, mul-le-mul_left {m = suc d} {n = j} cols b))

  pub columns_more : (j e : ℕ) (v : ℕ → Float) {cells cells' : List Float} → e ≡ cols * j → Put k e cols v cells cells' → ((i : ℕ) → i < cols → v i ≡ f i j)
      → Columns cols k f cells₀ j cells → Columns cols k f cells₀ (j + 1) cells'
  unfolding block_in
  columns_more j e v {cells} {cells'} at p are before = record {
    long = p.long ∙ before.long;
    block = up_to {P = λ d. (i : ℕ) → i < cols → block_in cols cells' k i d ≡ f i d} j (λ i l. rw at at (p.here i l) ∙ are i l) (λ d b i l. kept j e cols v at p d b i l ∙ before.block d b i l);
    other = λ l d b o. p.other l d b o ∙ before.other l d b o;
  }

  -- then the vector of entries g, and the cost x
  pub part_all : (e c size : ℕ) (v g : ℕ → Float) (x : Float) {cells cells' : List Float} → e ≡ cols * cols → c ≡ cols * cols + cols → k < 2 → length cells₀ ≡ size → 2 * c + k < size
      → Columns cols k f cells₀ cols cells → Put k e cols v cells cells' → ((i : ℕ) → i < cols → v i ≡ g i) → Whole cols k f g x cells₀ (set cells' (2 * c + k) x)
  unfolding block_in vector_in cost_in
  part_all e c size v g x {cells} {cells'} ea ca l is inside block p are =
      let room : 2 * (c + 0) + k < length cells' = omega (arith, p.long, block.long) in
      let q = rw (add-zero c) at (put_more k c (λ i. x) cells' 0 cells' x l room refl (put-none k c (λ i. x) cells')) in
      record {
        long = q.long ∙ p.long ∙ block.long;
        block = λ i j li lj. q.before (cols * j + i) (omega (arith, mul-le-mul_left {m = suc j} {n = cols} cols lj)) ∙ kept cols e cols v ea p j lj i li ∙ block.block j lj i li;
        vector = λ i h. q.before (cols * cols + i) (omega arith) ∙ (rw ea at (p.here i h)) ∙ are i h;
        cost = rw (← ca) (rw add-zero at (q.here 0 (omega arith)));
        other = λ j d b o. q.other j d b o ∙ p.other j d b o ∙ block.other j d b o;
      }

-- ---- a frame's part stays where its numbers do
holds_kept : (cols : ℕ) (t : ℕ → ℕ → Float) (x : List Float) (f : Centred) (n : List Float) (offset weight : Float) (k : ℕ) {cells cells' : List Float} → ((d : ℕ) → lane cells' k d ≡ lane cells k d)
    → Holds cols t x f n offset weight k cells → Holds cols t x f n offset weight k cells'
unfolding block_in vector_in cost_in
holds_kept cols t x f n offset weight k same p = record {
  block = λ i j li lj. same (cols * j + i) ∙ p.block i j li lj;
  vector = λ i l. same (cols * cols + i) ∙ p.vector i l;
  cost = same (cols * cols + cols) ∙ p.cost;
}

-- ---- the parts of the first frames: none, and one more
module _ (cols : ℕ) (frames actions transforms n : List Float) (offset weight : Float) where
  pub parts_none : (cells : List Float) → length cells ≡ PARTS cols → Parts cols frames actions transforms n offset weight 0 cells
  parts_none cells long = record { long = long; each = λ k l. absurd (not-suc-le-zero l) }

  pub parts_more : (k : ℕ) (x : List Float) (f : Centred) {cells cells' : List Float} → k < 2 → x ≡ action_at actions k → f ≡ frame_at frames k
      → Part cols (entry_from transforms (ROOM * k) 6) x f n offset weight k cells cells' → Parts cols frames actions transforms n offset weight k cells → Parts cols frames actions transforms n offset weight (k + 1) cells'
  parts_more k x f {cells} {cells'} l ex ef p before = record {
    long = p.long ∙ before.long;
    each = up_to {P = λ j. Holds cols (entry_from transforms (ROOM * j) 6) (action_at actions j) (frame_at frames j) n offset weight j cells'} k (rw (ex, ef) at p.holds)
        (λ j b. holds_kept cols _ _ _ n offset weight j (λ d. p.other j d (omega arith) (λ z. omega arith)) (before.each j b));
  }
