-- Laws of the target: a frame added at its offset, an unmapped frame, and equal entries. Assumes nothing.
use Rattle.std.specs.Prelude.{ℕ, ◌<◌, ◌≡◌, refl, List, Float, Option, Some, None}
use Rattle.terms.specs.Terms.{add_all, segment, block}
use Rattle.terms.proofs.Laws.{add_all-none, segment-same, block_same}
use Rattle.normal_blocks.specs.Target.{hessian_at, gradient_at}

module _ (width : ℕ) (p : Option ℕ) where
  -- a frame at an offset
  module _ (offset : ℕ) (mapped : p ≡ Some offset) where
    pub hessian_mapped : (n : ℕ) (e : ℕ → ℕ → Float) (h h' : List Float) → h' ≡ add_all h (block n offset width e) → h' ≡ add_all h (hessian_at n width p e)
    unfolding hessian_at
    hessian_mapped n e h h' q = rw mapped q

    pub gradient_mapped : (v : ℕ → Float) (g g' : List Float) → g' ≡ add_all g (segment offset width v) → g' ≡ add_all g (gradient_at width p v)
    unfolding gradient_at
    gradient_mapped v g g' q = rw mapped q

  -- a frame that goes nowhere
  module _ (nowhere : p ≡ None) where
    pub hessian_unmapped : (n : ℕ) (e : ℕ → ℕ → Float) (h : List Float) → h ≡ add_all h (hessian_at n width p e)
    unfolding hessian_at
    hessian_unmapped n e h = rw nowhere (add_all-none h)

    pub gradient_unmapped : (v : ℕ → Float) (g : List Float) → g ≡ add_all g (gradient_at width p v)
    unfolding gradient_at
    gradient_unmapped v g = rw nowhere (add_all-none g)

-- entries that are worked out in two ways
pub hessian_same : (n width : ℕ) (p : Option ℕ) (e e' : ℕ → ℕ → Float) → ((i j : ℕ) → i < width → j < width → e i j ≡ e' i j)
    → hessian_at n width p e ≡ hessian_at n width p e'
unfolding hessian_at
hessian_same n width (Some offset) e e' same = block_same n offset width e e' same
hessian_same n width None e e' same = refl

pub gradient_same : (width : ℕ) (p : Option ℕ) (v v' : ℕ → Float) → ((i : ℕ) → i < width → v i ≡ v' i) → gradient_at width p v ≡ gradient_at width p v'
unfolding gradient_at
gradient_same width (Some offset) v v' same = segment-same offset width v v' same
gradient_same width None v v' same = refl
