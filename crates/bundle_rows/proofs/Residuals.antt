-- The residuals of the site points and then of the fixed ones are those of all rows. Assumes nothing.
use Prim.Native.Nat.{ℕ, ◌+◌, ◌-◌, ◌<◌, ◌≤◌}
use mathlib.Core.Path.{◌≡◌, refl, ap, ◌∙◌}
use mathlib.Core.Bool.{Bool, true, false}
use mathlib.Core.List.{List, ◌++◌}
use native.Mathlib.Nat.{zero-add}
use native.Mathlib.Omega.{arith}
use lib.Dec.{ltb}
use lib.ListN.{length, get_or}
use lib.Ieee.{Float, nan}
use borrow.Author.Tests.{ltb-true, ltb-false}
use Rattle.sums.specs.Sum.{tab}
use Rattle.sums.specs.Fill.{first_all, written, written-before, written_inside, length-written}
use Rattle.bundle_points.specs.Points.{point_count, difference}
use Rattle.bundle_points.specs.Steps.{Whole}
use Rattle.bundle_points.proofs.Laws.{site_row, fixed_row_lem}
use Rattle.bundle_rows.specs.Rows.{residual_at}

module _ (p f : List Float) (whole : Whole p) (fixed_whole : Whole f) (q n : List Float) (info : Float) where
  site : (k : ℕ) → k < point_count p → residual_at p q n info k ≡ residual_at (p ++ f) q n info k
  unfolding residual_at difference
  site k h = rw (site_row p f whole fixed_whole 0 k (omega arith) h, site_row p f whole fixed_whole 1 k (omega arith) h, site_row p f whole fixed_whole 2 k (omega arith) h)

  fixed : (k : ℕ) → k < point_count f → residual_at f q n info k ≡ residual_at (p ++ f) q n info (point_count p + k)
  unfolding residual_at difference
  fixed k h = rw (fixed_row_lem p f whole fixed_whole 0 k (omega arith) h, fixed_row_lem p f whole fixed_whole 1 k (omega arith) h, fixed_row_lem p f whole fixed_whole 2 k (omega arith) h)

  module _ (l m r : List Float) (size : length l ≡ point_count p + point_count f) (first : m ≡ written l 0 (point_count p) (residual_at p q n info))
      (last : r ≡ written m (point_count p) (point_count f) (residual_at f q n info)) where
    m_size : length m ≡ point_count p + point_count f
    m_size = ap length first ∙ length-written l 0 (point_count p) (residual_at p q n info) (omega arith) ∙ size

    r-size : length r ≡ point_count p + point_count f
    r-size = ap length last ∙ length-written m (point_count p) (point_count f) (residual_at f q n info) (omega (arith, m_size)) ∙ m_size

    row : (k : ℕ) → k < point_count p + point_count f → get_or r k nan ≡ residual_at (p ++ f) q n info k
    row k h = go (ltb k (point_count p)) refl
      where
        read : (v w : List Float) → v ≡ w → get_or v k nan ≡ get_or w k nan
        read v w e = ap (λ (x : List Float). get_or x k nan) e

        go : (b : Bool) → ltb k (point_count p) ≡ b → get_or r k nan ≡ residual_at (p ++ f) q n info k
        go true t =
            let s : k < point_count p = ltb-true k (point_count p) t in
            read r _ last ∙ written-before m (point_count p) (point_count f) (residual_at f q n info) k (omega (arith, m_size)) s
            ∙ read m _ first ∙ rw (zero-add k) at (written_inside l 0 (point_count p) (residual_at p q n info) k (omega arith) s) ∙ site k s
        go false t =
            let s : point_count p ≤ k = ltb-false k (point_count p) t in
            let z : point_count p + (k - point_count p) ≡ k = omega arith in
            read r _ last ∙ rw z at (written_inside m (point_count p) (point_count f) (residual_at f q n info) (k - point_count p) (omega (arith, m_size)) (omega arith) ∙ fixed (k - point_count p) (omega arith))

    pub all_rows : r ≡ tab (point_count p + point_count f) (residual_at (p ++ f) q n info)
    all_rows = first_all (point_count p + point_count f) r (residual_at (p ++ f) q n info) r-size row
