-- A part of a list that new numbers are put into. Assumes nothing.
use Rattle.std.specs.Prelude.{ℕ, zero, suc, ◌≡◌, List, ◌∷◌, replicate, Float}
use Rattle.std.proofs.Common.{ap, refl, drop-drop}
use borrow.Rule.Slice.PartMut.{put_mid}
use Rattle.sums.specs.Sum.{zero_f, tab}
use Rattle.sums.specs.Fill.{written}

-- n numbers f 0, .., f (n - 1) put into the part of m from a place on
pub part-put : (out new : List Float) (at m n : ℕ) (f : ℕ → Float) → m ≡ n → new ≡ tab n f → put_mid at m out new ≡ written out at n f
unfolding written
part-put out new at m n f e h = rw (e, h, drop-drop n at out)

-- zeros
pub zeros : (n : ℕ) → replicate n zero_f ≡ tab n (λ k. zero_f)
zeros zero = refl
zeros (suc n) = ap (λ (l : List Float). zero_f ∷ l) (zeros n)
