-- `products::write` meets its contract: the numbers copied are the first n of `from`. Assumes nothing.
use Rattle.std.proofs.Common.{◌≡◌, ℕ, ◌+◌, ◌-◌, ◌≤◌, List, length, get_or, take, sym, ◌∙◌, arith, drop-drop}
use Rattle.std.proofs.lemmas.List.{get_or-take, length-take-le}
use Rattle.std.specs.Prelude.{Float}
use Rattle.std.specs.Float.{nan}
use Rattle.sums.specs.Sum.{tab}
use Rattle.sums.specs.Laws.{tab-same, tab-get_or}
use Rattle.sums.specs.Fill.{written}
use Rattle.products.proofs.write.Goals as goal

front : (n : ℕ) (l : List Float) → n ≤ length l → take n l ≡ tab n (λ k. get_or l k nan)
front n l h =
    sym (tab-get_or n (take n l) (length-take-le n l h)) ∙ tab-same n _ _ (λ k m. get_or-take n l k nan m)

pub returns : goal.returns
unfolding written
returns c =
    let a = c.args in
    let n : (a.at + a.n) - a.at ≡ a.n = omega arith in
    let e : c.copy_from_slice.new.self ≡ tab a.n (λ k. get_or a.from k nan) = c.copy_from_slice.ensures.after ∙ front a.n a.from (omega arith) in
    rw (n, e, drop-drop a.n a.at a.out.now)
