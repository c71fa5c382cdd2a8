-- A search of a range, as code makes it with `any`: whether a test holds of one of the numbers below n. Assumes nothing.
use Rattle.std.specs.Prelude.{ℕ, zero, suc, ◌+◌, ◌≤◌, ◌<◌, ◌≡◌, refl, Bool, ◌||◌, length, get_or, take}
use Rattle.std.specs.List.{list_any, range_with_len}
use Rattle.std.proofs.Common.{◌∙◌, arith, add-one, take_all}
use Rattle.std.proofs.lemmas.List.Folds.{list_any_more}
use Rattle.std.proofs.lemmas.List.FromFn.{length-range_with_len, get_or-range_with_len}
use Rattle.normal_blocks.specs.Somewhere.{somewhere}

module _ (test : ℕ → Bool) (n : ℕ) where
  first : (i : ℕ) → i ≤ n → list_any test (take i (range_with_len 0 n)) ≡ somewhere i test
  unfolding somewhere
  first zero h = refl
  first (suc i) h =
      let xs = range_with_len 0 n in
      let inside : i < length xs = omega (arith, length-range_with_len 0 n) in
      let more : list_any test (take (i + 1) xs) ≡ (list_any test (take i xs) || test (get_or xs i 0)) = list_any_more test xs i 0 inside in
      let at : get_or xs i 0 ≡ i = omega (arith, get_or-range_with_len 0 n i 0 h) in
      (rw add-one at more) ∙ rw (at, first i (omega arith))

  pub list_any-below : list_any test (range_with_len 0 n) ≡ somewhere n test
  list_any-below =
      let whole = take_all n (range_with_len 0 n) (omega (arith, length-range_with_len 0 n)) in
      cc (whole, first n (omega arith))
