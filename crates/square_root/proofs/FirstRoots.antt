-- The roots of the first numbers of a list, where a call takes that part of it alone. Assumes nothing.
use Rattle.std.proofs.Common.{◌≡◌, ℕ, ◌+◌, ◌-◌, ◌<◌, ◌≤◌, List, ◌++◌, length, get_or, take, drop, ap, ◌∙◌, arith, length-append, length-drop, get_or-append-add}
use Rattle.std.proofs.Math.ListN.{get_or-append}
use Rattle.std.proofs.lemmas.List.{get_or-drop, get_or-take, length-take-le}
use Rattle.std.specs.Prelude.{Float}
use Rattle.std.specs.Float.{nan}
use Rattle.square_root.specs.Computed.{square_root}
use Rattle.square_root.specs.Many.{RootsOf}

pub first_roots : (n : ℕ) (xs ys : List Float) → n ≤ length xs → RootsOf (length (take n xs)) (take n xs) ys → RootsOf n xs (ys ++ drop n xs)
first_roots n xs ys h r = record { long = simp length-append (omega (arith, size, length-drop n xs)); each = each; rest = rest }
  where
    taken : length (take n xs) ≡ n
    taken = length-take-le n xs h

    size : length ys ≡ n
    size = r.long ∙ taken

    each : (k : ℕ) → k < n → get_or (ys ++ drop n xs) k nan ≡ square_root (get_or xs k nan)
    each k l =
        get_or-append ys (drop n xs) nan k (omega (arith, size)) ∙ r.each k (omega (arith, taken)) ∙ ap square_root (get_or-take n xs k nan l)

    rest : (k : ℕ) → n ≤ k → get_or (ys ++ drop n xs) k nan ≡ get_or xs k nan
    rest k l =
        let e : k ≡ length ys + (k - n) = omega (arith, size) in
        let w : n + (k - n) ≡ k = omega arith in
        ap (λ i. get_or (ys ++ drop n xs) i nan) e ∙ get_or-append-add ys (drop n xs) (k - n) nan ∙ get_or-drop n xs (k - n) nan ∙ ap (λ i. get_or xs i nan) w
