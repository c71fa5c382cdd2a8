-- Whether the numbers of sets are finite, four numbers at a time and set after set. Assumes nothing.
use Prim.Native.Nat.{ℕ, ◌+◌, ◌*◌, ◌≤◌}
use mathlib.Core.Path.{◌≡◌, refl, sym, ap, ◌∙◌}
use mathlib.Core.Bool.{Bool, true, false, ◌&&◌, cond, and-true}
use mathlib.Core.List.{List, [], ◌∷◌}
use native.Mathlib.Nat.{suc-ne-zero}
use native.Mathlib.Omega.{arith}
use lib.ListN.{length, take, drop, take-append-drop}
use lib.Seq.{drop-drop}
use lib.Ieee.{Float}
use lib.Ieee.Scale.{finite}
use Rattle.sums.specs.Laws.{tab-get_or}
use Rattle.lists.specs.Part.{◌!◌}
use Rattle.validate.specs.Finite.{all_finite}
use Rattle.validate.proofs.Laws.{finite_both}
use Rattle.point_moments.specs.Moments.{MOMENTS}
use Rattle.plane_fit.specs.Records.{record_of, record_is}

-- the first four of some tests, and then the others
four-first : (a b c d others : Bool) → a && (b && (c && (d && others))) ≡ cond (a && b && (c && d)) others false
four-first false b c d others = refl
four-first true false c d others = refl
four-first true true false d others = refl
four-first true true true false others = refl
four-first true true true true others = refl

abbrev pub four : List Float → ℕ → Bool
four l k = finite (l ! k) && finite (l ! (k + 1)) && (finite (l ! (k + 2)) && finite (l ! (k + 3)))

pub in_fours : (l : List Float) → length l ≡ MOMENTS → all_finite l ≡ cond (four l 0) (cond (four l 4) (cond (four l 8) (finite (l ! 12)) false) false) false
unfolding all_finite
in_fours l e =
    let f : ℕ → Bool = λ k. finite (l ! k) in
    let last = f 12 && true in
    let third = f 8 && (f 9 && (f 10 && (f 11 && last))) in
    let second = f 4 && (f 5 && (f 6 && (f 7 && third))) in
    ap all_finite (sym (tab-get_or MOMENTS l e)) ∙ four-first (f 0) (f 1) (f 2) (f 3) second
    ∙ ap (λ (b : Bool). cond (four l 0) b false)
    (four-first (f 4) (f 5) (f 6) (f 7) third ∙ ap (λ (b : Bool). cond (four l 4) b false) (four-first (f 8) (f 9) (f 10) (f 11) last ∙ ap (λ (b : Bool). cond (four l 8) b false) (and-true (f 12))))

-- no numbers
pub none_finite : (l : List Float) → length l ≡ 0 → all_finite l ≡ true
unfolding all_finite
none_finite [] e = refl
none_finite (x ∷ l) e = absurd (suc-ne-zero (length l) e)

-- one set more
pub sets_more : (l : List Float) (k : ℕ) → MOMENTS * k + MOMENTS ≤ length l → all_finite (drop (MOMENTS * k) l) ≡ all_finite (record_of MOMENTS l k) && all_finite (drop (MOMENTS * (k + 1)) l)
sets_more l k h =
    let rest = drop (MOMENTS * k) l in
    let next : MOMENTS * k + MOMENTS ≡ MOMENTS * (k + 1) = omega arith in
    ap all_finite (sym (take-append-drop MOMENTS rest)) ∙ finite_both (take MOMENTS rest) (drop MOMENTS rest)
    ∙ rw (record_is MOMENTS l k h, drop-drop MOMENTS (MOMENTS * k) l, next)
