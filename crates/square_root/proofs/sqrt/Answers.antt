-- `square_root::sqrt` meets its contract: `Patterns.antt` has each case. Assumes nothing.
use Rattle.std.proofs.Common.{◌≡◌, ℕ, ◌^◌, ◌<◌, T, sym, refl, ap, ◌∙◌, subst, arith, rules}
use lib.Ieee.{Float, nan, binary64, fits, of_bits, to_bits, neg, div}
use lib.Ieee.Bits.{of_bits-to_bits}
use Rattle.square_root.specs.SquareRoot.{IsSquareRoot}
use Rattle.square_root.specs.Computed.{square_root}
use Rattle.square_root.proofs.Laws.{square_root_only}
use Rattle.square_root.proofs.Patterns as P
use Rattle.square_root.proofs.Cases.{nan_is, bits_is}
use Rattle.square_root.proofs.sqrt.Goals as goal
use Rattle.square_root.proofs.sqrt.Goals.{Start}

-- what owning an `f64` tells: the format holds it
held : (c : Start) → T (fits binary64 c.args.x)
held c = subst T (sym c.well_formed.0.1) tt

-- what is IEEE 754's root of the argument is `square_root` of it
only : (c : Start) {r : Float} → IsSquareRoot binary64 c.args.x r → r ≡ square_root c.args.x
only c {r} p = square_root_only c.args.x r (held c) p

-- where the argument has a pattern whose value is its own root, what the code returns has to have that pattern
its_own : (c : Start) {r : Float} (b : ℕ) → to_bits binary64 c.args.x ≡ b → IsSquareRoot binary64 (of_bits binary64 b) (of_bits binary64 b) → T (fits binary64 r) → to_bits binary64 r ≡ b → r ≡ square_root c.args.x
its_own c {r} b e w h g =
    let value : (y : Float) → T (fits binary64 y) → to_bits binary64 y ≡ b → of_bits binary64 b ≡ y = λ y t k. ap (of_bits binary64) (sym k) ∙ of_bits-to_bits binary64 y t in
    sym (value r h g) ∙ only c (subst (λ (y : Float). IsSquareRoot binary64 y (of_bits binary64 b)) (value c.args.x (held c) e) w)

zero_by_zero : div binary64 (of_bits binary64 0) (of_bits binary64 0) ≡ nan
unfolding div of_bits
zero_by_zero = refl

some : (b : ℕ) → (b ≡ 0 → ⊥) → 0 < b
some b h = omega arith

pub float_to_bits-b : goal.float_to_bits-b
float_to_bits-b c = P.is_no_nan c.args.x c.if-x.false

pub float_from_bits-result : goal.float_from_bits-result
float_from_bits-result c = P.root_no_nan _ c.sqrt_bits.result c.sqrt_bits.ensures

pub returns-then-x : goal.returns-then-x
returns-then-x c = nan_is c.args.x (held (goal.at.returns-then-x c).Start) c.if-x.true

pub returns-then-b : goal.returns-then-b
returns-then-b c =
    let s = (goal.at.returns-then-b c).Start in
    its_own s (2 ^ 63) c.if-b.true P.at-minus-zero (search (rules, held s)) (unfold to_bits of_bits neg in omega arith)

pub returns-else-b : goal.returns-else-b
returns-else-b c =
    let s = (goal.at.returns-else-b c).Start in
    only s (subst (λ (y : Float). IsSquareRoot binary64 c.args.x y) (sym zero_by_zero) (P.below_zero c.args.x (held s) c.if-b-ge9223372036854775808.true c.if-b.false))

pub returns-then-b-eq0 : goal.returns-then-b-eq0
returns-then-b-eq0 c =
    let s = (goal.at.returns-then-b-eq0 c).Start in
    its_own s 0 c.if-b-eq0.true P.at-plus-zero (search (rules, held s)) (unfold to_bits of_bits neg in omega arith)

pub returns-then-b-ge9218868437227405312 : goal.returns-then-b-ge9218868437227405312
returns-then-b-ge9218868437227405312 c =
    let s = (goal.at.returns-then-b-ge9218868437227405312 c).Start in
    let b = to_bits binary64 c.args.x in
    its_own s b refl (P.at_top b c.if-b-ge9218868437227405312.true c.if-b-ge9223372036854775808.false) (held s) refl

pub returns-else-b-ge9218868437227405312 : goal.returns-else-b-ge9218868437227405312
returns-else-b-ge9218868437227405312 c =
    bits_is c.args.x (held (goal.at.returns-else-b-ge9218868437227405312 c).Start) c.sqrt_bits.result (some _ c.if-b-eq0.false) c.if-b-ge9218868437227405312.false c.sqrt_bits.ensures
