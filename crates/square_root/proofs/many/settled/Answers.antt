-- `square_root::many::settled` meets its contract: `Cases.antt`. Assumes nothing.
use Rattle.std.proofs.Common.{◌≡◌, ℕ, ◌+◌, ◌*◌, ◌/◌, ◌%◌, ◌^◌, ◌<◌, ◌≤◌, T, sym, subst, arith}
use lib.Ieee.{binary64, fits, to_bits}
use Rattle.square_root.specs.Many.{pattern_digits, digits_of}
use Rattle.square_root.specs.Steps.{Root}
use Rattle.square_root.proofs.Normal.{range}
use Rattle.square_root.proofs.Patterns.{is_no_nan, root_no_nan}
use Rattle.square_root.proofs.Cases.{nan_is, bits_is}
use Rattle.square_root.proofs.many.settled.Goals as goal
use Rattle.square_root.proofs.many.settled.Goals.{Else-x, Start}

-- what owning an `f64` tells: the format holds it
held : (c : Start) → T (fits binary64 c.args.x)
held c = subst T (sym c.well_formed.0.1) tt

pub returns-then-x : goal.returns-then-x
returns-then-x c = nan_is c.args.x (held (goal.at.returns-then-x c).Start) c.if-x.true

pub float_to_bits-b : goal.float_to_bits-b
float_to_bits-b c = is_no_nan c.args.x c.if-x.false

-- the digits of a number that is none of the cases before
digits-is : (c : Else-x) → digits_of c.args.x ≡ pattern_digits (to_bits binary64 c.args.x)
unfolding digits_of
digits-is c = rw c.if-x.false

pub normal_bits-requires : goal.normal_bits-requires
normal_bits-requires c =
    let b = to_bits binary64 c.args.x in
    let r = range (b % 2 ^ 52 + 2 ^ 52) (b / 2 ^ 52 + 1073) (omega arith) (omega arith) in
    let e = digits-is (goal.at.normal_bits-requires c).Else-x in (
      c.if-b-lt4503599627370496.false,
      c.if-b-ge9218868437227405312.false,
      subst (λ (n : ℕ). Root (n * 2 ^ 54) c.args.root) e
          (c.requires (subst (λ (n : ℕ). 2 ^ 52 ≤ n) (sym e) r.0) (subst (λ (n : ℕ). n < 2 ^ 54) (sym e) (omega (arith, r.1))) c.if-doubt-ne0.false),
    )

pub float_from_bits-result : goal.float_from_bits-result
float_from_bits-result c = root_no_nan _ c.normal_bits.result c.normal_bits.ensures

pub returns : goal.returns
returns c =
    let some : 0 < to_bits binary64 c.args.x = omega (arith, c.if-b-lt4503599627370496.false) in
    bits_is c.args.x (held (goal.at.returns c).Start) c.normal_bits.result some c.if-b-ge9218868437227405312.false c.normal_bits.ensures
