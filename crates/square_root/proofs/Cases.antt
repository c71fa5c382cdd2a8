-- What `sqrt` and `many::settled` return is `square_root`, case by case. Assumes nothing.
use Rattle.std.proofs.Common.{◌≡◌, ℕ, ◌*◌, ◌^◌, ◌<◌, true, T, sym, subst}
use lib.Ieee.{Float, binary64, fits, of_bits, to_bits, ne}
use lib.Ieee.Bits.{of_bits-to_bits}
use Rattle.square_root.specs.SquareRoot.{IsSquareRoot}
use Rattle.square_root.specs.Computed.{square_root}
use Rattle.square_root.specs.Steps.{RootBits, units_of}
use Rattle.square_root.proofs.Laws.{square_root_only}
use Rattle.square_root.proofs.Patterns as P

module _ (x : Float) (held : T (fits binary64 x)) where
  -- a NaN, as it is
  pub nan_is : ne x x ≡ true → x ≡ square_root x
  nan_is e = square_root_only x x held (subst (λ (y : Float). IsSquareRoot binary64 y y) (sym (P.is_nan_lem x e)) P.at-nan)

  -- what is finite and above zero, by its pattern
  pub bits_is : (r : ℕ) → 0 < to_bits binary64 x → to_bits binary64 x < 0x7ff0_0000_0000_0000 → RootBits (units_of (to_bits binary64 x) * 2 ^ 1074) r → of_bits binary64 r ≡ square_root x
  bits_is r some finite w =
      square_root_only x (of_bits binary64 r) held (subst (λ (y : Float). IsSquareRoot binary64 y (of_bits binary64 r)) (of_bits-to_bits binary64 x held) (P.main (to_bits binary64 x) r some finite w))
