-- Which patterns are NaNs, by the low 63 bits. Assumes nothing.
use mathlib.Core.Path.{◌≡◌, refl, sym, ◌∙◌}
use mathlib.Core.Bool.{true, false}
use Prim.Native.Nat.{ℕ, ◌%◌, ◌^◌, ◌≤◌, ◌<◌}
use borrow.Author.Tests.{lt-ltb, le-ltb}
use lib.Ieee.{Float, nan, inf, fin, binary64, of_bits, nan_bits, is_nan, div}
use lib.Ieee.Bits.{nan_bits_is, nan_bits_above}

-- the pattern of an infinity, without its sign
abbrev pub top : ℕ
top = 0x7ff0_0000_0000_0000

pub is_nan_lem : (b : ℕ) → top < b % 2 ^ 63 → nan_bits binary64 b ≡ true
is_nan_lem b h = nan_bits_above binary64 b ∙ lt-ltb top (b % 2 ^ 63) h

pub no_nan : (b : ℕ) → b % 2 ^ 63 ≤ top → nan_bits binary64 b ≡ false
no_nan b h = nan_bits_above binary64 b ∙ le-ltb top (b % 2 ^ 63) h

only_nan : (x : Float) → is_nan x ≡ true → x ≡ nan
unfolding is_nan
only_nan nan h = refl
only_nan (inf s) h = cc
only_nan (fin s m e) h = cc

pub nan_pattern : (b : ℕ) → nan_bits binary64 b ≡ true → of_bits binary64 b ≡ nan
nan_pattern b h = only_nan (of_bits binary64 b) (sym (nan_bits_is binary64 b) ∙ h)

pub zero_by_zero : div binary64 (of_bits binary64 0) (of_bits binary64 0) ≡ nan
unfolding div of_bits
zero_by_zero = refl
