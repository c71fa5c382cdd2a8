-- `total_order::number` meets its contract: `from_bits` is asked only of patterns that are no NaN's. Assumes nothing.
use mathlib.Core.Path.{sym, ◌∙◌}
use Rattle.total_order.proofs.NanPatterns.{nan_pattern, zero_by_zero}
use Rattle.total_order.proofs.number.Goals as goal

pub float_from_bits-result : goal.float_from_bits-result
float_from_bits-result c = rw (sym c.is_nan.ensures ∙ c.if-is_nan.false) tt

pub returns-then-is_nan : goal.returns-then-is_nan
returns-then-is_nan c = zero_by_zero ∙ sym (nan_pattern c.args.bits (sym c.is_nan.ensures ∙ c.if-is_nan.true))
