-- `total_order::total_order` meets its contract: signed comparison of keys is totalOrder. Assumes nothing.
use mathlib.Core.Path.{refl, sym}
use Rattle.total_order.proofs.KeyOrder.{order_test}
use Rattle.total_order.proofs.total_order.Goals as goal

pub returns : goal.returns
returns c =
    sym (order_test c.args.a c.args.b c.key.result c.key-2.result _ c.ranges.a.fits c.ranges.b.fits c.key.ensures c.key-2.ensures refl)
