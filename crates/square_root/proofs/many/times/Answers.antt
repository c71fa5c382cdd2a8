-- `square_root::many::times` meets its contract: the product fits. Assumes nothing.
use Rattle.std.proofs.Common.{mod-lt, lit<}
use Rattle.square_root.proofs.Products.{product}
use Rattle.square_root.proofs.many.times.Goals as goal

pub overflow_mul-result : goal.overflow_mul-result
overflow_mul-result c = product (mod-lt c.args.a (lit< tt)) (mod-lt c.args.b (lit< tt))
