-- `square_root::root_bits` meets its contract: the root is that of m or 2 * m. Assumes nothing.
use Rattle.std.proofs.Common.{ℕ, ◌*◌, ◌^◌, subst, lt_of_lt_of_le, lt_of_le_of_lt, lit<, lit≤}
use lib.Bits.{mask_lt}
use Rattle.square_root.specs.Steps.{Root}
use Rattle.square_root.proofs.Normal.{even_is, even_range}
use Rattle.square_root.proofs.root_bits.Goals as goal

pub root54-requires : goal.root54-requires
root54-requires c =
    let r = even_range c.args.m c.args.l c.requires.0 c.requires.1 in
    (r.0, lt_of_le_of_lt r.1 (lit< tt))

pub pack-requires : goal.pack-requires
pack-requires c =
    let p = c.requires in
    (p.0, p.1, p.2, p.3, subst (λ (h : ℕ). Root (h * 2 ^ 54) c.root54.result) (even_is c.args.m c.args.l p.0 p.1) c.root54.ensures)

pub overflow_shl-m : goal.overflow_shl-m
overflow_shl-m c = lt_of_lt_of_le (mask_lt c.args.l 1) (lit≤ tt)
