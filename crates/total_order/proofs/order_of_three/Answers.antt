-- `total_order::order_of_three` meets its contract: each outcome of its comparisons is one of `ThreeLaws`. Assumes nothing.
use mathlib.Core.Path.{◌≡◌, sym, ◌∙◌}
use mathlib.Core.Bool.{Bool, true, false}
use Prim.Native.Nat.{ℕ}
use lib.Signed.{le_z}
use mir.Syntax.{w64}
use mir.Val.{to_z, of_z}
use Rattle.total_order.specs.TotalOrder.{total_order}
use Rattle.total_order.specs.Three.{pattern_at, order_of}
use Rattle.total_order.proofs.KeyOrder.{order_test}
use Rattle.total_order.proofs.ThreeLaws.{order_012, order_021, order_201, order_102, order_120, order_210}
use Rattle.total_order.proofs.order_of_three.Goals as goal
use Rattle.total_order.proofs.order_of_three.Goals.{After-key-kc}

-- the patterns by their places, and what the code's tests of keys say of them
abbrev p : After-key-kc → ℕ → ℕ
p c = let args = c.args in pattern_at args.a args.b args.c

module _ (c : After-key-kc) (t : Bool) where
  first-second : le_z (to_z w64 (of_z w64 c.key-ka.result)) (to_z w64 (of_z w64 c.key-kb.result)) ≡ t → total_order (p c 0) (p c 1) ≡ t
  first-second =
      order_test c.args.a c.args.b c.key-ka.result c.key-kb.result t c.ranges.a.fits c.ranges.b.fits c.key-ka.ensures c.key-kb.ensures

  second-third : le_z (to_z w64 (of_z w64 c.key-kb.result)) (to_z w64 (of_z w64 c.key-kc.result)) ≡ t → total_order (p c 1) (p c 2) ≡ t
  second-third =
      order_test c.args.b c.args.c c.key-kb.result c.key-kc.result t c.ranges.b.fits c.ranges.c.fits c.key-kb.ensures c.key-kc.ensures

  first-third : le_z (to_z w64 (of_z w64 c.key-ka.result)) (to_z w64 (of_z w64 c.key-kc.result)) ≡ t → total_order (p c 0) (p c 2) ≡ t
  first-third =
      order_test c.args.a c.args.c c.key-ka.result c.key-kc.result t c.ranges.a.fits c.ranges.c.fits c.key-ka.ensures c.key-kc.ensures

pub returns-then-kb-kc : goal.returns-then-kb-kc
unfolding order_of
returns-then-kb-kc c =
    let at = (goal.at.returns-then-kb-kc c).After-key-kc in
    c.new.ensures ∙ sym (order_012 (p at) (first-second at true c.if-ka-kb.true) (second-third at true c.if-kb-kc.true))

pub returns-then-ka-kc : goal.returns-then-ka-kc
unfolding order_of
returns-then-ka-kc c =
    let at = (goal.at.returns-then-ka-kc c).After-key-kc in
    c.new-then-ka-kc.ensures ∙ sym (order_021 (p at) (first-second at true c.if-ka-kb.true) (second-third at false c.if-kb-kc.false) (first-third at true c.if-ka-kc.true))

pub returns-else-ka-kc : goal.returns-else-ka-kc
unfolding order_of
returns-else-ka-kc c =
    let at = (goal.at.returns-else-ka-kc c).After-key-kc in
    c.new-else-ka-kc.ensures ∙ sym (order_201 (p at) (first-second at true c.if-ka-kb.true) (first-third at false c.if-ka-kc.false))

pub returns-then-ka-kc-2 : goal.returns-then-ka-kc-2
unfolding order_of
returns-then-ka-kc-2 c =
    let at = (goal.at.returns-then-ka-kc-2 c).After-key-kc in
    c.new-then-ka-kc-2.ensures ∙ sym (order_102 (p at) (first-second at false c.if-ka-kb.false) (first-third at true c.if-ka-kc-2.true))

pub returns-then-kb-kc-2 : goal.returns-then-kb-kc-2
unfolding order_of
returns-then-kb-kc-2 c =
    let at = (goal.at.returns-then-kb-kc-2 c).After-key-kc in
    c.new-then-kb-kc-2.ensures ∙ sym (order_120 (p at) (first-second at false c.if-ka-kb.false) (first-third at false c.if-ka-kc-2.false) (second-third at true c.if-kb-kc-2.true))

pub returns-else-kb-kc-2 : goal.returns-else-kb-kc-2
unfolding order_of
returns-else-kb-kc-2 c =
    let at = (goal.at.returns-else-kb-kc-2 c).After-key-kc in
    c.new-else-kb-kc-2.ensures ∙ sym (order_210 (p at) (first-second at false c.if-ka-kb.false) (second-third at false c.if-kb-kc-2.false))
