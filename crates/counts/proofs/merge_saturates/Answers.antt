-- `counts::merge_saturates` meets its contract: the law of each of its four tests. Assumes nothing.
use mathlib.Core.Path.{sym, ◌∙◌, subst}
use lib.Dec.{T}
use lib.Ieee.{binary64, fits}
use Rattle.counts.proofs.Laws.{merge_comm}
use Rattle.counts.proofs.Tests.{below_test, near_test, far_test}
use Rattle.counts.proofs.merge_saturates.Goals as goal
use Rattle.counts.proofs.merge_saturates.Goals.{Start}

-- what owning an `f64` tells: the format holds it
held-a : (c : Start) → T (fits binary64 c.args.a)
held-a c = subst T (sym c.well_formed.0.1) tt

held-b : (c : Start) → T (fits binary64 c.args.b)
held-b c = subst T (sym c.well_formed.1.0.1) tt

pub returns-then-a-b : goal.returns-then-a-b
returns-then-a-b c = sym (below_test c.args.a c.args.b c.if-a-b.true)

pub returns-then-near : goal.returns-then-near
returns-then-near c =
    near_test c.args.a c.args.b (held-a (goal.at.returns-then-near c).Start) (sym c.near.ensures ∙ c.if-near.true)

pub returns-then-near-2 : goal.returns-then-near-2
returns-then-near-2 c =
    near_test c.args.b c.args.a (held-b (goal.at.returns-then-near-2 c).Start) (sym c.near-2.ensures ∙ c.if-near-2.true) ∙ merge_comm c.args.b c.args.a

pub returns : goal.returns
returns c =
    let s = (goal.at.returns c).Start in
    far_test c.args.a c.args.b (held-a s) (held-b s) (sym c.near.ensures ∙ c.if-near.false) (sym c.near-2.ensures ∙ c.if-near-2.false)
