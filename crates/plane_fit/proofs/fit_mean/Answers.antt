-- `plane_fit::fit_mean` meets its contract: the frames weighed, with the fixed set or without one. Assumes nothing.
use mathlib.Core.Path.{sym, ◌∙◌}
use native.Mathlib.Omega.{arith}
use borrow.Author.Tests.{eqb-true, eqb-false}
use Rattle.plane_fit.specs.Fit.{fixed_record}
use Rattle.plane_fit.specs.Steps.{mean-none, mean-some}
use Rattle.plane_fit.proofs.fit_mean.Goals as goal

pub weigh-s-requires : goal.weigh-s-requires
weigh-s-requires c = let s = c.requires in omega arith

pub returns-then-is_empty : goal.returns-then-is_empty
returns-then-is_empty c =
    let a = c.args in
    c.mean.ensures ∙ rw c.weigh-s.ensures (mean-none a.frames.now a.fixed.now a.actions.now (eqb-true _ _ (sym c.is_empty.ensures ∙ c.if-is_empty.true)))

pub from_list-f-requires : goal.from_list-f-requires
from_list-f-requires c = fixed_record c.requires (eqb-false _ _ (sym c.is_empty.ensures ∙ c.if-is_empty.false))

pub returns : goal.returns
returns c =
    let a = c.args in
    rw (c.mean-2.ensures, c.with_set.ensures, c.from_list-f.ensures, c.weigh-s.ensures) (mean-some a.frames.now a.fixed.now a.actions.now (eqb-false _ _ (sym c.is_empty.ensures ∙ c.if-is_empty.false)))
