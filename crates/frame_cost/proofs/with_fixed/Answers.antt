-- `frame_cost::with_fixed` meets its contract: the sum as it is, or with the fixed set's cost. Assumes nothing.
use mathlib.Core.Path.{sym, ◌∙◌}
use mathlib.Core.Logic.{⊎_elim}
use borrow.Author.Tests.{eqb-true, eqb-false}
use Rattle.frame_cost.specs.Cost.{fixed_cost}
use Rattle.frame_cost.specs.Cost.{fixed_none, fixed_some}
use Rattle.frame_cost.proofs.with_fixed.Goals as goal

pub returns-then-is_empty : goal.returns-then-is_empty
returns-then-is_empty c =
    let a = c.args in
    fixed_none a.fixed.now (λ f. fixed_cost f a.plane.normal a.plane.offset a.weight) a.sum (eqb-true _ _ (sym c.is_empty.ensures ∙ c.if-is_empty.true))

pub from_list-f-requires : goal.from_list-f-requires
from_list-f-requires c = ⊎_elim (λ e. absurd (eqb-false _ _ (sym c.is_empty.ensures ∙ c.if-is_empty.false) e)) (λ e. e) c.requires

pub returns : goal.returns
unfolding fixed_cost
returns c =
    let a = c.args in
    rw (c.set_pull-q.ensures, c.along-along.ensures, c.from_list-f.ensures) (fixed_some a.fixed.now (λ f. fixed_cost f a.plane.normal a.plane.offset a.weight) a.sum (eqb-false _ _ (sym c.is_empty.ensures ∙ c.if-is_empty.false)))
