-- `plane_fit::fit_scatter` meets its contract: the frames' scatter, with the fixed set's part or without one. Assumes nothing.
use mathlib.Core.Path.{sym, ◌∙◌}
use native.Mathlib.Omega.{arith}
use borrow.Author.Tests.{eqb-true, eqb-false}
use Rattle.plane_fit.specs.Fit.{fixed_record}
use Rattle.plane_fit.specs.Steps.{scatter-none, scatter-some}
use Rattle.plane_fit.proofs.fit_scatter.Goals as goal

pub scatter_of-s-requires : goal.scatter_of-s-requires
scatter_of-s-requires c = let s = c.requires in (omega arith, omega arith)

pub returns-then-is_empty : goal.returns-then-is_empty
returns-then-is_empty c =
    let a = c.args in
    c.scatter_of-s.ensures ∙ scatter-none a.frames.now a.fixed.now a.actions.now a.mean (eqb-true _ _ (sym c.is_empty.ensures ∙ c.if-is_empty.true))

pub from_list-f-requires : goal.from_list-f-requires
from_list-f-requires c = fixed_record c.requires (eqb-false _ _ (sym c.is_empty.ensures ∙ c.if-is_empty.false))

pub returns : goal.returns
returns c =
    let a = c.args in
    c.with_part.ensures
    ∙ rw (c.spread.ensures, c.from_list-f.ensures, c.scatter_of-s.ensures) (scatter-some a.frames.now a.fixed.now a.actions.now a.mean (eqb-false _ _ (sym c.is_empty.ensures ∙ c.if-is_empty.false)))
