-- `frame_sets::centre_fixed` meets its contract: no set, a set that is dropped, or one that is kept. Assumes nothing.
use mathlib.Core.Path.{sym, ◌∙◌}
use native.Mathlib.Omega.{arith}
use Rattle.frame_sets.specs.Steps.{one_set, fixed_mean, fixed_none, fixed_dropped, fixed_kept}
use Rattle.frame_sets.proofs.centre_fixed.Goals as goal

pub returns-then-fixed-eq0 : goal.returns-then-fixed-eq0
returns-then-fixed-eq0 c = fixed_none _ _ c.if-fixed-eq0.true

pub returns-then-is_dropped : goal.returns-then-is_dropped
returns-then-is_dropped c = fixed_dropped _ _ (sym c.is_dropped.ensures ∙ c.if-is_dropped.true)

pub centre-requires : goal.centre-requires
centre-requires c =
    let one = one_set c.args.fixed.now c.requires.0 c.if-fixed-eq0.false in
    (one, omega (arith, one, c.requires.1), fixed_mean _ c.if-fixed-eq0.false (sym c.is_dropped.ensures ∙ c.if-is_dropped.false))

pub returns : goal.returns
returns c =
    c.centre.ensures ∙ fixed_kept _ _ c.if-fixed-eq0.false (sym c.is_dropped.ensures ∙ c.if-is_dropped.false)
