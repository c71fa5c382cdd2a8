-- `map_plane::linearize` meets its contract: the tests in their order, then the residual and, if wanted, the row. Assumes nothing.
use mathlib.Core.Path.{sym, ◌∙◌}
use native.Mathlib.Nat.{le_of_eq}
use native.Mathlib.Omega.{arith}
use borrow.Author.Tests.{le-ltb, eq-eqb, ne_eqb}
use Rattle.refusals.specs.Refusal.{accepted}
use Rattle.refusals.proofs.Exits.{handed_on}
use Rattle.map_plane.specs.Linearize.{linearize_refusal, row_left, good_lengths, row-wanted, own_match}
use Rattle.map_plane.proofs.linearize.Goals as goal

pub match_refusal-requires : goal.match_refusal-requires
match_refusal-requires c =
    omega (arith, (good_lengths _ _ _ _ _ (sym c.bad_inputs.ensures ∙ c.if-bad_inputs.false)).0)

pub returns-in_err-match_refusal : goal.returns-in_err-match_refusal
unfolding linearize_refusal
returns-in_err-match_refusal c =
    handed_on _ _ c.from_residual.ensures.1
    (rw (
      le-ltb _ _ c.if-dof-gt-MOST_DOF.false,
      ne_eqb _ _ c.if-matched-eq0.false,
      sym c.bad_inputs.ensures ∙ c.if-bad_inputs.false,
      sym c.bad_row.ensures ∙ c.if-bad_row.false,
    )
    (sym (own_match _) ∙ sym c.in_err-match_refusal.ensures))

pub read-matched-requires : goal.read-matched-requires
read-matched-requires c =
    omega (arith, (good_lengths _ _ _ _ _ (sym c.bad_inputs.ensures ∙ c.if-bad_inputs.false)).0)

pub three-requires : goal.three-requires
three-requires c =
    omega (arith, (good_lengths _ _ _ _ _ (sym c.bad_inputs.ensures ∙ c.if-bad_inputs.false)).1)

pub returns-then-row-eq0 : goal.returns-then-row-eq0
unfolding linearize_refusal row_left
returns-then-row-eq0 c =
    accepted
    (rw (
      le-ltb _ _ c.if-dof-gt-MOST_DOF.false,
      ne_eqb _ _ c.if-matched-eq0.false,
      sym c.bad_inputs.ensures ∙ c.if-bad_inputs.false,
      sym c.bad_row.ensures ∙ c.if-bad_row.false,
    )
    (sym (c.in_ok-match_refusal.ensures ∙ own_match _)))
    (rw (c.whitened.ensures, c.three.ensures, c.read-matched.ensures, eq-eqb _ _ c.if-row-eq0.true))

pub write_row-requires : goal.write_row-requires
write_row-requires c =
    let good = good_lengths _ _ _ _ _ (sym c.bad_inputs.ensures ∙ c.if-bad_inputs.false) in
    (le_of_eq (sym good.2), le_of_eq (sym good.3), row-wanted _ _ (sym c.bad_row.ensures ∙ c.if-bad_row.false) c.if-row-eq0.false)

pub returns : goal.returns
unfolding linearize_refusal row_left
returns c =
    accepted
    (rw (
      le-ltb _ _ c.if-dof-gt-MOST_DOF.false,
      ne_eqb _ _ c.if-matched-eq0.false,
      sym c.bad_inputs.ensures ∙ c.if-bad_inputs.false,
      sym c.bad_row.ensures ∙ c.if-bad_row.false,
    )
    (sym (c.in_ok-match_refusal.ensures ∙ own_match _)))
    (rw (c.whitened.ensures, c.three.ensures, c.write_row.ensures, c.read-matched.ensures, ne_eqb _ _ c.if-row-eq0.false))
