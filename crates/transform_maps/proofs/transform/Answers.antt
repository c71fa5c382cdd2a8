-- `transform_maps::transform` meets its contract: refused, or every word written. Assumes nothing.
use mathlib.Core.Path.{sym}
use Rattle.refusals.specs.Refusal.{accepted}
use Rattle.refusals.proofs.Exits.{handed_on}
use Rattle.transform_maps.proofs.transform.Goals as goal

pub returns-in_err-refusal : goal.returns-in_err-refusal
returns-in_err-refusal c = handed_on c.from_residual.result _ c.from_residual.ensures.1 (sym c.in_err-refusal.ensures)

pub multiply-requires : goal.multiply-requires
multiply-requires c = sym c.in_ok-refusal.ensures

pub returns : goal.returns
returns c =
    let did = c.multiply.ensures in
    accepted (sym c.in_ok-refusal.ensures) (rw (did.0, did.1))
