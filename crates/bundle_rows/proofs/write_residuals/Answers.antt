-- `bundle_rows::write_residuals` meets its contract: the two lists, one after the other. Assumes nothing.
use Rattle.bundle_rows.proofs.Residuals.{all_rows}
use Rattle.bundle_rows.proofs.write_residuals.Goals as goal

pub returns : goal.returns
returns c =
    let p = c.args.cloud.now in
    all_rows p.site.now p.fixed.now p.taken.whole p.taken.fixed_whole c.args.q c.args.n c.args.info c.args.residual.now _ _ c.requires c.put_residuals.ensures c.put_residuals-2.ensures
