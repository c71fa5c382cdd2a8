-- A call as code holds it: what it is handed. Definitions only.
use Rattle.plane_bundle.specs.declared.Call.{Call}
use Rattle.plane_bundle.specs.Linearize.{Bundle}

abbrev pub bundle_of : Call → Bundle
bundle_of c = record { dof = c.dof; counts = c.points.counts.now; points = c.points.site.now; d_state = c.state.now; fixed = c.points.fixed.now; sigma = c.sigma; decomposition = c.decomposition.now }
