-- A call as code holds it: its inputs. Definitions only.
use Rattle.transform_maps.specs.declared.Call.{Call}
use Rattle.transform_maps.specs.Multiply.{Work}

abbrev pub work_of : Call → Work
work_of c = record { dof = c.dof; map = c.map.now; shapes = c.shapes.now; transforms = c.transforms.now; place = c.place; further-shape = c.shape.now; further = c.further.now }
