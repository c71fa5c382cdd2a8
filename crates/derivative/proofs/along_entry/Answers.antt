-- `derivative::along_entry` meets its contract: its four numbers are the origin's and D's. Assumes nothing.
use Rattle.derivative.specs.Derivative.{normal_row, shifted}
use Rattle.derivative.proofs.along_entry.Goals as goal

pub returns : goal.returns
unfolding normal_row shifted
returns c =
    rw (c.normal_entry-o.ensures, c.normal_entry-a.ensures, c.normal_entry-b.ensures, c.normal_entry-d.ensures)
