-- `transform_products::add_through` meets its contract: by the function of six rows, or by the one of any size. Assumes nothing.
use Rattle.transform_products.proofs.add_through.Goals as goal

pub add_six-requires : goal.add_six-requires
add_six-requires c =
    let pre = c.requires in
    (pre.1, rw c.if-rows-eq6.true at pre.4, pre.5, pre.6, pre.7, pre.8)

pub returns-then-stride-eq8 : goal.returns-then-stride-eq8
returns-then-stride-eq8 c =
    rw (c.if-rows-eq6.true, c.if-stride-eq8.true) c.add_six.ensures
