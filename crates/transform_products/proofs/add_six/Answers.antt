-- `transform_products::add_six` meets its contract: in each arm as many columns as the key says. Assumes nothing.
use Rattle.transform_products.proofs.add_six.Goals as goal

pub returns-in-1 : goal.returns-in-1
returns-in-1 c = rw c.in-1.is c.add_other.ensures

pub returns-in-2 : goal.returns-in-2
returns-in-2 c = rw c.in-2.is c.add_other-in-2.ensures

pub returns-in-4 : goal.returns-in-4
returns-in-4 c = rw c.in-4.is c.add_other-in-4.ensures

pub returns-in-6 : goal.returns-in-6
returns-in-6 c = rw c.in-6.is c.add_other-in-6.ensures
