-- `linear::vec_mat` meets its contract: each sum has the terms of its column, in order. Assumes nothing.
use Rattle.std.proofs.Common.{refl}
use Rattle.linear.proofs.vec_mat.Goals as goal

pub returns : goal.returns
returns c = refl
