-- `square_root::normal_bits` meets its contract: the pattern is m * 2 ^ l, and the root is that of m or 2 * m. Assumes nothing.
use Rattle.std.proofs.Common.{ℕ, subst}
use Rattle.square_root.specs.Steps.{RootBits}
use Rattle.square_root.proofs.Normal.{normal_digits}
use Rattle.square_root.proofs.normal_bits.Goals as goal

pub returns : goal.returns
returns c = subst (λ (n : ℕ). RootBits n c.pack.result) (normal_digits c.args.b c.requires.0) c.pack.ensures
