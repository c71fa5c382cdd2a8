-- `normal_blocks::bad_words` meets its contract: after k turns the flag says whether one of the first k words is bad. Assumes nothing.
use mathlib.Core.Path.{◌≡◌, sym}
use native.Mathlib.Omega.{arith}
use lib.ListN.{length}
use Rattle.normal_blocks.specs.Somewhere.{nowhere-none, somewhere_more}
use Rattle.normal_blocks.specs.Map.{bad_word_at, bad_words}
use Rattle.normal_blocks.proofs.bad_words.Goals as goal

pub loop-k-init : goal.loop-k-init
loop-k-init c = sym (nowhere-none _)

pub loop-k-preserved : goal.loop-k-preserved
unfolding bad_word_at
loop-k-preserved c =
    let at = c.loop-k in
    rw c.bad_word-bad.ensures (somewhere_more _ at.k at.bad at.invariant)

pub returns : goal.returns
unfolding bad_words
returns c =
    let at = c.loop-k in
    let e : length c.args.words.now ≡ at.k = omega arith in
    rw e at.invariant
