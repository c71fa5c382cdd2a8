-- `probe::probe_sqrt_among` meets its contract: what stands at the place before and after. Assumes nothing.
use mathlib.Core.Path.{◌≡◌, ap, ◌∙◌}
use mathlib.Core.Bool.{true, false}
use Prim.Native.Nat.{ℕ, ◌≤◌, ◌<◌}
use mathlib.Core.List.{List}
use native.Mathlib.Omega.{arith}
use lib.Dec.{ltb, lt→ltb}
use lib.Arith.{le→nltb}
use lib.ListN.{set, length-set, replicate, length-replicate}
use lib.Seq.{get_or-set_same}
use lib.Ieee.{Float, nan}
use lib.Ieee.Bits.{is_true, is_false}
use Rattle.square_root.specs.Computed.{square_root}
use Rattle.square_root.proofs.FirstRoots.{first_roots}
use Rattle.probe.specs.Among.{root_among}
use Rattle.probe.proofs.probe_sqrt_among.Goals as goal

-- the tests as the definition has them
below : (a b : ℕ) → a < b → ltb a b ≡ true
below a b h = is_true (ltb a b) (lt→ltb a b h)

not_below_lem : (a b : ℕ) → b ≤ a → ltb a b ≡ false
not_below_lem a b h = is_false (ltb a b) (le→nltb a b h)

pub returns-then-many-gt32 : goal.returns-then-many-gt32
unfolding root_among
returns-then-many-gt32 c = rw (below 32 c.args.many c.if-many-gt32.true)

pub returns-then-place-many : goal.returns-then-place-many
unfolding root_among
returns-then-place-many c = let a = c.args in rw (not_below_lem 32 a.many c.if-many-gt32.false, not_below_lem a.place a.many c.if-place-many.true)

pub returns : goal.returns
unfolding root_among
returns c =
    let a = c.args in
    let xs : List Float = set (replicate 32 a.other) a.place a.x in
    let inside : a.place < 32 = omega (arith, c.if-many-gt32.false, c.if-place-many.false) in
    rw (not_below_lem 32 a.many c.if-many-gt32.false, below a.place a.many c.if-place-many.false)
    ((first_roots a.many xs c.sqrt_all.new.xs (simp (length-set, length-replicate) c.if-many-gt32.false) c.sqrt_all.ensures).each a.place c.if-place-many.false ∙ ap square_root (get_or-set_same (replicate 32 a.other) a.place a.x nan (simp length-replicate inside)))
