-- `frame_blocks::add_parts` meets its contract: after k turns the batch's first k parts are added and their costs summed. Assumes nothing.
use Prim.Native.Nat.{◌+◌}
use mathlib.Core.Path.{◌≡◌, refl, ap, ◌∙◌}
use native.Mathlib.Omega.{arith}
use lib.ListN.{length}
use Rattle.terms.proofs.Laws.{length-add_all}
use Rattle.normal_blocks.proofs.Laws.{fits_at}
use Rattle.frame_blocks.specs.Frames.{nowhere, PartAdded, part_mapped, part_unmapped, first-none, parts_more}
use Rattle.frame_blocks.proofs.add_parts.Goals as goal
use Rattle.frame_blocks.proofs.add_parts.Goals.{Joined-lookup, in-Some, in_default}

pub loop-k-init : goal.loop-k-init
loop-k-init c = (refl, refl, first-none _ _ _ _ _ _)

pub add_part-requires : goal.add_part-requires
add_part-requires c =
    let l = c.loop-k in
    let a = c.args in
    let fit = c.requires.3 (a.from + l.k) (omega arith) in
    (omega arith, fits_at _ 3 _ c.lookup.result c.in-Some.is (rw c.lookup.ensures fit), l.invariant.0 ∙ c.requires.2, l.invariant.1)

-- what either arm adds
added : (c : Joined-lookup) → let l = c.loop-k in let a = c.args in
    PartAdded (length a.g.now) c.lookup.result a.cells.now l.k l.h c.match-lookup.h l.g c.match-lookup.g
added c =
    elim c.match-lookup.branch [
      | in-Some w ↦ rw (w.h-is, w.g-is) (part_mapped _ _ _ _ _ _ _ _ _ w.in-Some.is w.add_part.ensures)
      | in_default w ↦ rw (w.h-is, w.g-is) (part_unmapped _ _ _ _ _ _ (nowhere _ w.in_default.not-Some))
    ]

pub loop-k-preserved : goal.loop-k-preserved
loop-k-preserved c =
    let l = c.loop-k in
    let a = added (goal.at.loop-k-preserved c).Joined-lookup in (
      ap length a.hessian ∙ length-add_all _ _ ∙ l.invariant.0,
      ap length a.gradient ∙ length-add_all _ _ ∙ l.invariant.1,
      parts_more _ _ _ _ _ l.k _ _ l.s _ _ l.h _ _ l.g _ c.lookup.ensures c.cost_at-s.ensures a l.invariant.2,
    )

pub returns : goal.returns
returns c =
    let l = c.loop-k in
    let e : l.k ≡ c.args.size = omega arith in
    rw e at l.invariant.2
