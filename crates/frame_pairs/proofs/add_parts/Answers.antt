-- `frame_pairs::add_parts` meets its contract: after k turns the pair's first k parts are added and their costs summed. Assumes nothing.
use Prim.Native.Nat.{◌+◌}
use mathlib.Core.Path.{◌≡◌, refl, ap, ◌∙◌}
use native.Mathlib.Omega.{arith}
use borrow.Author.Rules.{rules}
use lib.ListN.{length}
use Rattle.terms.proofs.Laws.{length-add_all}
use Rattle.normal_blocks.proofs.Laws.{fits_at}
use Rattle.frame_blocks.specs.Frames.{first-none}
use Rattle.frame_pairs.proofs.Adding.{PartAdded, part_mapped, part_unmapped, parts_more}
use Rattle.frame_pairs.proofs.add_parts.Goals as goal
use Rattle.frame_pairs.proofs.add_parts.Goals.{Joined-lookup, in-Some, in_default}

pub loop-k-init : goal.loop-k-init
loop-k-init g c = (refl, refl, first-none _ _ _ _ _ _)

pub add_block-requires : goal.add_block-requires
add_block-requires g c =
    let l = c.loop-k in
    let inside = fits_at _ g.row.COLS _ c.lookup.result c.in-Some.is (rw c.lookup.ensures (c.requires.5 (c.args.from + l.k) (omega arith))) in
    (omega arith, search rules, inside, l.invariant.0 ∙ c.requires.4)

pub add_numbers-requires : goal.add_numbers-requires
add_numbers-requires g c =
    let l = c.loop-k in
    let inside = fits_at _ g.row.COLS _ c.lookup.result c.in-Some.is (rw c.lookup.ensures (c.requires.5 (c.args.from + l.k) (omega arith))) in
    (omega arith, search rules, rw l.invariant.1 inside)

-- what either arm adds
added : (g : _) (c : Joined-lookup g) → let l = c.loop-k in let a = c.args in
    PartAdded (length a.g.now) g.row.COLS c.lookup.result a.cells.now l.k l.h c.match-lookup.h l.g c.match-lookup.g
added g c =
    elim c.match-lookup.branch [
      | in-Some w ↦ rw (w.h-is, w.g-is) (part_mapped _ _ _ _ _ _ _ _ _ _ w.in-Some.is w.add_block.ensures w.add_numbers.ensures)
      | in_default w ↦ rw (w.h-is, w.g-is) (part_unmapped _ _ _ _ _ _ _ w.in_default.is)
    ]

pub loop-k-preserved : goal.loop-k-preserved
loop-k-preserved g c =
    let l = c.loop-k in
    let a = added g (goal.at.loop-k-preserved g c).Joined-lookup in (
      ap length a.hessian ∙ length-add_all _ _ ∙ l.invariant.0,
      ap length a.gradient ∙ length-add_all _ _ ∙ l.invariant.1,
      parts_more _ g.row.COLS _ _ _ _ l.k _ _ l.s _ _ l.h _ _ l.g _ c.lookup.ensures refl a l.invariant.2,
    )

pub returns : goal.returns
returns g c =
    let l = c.loop-k in
    let e : l.k ≡ c.args.size = omega arith in
    rw e at l.invariant.2
