-- `transform_maps::replace` meets its contract: the list before the call, with the new elements at the place. Assumes nothing.
use Prim.Native.Nat.{◌+◌, ◌*◌}
use native.Mathlib.Omega.{arith}
use mathlib.Core.Path.{refl, sym, ◌∙◌}
use mathlib.Core.Logic.{⊎_elim, inl, inr}
use Rattle.transform_maps.proofs.Laws.{past_end, at_place, part_back}
use Rattle.transform_maps.proofs.replace.Goals as goal

pub copy_or_fill-requires : goal.copy_or_fill-requires
copy_or_fill-requires g c = record {
  infallible = c.requires.infallible;
  copies = c.requires.copies;
  sizes = let pre = c.requires.sizes in ⊎_elim (λ e. inl e) (λ e. inr (e ∙ sym pre.1)) pre.0;
}

pub returns-then-place-words : goal.returns-then-place-words
returns-then-place-words g c = c.copy_or_fill.ensures ∙ rw c.requires.sizes.1 (past_end _ _ g.row.N _ _ c.if-place-words.true)

pub returns : goal.returns
returns g c =
    let at = g.row.N * c.args.place in
    part_back g.row.N at (at + g.row.N) c.copy_or_fill.new.out c.args.new.now _ refl c.copy_from_slice.ensures.after
    ∙ rw (c.copy_or_fill.ensures, c.requires.sizes.1) (at_place _ _ g.row.N _ _ (omega (arith, c.if-place-words.false)))
