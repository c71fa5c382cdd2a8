-- `match_sums::add_group` meets its contract: whenever a batch starts, the matches before it are added. Assumes nothing.
use Prim.Native.Nat.{◌+◌}
use mathlib.Core.Path.{◌≡◌, refl, ap, ◌∙◌}
use native.Mathlib.Omega.{arith}
use Rattle.sums.specs.Sum.{zero_f, sum_from}
use Rattle.match_sums.specs.Groups.{cost_term, block_term, vector_term}
use Rattle.match_sums.specs.Cells.{Summed}
use Rattle.match_sums.specs.Laws.{summed_none, sum_parts, summed_parts}
use Rattle.match_sums.specs.Batch.{batch_cost_lem, batch_summed}
use borrow.Author.Rules.{rules}
use Rattle.match_sums.proofs.add_group.Goals as goal
use Rattle.match_sums.proofs.add_group.Goals.{After-add_batch_by-cost}

pub loop-i-init : goal.loop-i-init
loop-i-init c = (search rules, search rules, search rules, refl, summed_none _ _ _ _ _)

pub add_batch_by-cost-requires : goal.add_batch_by-cost-requires
add_batch_by-cost-requires c =
    let given = c.of-b.ensures in
    (omega (arith, given.0, given.1, c.requires.0), omega (arith, given.1), c.requires.1)

-- the matches of one batch more
added : (c : After-add_batch_by-cost) → let at = c.loop-i in let a = c.args in let n = c.batch_size.result in
    (c.add_batch_by-cost.result ≡ sum_from zero_f (at.i + n) (λ k. cost_term a.m.now.action.now a.m.now.list.now (a.from + k)))
    × Summed a.dof (at.i + n) (λ i j k. block_term a.m.now.action.now a.m.now.list.now i j (a.from + k)) (λ i k. vector_term a.m.now.action.now a.m.now.list.now i (a.from + k)) a.u.now.block a.u.now.vector c.add_batch_by-cost.new.u.block c.add_batch_by-cost.new.u.vector
added c =
    let at = c.loop-i in
    let a = c.args in
    let x = a.m.now.action.now in
    let ms = a.m.now.list.now in
    let n = c.batch_size.result in
    let given = c.of-b.ensures in
    let did = rw (given.0, given.1) at c.add_batch_by-cost.ensures in
    let summed = batch_summed x a.m.now.rows.now ms a.dof (a.from + at.i) n _ _ _ _ _ _ (search rules) c.requires.1 given.2 given.3 did.1 in (
      did.0 ∙ batch_cost_lem x ms (a.from + at.i) n _ at.cost given.3 ∙ ap (λ s. sum_from s n (λ k. cost_term x ms (a.from + at.i + k))) at.invariant.3 ∙ sum_parts zero_f a.from at.i n (cost_term x ms),
      summed_parts a.dof a.from at.i n (block_term x ms) (vector_term x ms) _ _ _ _ _ _ at.invariant.4 summed,
    )

pub loop-i-preserved : goal.loop-i-preserved
loop-i-preserved c =
    let e : c.batch_size.result ≡ 16 = omega arith in
    let done = rw e at (added (goal.at.loop-i-preserved c).After-add_batch_by-cost) in
    (search rules, done.1.size ∙ search rules, done.1.long ∙ search rules, done.0, done.1)

pub returns : goal.returns
returns c =
    let e : c.args.size ≡ c.loop-i.i = omega arith in
    rw e (c.loop-i.invariant.3, c.loop-i.invariant.4)

pub returns-2 : goal.returns-2
returns-2 c =
    let e : c.loop-i.i + c.batch_size.result ≡ c.args.size = omega arith in
    rw e at (added (goal.at.returns-2 c).After-add_batch_by-cost)
