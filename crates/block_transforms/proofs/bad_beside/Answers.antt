-- `block_transforms::bad_beside` meets its contract, without a product that could wrap. Assumes nothing.
use native.Mathlib.Omega.{arith}
use Rattle.block_transforms.proofs.Laws.{beside_empty, shapes_wrong, numbers_wrong, beside_right}
use Rattle.block_transforms.proofs.bad_beside.Goals as goal

pub returns-then-shapes-eq0 : goal.returns-then-shapes-eq0
returns-then-shapes-eq0 c = beside_empty _ _ _ c.if-shapes-eq0.true

pub returns-then-shapes-ne0 : goal.returns-then-shapes-ne0
returns-then-shapes-ne0 c = shapes_wrong _ _ _ c.if-shapes-eq0.false (λ e. omega arith)

pub returns-then-shapes-words : goal.returns-then-shapes-words
returns-then-shapes-words c = shapes_wrong _ _ _ c.if-shapes-eq0.false (λ e. omega arith)

pub returns-then-numbers-ne0 : goal.returns-then-numbers-ne0
returns-then-numbers-ne0 c = numbers_wrong _ _ _ c.if-shapes-eq0.false (omega arith) (λ e. omega arith)

pub returns-then-numbers-words : goal.returns-then-numbers-words
returns-then-numbers-words c = numbers_wrong _ _ _ c.if-shapes-eq0.false (omega arith) (λ e. omega arith)

pub returns : goal.returns
returns c = beside_right _ _ _ c.if-shapes-eq0.false (omega arith) (omega arith)
