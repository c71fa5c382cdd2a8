-- The pulls at the frames of a batch, number after number in one array (`batches`): what they are, and how they fill up. Assumes nothing.
use Rattle.std.specs.Prelude.{ℕ, ◌+◌, ◌<◌, ◌≡◌, refl, List, [], ◌∷◌, length, Float}
use Rattle.std.proofs.Common.{not-suc-le-zero, arith, ◌∙◌}
use Rattle.std.proofs.Math.Path.{ap}
use Rattle.sums.specs.Laws.{up_to}
use Rattle.lists.specs.Part.{◌!◌}
use Rattle.batches.specs.Beside.{beside_of, put_beside, length_beside, beside_here, beside_other}
use Rattle.frame_normal.specs.Normal.{normal_in}
use Rattle.plane_fit.specs.Fit.{frame_at, action_at}
use Rattle.frame_cost.specs.Cost.{pull_of, scatter_on, frame_along}
use Rattle.frame_cost.specs.declared.Pull.{Pull}

-- the most frames of a batch, and how many numbers their pulls are
abbrev pub BATCH : ℕ
BATCH = 4

abbrev pub PULLS : ℕ
PULLS = 20

-- the five numbers of a pull, and the pull that has them
abbrev numbers_of : Pull → List Float
numbers_of p = (p.turn ! 0) ∷ (p.turn ! 1) ∷ (p.turn ! 2) ∷ p.shift ∷ p.cost ∷ []

abbrev pull_by : List Float → Pull
pull_by v = record { turn = (v ! 0) ∷ (v ! 1) ∷ (v ! 2) ∷ []; shift = v ! 3; cost = v ! 4 }

-- the pull of the batch's k-th frame, and the same array with p as that pull
abbrev pub pull_in : List Float → ℕ → Pull
pull_in cells k = pull_by (beside_of BATCH 5 cells k)

abbrev pub with_pull : List Float → ℕ → Pull → List Float
with_pull cells k p = put_beside BATCH 5 cells k (numbers_of p)

-- the pull at frame k of a call
unfoldable pub pull_at : List Float → List Float → List Float → Float → Float → ℕ → Pull
pull_at frames actions n offset weight k =
    pull_of (frame_at frames k) (normal_in (action_at actions k) n) (frame_along (action_at actions k) (frame_at frames k) n offset) weight

-- the first `size` pulls of a batch are those at the frames from `from` on
pub record Pulled (frames actions n : List Float) (offset weight : Float) (from size : ℕ) (cells : List Float) : Type 0 where
  pub long : length cells ≡ PULLS
  pub pulls : (k : ℕ) → k < size → pull_in cells k ≡ pull_at frames actions n offset weight (from + k)

-- ---- laws

module _ (frames actions n : List Float) (offset weight : Float) (from : ℕ) where
  pub pulled_none : (cells : List Float) → length cells ≡ PULLS → Pulled frames actions n offset weight from 0 cells
  pulled_none cells long = record { long = long; pulls = λ k l. absurd (not-suc-le-zero l) }

  -- one frame more
  pub pulled_more : {k : ℕ} {cells cells' : List Float} {p : Pull} → k < BATCH → p ≡ pull_at frames actions n offset weight (from + k) → cells' ≡ with_pull cells k p
      → Pulled frames actions n offset weight from k cells → Pulled frames actions n offset weight from (k + 1) cells'
  unfolding pull_at scatter_on
  pulled_more {k} {cells} {cells'} {p} l is put before =
      let here = pull_at frames actions n offset weight (from + k) in
      rw (put, is) (record {
        long = length_beside BATCH cells k (numbers_of here) l 5 ∙ before.long;
        pulls = up_to {P = λ j. pull_in (with_pull cells k here) j ≡ pull_at frames actions n offset weight (from + j)} k
            (ap pull_by (beside_here BATCH cells k (numbers_of here) l 5 (omega (arith, before.long)) refl))
            (λ j b. ap pull_by (beside_other BATCH cells k (numbers_of here) l 5 j (omega arith) (λ z. omega arith)) ∙ before.pulls j b);
      })
