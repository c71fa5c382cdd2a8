-- Why a call is refused, as far as maps and targets go: the shape of a target, and the host's call `remap`. Assumes nothing.
use Rattle.std.specs.Prelude.{ℕ, ◌*◌, ◌≤◌, ◌≡◌, Bool, false, not, ◌||◌, List, [], ◌∷◌, ltb, eqb, length}
use Rattle.std.proofs.Common.{ltb-false, eqb-true}
use Rattle.std.proofs.lemmas.Bool.{not-false}
use Rattle.refusals.specs.Refusal.{Reason, ◌when◌, first_of, wrong_length, either_none}
use Rattle.normal_blocks.specs.Map.{lookup, bad_words, some_exceeds}

-- the most words of a map, and so of an index list, which makes one
abbrev pub MOST_WORDS : ℕ
MOST_WORDS = 1024

-- the highest order of a Hessian
abbrev pub MOST_ROWS : ℕ
MOST_ROWS = 1024

-- 3, of a call that accumulates: a map of too many words, a gradient of too many rows n, or a Hessian that has not n·n cells
unfoldable pub bad_target : ℕ → ℕ → ℕ → Bool
bad_target words cells n = ltb MOST_WORDS words || (ltb MOST_ROWS n || not (eqb cells (n * n)))

-- what a call may rely on where the test does not apply
pub square : (words cells n : ℕ) → bad_target words cells n ≡ false → (n ≤ MOST_ROWS) × (cells ≡ n * n)
unfolding bad_target
square words cells n h =
    let p = either_none (ltb MOST_ROWS n) _ (either_none (ltb MOST_WORDS words) _ h).1 in
    (ltb-false MOST_ROWS n p.0, eqb-true cells (n * n) (not-false _ p.1))

-- 9, of every word of the map; and 10, of the words of the frames that exist: the last tests of a call that accumulates `count` frames
abbrev pub map_reasons : List ℕ → ℕ → ℕ → ℕ → List Reason
map_reasons map count width n = 9 when bad_words map ∷ 10 when some_exceeds n (λ k. width) (lookup map) count ∷ []

unfoldable pub map_refusal : List ℕ → ℕ → ℕ → ℕ → ℕ
map_refusal map count width n = first_of (map_reasons map count width n)

-- remapping tests 3 and 9, the words of the map and those of the list
unfoldable pub remap_refusal : List ℕ → List ℕ → List ℕ → ℕ
remap_refusal m list out =
    first_of
    (3 when (ltb MOST_WORDS (length m) || ltb MOST_WORDS (length list) || wrong_length ((length out, length list) ∷ []))
    ∷ 9 when (bad_words m || bad_words list) ∷ [])
