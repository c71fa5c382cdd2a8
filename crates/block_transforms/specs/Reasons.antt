-- Why a call with transforms is refused, as far as these go: 3 of their lengths, 14, and 10 with each segment's own width. Definitions only.
use Rattle.std.specs.Prelude.{ℕ, ◌*◌, Bool, false, not, ◌||◌, ◌&&◌, List, [], ◌∷◌, eqb, ltb, length, Option, Some, None}
use Rattle.refusals.specs.Refusal.{Reason, ◌when◌, first_of}
use Rattle.normal_blocks.specs.Somewhere.{somewhere}
use Rattle.normal_blocks.specs.Map.{bad_words, lookup, some_exceeds}
use Rattle.block_transforms.specs.Transform.{ROOM, width_at}
use Rattle.block_transforms.specs.declared.Shape.{Shape}

-- 3: neither both slices empty, nor two words and 81 numbers for each word of the map
unfoldable pub bad_beside : ℕ → ℕ → ℕ → Bool
bad_beside words shapes numbers =
    not (eqb shapes 0 && eqb numbers 0) && (not (eqb shapes (2 * words)) || not (eqb numbers (ROOM * words)))

-- the most columns of a transform
abbrev pub MOST_COLUMNS : ℕ
MOST_COLUMNS = 9

-- "14 when accumulating .. gets a transform of more than 9 columns, accumulating one without dof rows"
unfoldable pub misfit : ℕ → Option Shape → Bool
misfit dof None = false
misfit dof (Some s) = ltb MOST_COLUMNS s.cols || not (eqb s.rows dof)

-- of word k, and of every word of the map, of an existing frame or not
unfoldable pub misfit_at : ℕ → (ℕ → Option Shape) → ℕ → Bool
misfit_at dof shape k = misfit dof (shape k)

unfoldable pub some_misfit : ℕ → (ℕ → Option Shape) → ℕ → Bool
some_misfit dof shape words = somewhere words (misfit_at dof shape)

-- 9, of every word of the map; 14 directly after it; and 10, of the frames that exist: the last tests of a call that accumulates `count` frames
abbrev pub through_reasons : List ℕ → (ℕ → Option Shape) → ℕ → ℕ → ℕ → List Reason
through_reasons map shape count dof n =
    9 when bad_words map ∷ 14 when some_misfit dof shape (length map) ∷ 10 when some_exceeds n (width_at shape dof) (lookup map) count ∷ []

unfoldable pub through_refusal : List ℕ → (ℕ → Option Shape) → ℕ → ℕ → ℕ → ℕ
through_refusal map shape count dof n = first_of (through_reasons map shape count dof n)
