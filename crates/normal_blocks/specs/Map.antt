-- Block maps: what a word says, where a frame goes, and a map read through an index list. Assumes nothing.
use Rattle.std.specs.Prelude.{ℕ, ◌+◌, ◌/◌, ◌%◌, ◌^◌, Bool, false, not, ◌&&◌, ◌||◌, cond, List, map, eqb, ltb, length, get_or, Option, Some, None}
use Rattle.normal_blocks.specs.Somewhere.{somewhere}

-- the kind of a word: the top two of its 32 bits
abbrev pub kind : ℕ → ℕ
kind w = w / 2 ^ 30

-- its low 30 bits
abbrev pub low : ℕ → ℕ
low w = w % 2 ^ 30

-- kind 00 is an offset in the low bits, or, in an index list, a place in the map; any other word is unmapped
unfoldable pub place_of : ℕ → Option ℕ
place_of w = cond (eqb (kind w) 0) (Some (low w)) None

-- kind 01 is unmapped, low bits zero
abbrev pub UNMAPPED : ℕ
UNMAPPED = 2 ^ 30

-- other words are refused
unfoldable pub bad_word : ℕ → Bool
bad_word w = not (eqb (kind w) 0 || eqb (kind w) 1 && eqb (low w) 0)

-- reason 9: some word of a list is bad
unfoldable pub bad_word_at : List ℕ → ℕ → Bool
bad_word_at ws k = bad_word (get_or ws k 0)

unfoldable pub bad_words : List ℕ → Bool
bad_words ws = somewhere (length ws) (bad_word_at ws)

-- the word at a place: past the map's end, and where there is no place, unmapped
unfoldable pub word_at : List ℕ → Option ℕ → ℕ
word_at m (Some k) = get_or m k UNMAPPED
word_at m None = UNMAPPED

-- where frame k goes: a frame beyond the map's end is unmapped
unfoldable pub lookup : List ℕ → ℕ → Option ℕ
lookup m k = place_of (word_at m (Some k))

-- the map that an index list makes of a map: at i the word at the list's place i
unfoldable pub remapped : List ℕ → List ℕ → List ℕ
remapped m list = map (λ w. word_at m (place_of w)) list

-- reason 10: a mapped frame's offset plus its width exceeds the order n of the Hessian
unfoldable pub exceeds : ℕ → ℕ → Option ℕ → Bool
exceeds n width (Some offset) = ltb n (offset + width)
exceeds n width None = false

-- frame k's, with its place and its width; of the frames that exist, 0 to count - 1
unfoldable pub exceeds_at : ℕ → (ℕ → ℕ) → (ℕ → Option ℕ) → ℕ → Bool
exceeds_at n width place k = exceeds n (width k) (place k)

unfoldable pub some_exceeds : ℕ → (ℕ → ℕ) → (ℕ → Option ℕ) → ℕ → Bool
some_exceeds n width place count = somewhere count (exceeds_at n width place)
