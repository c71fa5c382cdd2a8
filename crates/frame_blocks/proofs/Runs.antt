-- The lists from a frame on: their frames, actions and words are those of the whole lists from there on. Assumes nothing.
use Prim.Native.Nat.{ℕ, ◌+◌, ◌*◌, ◌≤◌, ◌<◌}
use native.Mathlib.Nat.{mul-add}
use native.Mathlib.Omega.{arith}
use mathlib.Core.Path.{◌≡◌, refl, ap}
use mathlib.Core.Bool.{Bool, true, false}
use mathlib.Core.List.{List}
use lib.Dec.{leb}
use lib.ListN.{length, drop, length-drop}
use lib.Seq.{get_or-drop, drop-drop}
use lib.Ieee.{Float}
use borrow.Author.Tests.{leb-true, leb-false, le-leb, lt-leb}
use Rattle.normal_blocks.specs.Map.{UNMAPPED, place_of, word_at, lookup}
use Rattle.derivative.specs.Action.{action_size}
use Rattle.point_moments.specs.Scatter.{CENTRED, centred_of}
use Rattle.plane_fit.specs.Records.{record_of}
use Rattle.plane_fit.specs.Fit.{frame_count, frame_at, action_at}

-- record k of the list from record `from` on
module _ (size : ℕ) (l : List Float) (from k : ℕ) (some : 0 < size) where
  -- whether it is whole
  whole_from : leb (size * k + size) (length (drop (size * from) l)) ≡ leb (size * (from + k) + size) (length l)
  whole_from = go (leb (size * (from + k) + size) (length l)) refl
    where
      go : (b : Bool) → leb (size * (from + k) + size) (length l) ≡ b → leb (size * k + size) (length (drop (size * from) l)) ≡ b
      go true e = le-leb (size * k + size) _ (rw (length-drop (size * from) l) (omega (arith, leb-true (size * (from + k) + size) (length l) e, mul-add size from k)))
      go false e = lt-leb (size * k + size) _ (rw (length-drop (size * from) l) (omega (arith, leb-false (size * (from + k) + size) (length l) e, mul-add size from k)))

  record_from : record_of size (drop (size * from) l) k ≡ record_of size l (from + k)
  unfolding record_of
  record_from = rw (whole_from, drop-drop (size * k) (size * from) l, mul-add size from k)

pub frame_from : (frames : List Float) (from k : ℕ) → frame_at (drop (CENTRED * from) frames) k ≡ frame_at frames (from + k)
frame_from frames from k = ap centred_of (record_from CENTRED frames from k (omega arith))

pub action_from : (actions : List Float) (from k : ℕ) → action_at (drop (action_size * from) actions) k ≡ action_at actions (from + k)
action_from actions from k = record_from action_size actions from k (omega arith)

pub lookup_from : (map : List ℕ) (from k : ℕ) → lookup (drop from map) k ≡ lookup map (from + k)
unfolding lookup word_at
lookup_from map from k = ap place_of (get_or-drop from map k UNMAPPED)

-- how many whole frames are left
pub count_from : (frames : List Float) (from count : ℕ) → from + count ≤ frame_count frames → count ≤ frame_count (drop (CENTRED * from) frames)
count_from frames from count h = omega (arith, length-drop (CENTRED * from) frames)
