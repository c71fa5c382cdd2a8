-- Why a call on a bundle is refused, as far as counts and points go. Definitions only.
-- counts: each frame's number of points; points: the site points, frame after frame; fixed: the fixed points.
use Rattle.std.specs.Prelude.{ℕ, ◌+◌, ◌*◌, ◌%◌, Bool, not, ◌||◌, List, [], ◌∷◌, ◌++◌, ltb, eqb, length, get_or, Float}
use Rattle.refusals.specs.Refusal.{Reason, ◌when◌}
use Rattle.validate.specs.Finite.{all_finite}
use Rattle.normal_blocks.specs.Somewhere.{somewhere}
use Rattle.plane_fit.specs.Calls.{most_frames}
use Rattle.bundle_points.specs.Points.{most_points, point_count}
use Rattle.bundle_rows.specs.Rows.{total}

-- a row for each site point and then for each fixed one
abbrev pub row_count : List ℕ → List Float → ℕ
row_count counts fixed = total counts + point_count fixed

-- 3, of counts and points: at most 256 frames, three numbers for each point that is counted, whole fixed points, at most 65,536 rows
unfoldable pub bad_points : List ℕ → List Float → List Float → Bool
bad_points counts points fixed =
    ltb most_frames (length counts) || (not (eqb (length points) (total counts * 3)) || (not (eqb (length fixed % 3) 0) || ltb most_points (row_count counts fixed)))

-- frame k has no points
unfoldable pub empty_at : List ℕ → ℕ → Bool
empty_at counts k = eqb (get_or counts k 0) 0

-- 4: some frame has no points
unfoldable pub some_empty : List ℕ → Bool
some_empty counts = somewhere (length counts) (empty_at counts)

-- 5: fewer than three points in all
unfoldable pub too_few : List ℕ → List Float → Bool
too_few counts fixed = ltb (row_count counts fixed) 3

-- 6: a coordinate of a site point or of a fixed one is not finite
unfoldable pub not_finite : List Float → List Float → Bool
not_finite points fixed = not (all_finite (points ++ fixed))

-- 2 to 6, which both calls test. misfit: a slice beside counts and points has a wrong length
abbrev pub bundle_reasons : List ℕ → List Float → List Float → Bool → List Reason
bundle_reasons counts points fixed misfit =
    2 when eqb (length counts) 0 ∷
    3 when (bad_points counts points fixed || misfit) ∷ 4 when some_empty counts ∷
    5 when too_few counts fixed ∷
    6 when not_finite points fixed ∷ []
