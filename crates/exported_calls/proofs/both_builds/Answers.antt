-- `exported_calls::both_builds` meets its contract: what the two exported contracts say of the same inputs. Assumes nothing.
use Rattle.exported_calls.specs.Laws.{builds_agree}
use Rattle.exported_calls.proofs.both_builds.Goals as goal

pub returns : goal.returns
returns c =
    builds_agree _ _ _ _ _ _ _ _ _ _ c.maghnelt_frames_build-plain.ensures c.maghnelt_frames_build_strict-strict.ensures
