-- Every case of the table holds, by computing. Assumes nothing.
use lib.Dec.{T}
use lib.Ieee.{of_bits, to_bits, add, mul, sub, div, neg, lt, le}
use Rattle.square_root.specs.Computed.{square_root, sqrt_of}
use Rattle.total_order.specs.Three.{before, order_of}
use Rattle.decomposition.specs.Axes.{rising_of}
use Rattle.moment_matrices.specs.Matrices.{moved_outer, scatter_of}
use Rattle.point_moments.specs.Moments.{with_point, transformed, of_points}
use Rattle.point_moments.specs.Scatter.{mean_and_scatter}
use Rattle.point_moments.specs.Plane.{plane_of}
use Rattle.decomposition.specs.Gaps.{absolute, at_least_one, moments_plane, frames_plane}
use Rattle.plane_fit.specs.Axis.{smallest_axis}
use Rattle.plane_fit.specs.Records.{record_of}
use Rattle.plane_fit.specs.Calls.{bad_records, bad_count}
use Rattle.normal_blocks.specs.Somewhere.{somewhere}
use Rattle.validate.specs.Finite.{all_finite, finite_above}
use Rattle.frame_sets.specs.Sets.{fixed_count, count_at, count_sum, dropped, empty_at, some_empty, too_few, not_finite, points}
use Rattle.plane_moments.specs.Build.{bad_shapes, build_refusal}
use Rattle.worked_cases.specs.Table.{every, table, case_a, case_b, case_c, case_d, case_e, case_f, case_g, case_h, case_i, case_j, case_k}

pub worked : T (every table)
unfolding table case_a case_b case_c case_d case_e case_f case_g case_h case_i case_j case_k order_of before square_root sqrt_of to_bits of_bits add mul sub div neg lt le rising_of moved_outer scatter_of with_point transformed of_points mean_and_scatter plane_of smallest_axis moments_plane frames_plane at_least_one absolute somewhere all_finite finite_above record_of bad_records bad_count fixed_count count_at count_sum dropped empty_at some_empty too_few not_finite points bad_shapes build_refusal
worked = tt
