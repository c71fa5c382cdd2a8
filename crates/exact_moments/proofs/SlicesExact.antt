-- A host's slices: whatever exported calls made them, each is taken and the slice holds the record of the plan that was followed. So two hosts that gathered, pushed and
-- merged the same points in any order and cut have the same thirteen numbers. Assumes nothing.
use Prim.Native.Nat.{◌+◌, ◌/◌, ◌≤◌}
use mathlib.Core.Path.{◌≡◌, refl, sym, ap, ◌∙◌, subst}
use mathlib.Core.List.{List, [], ◌∷◌, ◌++◌, Permᴰ}
use native.Mathlib.Omega.{arith}
use lib.ListN.{length, length-append}
use lib.Ieee.{Float}
use Rattle.lists.specs.Part.{part}
use Rattle.call_lists.specs.Lists.{Every}
use Rattle.counts.specs.Saturation.{MOST}
use Rattle.point_moments.specs.Moments as Moments
use Rattle.moment_lists.specs.Calls.{Pushes, Merges}
use Rattle.moment_lists.proofs.Records.{Arrays, gather_taken, push_taken, merge_taken}
use Rattle.exact_moments.specs.Grid.{OnGrid, Within, POINTS, REACH, exact}
use Rattle.exact_moments.specs.Plan.{Plan, points, wholes, moments, Accepted}
use Rattle.exact_moments.specs.Slices.{Calls, zeros, gather, push, merge, plan, Sized, Made, Taken}
use Rattle.exact_moments.proofs.MomentsExact.{moments-exact, none-refused-up-to, same-wholes}
use Rattle.exact_moments.proofs.CutAnywhere.{pushes-moments, pushes-within, whole_points, both-points}

arrays : (a : Plan) → Arrays (moments a)
unfolding moments Moments.with_point Moments.merged
arrays Plan.empty = (refl, refl)
arrays (Plan.push a p) = (refl, refl)
arrays (Plan.merge a b) = (refl, refl)

-- of any points: up to 2^53 no call is refused
pub slices_moments : (c : Calls) (m : List Float) (made : Made c m) → Sized c → length (points (plan c)) ≤ MOST → Taken c m made × (m ≡ Moments.moments_list (moments (plan c)))
unfolding plan Sized Taken moments points Accepted
slices_moments zeros m made s h = (tt, made)
slices_moments (gather l) m (old, r, sized, call) s h =
    let t = gather_taken l old m r sized s call in
    (t.0, t.1 ∙ ap Moments.moments_list (sym (pushes-moments (length l / 3) l)))
slices_moments (push c p) m (old, r, before, call) s h =
    let b = slices_moments c old before s.0 (omega (arith, length-append (points (plan c)) (part 3 p 0 ∷ []))) in
    let t = push_taken (moments (plan c)) p m r (arrays (plan c)) s.1 (none-refused-up-to (plan (push c p)) h).1 (subst (λ (x : List Float). Pushes x p r m) b.1 call) in
    ((b.0, t.0), t.1)
slices_moments (merge c d) m (old, other, r, before, beside, call) s h =
    let e = length-append (points (plan c)) (points (plan d)) in
    let b = slices_moments c old before s.0 (omega arith) in
    let o = slices_moments d other beside s.1 (omega arith) in
    let t = merge_taken (moments (plan c)) (moments (plan d)) m r (arrays (plan c)) (arrays (plan d)) (none-refused-up-to (plan (merge c d)) h).2 (subst (λ (x : List Float). Merges x (Moments.moments_list (moments (plan d))) r m) b.1 (subst (λ (x : List Float). Merges old x r m) o.1 call)) in
    ((b.0, o.0, t.0), t.1)

-- document 02's points
pub slices_exact : (c : Calls) (m : List Float) (made : Made c m) → Sized c → Within POINTS REACH (points (plan c)) → Taken c m made × (m ≡ Moments.moments_list (exact (wholes (plan c))))
slices_exact c m made s w =
    let t = slices_moments c m made s (omega (arith, w.few)) in
    (t.0, t.1 ∙ ap Moments.moments_list (moments-exact (plan c) w))

pub same_slices : (c d : Calls) (m n : List Float) → Made c m → Made d n → Sized c → Sized d → Within POINTS REACH (points (plan c)) → Within POINTS REACH (points (plan d))
    → Permᴰ (wholes (plan c)) (wholes (plan d)) → m ≡ n
same_slices c d m n made made' s t w v p =
    (slices_moments c m made s (omega (arith, w.few))).1
    ∙ ap Moments.moments_list (same-wholes (plan c) (plan d) w v p)
    ∙ sym (slices_moments d n made' t (omega (arith, v.few))).1

-- a list of points gathered whole, and its two parts gathered and merged
pub cut_slices : (l m whole cut : List Float) (made : Made (gather (l ++ m)) whole) (made' : Made (merge (gather l) (gather m)) cut)
    → Sized (gather (l ++ m)) → Sized (merge (gather l) (gather m)) → Every (OnGrid REACH) (l ++ m) → Taken (gather (l ++ m)) whole made × Taken (merge (gather l) (gather m)) cut made' × (cut ≡ whole)
unfolding plan Sized points
cut_slices l m whole cut made made' s t g =
    let n = length l / 3 in
    let k = length m / 3 in
    let a = whole_points l t.0 in
    let b = whole_points m t.1 in
    let c = whole_points (l ++ m) s in
    let e : length (l ++ m) / 3 ≡ n + k = omega (arith, length-append l m, a.0, b.0, c.0) in
    let j = both-points n k l m a.0 in
    let w : Within POINTS REACH (points (plan (gather (l ++ m)))) = pushes-within (length (l ++ m) / 3) (l ++ m) c.0 (omega (arith, c.1)) g in
    let v : Within POINTS REACH (points (plan (merge (gather l) (gather m)))) = rw (e, j) at w in
    let x = slices_exact (gather (l ++ m)) whole made s w in
    let y = slices_exact (merge (gather l) (gather m)) cut made' t v in
    (x.0, y.0, y.1 ∙ sym (x.1 ∙ rw (e, j)))
