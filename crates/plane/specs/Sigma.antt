-- The standard deviation of a point's distance from a plane: the root of nᵀ·A·P·Aᵀ·n + j·C·jᵀ, from the left, one sum a line. Definitions only.
-- n is the plane's normal and o its centroid, C the covariance of the two; w is the point in the world, P its covariance as it was scanned,
-- and A takes a displacement of the scanned point to the world.
use Rattle.std.specs.Prelude.{not, cond, List, [], ◌∷◌, ◌++◌, Float, Result, Ok, Err}
use Rattle.std.specs.Float.{binary64}
use Rattle.std.specs.Float.Ieee.{sub, neg}
use Rattle.sums.specs.Sum.{◌⊕◌, ◌⊗◌, sum_to, tab, at}
use Rattle.lists.specs.Part.{◌!◌}
use Rattle.refusals.specs.Refusal.{Reason, ◌when◌}
use Rattle.refusals.specs.declared.Refusal.{Refusal}
use Rattle.refusals.specs.declared.Refusal.TheVariants.{BadVariance}
use Rattle.square_root.specs.Computed.{square_root}
use Rattle.validate.specs.Finite.{finite_positive}

-- t_c = Σ_r n_r·A(r,c)
abbrev pub t : List Float → List Float → List Float
t n a = tab 3 (λ c. sum_to 3 (λ r. n ! r ⊗ at 3 a r c))

-- u_c = Σ_r t_r·P(r,c)
abbrev pub u : List Float → List Float → List Float → List Float
u n a p = tab 3 (λ c. sum_to 3 (λ r. t n a ! r ⊗ at 3 p r c))

-- v_c = Σ_r u_r·A(c,r)
abbrev pub v : List Float → List Float → List Float → List Float
v n a p = tab 3 (λ c. sum_to 3 (λ r. u n a p ! r ⊗ at 3 a c r))

-- the point's part, Σ_r v_r·n_r
unfoldable pub point_term : List Float → List Float → List Float → Float
point_term n a p = sum_to 3 (λ r. v n a p ! r ⊗ n ! r)

-- j = (w − o, −n), six numbers
abbrev pub jacobian : List Float → List Float → List Float → List Float
jacobian w o n = tab 3 (λ r. sub binary64 (w ! r) (o ! r)) ++ tab 3 (λ r. neg (n ! r))

-- q_c = Σ_r j_r·C(r,c), over six
abbrev pub q : List Float → List Float → List Float
q j c = tab 6 (λ k. sum_to 6 (λ r. j ! r ⊗ at 6 c r k))

-- the plane's part, Σ_c q_c·j_c, over six
unfoldable pub plane_term : List Float → List Float → Float
plane_term j c = sum_to 6 (λ k. q j c ! k ⊗ j ! k)

-- the two parts together
unfoldable pub variance : List Float → List Float → List Float → List Float → List Float → List Float → Float
variance n o c p w a = point_term n a p ⊕ plane_term (jacobian w o n) c

-- 12 unless the variance is finite and positive
abbrev pub variance_reasons : Float → List Reason
variance_reasons x = 12 when not (finite_positive x) ∷ []

-- the square root of a variance, or reason 12
unfoldable pub deviation : Float → Result Float Refusal
deviation x = cond (finite_positive x) (Ok (square_root x)) (Err BadVariance)
