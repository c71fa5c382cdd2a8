-- One match below its chain: its residual and its row, from the point in the world, the state's columns and the extrinsic Jacobian. Assumes nothing.
use Rattle.std.specs.Prelude.{ℕ, ◌+◌, ◌*◌, ◌<◌, ◌≤◌, ◌≡◌, refl, Bool, true, false, not, ◌||◌, ◌&&◌, cond, List, [], ◌∷◌, ◌++◌, ltb, eqb, length, take, Float}
use Rattle.std.proofs.Common.{sym, ◌∙◌, true≢false, append-nil, le_of_eq, arith, drop_of_length-le, ext_get_or, get_or-take, length-take-le, eqb-true, ne_eqb}
use Rattle.std.specs.Float.{nan}
use Rattle.refusals.specs.Refusal.{◌when◌, first_of, wrong_length, Answered, not-both}
use Rattle.sums.specs.Sum.{◌⊕◌, ◌⊗◌, sum_to, dot, tab, at}
use Rattle.sums.specs.Laws.{length-tab, get_or-tab}
use Rattle.sums.specs.Fill.{First, written}
use Rattle.lists.specs.Part.{◌!◌, part}
use Rattle.derivative.specs.Action.{most_dof}
use Rattle.map_plane.specs.Match.{MATCH, normal, offset, information, bad_point, bad_sigma, match_reasons}

-- the columns of the extrinsic Jacobian
abbrev pub EXTRINSIC : ℕ
EXTRINSIC = 6

-- information·((Σ n_r·world_r) + offset)
abbrev pub residual : List Float → List Float → Float
residual m w = information m ⊗ (dot 3 (normal m) w ⊕ offset m)

-- Σ_r n_r·column_c(r)
unfoldable pub projected : List Float → List Float → ℕ → Float
projected n columns c = sum_to 3 (λ r. n ! r ⊗ at 3 columns r c)

-- a state column is information times the whole projection
abbrev pub state_column : Float → List Float → List Float → ℕ → Float
state_column info n state c = info ⊗ projected n state c

-- an extrinsic column uses information·normalᵀ first
abbrev pub extrinsic_column : List Float → List Float → ℕ → Float
extrinsic_column m extrinsic c = projected (tab 3 (λ r. information m ⊗ normal m ! r)) extrinsic c

abbrev pub whole_row : ℕ → List Float → List Float → List Float → List Float
whole_row dof m state extrinsic = tab dof (state_column (information m) (normal m) state) ++ tab EXTRINSIC (extrinsic_column m extrinsic)

-- what the call is handed
pub record Inputs : Type 0 where
  pub dof : ℕ
  pub matched : List Float
  pub world : List Float
  pub d_state : List Float
  pub d_extrinsic : List Float

-- 3, of the slices that are read
unfoldable pub bad_lengths : ℕ → ℕ → ℕ → ℕ → ℕ → Bool
bad_lengths dof matched world state extrinsic =
    wrong_length ((matched, MATCH) ∷ (world, 3) ∷ (state, dof * 3) ∷ (extrinsic, EXTRINSIC * 3) ∷ [])

-- 3: a row is dof + 6 numbers, or none, which means not wanted
unfoldable pub bad_row : ℕ → ℕ → Bool
bad_row dof cells = not (eqb cells 0) && not (eqb cells (dof + EXTRINSIC))

-- the call tests 1, 2, 3, 6, 7; 6 looks at the match's own point and not at the world's
unfoldable pub linearize_refusal : Inputs → List Float → ℕ
linearize_refusal x old =
    first_of
    (1 when ltb most_dof x.dof ∷
    2 when eqb (length x.matched) 0 ∷
    3 when (bad_lengths x.dof (length x.matched) (length x.world) (length x.d_state) (length x.d_extrinsic) || bad_row x.dof (length old)) ∷
    match_reasons x.matched)

-- the row that is left: one that is not wanted stays as it is
unfoldable pub row_left : Inputs → List Float → List Float
row_left x old = cond (eqb (length old) 0) old (whole_row x.dof x.matched x.d_state x.d_extrinsic)

-- the call's number, and what it leaves in the residual and in the row
abbrev pub Linearized : Inputs → ℕ → Float → List Float → Float → List Float → Type 0
Linearized x number r l r' l' =
    Answered {A = Float × List Float} (linearize_refusal x l) number (r, l) (r', l') (residual x.matched x.world, row_left x l)

-- ---- laws
pub row-wanted : (dof cells : ℕ) → bad_row dof cells ≡ false → (cells ≡ 0 → ⊥) → cells ≡ dof + EXTRINSIC
unfolding bad_row
row-wanted dof cells h some = eqb-true cells (dof + EXTRINSIC) (not-both (eqb cells 0) (eqb cells (dof + EXTRINSIC)) (ne_eqb cells 0 some) h)

right : (a b : ℕ) (rest : Bool) → (not (eqb a b) || rest) ≡ false → (a ≡ b) × (rest ≡ false)
right a b rest h = go (eqb a b) rest (eqb-true a b) h
  where
    go : (t rest : Bool) → (t ≡ true → a ≡ b) → (not t || rest) ≡ false → (a ≡ b) × (rest ≡ false)
    go true rest f h = (f refl, h)
    go false rest f h = absurd (true≢false h)

pub good_lengths : (dof matched world state extrinsic : ℕ) → bad_lengths dof matched world state extrinsic ≡ false
    → (matched ≡ MATCH) × (world ≡ 3) × (state ≡ dof * 3) × (extrinsic ≡ EXTRINSIC * 3)
unfolding bad_lengths
good_lengths dof matched world state extrinsic h =
    let a = right matched MATCH (wrong_length ((world, 3) ∷ (state, dof * 3) ∷ (extrinsic, EXTRINSIC * 3) ∷ [])) h in
    let b = right world 3 (wrong_length ((state, dof * 3) ∷ (extrinsic, EXTRINSIC * 3) ∷ [])) a.1 in
    let c = right state (dof * 3) (wrong_length ((extrinsic, EXTRINSIC * 3) ∷ [])) b.1 in
    let d = right extrinsic (EXTRINSIC * 3) false c.1 in
    (a.0, b.0, c.0, d.0)

-- a match that is the whole slice
pub own_match : (m : List Float) → first_of (match_reasons (part MATCH m 0)) ≡ first_of (match_reasons m)
unfolding bad_point bad_sigma
own_match m = refl

-- the first n numbers written, then the others
first-take : (n : ℕ) (l : List Float) (f : ℕ → Float) → n ≤ length l → First n l f → take n l ≡ tab n f
first-take n l f w h =
    let e : length (take n l) ≡ n = length-take-le n l w in
    ext_get_or nan (take n l) (tab n f) (e ∙ sym (length-tab n f)) (λ k m. let q : k < n = omega arith in get_or-take n l k nan q ∙ h k q ∙ sym (get_or-tab n f k q))

pub two_parts : (n k : ℕ) (l : List Float) (f g : ℕ → Float) → length l ≡ n + k → First n l f → written l n k g ≡ tab n f ++ tab k g
unfolding written
two_parts n k l f g e h = rw (first-take n l f (omega arith) h, drop_of_length-le l (le_of_eq e), append-nil (tab k g))
