-- The call that linearizes a match list: a residual a match, and the Jacobian of a row a match, by columns. Assumes nothing.
use Rattle.std.specs.Prelude.{ℕ, ◌*◌, ◌≡◌, Bool, false, not, ◌||◌, ◌&&◌, cond, List, eqb, length, Float}
use Rattle.std.proofs.Common.{sym, ap, ◌∙◌, eqb-true, ne_eqb}
use Rattle.std.proofs.lemmas.Bool.{not-false}
use Rattle.refusals.specs.Refusal.{Answered, either_none, not-both}
use Rattle.sums.specs.Sum.{grid}
use Rattle.match_rows.specs.Row.{row_at}
use Rattle.match_sums.specs.Groups.{match_count}
use Rattle.match_columns.specs.Residuals.{residuals}
use Rattle.map_planes.specs.Calls.{matches_refusal}

-- 3: not a residual for each of n matches, or a Jacobian of neither n rows and dof columns nor nothing, which means not wanted
unfoldable pub bad_outputs : ℕ → ℕ → ℕ → ℕ → Bool
bad_outputs n dof residuals cells = not (eqb residuals n) || (not (eqb cells 0) && not (eqb cells (dof * n)))

-- the Jacobian J(k,c), match k's number c; one that is not wanted stays as it is
unfoldable pub jacobian_of : ℕ → List Float → List Float → List Float → List Float
jacobian_of dof x ms old = cond (eqb (length old) 0) old (grid (match_count ms) dof (row_at x ms))

unfoldable pub linearize_refusal : ℕ → List Float → List Float → List Float → List Float → ℕ
linearize_refusal dof ms x r j = matches_refusal dof ms (bad_outputs (match_count ms) dof (length r) (length j)) x

-- the call's number, and what it leaves in the residuals and in the Jacobian
abbrev pub Linearized : ℕ → List Float → List Float → ℕ → List Float → List Float → List Float → List Float → Type 0
Linearized dof ms x number r j r' j' =
    Answered {A = List Float × List Float} (linearize_refusal dof ms x r j) number (r, j) (r', j') (residuals x ms, jacobian_of dof x ms j)

-- ---- laws
-- what the call may rely on where the outputs are not misshapen
pub good_outputs : (n dof residuals cells : ℕ) → bad_outputs n dof residuals cells ≡ false → (residuals ≡ n) × ((cells ≡ 0 → ⊥) → cells ≡ dof * n)
unfolding bad_outputs
good_outputs n dof residuals cells h =
    let p = either_none (not (eqb residuals n)) (not (eqb cells 0) && not (eqb cells (dof * n))) h in
    (eqb-true residuals n (not-false (eqb residuals n) p.0), λ some. eqb-true cells (dof * n) (not-both (eqb cells 0) (eqb cells (dof * n)) (ne_eqb cells 0 some) p.1))

-- the call's tests as code makes them
pub asked_is : (dof : ℕ) (ms x r j : List Float) (misfit : Bool) (why : ℕ) → misfit ≡ bad_outputs (match_count ms) dof (length r) (length j)
    → why ≡ matches_refusal dof ms misfit x → linearize_refusal dof ms x r j ≡ why
unfolding linearize_refusal
asked_is dof ms x r j misfit why shape asked = sym (asked ∙ ap (λ (b : Bool). matches_refusal dof ms b x) shape)
