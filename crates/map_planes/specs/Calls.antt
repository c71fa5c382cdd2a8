-- Why a call on a match list is turned away, as far as the list and its action go; and what a call may rely on where it is not. Assumes nothing.
use Rattle.std.specs.Prelude.{ℕ, ◌*◌, ◌%◌, ◌≤◌, ◌≡◌, Bool, false, not, ◌||◌, List, [], ◌∷◌, ◌++◌, ltb, eqb, length, Float}
use Rattle.std.proofs.Common.{sym, ◌∙◌, suc-ne-zero, arith, ltb-false, eqb-true}
use Rattle.std.proofs.lemmas.Bool.{not-false}
use Rattle.refusals.specs.Refusal.{Reason, ◌when◌, first_of, none, either_none}
use Rattle.terms.specs.Terms.{upto}
use Rattle.derivative.specs.Action.{action_size, most_dof}
use Rattle.map_plane.specs.Match.{MATCH, match_at, match_reasons}
use Rattle.match_sums.specs.Groups.{match_count}
use Rattle.map_planes.specs.Reasons.{Numbered, first-append, parts_numbered, or_else, neither}

-- the most matches of a list
abbrev pub most_matches : ℕ
most_matches = 65536

-- 3: the list is not whole records, or has too many
unfoldable pub bad_matches : List Float → Bool
bad_matches ms = not (eqb (length ms % MATCH) 0) || ltb most_matches (match_count ms)

-- "among matches the first bad match decides": the reasons of match 0, 6 before 7, then those of match 1, ..
unfoldable pub reasons_at : List Float → ℕ → List Reason
reasons_at ms k = match_reasons (match_at ms k)

abbrev pub list_reasons : List Float → List Reason
list_reasons ms = upto (match_count ms) (reasons_at ms)

-- "Every call on matches tests 1, 2, 3, then 6 and 7 match by match, then 8". `misfit`: some other slice of the call has a wrong length
abbrev pub matches_reasons : ℕ → List Float → Bool → List Float → List Reason
matches_reasons dof ms misfit x =
    1 when ltb most_dof dof ∷
    2 when eqb (length ms) 0 ∷
    3 when (bad_matches ms || misfit) ∷
    (list_reasons ms ++ (8 when not (eqb (length x) action_size) ∷ []))

unfoldable pub matches_refusal : ℕ → List Float → Bool → List Float → ℕ
matches_refusal dof ms misfit x = first_of (matches_reasons dof ms misfit x)

-- ---- laws
pub reasons_numbered : (ms : List Float) (k : ℕ) → Numbered (reasons_at ms k)
unfolding reasons_at
reasons_numbered ms k = (suc-ne-zero 5, (suc-ne-zero 6, tt))

-- the list's reasons come before what follows them
pub list-first : (ms : List Float) (rest : List Reason) → first_of (list_reasons ms ++ rest) ≡ or_else (first_of (list_reasons ms)) (first_of rest)
list-first ms rest = first-append (list_reasons ms) rest (parts_numbered (reasons_at ms) (reasons_numbered ms) (match_count ms))

-- what a call may rely on where it is not refused
pub record Fit (dof : ℕ) (ms : List Float) (misfit : Bool) (x : List Float) : Type 0 where
  pub narrow : dof ≤ most_dof
  pub whole : length ms ≡ MATCH * match_count ms
  pub few : match_count ms ≤ most_matches
  pub fits : misfit ≡ false
  pub action_size_lem : length x ≡ action_size

pub fit : (dof : ℕ) (ms : List Float) (misfit : Bool) (x : List Float) → matches_refusal dof ms misfit x ≡ 0 → Fit dof ms misfit x
unfolding matches_refusal bad_matches
fit dof ms misfit x h =
    let last = 8 when not (eqb (length x) action_size) ∷ [] in
    let rest = list_reasons ms ++ last in
    let one = none (ltb most_dof dof) 0 _ h in
    let two = none (eqb (length ms) 0) 1 _ one.1 in
    let three = none (bad_matches ms || misfit) 2 (first_of rest) two.1 in
    let list = neither (first_of (list_reasons ms)) (first_of last) (sym (list-first ms last) ∙ three.1) in
    let eight = none (not (eqb (length x) action_size)) 7 0 list.1 in
    let shape = either_none (bad_matches ms) misfit three.0 in
    let records = either_none (not (eqb (length ms % MATCH) 0)) (ltb most_matches (match_count ms)) shape.0 in
    let exact : length ms % MATCH ≡ 0 = eqb-true (length ms % MATCH) 0 (not-false (eqb (length ms % MATCH) 0) records.0) in
    record {
      narrow = ltb-false most_dof dof one.0;
      whole = omega arith;
      few = ltb-false most_matches (match_count ms) records.1;
      fits = shape.1;
      action_size_lem = eqb-true (length x) action_size (not-false (eqb (length x) action_size) eight.0);
    }
