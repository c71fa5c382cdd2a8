-- Calls that make a chain do what demand 3 says, and two builds of the same inputs agree. Assumes nothing.
use Rattle.std.specs.Prelude.{ℕ, ◌≡◌, refl, List, Float}
use Rattle.std.proofs.Common.{subst}
use Rattle.refusals.specs.Refusal.{Answered}
use Rattle.plane_moments.specs.Build.{Outputs, outputs, build_refusal, built}
use Rattle.strict_build.specs.Strict.{strict_refusal}
use Rattle.strict_build.proofs.StrictAgrees.{strict_agrees}
use Rattle.call_lists.specs.Calls.{Made}
use Rattle.normal_list.specs.Work.{Work, Got}
use Rattle.normal_list.specs.Demand.{Calls}
use Rattle.normal_list.proofs.Theorem.{demand_3}
use Rattle.exported_calls.specs.Row.{CostsKept, InARow}
use Rattle.exported_calls.specs.Builds.{Agree}

pub in_a_row : {h g : List Float} {es : List (Made Work Got)} {costs h' g' : List Float} → Calls h g es h' g' → CostsKept es costs → InARow h g es costs h' g'
in_a_row chain kept = record { chain = chain; demand = demand_3 _ _ _ _ _ chain; costs_kept = kept }

-- the outputs of the two calls are o and p before, and o' and p' after
pub builds_agree : (dof : ℕ) (frames fixed : List Float) (sigma : Float) (o p o' p' : Outputs) (q r : ℕ)
    → Answered (build_refusal dof frames fixed sigma o.frames o.fixed) q o o' (built frames fixed o.fixed)
    → Answered (strict_refusal dof frames fixed sigma p.frames p.fixed) r p p' (built frames fixed p.fixed)
    → Agree o p q r o' p'
builds_agree dof frames fixed sigma o p o' p' q r plain strict e n =
    let same = strict_agrees dof frames fixed sigma o.frames o.fixed o.points o.dropped
    (subst (λ (x : Outputs). Answered (strict_refusal dof frames fixed sigma x.frames x.fixed) r x p' (built frames fixed x.fixed)) e strict) plain n in
    (same.0, λ i. outputs (same.1 i) (same.2 i) (same.3 i) (same.4 i))

-- what a caller has of it: outputs that held the same, and an answer other than 13
pub same-outputs : (o o' p' : Outputs) (q r : ℕ) → Agree o o q r o' p' → (r ≡ 13 → ⊥) → (r ≡ q) × (p' ≡ o')
same-outputs o o' p' q r agree n = agree refl n
