-- What a call answers that hands on a callee's refusal by `?`: the callee's number, which is not 0. Assumes nothing.
use Rattle.std.specs.Prelude.{ℕ, ◌≡◌, Result}
use Rattle.std.specs.Result.{IsErrAnd}
use Rattle.std.proofs.lemmas.Result.{err_from_is_err_and}
use Rattle.refusals.specs.declared.Refusal.{Refusal}
use Rattle.refusals.specs.declared.Refusal.TheVariants as reason
use Rattle.refusals.specs.Refusal.{Answered, refused_by}
use Rattle.refusals.specs.Number.{number_of, number}

-- no reason has the number 0
pub some_number : (e : Refusal) → number_of e ≡ 0 → ⊥
some_number reason.DofTooLarge h = cc
some_number reason.EmptyList h = cc
some_number reason.WrongLength h = cc
some_number reason.EmptyFrame h = cc
some_number reason.TooFewPoints h = cc
some_number reason.NotFinite h = cc
some_number reason.BadSigma h = cc
some_number reason.WrongActions h = cc
some_number reason.BadWord h = cc
some_number reason.OutOfHessian h = cc
some_number reason.DegenerateNormal h = cc
some_number reason.BadVariance h = cc
some_number reason.NegativeFixedCount h = cc
some_number reason.TransformMisfit h = cc
some_number reason.CountTooLarge h = cc

-- r is what the call answers, and e what the callee answered: `c.from_residual.ensures.1` of a proof is the first premise
pub handed_on : {A B : Type 0} {refusal : ℕ} {old new : B} (r : Result A Refusal) (e : Refusal) → IsErrAnd r (λ y. y ≡ e) → refusal ≡ number_of e → Answered refusal (number r) old old new
handed_on r e h is =
    let told = err_from_is_err_and r h in
    rw (told.1, told.2) (refused_by is (some_number e))
