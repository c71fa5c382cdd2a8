-- The numbers of the reasons, and of a call's answer. Definitions only.
use Rattle.std.specs.Prelude.{ℕ, Result, Ok, Err}
use Rattle.refusals.specs.declared.Refusal.{Refusal}
use Rattle.refusals.specs.declared.Refusal.TheVariants as reason

-- document 01's number of a reason
abbrev pub number_of : Refusal → ℕ
number_of reason.DofTooLarge = 1
number_of reason.EmptyList = 2
number_of reason.WrongLength = 3
number_of reason.EmptyFrame = 4
number_of reason.TooFewPoints = 5
number_of reason.NotFinite = 6
number_of reason.BadSigma = 7
number_of reason.WrongActions = 8
number_of reason.BadWord = 9
number_of reason.OutOfHessian = 10
number_of reason.DegenerateNormal = 11
number_of reason.BadVariance = 12
number_of reason.NegativeFixedCount = 13
number_of reason.TransformMisfit = 14
number_of reason.CountTooLarge = 15

-- the number that a call's answer stands for: 0 where it is not refused
abbrev pub number : {A : Type 0} → Result A Refusal → ℕ
number (Ok x) = 0
number (Err e) = number_of e
