-- The numbers of refusals: those of the scope paper, 1 to 14, and of the change requests behind them.
use Rattle.std.specs.Prelude.{ℕ, Bool, eqb}
use Rattle.words.specs.declared.refusal.Refusal.{Refusal}
use Rattle.words.specs.declared.refusal.Refusal.TheVariants.{UnknownGroup, OutOfRange, BadLength, BadForm, OutOfOrder, NoElement, NoExponent, NoMember, DegreeFails, ProofFails, WrongOpening, Incomplete, StillStuck, TooFew, BadRadius, BadCount, OtherRound, WrongDigest, NotNext, NotPrime, NoGenerator, SameKey}

abbrev pub number : Refusal → ℕ
number UnknownGroup = 1
number OutOfRange = 2
number BadLength = 3
number BadForm = 4
number OutOfOrder = 5
number NoElement = 6
number NoExponent = 7
number NoMember = 8
number DegreeFails = 9
number ProofFails = 10
number WrongOpening = 11
number Incomplete = 12
number StillStuck = 13
number TooFew = 14
number BadRadius = 15
number BadCount = 16
number OtherRound = 17
number WrongDigest = 18
number NotNext = 19
number NotPrime = 20
number NoGenerator = 21
number SameKey = 22

abbrev pub is_same : Refusal → Refusal → Bool
is_same a b = eqb (number a) (number b)
