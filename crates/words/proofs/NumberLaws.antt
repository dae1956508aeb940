-- No refusal has the number 0, and no two have one number.
use mathlib.Core.Path.{◌≡◌, refl, sym, ap, ◌∙◌}
use mathlib.Core.Bool.{true}
use mathlib.Core.List.{List, [], ◌∷◌}
use Prim.Native.Nat.{ℕ, ◌-◌, ◌<◌}
use native.Mathlib.Omega.{arith}
use borrow.Author.Tests.{eqb-true, eq-eqb}
use Rattle.std.specs.Prelude.{get_or}
use Rattle.words.specs.Numbers.{number, is_same}
use Rattle.words.specs.declared.refusal.Refusal.{Refusal}
use Rattle.words.specs.declared.refusal.Refusal.TheVariants.{UnknownGroup, OutOfRange, BadLength, BadForm, OutOfOrder, NoElement, NoExponent, NoMember, DegreeFails, ProofFails, WrongOpening, Incomplete, StillStuck, TooFew, BadRadius, BadCount, OtherRound, WrongDigest, NotNext, NotPrime, NoGenerator, SameKey}

-- all of them, in the order of their numbers
in_order : List Refusal
in_order =
    UnknownGroup
    ∷ OutOfRange
    ∷ BadLength
    ∷ BadForm
    ∷ OutOfOrder
    ∷ NoElement
    ∷ NoExponent
    ∷ NoMember
    ∷ DegreeFails
    ∷ ProofFails
    ∷ WrongOpening
    ∷ Incomplete
    ∷ StillStuck
    ∷ TooFew
    ∷ BadRadius
    ∷ BadCount
    ∷ OtherRound
    ∷ WrongDigest
    ∷ NotNext
    ∷ NotPrime
    ∷ NoGenerator
    ∷ SameKey
    ∷ []

refusal_of : ℕ → Refusal
refusal_of n = get_or in_order (n - 1) UnknownGroup

number-back : (k : Refusal) → refusal_of (number k) ≡ k
unfolding in_order refusal_of
number-back UnknownGroup = refl
number-back OutOfRange = refl
number-back BadLength = refl
number-back BadForm = refl
number-back OutOfOrder = refl
number-back NoElement = refl
number-back NoExponent = refl
number-back NoMember = refl
number-back DegreeFails = refl
number-back ProofFails = refl
number-back WrongOpening = refl
number-back Incomplete = refl
number-back StillStuck = refl
number-back TooFew = refl
number-back BadRadius = refl
number-back BadCount = refl
number-back OtherRound = refl
number-back WrongDigest = refl
number-back NotNext = refl
number-back NotPrime = refl
number-back NoGenerator = refl
number-back SameKey = refl

pub positive : (k : Refusal) → 0 < number k
positive UnknownGroup = omega arith
positive OutOfRange = omega arith
positive BadLength = omega arith
positive BadForm = omega arith
positive OutOfOrder = omega arith
positive NoElement = omega arith
positive NoExponent = omega arith
positive NoMember = omega arith
positive DegreeFails = omega arith
positive ProofFails = omega arith
positive WrongOpening = omega arith
positive Incomplete = omega arith
positive StillStuck = omega arith
positive TooFew = omega arith
positive BadRadius = omega arith
positive BadCount = omega arith
positive OtherRound = omega arith
positive WrongDigest = omega arith
positive NotNext = omega arith
positive NotPrime = omega arith
positive NoGenerator = omega arith
positive SameKey = omega arith

pub one-number : (j k : Refusal) → number j ≡ number k → j ≡ k
one-number j k e = sym (number-back j) ∙ ap refusal_of e ∙ number-back k

pub same-refusal : (j k : Refusal) → is_same j k ≡ true → j ≡ k
same-refusal j k e = one-number j k (eqb-true (number j) (number k) e)

pub same_refl : (j k : Refusal) → j ≡ k → is_same j k ≡ true
same_refl j k e = eq-eqb (number j) (number k) (ap number e)
