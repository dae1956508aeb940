-- The claims of the members' keys.
use mathlib.Core.Path.{◌≡◌, refl, sym, ◌∙◌}
use mathlib.Core.Bool.{true, false, not}
use mathlib.Core.List.{List, ◌++◌}
use mathlib.Core.Logic.{inl, inr, ⊎_elim}
use Prim.Native.Nat.{ℕ, ◌+◌, ◌-◌}
use native.Mathlib.Omega.{arith}
use lib.Dec.{eqb}
use Rattle.words.specs.Lists.{all, none_twice, entry}
use Rattle.words.proofs.Lists.{All-append, entry_at}
use Rattle.words.proofs.Tests.{and-true, all_true, true-all, distinct-true, true-distinct, false-twice, twice-false}
use Rattle.words.specs.declared.refusal.Refusal.TheVariants.{NoElement, SameKey}
use Rattle.group.specs.Element.{is_element, is_generator}
use Rattle.group.specs.declared.Group.{Group}
use Rattle.records.specs.Keys.{is_key, key_checks}
use Rattle.records.specs.Claims.{KeysProper, KeyTwice, EqualKeys, DistinctMet}

pub key-element : (G : Group) (y : ℕ) → is_key G y ≡ true → is_element G y ≡ true
unfolding is_generator is_key
key-element G y e = (and-true (is_element G y) (not (eqb y 1)) e).0

-- two members have one key exactly where each number is a key and one stands twice
module _ (G : Group) (ys : List ℕ) where
  key_twice : all (is_key G) ys ≡ true → none_twice ys ≡ false → KeyTwice G ys
  key_twice a t =
      let s = false-twice ys t in
      record {
        keys = all_true (is_key G) ys a;
        one = s.0 + 1;
        other = s.1 + 1;
        member = omega arith;
        later = omega (arith, s.2);
        within = omega (arith, s.3);
        same = sym (entry_at ys s.0) ∙ s.4 ∙ entry_at ys s.1;
      }

  pub twice-key : KeyTwice G ys → none_twice ys ≡ false
  unfolding entry
  twice-key T =
      twice-false ys (T.one - 1) (T.other - 1) (omega (arith, T.member, T.later)) (omega (arith, T.member, T.later, T.within)) T.same

pub equal-keys : EqualKeys
unfolding key_checks
equal-keys G ys = (
  ⊎_elim (λ w. let e : NoElement ≡ SameKey = w.1 in cc) (λ w. ⊎_elim (λ v. key_twice G ys w.0 v.0) (λ v. absurd v.1) w.1),
  λ T. inr (true-all (is_key G) ys T.keys, inl (twice-key G ys T, refl)),
)

pub keys-proper : KeysProper
unfolding key_checks
keys-proper G ys = (
  λ m. record { keys = all_true (is_key G) ys m.0; distinct = distinct-true ys m.1.0 },
  λ P. (true-all (is_key G) ys P.keys, (true-distinct ys P.distinct, tt)),
)

pub distinct-met : DistinctMet
unfolding key_checks
distinct-met G ys d front behind m k =
    All-append (λ c. c.by ≡ SameKey → c.met ≡ true) front (key_checks G ys ++ behind) m
    (λ e. let d : NoElement ≡ SameKey = e in cc, (λ e. true-distinct ys d, k))
