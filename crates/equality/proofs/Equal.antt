-- Proofs of equal logarithms: accepted exactly if they hold, and complete. The response is made so that it gives back the announcement of the nonce.
use mathlib.Core.Path.{◌≡◌, sym, ap, ◌∙◌}
use mathlib.Core.Bool.{true}
use mathlib.Core.List.{List, [], ◌∷◌}
use Prim.Native.Nat.{ℕ, ◌<◌}
use native.Mathlib.Omega.{arith}
use Rattle.words.proofs.Tests.{equal-true, true-equal, all_true, true-all}
use Rattle.words.proofs.Checks.{value-exactly}
use Rattle.field.specs.Residue.{add, mul, neg, sub}
use Rattle.field.proofs.Modular.{add_comm, add_assoc, add-neg, mul_comm, mul-one, sub-add-neg, sub-below}
use Rattle.group.specs.Power.{pow}
use Rattle.group.specs.Element.{is_element, is_exponent, Proper}
use Rattle.group.specs.declared.Group.{Group}
use Rattle.group.proofs.Powers.{pow_below, pow-none}
use Rattle.group.proofs.Elements.{exponent-true, true-exponent, power-element, power-of-sum, power-of-product}
use Rattle.group.proofs.Answers.{met-sound, in-group-exactly}
use Rattle.equality.specs.Equality.{announced, response, equality_checks, equality_in, equality_outcome}
use Rattle.equality.specs.Claims.{Holds, EqualityExactly, EqualityComplete, EqualityByNumber, proof_of}
use Rattle.equality.specs.declared.Equality.{Equality}
use Rattle.std.specs.Prelude.{Ok}

-- a difference and what was taken away
back : (q w m : ℕ) → 0 < q → add q (sub q w m) m ≡ add q w 0
back q w m h =
    ap (λ (x : ℕ). add q x m) (sub-add-neg q w m)
    ∙ add_assoc q w (neg q m) m
    ∙ ap (add q w) (add_comm q (neg q m) m ∙ add-neg q m h)

module _ (G : Group) (P : Proper G) where
  pub response-low : (w c e : ℕ) → response G w c e < G.q
  unfolding response
  response-low w c e = sub-below G.q _ _ (omega (arith, P.prime-q.above-one))

  -- what the response gives is the announcement of the nonce
  pub announced-back : (b w c e : ℕ) → is_element G b ≡ true → announced G b (pow G.p b e) c (response G w c e) ≡ pow G.p b w
  unfolding announced response
  announced-back b w c e m =
      let r = sub G.q w (mul G.q c e) in
      ap (mul G.p (pow G.p b r)) (sym (power-of-product G P b e c m) ∙ ap (pow G.p b) (mul_comm G.q e c))
      ∙ sym (power-of-sum G P b r (mul G.q c e) m)
      ∙ ap (pow G.p b) (back G.q w (mul G.q c e) (omega (arith, P.prime-q.above-one)))
      ∙ power-of-sum G P b w 0 m
      ∙ ap (mul G.p (pow G.p b w)) (pow-none G.p b P.prime-p.above-one)
      ∙ mul-one G.p (pow G.p b w) (pow_below G.p b w (omega (arith, P.prime-p.above-one)))

module _ (G : Group) (E : Equality) where
  abbrev elements : List ℕ
  elements = E.b1.0 ∷ E.x1.0 ∷ E.b2.0 ∷ E.x2.0 ∷ E.a1.0 ∷ E.a2.0 ∷ []

  abbrev exponents : List ℕ
  exponents = E.c.0 ∷ E.r.0 ∷ []

  accepted-holds : equality_in G E ≡ Ok tt → Holds G E
  unfolding equality_in
  accepted-holds e =
      let m = (value-exactly Unit (equality_checks G E) tt).0 e in
      let low = all_true (is_exponent G) exponents m.1.0 in
      let s = equal-true E.a1.0 _ E.a2.0 _ m.1.1.0 in
      record {
        elements = all_true (is_element G) elements m.0;
        c-low = exponent-true G E.c.0 low.0;
        r-low = exponent-true G E.r.0 low.1.0;
        first = s.0;
        second = s.1;
      }

  holds-accepted : Holds G E → equality_in G E ≡ Ok tt
  unfolding equality_in
  holds-accepted H =
      let six = true-all (is_element G) elements H.elements in
      let seven = true-all (is_exponent G) exponents (true-exponent G E.c.0 H.c-low, (true-exponent G E.r.0 H.r-low, tt)) in
      let ten = true-equal E.a1.0 _ E.a2.0 _ H.first H.second in
      (value-exactly Unit (equality_checks G E) tt).1 (six, (seven, (ten, tt)))

pub equality-exactly : EqualityExactly
equality-exactly G E = (accepted-holds G E, holds-accepted G E)

pub equality-complete : EqualityComplete
equality-complete G P b1 b2 e w c m1 m2 l =
    holds-accepted G (proof_of G b1 b2 e w c)
    (record {
      elements =
          (m1, (power-element G P b1 e m1, (m2, (power-element G P b2 e m2, (power-element G P b1 w m1, (power-element G P b2 w m2, tt))))));
      c-low = l;
      r-low = response-low G P w c e;
      first = sym (announced-back G P b1 w c e m1);
      second = sym (announced-back G P b2 w c e m2);
    })

pub equality-by-number : EqualityByNumber
unfolding equality_outcome equality_in
equality-by-number T k E =
    let by = in-group-exactly {A = Unit} T k (λ G. equality_checks G E) (λ G. tt) tt in
    (λ e. let w = by.0 e in (w.0, (met-sound T k w.0).proper, w.1), λ w. by.1 (w.0, w.2))
