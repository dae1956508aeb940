-- Two records agree exactly if they are one.
use mathlib.Core.Path.{◌≡◌, refl, subst}
use mathlib.Core.Bool.{true}
use Prim.Native.Nat.{ℕ}
use borrow.Author.Tests.{eq-eqb, eqb-true}
use lib.Dec.{eqb}
use Rattle.words.specs.Bytes.{agrees}
use Rattle.words.specs.Claims.{AgreesExactly}
use Rattle.words.specs.declared.Record.{Record}
use Rattle.words.proofs.Tests.{and-true, true-and}

pub laid-agrees : (r : Record) → agrees r r ≡ true
unfolding agrees
laid-agrees r =
    let same : (x : ℕ) → eqb x x ≡ true = λ x. eq-eqb x x refl in
    true-and _ _ (same r.w0) (true-and _ _ (same r.w1) (true-and _ _ (same r.w2) (true-and _ _ (same r.w3)
    (true-and _ _ (same r.w4) (true-and _ _ (same r.w5) (true-and _ _ (same r.w6) (same r.w7)))))))

agrees-laid : (r s : Record) → agrees r s ≡ true → r ≡ s
unfolding agrees
agrees-laid r s e =
    let e0 = and-true (eqb r.w0 s.w0) _ e in
    let e1 = and-true (eqb r.w1 s.w1) _ e0.1 in
    let e2 = and-true (eqb r.w2 s.w2) _ e1.1 in
    let e3 = and-true (eqb r.w3 s.w3) _ e2.1 in
    let e4 = and-true (eqb r.w4 s.w4) _ e3.1 in
    let e5 = and-true (eqb r.w5 s.w5) _ e4.1 in
    let e6 = and-true (eqb r.w6 s.w6) (eqb r.w7 s.w7) e5.1 in
    λ j. record {
      w0 = eqb-true r.w0 s.w0 e0.0 j;
      w1 = eqb-true r.w1 s.w1 e1.0 j;
      w2 = eqb-true r.w2 s.w2 e2.0 j;
      w3 = eqb-true r.w3 s.w3 e3.0 j;
      w4 = eqb-true r.w4 s.w4 e4.0 j;
      w5 = eqb-true r.w5 s.w5 e5.0 j;
      w6 = eqb-true r.w6 s.w6 e6.0 j;
      w7 = eqb-true r.w7 s.w7 e6.1 j;
    }

pub agrees-exactly : AgreesExactly
agrees-exactly r s = (agrees-laid r s, λ e. subst (λ (x : Record). agrees r x ≡ true) e (laid-agrees r))
