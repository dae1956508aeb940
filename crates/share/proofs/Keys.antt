-- A secret key x: its key is proper, Y is the share that it opens to the power x, and of Y = y^e it opens the true share h^e.
use mathlib.Core.Path.{◌≡◌, sym, ap, ◌∙◌}
use mathlib.Core.Bool.{true, not}
use Prim.Native.Nat.{ℕ, ◌%◌, ◌≤◌, ◌<◌}
use native.Mathlib.Nat.{mod-eq_of_lt}
use native.Mathlib.Omega.{arith}
use borrow.Author.Tests.{ne_eqb}
use Rattle.words.proofs.Tests.{true-and}
use Rattle.field.specs.Residue.{mul, inv}
use Rattle.field.proofs.Modular.{mul_comm, mul_assoc}
use Rattle.field.proofs.Inverses.{mul-inv}
use Rattle.group.specs.Power.{pow}
use Rattle.group.specs.Element.{is_element, is_generator, Proper}
use Rattle.group.specs.declared.Group.{Group}
use Rattle.group.proofs.Powers.{pow-one}
use Rattle.group.proofs.Elements.{element-true, generator-element, power-element, power-of-product}
use Rattle.sharing.proofs.Generators.{one-exactly}
use Rattle.records.specs.Keys.{is_key}
use Rattle.share.specs.Share.{key_of, share_of}
use Rattle.share.specs.Claims.{ShareTrue}

module _ (G : Group) (P : Proper G) where
  pub h-element : is_element G G.h.0 ≡ true
  h-element = generator-element G P G.h.0 P.h-generates

  module _ (x : ℕ) (h : 1 ≤ x) (l : x < G.q) where
    pub key-proper : is_key G (key_of G x) ≡ true
    unfolding is_generator is_key key_of
    key-proper =
        true-and (is_element G (key_of G x)) _ (power-element G P G.h.0 x h-element)
        (ap not (ne_eqb (key_of G x) 1 (λ e. omega (arith, (one-exactly G P G.h.0 P.h-generates x l).0 e))))

    inverse-undone : (v : ℕ) → is_element G v ≡ true → pow G.p v (mul G.q x (inv G.q x)) ≡ v
    inverse-undone v e =
        let some : 0 < x % G.q = rw (mod-eq_of_lt l) h in
        ap (pow G.p v) (mul-inv G.q P.prime-q x some) ∙ pow-one G.p v ∙ mod-eq_of_lt (element-true G v e).low

    pub share-to-x : (Y : ℕ) → is_element G Y ≡ true → pow G.p (share_of G Y x) x ≡ Y
    unfolding share_of
    share-to-x Y e =
        sym (power-of-product G P Y (inv G.q x) x e)
        ∙ ap (pow G.p Y) (mul_comm G.q (inv G.q x) x)
        ∙ inverse-undone Y e

    share-of-power : (e : ℕ) → share_of G (pow G.p (key_of G x) e) x ≡ pow G.p G.h.0 e
    unfolding share_of key_of
    share-of-power e =
        let s : ℕ = inv G.q x in
        let swap : mul G.q (mul G.q x e) s ≡ mul G.q e (mul G.q x s) =
        ap (λ (z : ℕ). mul G.q z s) (mul_comm G.q x e) ∙ mul_assoc G.q e x s in
        ap (λ (z : ℕ). pow G.p z s) (sym (power-of-product G P G.h.0 x e h-element))
        ∙ sym (power-of-product G P G.h.0 (mul G.q x e) s h-element)
        ∙ ap (pow G.p G.h.0) swap
        ∙ power-of-product G P G.h.0 e (mul G.q x s) h-element
        ∙ inverse-undone (pow G.p G.h.0 e) (power-element G P G.h.0 e h-element)

pub share-true : ShareTrue
share-true G P x e h l = share-of-power G P x h l e
