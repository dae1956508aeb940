-- What met stages settle, as the functions that write and judge a dealing ask it, and as the claims say it.
use mathlib.Core.Path.{◌≡◌}
use mathlib.Core.Bool.{true}
use mathlib.Core.List.{List}
use Prim.Native.Nat.{ℕ, ◌*◌, ◌≤◌}
use borrow.Author.Tests.{eqb-true}
use lib.Dec.{eqb}
use lib.ListN.{length}
use Rattle.words.specs.Lists.{Below, all}
use Rattle.words.specs.Checks.{Met}
use Rattle.words.proofs.Lists.{All-to}
use Rattle.words.proofs.Tests.{and-true, true-equal, equal-true, all_true}
use Rattle.words.proofs.Stages.{both-met, met-both}
use Rattle.group.specs.Element.{is_exponent}
use Rattle.group.proofs.Elements.{exponent-true}
use Rattle.sharing.specs.Carried.{Polynomial}
use Rattle.sharing.specs.declared.Setting.{Setting}
use Rattle.sharing.proofs.EachMember.{member-exactly}
use Rattle.records.specs.Keys.{key_checks}
use Rattle.records.specs.Claims.{ProperKeys}
use Rattle.records.proofs.ProperKeys.{keys-proper}
use Rattle.lines.specs.Lines.{address_checks, line_checks}
use Rattle.dealing.specs.Dealing.{write_size_checks, secret_checks, write_dealing_checks, judge_size_checks, dealing_form_checks}

-- ---- the judge, before the lines' figures
pub record FormedDealing (S : Setting) (d : ℕ) (ys b : List ℕ) : Type 0 where
  pub dealer : (1 ≤ d) × (d ≤ S.n)
  pub keys-size : length ys ≡ S.n
  pub size : length b ≡ 32 * S.n
  pub keys : Met (key_checks S.group ys)
  pub lines : Met (line_checks S d b)

module _ (S : Setting) (d : ℕ) (ys b : List ℕ) where
  pub met-formed : Met (dealing_form_checks S d ys b) → FormedDealing S d ys b
  unfolding dealing_form_checks address_checks judge_size_checks
  met-formed m =
      let sizes = equal-true (length ys) S.n (length b) (32 * S.n) m.1.0 in
      let rest = met-both (key_checks S.group ys) (line_checks S d b) m.1.1 in
      record { dealer = (member-exactly S.n d).0 m.0; keys-size = sizes.0; size = sizes.1; keys = rest.0; lines = rest.1 }

  pub formed-met : FormedDealing S d ys b → Met (dealing_form_checks S d ys b)
  unfolding dealing_form_checks address_checks judge_size_checks
  formed-met F = (
    (member-exactly S.n d).1 F.dealer,
    (true-equal (length ys) S.n (length b) (32 * S.n) F.keys-size F.size, both-met (key_checks S.group ys) (line_checks S d b) F.keys F.lines),
  )

-- ---- the writer: proper figures of a dealing
pub record WritableDealing (S : Setting) (d : ℕ) (ys f ws : List ℕ) : Type 0 where
  pub dealer : (1 ≤ d) × (d ≤ S.n)
  pub keys-size : length ys ≡ S.n
  pub keys : ProperKeys S.group ys
  pub polynomial : Polynomial S f
  pub nonces-size : length ws ≡ S.n
  pub nonces : Below S.group.q ws

module _ (S : Setting) (d : ℕ) (ys f ws : List ℕ) (room : ℕ) where
  -- and just the room for the lines
  pub writable : Met (write_dealing_checks S d ys f ws room) → WritableDealing S d ys f ws × (room ≡ 32 * S.n)
  unfolding address_checks write_size_checks secret_checks
  writable m =
      let G = S.group in
      let exponents : (l : List ℕ) → all (is_exponent G) l ≡ true → Below G.q l = λ l e. All-to l (exponent-true G) (all_true (is_exponent G) l e) in
      let one = and-true (eqb (length ys) S.n) _ m.1.0 in
      let two = and-true (eqb (length f) S.t) _ one.1 in
      let three = equal-true (length ws) S.n room (32 * S.n) two.1 in
      let rest = met-both (key_checks G ys) (secret_checks G f ws) m.1.1 in
      let low = and-true (all (is_exponent G) f) (all (is_exponent G) ws) rest.1.0 in (
        record {
          dealer = (member-exactly S.n d).0 m.0;
          keys-size = eqb-true (length ys) S.n one.0;
          keys = (keys-proper G ys).0 rest.0;
          polynomial = record { size = eqb-true (length f) S.t two.0; low = exponents f low.0 };
          nonces-size = three.0;
          nonces = exponents ws low.1;
        },
        three.1,
      )
