-- Every member has one key record: 12 says that the search finds one, and two of one member would have one address. His key is his own,
-- by 22, which refuses every other board.
use mathlib.Core.Path.{◌≡◌, refl, sym, ◌∙◌}
use mathlib.Core.Bool.{Bool, true, false}
use mathlib.Core.List.{List}
use mathlib.Core.Logic.{inr}
use Prim.Native.Nat.{ℕ}
use native.Mathlib.Omega.{arith}
use borrow.Author.Tests.{ltb-true}
use lib.ListN.{take}
use Rattle.std.proofs.Common.{Some, None}
use Rattle.std.proofs.lemmas.Option.{none-some, same_Some}
use Rattle.words.specs.Choice.{pick}
use Rattle.words.specs.Lists.{all, filled}
use Rattle.words.specs.Bytes.{records_in, record_at}
use Rattle.words.proofs.Tests.{all_map, pick_true}
use Rattle.words.proofs.Stages.{rest-first}
use Rattle.sharing.specs.Setting.{members}
use Rattle.sharing.proofs.EachMember.{members-exactly, members-own, members-front}
use Rattle.records.specs.Layout.{key_kind}
use Rattle.records.specs.Keys.{is_key, key_checks}
use Rattle.records.proofs.ProperKeys.{keys-proper, equal-keys}
use Rattle.board.specs.Board.{key_place, has_key, key_in, keys_in, form_checks, board_key_checks, board_checks}
use Rattle.board.specs.Loops.{found_keys}
use Rattle.board.specs.Claims.{KeysExact, BoardKeyTwice}
use Rattle.board.proofs.Order.{reached, shapes, sorted}
use Rattle.words.specs.declared.refusal.Refusal.TheVariants.{SameKey}
use Rattle.board.proofs.Places.{at_true, true-at, record_is, only-record}

-- the keys are found exactly where every member has one
kept : {A : Type 0} (t : Bool) (x y : A) → pick t (Some x) None ≡ Some y → (t ≡ true) × (y ≡ x)
kept true x y e = (refl, sym (same_Some x y e))
kept false x y e = absurd (none-some y e)

missed : {A : Type 0} (t : Bool) (x : A) → pick t (Some x) None ≡ None → t ≡ false
missed true x e = absurd (none-some x (sym e))
missed false x e = refl

module _ (n : ℕ) (b : List ℕ) where
  pub keys_found : all (has_key b) (members n) ≡ true → found_keys n b ≡ Some (filled 31 (keys_in n b))
  unfolding found_keys
  keys_found h = pick_true (all (has_key b) (members n)) _ _ h

  pub some_found : {ys : List ℕ} → Some ys ≡ found_keys n b → (all (has_key b) (members n) ≡ true) × (take n ys ≡ keys_in n b)
  unfolding found_keys
  some_found {ys} e =
      let k = kept (all (has_key b) (members n)) (filled 31 (keys_in n b)) ys (sym e) in
      (k.0, members-front (key_in b) n k.1)

  pub none_found : None ≡ found_keys n b → all (has_key b) (members n) ≡ false
  unfolding found_keys
  none_found e = missed (all (has_key b) (members n)) (filled 31 (keys_in n b)) (sym e)

pub keys-exact : KeysExact
unfolding key_checks
keys-exact S b c m h l =
    let r = reached S b c in
    let inside = ltb-true (key_place b m) (records_in b) ((members-exactly (has_key b) S.n).0 r.keys m h l) in
    let k = at_true (record_at b (key_place b m)) key_kind 0 m ((record_is b key_kind 0 m).here (omega arith)) in
    record {
      inside = inside;
      kind = k.0;
      member = k.2;
      only = λ i u e f.
          only-record (sorted S b r.form) key_kind 0 m i u (true-at (record_at b i) key_kind 0 m e ((shapes S b r.form i u).key e) f);
      proper =
          (members-exactly (λ i. is_key S.group (key_in b i)) S.n).0
          (sym (all_map (is_key S.group) (key_in b) (members S.n)) ∙ r.proper.0) m h l;
      own = λ k g u. members-own (key_in b) S.n ((keys-proper S.group (keys_in S.n b)).0 r.proper).distinct k m g u h l;
    }

pub board-key-twice : BoardKeyTwice
unfolding board_checks board_key_checks
board-key-twice S b m e T =
    rest-first (form_checks S b) (board_key_checks S b) SameKey m (inr (e, (equal-keys S.group (keys_in S.n b)).1 T))
