-- What is claimed of decrypted shares in every form, opened or added, and in every proper setting: demand 2 for what a member posts.
-- SharesByRound reads it off over a table and a round.
use Rattle.std.specs.Prelude.{◌≡◌, Bool, true, ◌&&◌, List, [], ◌∷◌, ◌↔◌, ℕ, ◌^◌, ◌<◌, ◌≤◌, length, Ok, Err}
use Rattle.words.specs.Checks.{◌unless◌, Met}
use Rattle.words.specs.Bytes.{record_in}
use Rattle.words.specs.declared.Record.{Record}
use Rattle.group.specs.Power.{pow}
use Rattle.group.specs.Element.{is_element, Proper}
use Rattle.group.specs.declared.Element.{Element}
use Rattle.group.specs.declared.Group.{Group}
use Rattle.sharing.specs.Setting.{ProperSetting, setting_in, in_round, with_numbers, round_checks, is_member}
use Rattle.sharing.specs.declared.Round.{Round}
use Rattle.sharing.specs.declared.Setting.{Setting}
use Rattle.records.specs.Layout.{is_share_record, dealer_of, member_of, round_of, Z_of, share_c, share_r}
use Rattle.records.specs.Keys.{is_key}
use Rattle.share.specs.declared.ShareForm.{ShareForm}
use Rattle.share.specs.Share.{opened_form, added_form, is_dealer, key_of, share_of, written_share, write_share_in, write_share_outcome, lent_after_share_in, lent_after_share}
use Rattle.share.specs.Share.{members_checks, share_input_checks, is_share_for, share_recomputed, judge_share_figures_in, judge_share_in, judge_share_outcome}
use Rattle.words.specs.declared.refusal.Refusal.TheVariants.{NoMember, OtherRound}
use Rattle.words.specs.declared.refusal.Refusal.{Refusal}

-- ---- the two forms
-- by 8 an opened share is refused for its dealer or its member, and an added share for its member alone
pub record FormNumbers (S : Setting) (i : ℕ) : Type 0 where
  pub opened : (d : ℕ) → members_checks S (opened_form d) i ≡ NoMember unless (is_member S.n d && is_member S.n i) ∷ []
  pub added : members_checks S added_form i ≡ NoMember unless is_member S.n i ∷ []

abbrev pub NumbersByForm : Type 0
NumbersByForm = (S : Setting) (i : ℕ) → FormNumbers S i

-- ---- an accepted share
-- what is settled before the figures: the numbers, what is handed over, and the form of the record r in the bytes b
pub record AdmittedShare (S : Setting) (F : ShareForm) (i y Y : ℕ) (b : List ℕ) (r : Record) : Type 0 where
  pub dealer : is_dealer S.n F ≡ true
  pub member : (1 ≤ i) × (i ≤ S.n)
  pub size : length b ≡ 32
  pub key : is_key S.group y ≡ true
  pub Y-element : is_element S.group Y ≡ true
  pub kind : is_share_record F.kind r ≡ true
  pub dealer-word : dealer_of r ≡ F.dealer
  pub member-word : member_of r ≡ i
  pub round : round_of r ≡ S.round

-- the figures of the record r
pub record ShareHolds (S : Setting) (F : ShareForm) (i y Y : ℕ) (r : Record) : Type 0 where
  pub Z-element : is_element S.group (Z_of r) ≡ true
  pub c-low : share_c r < S.group.q
  pub r-low : share_r r < S.group.q
  pub challenge : share_c r ≡ share_recomputed S F i y Y r

pub record AcceptedShare (S : Setting) (F : ShareForm) (i y Y : ℕ) (b : List ℕ) (r : Record) : Type 0 where
  pub admitted : AdmittedShare S F i y Y b r
  pub holds : ShareHolds S F i y Y r

-- a share is accepted, and answers its Z, exactly if all that holds
abbrev pub ShareExactly : Type 0
ShareExactly =
    (S : Setting) (F : ShareForm) (i y Y : ℕ) (b : List ℕ)
    → (judge_share_in S F i y Y b ≡ Ok (record { 0 = Z_of (record_in b) })) ↔ AcceptedShare S F i y Y b (record_in b)

-- where all before the figures is settled, they alone decide
abbrev pub FiguresDecide : Type 0
FiguresDecide =
    (S : Setting) (F : ShareForm) (i y Y : ℕ) (b : List ℕ) → AdmittedShare S F i y Y b (record_in b)
    → judge_share_figures_in S F i y Y (record_in b) ≡ judge_share_in S F i y Y b

-- ---- rounds
-- the judge comes to the record's round: nothing earlier refuses, which is the numbers, what is handed over, and the form of the record
pub record ShareUpToRound (S : Setting) (F : ShareForm) (i y Y : ℕ) (b : List ℕ) : Type 0 where
  pub numbers : Met (members_checks S F i)
  pub inputs : Met (share_input_checks S.group y Y b)
  pub form : is_share_for F i (record_in b) ≡ true

-- then a share of another round is refused by 17
abbrev pub ShareOfOtherRound : Type 0
ShareOfOtherRound =
    (S : Setting) (F : ShareForm) (i y Y : ℕ) (b : List ℕ) → ShareUpToRound S F i y Y b → (round_of (record_in b) ≡ S.round → ⊥)
    → judge_share_in S F i y Y b ≡ Err OtherRound

-- ---- a written share, in a round whose number is a word and in a form whose kind is one, as all of them are
-- what is written from a secret key is accepted with its key, and answers Z
abbrev pub ShareComplete : Type 0
ShareComplete =
    (S : Setting) → ProperSetting S → S.round < 2 ^ 32 → (F : ShareForm) → F.kind < 2 ^ 32 → (i Y x w : ℕ) → write_share_in S F i Y x w 32 ≡ Ok tt
    → judge_share_in S F i (key_of S.group x) Y (written_share S F i Y x w) ≡ Ok (record { 0 = share_of S.group Y x })

-- in the round that it is written for: in every other, under either rule, it is refused by 17
abbrev pub ShareForOtherRound : Type 0
ShareForOtherRound =
    (S : Setting) → ProperSetting S → S.round < 2 ^ 32 → (F : ShareForm) → F.kind < 2 ^ 32 → (i Y x w : ℕ) → write_share_in S F i Y x w 32 ≡ Ok tt
    → (round : ℕ) → (round ≡ S.round → ⊥) → (whole : Bool)
    → judge_share_in (in_round round whole S) F i (key_of S.group x) Y (written_share S F i Y x w) ≡ Err OtherRound

-- the lent bytes are accepted where nothing is refused
abbrev pub LentShare : Type 0
LentShare =
    (S : Setting) → ProperSetting S → S.round < 2 ^ 32 → (F : ShareForm) → F.kind < 2 ^ 32 → (i Y x w : ℕ) (out : List ℕ) → write_share_in S F i Y x w (length out) ≡ Ok tt
    → judge_share_in S F i (key_of S.group x) Y (lent_after_share_in S F i Y x w out) ≡ Ok (record { 0 = share_of S.group Y x })

-- and stay as they were where a number is refused
abbrev pub LentShareKept : Type 0
LentShareKept =
    (S : Setting) (F : ShareForm) (i Y x w : ℕ) (out : List ℕ) (k : Refusal) → write_share_in S F i Y x w (length out) ≡ Err k
    → lent_after_share_in S F i Y x w out ≡ out

-- the share of Y = y^e is h^e: with e the polynomial's value it is true
abbrev pub ShareTrue : Type 0
ShareTrue =
    (G : Group) → Proper G → (x e : ℕ) → 1 ≤ x → x < G.q → share_of G (pow G.p (key_of G x) e) x ≡ pow G.p G.h.0 e

-- ---- over a table and a round: a value exactly if their checks refuse nothing and it is one in their setting; the lent bytes as there,
-- and kept where any number is refused
pub record ShareByRound (T : List ℕ) (R : Round) : Type 0 where
  pub accepted : (F : ShareForm) (i y Y : ℕ) (b : List ℕ) (Z : Element)
      → (judge_share_outcome T R F i y Y b ≡ Ok Z) ↔ (Met (round_checks T R) × (judge_share_in (setting_in T R) F i y Y b ≡ Ok Z))
  pub written : (F : ShareForm) (i Y x w room : ℕ)
      → (write_share_outcome T R F i Y x w room ≡ Ok tt) ↔ (Met (round_checks T R) × (write_share_in (setting_in T R) F i Y x w room ≡ Ok tt))
  pub lent : (F : ShareForm) (i Y x w : ℕ) (out : List ℕ) → Met (round_checks T R)
      → lent_after_share T R F i Y x w out ≡ lent_after_share_in (setting_in T R) F i Y x w out
  pub kept : (F : ShareForm) (i Y x w : ℕ) (out : List ℕ) (k : Refusal) → write_share_outcome T R F i Y x w (length out) ≡ Err k
      → lent_after_share T R F i Y x w out ≡ out
  -- what is written is accepted by a judge that takes the same figures of the round: its number, and the first round under the new rule
  pub complete : R.round < 2 ^ 32 → (F : ShareForm) → F.kind < 2 ^ 32 → (i Y x w : ℕ) (out : List ℕ)
      → write_share_outcome T R F i Y x w (length out) ≡ Ok tt
      → judge_share_outcome T R F i (key_of (setting_in T R).group x) Y (lent_after_share T R F i Y x w out)
      ≡ Ok (record { 0 = share_of (setting_in T R).group Y x })
  -- in the round of any other number it is refused by 17, whichever round is the first under the new rule
  pub for-other-round : R.round < 2 ^ 32 → (F : ShareForm) → F.kind < 2 ^ 32 → (i Y x w : ℕ) (out : List ℕ)
      → write_share_outcome T R F i Y x w (length out) ≡ Ok tt → (round first : ℕ) → (round ≡ R.round → ⊥)
      → judge_share_outcome T (with_numbers round first R) F i (key_of (setting_in T R).group x) Y (lent_after_share T R F i Y x w out)
      ≡ Err OtherRound
  -- and so is every share of another round, where nothing earlier refuses it
  pub of-other-round : Met (round_checks T R) → (F : ShareForm) (i y Y : ℕ) (b : List ℕ) → ShareUpToRound (setting_in T R) F i y Y b
      → (round_of (record_in b) ≡ R.round → ⊥) → judge_share_outcome T R F i y Y b ≡ Err OtherRound

abbrev pub SharesByRound : Type 0
SharesByRound = (T : List ℕ) (R : Round) → ShareByRound T R
