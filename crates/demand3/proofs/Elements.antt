-- Secrets and draws are elements: h is one, and so are the shares that the judge accepts, and a secret is a power of h or a product of
-- powers of such shares. So the check by 6 of whoever takes a draw value is met, and can be left out.
use mathlib.Core.Path.{◌≡◌, sym, ap, ◌∙◌, subst}
use mathlib.Core.Bool.{Bool, true, false}
use mathlib.Core.List.{List, [], ◌∷◌, ◌++◌, append_assoc}
use mathlib.Core.Logic.{⊎_elim}
use Prim.Native.Nat.{ℕ, zero, suc, ◌*◌}
use lib.ListN.{take, drop, replicate}
use lib.Dec.{leb, eqb}
use Rattle.std.specs.Prelude.{Ok, Err}
use Rattle.words.specs.Choice.{pick}
use Rattle.words.specs.Lists.{All, map, up_from, entry}
use Rattle.words.specs.Checks.{Check, Outcome, outcome, Met}
use Rattle.words.specs.Bytes.{record_in, record_at}
use Rattle.words.specs.declared.refusal.Refusal.TheVariants.{NoElement}
use Rattle.words.proofs.Lists.{All-each, All-to, map-all}
use Rattle.words.proofs.Tests.{false-true, and-true, pick_true}
use Rattle.words.proofs.Checks.{value-met, value-exactly, is-value, never-among}
use Rattle.words.proofs.Stages.{both-met, met-both, rest-outcome, settled-behind}
use Rattle.group.specs.Table.{groups_of, table_checks, group_of, group_checks, in_group}
use Rattle.group.specs.Element.{is_element, Proper}
use Rattle.group.specs.declared.Element.{Element}
use Rattle.group.specs.declared.Group.{Group}
use Rattle.group.proofs.Elements.{generator-element, product-element, power-element}
use Rattle.sharing.specs.Setting.{ProperSetting, setting_in, round_figures, round_checks}
use Rattle.sharing.specs.Weights.{powers_product}
use Rattle.sharing.specs.Answer.{recovered}
use Rattle.sharing.specs.declared.Round.{Round}
use Rattle.sharing.specs.declared.Setting.{Setting}
use Rattle.sharing.proofs.Rounds.{round-proper, judged-exactly}
use Rattle.sharing.proofs.Sums.{products-element}
use Rattle.records.specs.Layout.{dealer_of, member_of, u_of, Z_of}
use Rattle.lines.specs.Lines.{Y_in}
use Rattle.share.specs.Share.{judge_share_checks, judge_share_in, opened_form, added_form}
use Rattle.share.specs.declared.ShareForm.{ShareForm}
use Rattle.share.proofs.Shares.{share-exactly}
use Rattle.board.specs.Board.{key_in, board_checks}
use Rattle.board.proofs.Order.{Reached, reached}
use Rattle.verdicts.specs.Shares.{Judges, judges, recovered_from, share_answer, is_share_in}
use Rattle.verdicts.specs.Verdict.{encrypted_of, secret_by, verdict_on}
use Rattle.verdicts.specs.Added.{accepted_dealers, multiplied}
use Rattle.verdicts.specs.Draw.{secret_value, draw_checks, board_draw_checks, draw_value, draw_in, draw_outcome, place_for, verdict_places}
use Rattle.verdicts.specs.declared.Judgement.{Judgement}
use Rattle.verdicts.specs.declared.Secret.{Secret}
use Rattle.verdicts.specs.declared.Secret.TheVariants.{Opened, Recovered}
use Rattle.verdicts.specs.declared.Verdict.{Verdict}
use Rattle.verdicts.specs.declared.Verdict.TheVariants.{None, Accepted}
use Rattle.rulings.specs.Ruling.{JudgementOf, verdicts_of}
use Rattle.plots.specs.Picked.{plot_checks, pick_checks, pick_outcome}
use Rattle.chain.specs.Link.{value_checks}
use Rattle.chain.specs.Chain.{chain_checks, chain_outcome, extend_checks, extend_outcome}
use Rattle.demand3.specs.Elements.{SecretElement, TakesElements, ElementsOn, BoardElements, JudgesTakeElements, AnswersElements}
use Rattle.demand3.specs.Elements.{link_room, DrawPicks, DrawExtends}
use Rattle.demand3.proofs.Serving.{serving, serving-shares}
use Rattle.demand3.proofs.Sources.{Source, opened, recovers, stuck, source_of}
use Rattle.demand3.proofs.VerdictCases.{verdict-rules}
use Rattle.demand3.proofs.Endings.{end-rules}

-- ---- products of powers of elements
module _ (G : Group) (P : Proper G) where
  powers-element : (vs es : List ℕ) → All (λ v. is_element G v ≡ true) vs → is_element G (powers_product G.p vs es) ≡ true
  unfolding powers_product
  powers-element [] es a = products-element G P [] tt
  powers-element (v ∷ vs) [] a = products-element G P [] tt
  powers-element (v ∷ vs) (e ∷ es) a = product-element G P _ _ (power-element G P v e a.0) (powers-element vs es a.1)

  recovered-element : (ms ss : List ℕ) → All (λ s. is_element G s ≡ true) ss → is_element G (recovered G ms ss) ≡ true
  unfolding recovered
  recovered-element ms ss a = powers-element ss _ a

-- ---- shares that are accepted, secrets and the draw
module _ (J : Judges) (E : TakesElements J) (S : Setting) (P : ProperSetting S) (b : List ℕ) (m : Met (board_checks S b)) where
  abbrev G : Group
  G = S.group

  R : Reached S b
  R = reached S b m

  module _ (F : ShareForm) (Ys : List ℕ) where
    share-element : (i : ℕ) → is_share_in J S b F Ys i ≡ true → is_element G (Z_of (record_at b i)) ≡ true
    unfolding is_share_in share_answer record_at
    share-element i e =
        let r = record_at b i in
        let k = and-true (eqb r.w0 F.kind) _ e in
        let v = is-value _ (and-true (eqb (dealer_of r) F.dealer) _ k.1).1 in
        E S F (member_of r) (key_in b (member_of r)) (entry Ys (member_of r)) (take 32 (drop (32 * i) b)) v.0 v.1

    serving-element : is_element G (recovered_from G b (serving J R F Ys)) ≡ true
    serving-element =
        let is = serving J R F Ys in
        recovered-element G P.proper (map (λ i. member_of (record_at b i)) is) (map (λ i. Z_of (record_at b i)) is)
        (map-all (λ i. Z_of (record_at b i)) (λ Z. is_element G Z ≡ true) is (All-to is (λ i s. share-element i s.1) (serving-shares J R F Ys)))

  secret-element : (d : ℕ) → is_element G (secret_value (secret_by J S b d)) ≡ true
  secret-element d = by-source (source_of J R d)
    where
      by-source : Source J S b d → is_element G (secret_value (secret_by J S b d)) ≡ true
      by-source (opened o e) =
          ap (λ (s : Secret). is_element G (secret_value s)) e
          ∙ power-element G P.proper G.h.0 (u_of (record_at b o.at)) (generator-element G P.proper G.h.0 P.proper.h-generates)
      by-source (recovers n l e) = ap (λ (s : Secret). is_element G (secret_value s)) e ∙ serving-element (opened_form d) (encrypted_of S b d)
      by-source (stuck n l e) = ap (λ (s : Secret). is_element G (secret_value s)) e ∙ products-element G P.proper [] tt

  -- the secret of an accepted dealing by what its verdict names
  named-element : (d : ℕ) (s : Secret) → verdict_on J S b d ≡ Accepted s → is_element G (secret_value s) ≡ true
  named-element d s e =
      ap (λ (x : Secret). is_element G (secret_value x)) (sym (((verdict-rules J S P b m d).accepted s).0 e).1) ∙ secret-element d

  draw-element : (v : Element) → draw_in J S b ≡ Ok v → is_element G v.0 ≡ true
  draw-element v e =
      ⊎_elim
      (λ s. ap (is_element G) s.1
      ∙ products-element G P.proper (map secret_at dealers) (map-all secret_at (λ x. is_element G x ≡ true) dealers (All-each dealers secret-element)))
      (λ a. ap (is_element G) a.2 ∙ serving-element added_form (multiplied J S b Y_in))
      (((end-rules J S P b m).drawn v).0 e).1
    where
      secret_at : ℕ → ℕ
      secret_at d = secret_value (secret_by J S b d)

      dealers : List ℕ
      dealers = accepted_dealers J S b

pub board-elements : BoardElements
board-elements J E S P b m =
    record {
      secret = λ d v. ⊎_elim (named-element J E S P b m d (Opened v)) (named-element J E S P b m d (Recovered v));
      draw = draw-element J E S P b m;
    }

pub judges-take-elements : JudgesTakeElements
unfolding judge_share_in
judges-take-elements S F i y Y b Z e =
    let own : Element = record { 0 = Z_of (record_in b) } in
    ((share-exactly S F i y Y b).0 (e ∙ ap Ok (sym (value-met (judge_share_checks S F i y Y b) own Z e).1))).holds.Z-element

-- ---- over a table and a round
no-secret : (G : Group) → SecretElement G None
no-secret G v = ⊎_elim (λ e. absurd (false-true (cc))) (λ e. absurd (false-true (cc)))

module _ (G : Group) where
  none-places : (k : ℕ) → All (SecretElement G) (replicate k None)
  none-places zero = tt
  none-places (suc k) = (no-secret G, none-places k)

  each-place : (w : ℕ → Verdict) (n : ℕ) → ((d : ℕ) → SecretElement G (w d)) → All (SecretElement G) (verdict_places w n)
  unfolding verdict_places
  each-place w n h = map-all (place_for w n) (SecretElement G) (up_from 1 31) (All-each (up_from 1 31) (λ d. by-test d (leb d n)))
    where
      by-test : (d : ℕ) (x : Bool) → SecretElement G (pick x (w d) None)
      by-test d true = h d
      by-test d false = no-secret G

module _ (T : List ℕ) (R : Round) (b : List ℕ) where
  abbrev S : Setting
  S = setting_in T R

  elements : Met (round_checks T R) → Met (board_checks S b) → ElementsOn judges S b
  elements m = board-elements judges judges-take-elements S (round-proper T R m) b

  -- a draw value says that no check before it refuses
  pub drawn-round : (v : Element) → draw_outcome judges T R b ≡ Ok v → Met (round_checks T R) × (is_element S.group v.0 ≡ true)
  unfolding draw_outcome draw_in
  drawn-round v e =
      let s = (judged-exactly T R (λ X. board_draw_checks judges X b) (λ X. draw_value judges X b) v).0 e in
      let m = met-both (board_checks S b) (draw_checks judges S b) (value-met (board_draw_checks judges S b) (draw_value judges S b) v s.1).0 in
      (s.0, (elements s.0 m.0).draw v s.1)

  secrets : (o : Outcome Judgement) → JudgementOf judges T R b o → All (SecretElement S.group) (verdicts_of o)
  secrets (Ok A) j =
      let s = met-both (round_checks T R) (board_checks S b) j.0 in
      subst (All (SecretElement S.group)) (sym j.1.verdicts)
      (each-place S.group (verdict_on judges S b) S.n (elements s.0 s.1).secret)
  secrets (Err k) u = none-places S.group 31

pub answers-elements : AnswersElements
answers-elements T R b = record { secrets = secrets T R b; draw = λ v e. (drawn-round T R b v e).1 }

-- ---- the draw value handed on
module _ (T : List ℕ) (R : Round) (b : List ℕ) (v : Element) (e : draw_outcome judges T R b ≡ Ok v) where
  group-there : Met (group_checks T R.group)
  unfolding group_checks round_checks round_figures
  group-there =
      let s = met-both (table_checks T) (round_figures (groups_of T) R) (drawn-round T R b v e).0 in
      both-met (table_checks T) _ s.0 (s.1.0, tt)

  picks : (radius N k room : ℕ) → pick_outcome T R.group v radius N k room ≡ outcome (plot_checks radius N k room) tt
  unfolding pick_outcome in_group
  picks radius N k room =
      let G : Group = group_of (groups_of T) R.group in
      sym (rest-outcome (group_checks T R.group) (pick_checks G v radius N k room) group-there tt)
      ∙ pick_true (is_element G v.0) _ _ (drawn-round T R b v e).1

  extends : (c : List ℕ) (room : ℕ) → extend_outcome T c R.group v.0 room ≡ outcome (chain_checks T c ++ link_room c room) tt
  unfolding extend_outcome extend_checks group_checks
  extends c room =
      let there = (met-both (table_checks T) _ group-there).1.0 in
      let drawn : List Check = value_checks (groups_of T) R.group v.0 in
      ap (λ (l : List Check). outcome l tt) (sym (append_assoc (chain_checks T c) (link_room c room) drawn))
      ∙ settled-behind (chain_checks T c ++ link_room c room) drawn tt (there, ((drawn-round T R b v e).1, tt))

  extends-accepted : (c : List ℕ) (room : ℕ) → chain_outcome T c ≡ Ok tt
      → extend_outcome T c R.group v.0 room ≡ outcome (link_room c room) tt
  unfolding chain_outcome
  extends-accepted c room a =
      extends c room ∙ sym (rest-outcome (chain_checks T c) (link_room c room) ((value-exactly Unit (chain_checks T c) tt).0 a) tt)

pub draw-picks : DrawPicks
draw-picks T R b v e radius N k room =
    let a = picks T R b v e radius N k room in
    record {
      answer = a;
      not-by-6 = λ f. never-among (plot_checks radius N k room) tt NoElement (λ z. cc, (λ z. cc, (λ z. cc, tt))) (sym a ∙ f);
    }

pub draw-extends : DrawExtends
draw-extends T R b v e c room =
    let a = extends-accepted T R b v e c room in
    record {
      answer = extends T R b v e c room;
      accepted = a;
      not-by-6 = λ m f. never-among (link_room c room) tt NoElement (λ z. cc, tt) (sym (a m) ∙ f);
    }
