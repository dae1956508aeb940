-- Distinct keys: what judge and writer refuse by SameKey is met, so they do what they would do without it.
use mathlib.Core.Path.{◌≡◌, refl, sym, ap, ◌∙◌}
use mathlib.Core.List.{List, ◌++◌}
use Prim.Native.Nat.{ℕ}
use lib.ListN.{length}
use Rattle.words.specs.Lists.{Distinct}
use Rattle.words.specs.Checks.{Check, Outcome, outcome, if_met, without, MetBy}
use Rattle.words.proofs.Stages.{stages-outcome, stages-choice}
use Rattle.words.proofs.Without.{without-outcome, without-choice, others-met}
use Rattle.sharing.specs.Setting.{setting_in, round_checks, judged, judged_else}
use Rattle.sharing.specs.declared.Round.{Round}
use Rattle.sharing.specs.declared.Setting.{Setting}
use Rattle.records.specs.Keys.{key_checks}
use Rattle.records.proofs.ProperKeys.{distinct-met}
use Rattle.lines.specs.Lines.{address_checks, line_checks}
use Rattle.dealing.specs.Dealing.{write_size_checks, secret_checks, write_dealing_checks, written_dealing, write_dealing_outcome, lent_dealing}
use Rattle.dealing.specs.Dealing.{judge_size_checks, dealing_form_checks, range_checks, equation_checks, line_figure_checks, judge_dealing_checks, judge_dealing_in, judge_dealing_outcome}
use Rattle.dealing.specs.Claims.{DistinctKeys, JudgedDistinct}
use Rattle.words.specs.declared.refusal.Refusal.TheVariants.{SameKey}
use Rattle.words.specs.declared.refusal.Refusal.{Refusal}

-- ---- an operation over a table and a round, where each of its own checks that refuses by k is met
module _ {A : Type 0} (k : Refusal) (T : List ℕ) (R : Round) (checks : Setting → List Check) (answer : Setting → A) (m : MetBy k (checks (setting_in T R))) where
  abbrev front : List Check
  front = round_checks T R

  abbrev own : List Check
  own = checks (setting_in T R)

  abbrev new : A
  new = answer (setting_in T R)

  pub judged-without : judged T R checks answer ≡ judged T R (λ S. without k (checks S)) answer
  unfolding judged
  judged-without =
      stages-outcome A front own new
      ∙ ap (λ (o : Outcome A). if_met front o (outcome front new)) (without-outcome A k own new m)
      ∙ sym (stages-outcome A front (without k own) new)

  pub lent-without : (old : A) → judged_else T R checks answer old ≡ judged_else T R (λ S. without k (checks S)) answer old
  unfolding judged_else
  lent-without old =
      stages-choice A front own new old
      ∙ ap (λ (x : A). if_met front x old) (without-choice A k own new old m)
      ∙ sym (stages-choice A front (without k own) new old)

-- ---- the stages but for the keys refuse by others
module _ (S : Setting) (d : ℕ) (ys : List ℕ) (n : Distinct ys) where
  judge-met : (b : List ℕ) → MetBy SameKey (judge_dealing_checks S d ys b)
  unfolding key_checks address_checks judge_size_checks line_checks dealing_form_checks range_checks equation_checks
  judge-met b =
      let front = address_checks S d ++ judge_size_checks S ys b in
      let behind = line_checks S d b ++ line_figure_checks S d ys b in
      distinct-met S.group ys n front behind (others-met SameKey front refl) (others-met SameKey behind refl)

  write-met : (f ws : List ℕ) (room : ℕ) → MetBy SameKey (write_dealing_checks S d ys f ws room)
  unfolding address_checks write_size_checks secret_checks
  write-met f ws room =
      let front = address_checks S d ++ write_size_checks S ys f ws room in
      let behind = secret_checks S.group f ws in
      distinct-met S.group ys n front behind (others-met SameKey front refl) (others-met SameKey behind refl)

pub judged-distinct : JudgedDistinct
unfolding judge_dealing_in
judged-distinct S d ys b n = without-outcome Unit SameKey (judge_dealing_checks S d ys b) tt (judge-met S d ys n b)

pub distinct-keys : DistinctKeys
unfolding judge_dealing_outcome write_dealing_outcome lent_dealing
distinct-keys T R d ys n =
    let own = setting_in T R in
    record {
      judged = λ b. judged-without SameKey T R (λ S. judge_dealing_checks S d ys b) (λ S. tt) (judge-met own d ys n b);
      written = λ f ws room. judged-without SameKey T R (λ S. write_dealing_checks S d ys f ws room) (λ S. tt) (write-met own d ys n f ws room);
      lent = λ f ws out.
          let checks : Setting → List Check = λ S. write_dealing_checks S d ys f ws (length out) in
          lent-without SameKey T R checks (λ S. written_dealing S d ys f ws) (write-met own d ys n f ws (length out)) out;
    }
