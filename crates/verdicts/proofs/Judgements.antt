-- The answer where verdicts are reached, by what all dealers give.
use mathlib.Core.Path.{◌≡◌, ◌∙◌}
use mathlib.Core.Bool.{Bool}
use mathlib.Core.List.{List}
use Prim.Native.Nat.{ℕ}
use lib.ListN.{length, take}
use Rattle.words.specs.Choice.{pick}
use Rattle.words.specs.Checks.{outcome, Outcome}
use Rattle.group.specs.declared.Element.{Element}
use Rattle.sharing.specs.declared.Setting.{Setting}
use Rattle.verdicts.specs.Shares.{Judges, recovered_from}
use Rattle.verdicts.specs.Verdict.{verdict_on}
use Rattle.verdicts.specs.Added.{added_by}
use Rattle.verdicts.specs.Draw.{end_checks, reached_draw, JudgementIn}
use Rattle.verdicts.specs.declared.Verdict.{Verdict}
use Rattle.verdicts.proofs.Turns.{DealersAbove, all-verdicts, all-counted, all-stuck, all-secrets}

abbrev added_value : Judges → Setting → List ℕ → Element
added_value J S b = record { 0 = recovered_from S.group b (take S.t (added_by J S b)) }

pub above-judged : (J : Judges) (S : Setting) (b : List ℕ) (d : ℕ) (verdicts : List Verdict) (accepted : ℕ) (stuck : Bool) (product : Element)
    → DealersAbove (verdict_on J S b) S.group.p S.n d verdicts accepted stuck product.0 → d ≡ 0
    → (a : Outcome Element)
    → a ≡ outcome (end_checks S.t accepted stuck (length (added_by J S b))) (pick stuck (added_value J S b) product)
    → JudgementIn J S b (record { verdicts = verdicts; accepted = accepted; draw = a })
unfolding reached_draw
above-judged J S b d verdicts accepted stuck product T z a e =
    let w = verdict_on J S b in
    let c = all-counted w S.group.p S.n d verdicts accepted stuck product.0 T z in
    let s = all-stuck w S.group.p S.n d verdicts accepted stuck product.0 T z in
    let x = all-secrets w S.group.p S.n d verdicts accepted stuck product.0 T z in
    record {
      verdicts = all-verdicts w S.group.p S.n d verdicts accepted stuck product.0 T z;
      accepted = c;
      draw = e ∙ (λ j. outcome (end_checks S.t (c j) (s j) (length (added_by J S b))) (pick (s j) (added_value J S b) (record { 0 = x j })));
    }
