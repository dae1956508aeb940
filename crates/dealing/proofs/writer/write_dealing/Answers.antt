-- `write_dealing` meets its contract: a refusal of the round is handed on, and else its setting answers.
use mathlib.Core.Path.{◌≡◌, ◌∙◌}
use lib.ListN.{length}
use Rattle.std.proofs.Common.{rules}
use Rattle.std.specs.Prelude.{Err}
use Rattle.sharing.proofs.Rounds.{judged-refused, judged-value, judged-kept, judged-lent, setting-proper}
use Rattle.dealing.specs.Dealing.{write_dealing_in, write_dealing_outcome, lent_dealing_in, lent_dealing}
use Rattle.dealing.proofs.writer.write_dealing.Goals as goal

pub write_dealing_in-requires : goal.write_dealing_in-requires
write_dealing_in-requires c = setting-proper _ _ c.setting_of.ensures c.in_ok-s.was

pub returns-in_err-s : goal.returns-in_err-s
unfolding write_dealing_outcome lent_dealing
returns-in_err-s c =
    let a = c.args in
    let e = c.setting_of.ensures in
    let h : Err c.in_err-s.field-0.0 ≡ write_dealing_outcome a.table.now a.rd a.d a.ys.now a.f.now a.ws.now (length a.out.now)
    = judged-refused _ _ _ _ e c.in_err-s.was in
    record {
      result_value = search rules;
      out_after = judged-kept _ _ _ _ e c.in_err-s.was _;
    }

pub returns : goal.returns
unfolding write_dealing_outcome write_dealing_in lent_dealing lent_dealing_in
returns c =
    let e = c.setting_of.ensures in
    record {
      result_value = c.write_dealing_in.ensures.result_value ∙ judged-value _ _ _ _ e c.in_ok-s.was;
      out_after = c.write_dealing_in.ensures.out_after ∙ judged-lent _ _ _ _ e c.in_ok-s.was _;
    }
