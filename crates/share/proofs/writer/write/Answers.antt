-- `write` meets its contract: a refusal of the round is handed on and the bytes are kept, and else its setting answers.
use mathlib.Core.Path.{◌≡◌, ◌∙◌}
use lib.ListN.{length}
use Rattle.std.proofs.Common.{rules}
use Rattle.std.specs.Prelude.{Err}
use Rattle.sharing.proofs.Rounds.{judged-refused, judged-value, judged-kept, judged-lent, setting-proper}
use Rattle.share.specs.Share.{write_share_in, write_share_outcome, lent_after_share_in, lent_after_share}
use Rattle.share.proofs.writer.write.Goals as goal

pub write_in-requires : goal.write_in-requires
write_in-requires c = setting-proper _ _ c.setting_of.ensures c.in_ok-s.was

pub returns-in_err-s : goal.returns-in_err-s
unfolding write_share_outcome lent_after_share
returns-in_err-s c =
    let a = c.args in
    let e = c.setting_of.ensures in
    let h : Err c.in_err-s.field-0.0 ≡ write_share_outcome a.table.now a.rd a.e.form a.e.member a.e.encrypted.0 a.x.0 a.w.0 (length a.out.now)
    = judged-refused _ _ _ _ e c.in_err-s.was in
    record {
      result_value = search rules;
      out_after = judged-kept _ _ _ _ e c.in_err-s.was _;
    }

pub returns : goal.returns
unfolding write_share_outcome write_share_in lent_after_share lent_after_share_in
returns c =
    let e = c.setting_of.ensures in
    record {
      result_value = c.write_in.ensures.result_value ∙ judged-value _ _ _ _ e c.in_ok-s.was;
      out_after = c.write_in.ensures.out_after ∙ judged-lent _ _ _ _ e c.in_ok-s.was _;
    }
