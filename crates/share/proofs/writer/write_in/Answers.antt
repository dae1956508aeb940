-- `write_in` meets its contract: a refusal is handed on and the bytes are kept, and else the share is written.
use mathlib.Core.Path.{sym, ◌∙◌}
use Rattle.std.proofs.Common.{rules}
use Rattle.words.proofs.Checks.{if-met}
use Rattle.words.proofs.Stages.{stage-met, last-kept}
use Rattle.share.specs.Share.{write_share_checks, write_share_in, lent_after_share_in}
use Rattle.share.proofs.Settled.{dealer-most, write-settled}
use Rattle.share.proofs.writer.write_in.Goals as goal

pub returns-in_err-check_writing : goal.returns-in_err-check_writing
unfolding write_share_in lent_after_share_in
returns-in_err-check_writing c =
    let e = c.in_err-check_writing.ensures in
    record {
      result_value = search rules;
      out_after = last-kept (write_share_checks _ _ _ _ _ _ _) e _ _;
    }

pub put_share-requires : goal.put_share-requires
put_share-requires c =
    let W = write-settled _ _ _ _ _ _ _ (stage-met (write_share_checks _ _ _ _ _ _ _) c.in_ok-check_writing.ensures) in
    (c.requires, dealer-most _ _ W.dealer, W.member.1, W.x-some, W.x-low, W.w-low, W.size)

pub returns : goal.returns
unfolding write_share_in lent_after_share_in
returns c =
    let e = c.in_ok-check_writing.ensures in
    record {
      result_value = e;
      out_after = c.put_share.ensures ∙ sym (if-met _ _ (write_share_checks _ _ _ _ _ _ _) (stage-met (write_share_checks _ _ _ _ _ _ _) e));
    }
