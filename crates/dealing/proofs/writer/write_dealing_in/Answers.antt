-- `write_dealing_in` meets its contract: a refusal is handed on, and where there is none the dealing is written.
use mathlib.Core.Path.{sym, ◌∙◌}
use mathlib.Core.List.{List}
use lib.ListN.{length}
use Rattle.std.proofs.Common.{rules}
use Rattle.words.specs.Checks.{Check}
use Rattle.words.proofs.Checks.{if-met}
use Rattle.words.proofs.Stages.{stage-met, last-kept}
use Rattle.dealing.specs.Dealing.{write_dealing_checks, write_dealing_in, lent_dealing_in}
use Rattle.dealing.proofs.Settled.{writable}
use Rattle.dealing.proofs.writer.write_dealing_in.Goals as goal

pub returns-in_err-check_writing : goal.returns-in_err-check_writing
unfolding write_dealing_in lent_dealing_in
returns-in_err-check_writing c =
    let a = c.args in
    let e = c.in_err-check_writing.ensures in
    record {
      result_value = search rules;
      out_after = last-kept (write_dealing_checks _ _ _ _ _ _) e _ _;
    }

pub put_dealing-requires : goal.put_dealing-requires
put_dealing-requires c =
    let w = writable _ _ _ _ _ _ (stage-met (write_dealing_checks _ _ _ _ _ _) c.in_ok-check_writing.ensures) in
    (c.requires, w.0.dealer.1, w.0.keys-size, w.0.nonces-size, w.0.nonces, w.1)

pub returns : goal.returns
unfolding write_dealing_in lent_dealing_in
returns c =
    let a = c.args in
    let cs : List Check = write_dealing_checks a.s a.d a.ys.now a.f.now a.ws.now (length a.out.now) in
    let e = c.in_ok-check_writing.ensures in
    record {
      result_value = e;
      out_after = c.put_dealing.ensures ∙ sym (if-met _ _ cs (stage-met cs e));
    }
