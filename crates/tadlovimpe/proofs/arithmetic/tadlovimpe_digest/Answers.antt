-- `tadlovimpe_digest` meets its contract: a digest says that every check is met, a refusal which is not.
use mathlib.Core.Path.{sym, ap, ◌∙◌}
use Rattle.words.specs.Bytes.{record_bytes}
use Rattle.words.specs.declared.Record.{Record}
use Rattle.words.proofs.Checks.{value-met, refused-exactly, if-met, if-unmet}
use Rattle.sha256.specs.Hash.{hash_value}
use Rattle.sha256.specs.Answer.{digest_checks}
use Rattle.tadlovimpe.specs.Figures.{number_of}
use Rattle.tadlovimpe.proofs.arithmetic.tadlovimpe_digest.Goals as goal

pub returns-in-Ok : goal.returns-in-Ok
returns-in-Ok c =
    let m = c.args.message.now in
    let o = sym c.in-Ok.is ∙ c.digest.ensures in
    let s = value-met (digest_checks m) (hash_value m) _ (sym o) in
    record {
      value = ap number_of o;
      out_after = c.write_record.ensures ∙ ap record_bytes (sym s.1) ∙ sym (if-met _ _ (digest_checks m) s.0);
    }

pub returns-in-Err : goal.returns-in-Err
returns-in-Err c =
    let m = c.args.message.now in
    let o = sym c.in-Err.is ∙ c.digest.ensures in
    record {
      value = c.from.ensures ∙ ap number_of o;
      out_after = sym (if-unmet _ _ (digest_checks m) _ ((refused-exactly Record (digest_checks m) (hash_value m) _).0 (sym o)));
    }
