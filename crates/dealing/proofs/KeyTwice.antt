-- Two members with one key: the stage of keys refuses, and nothing behind it matters.
use mathlib.Core.Path.{sym, ◌∙◌}
use mathlib.Core.List.{◌++◌}
use Rattle.words.proofs.Stages.{rest-outcome, behind-outcome, front-outcome}
use Rattle.records.specs.Keys.{key_checks}
use Rattle.records.proofs.ProperKeys.{equal-keys}
use Rattle.lines.specs.Lines.{address_checks, line_checks}
use Rattle.dealing.specs.Dealing.{write_size_checks, secret_checks, write_dealing_in, judge_size_checks, dealing_form_checks, line_figure_checks, judge_dealing_in}
use Rattle.dealing.specs.Claims.{JudgedKeyTwice, WrittenKeyTwice}
use Rattle.words.specs.declared.refusal.Refusal.TheVariants.{SameKey}

pub judged-key-twice : JudgedKeyTwice
unfolding key_checks dealing_form_checks judge_dealing_in
judged-key-twice S d ys b m T =
    let keys = key_checks S.group ys in
    let lines = line_checks S d b in
    let figures = line_figure_checks S d ys b in
    sym
    (front-outcome keys (lines ++ figures) SameKey ((equal-keys S.group ys).1 T) tt
    ∙ behind-outcome (address_checks S d ++ judge_size_checks S ys b) (keys ++ lines) figures m tt)

pub written-key-twice : WrittenKeyTwice
unfolding write_dealing_in
written-key-twice S d ys f ws room m T =
    let keys = key_checks S.group ys in
    let secrets = secret_checks S.group f ws in
    sym
    (front-outcome keys secrets SameKey ((equal-keys S.group ys).1 T) tt
    ∙ rest-outcome (address_checks S d ++ write_size_checks S ys f ws room) (keys ++ secrets) m tt)
