-- `put_dealing` meets its contract: the arrays hold the figures of the dealing, and the lines are made of them.
use mathlib.Core.Path.{◌∙◌}
use Rattle.dealing.proofs.Arrays.{lines_are}
use Rattle.dealing.proofs.writer.put_dealing.Goals as goal

pub returns : goal.returns
returns c =
    let a = c.args in
    c.put_lines.ensures
    ∙ lines_are a.s c.requires.0.n-most a.d a.ys.now a.f.now a.ws.now _ _ _ _ _
    c.requires.3 c.values-xs.ensures c.raised-vs.ensures c.raised-encrypted.ensures c.raised-a1s.ensures c.raised-a2s.ensures c.dealing_challenge-c.ensures
    c.responses-rs.ensures
