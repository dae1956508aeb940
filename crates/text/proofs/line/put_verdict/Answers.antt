-- `put_verdict` meets its contract: each case writes its word, with the number of a refusal or how the secret came.
use mathlib.Core.Path.{sym, ap, ◌∙◌}
use mathlib.Core.List.{◌++◌}
use Prim.Native.Nat.{ℕ}
use Rattle.text.specs.Text.{figure, refused_word, verdict_text}
use Rattle.text.proofs.Writing.{room_as, written_as}
use Rattle.text.proofs.line.put_verdict.Goals as goal

pub put_bytes-requires : goal.put_bytes-requires
put_bytes-requires c = room_as (ap verdict_text c.in-None.is) c.requires

pub put_worded-requires : goal.put_worded-requires
put_worded-requires c = room_as (ap verdict_text c.in-Refused.is ∙ ap (λ (v : ℕ). refused_word ++ figure v) (sym c.from.ensures)) c.requires

pub put_secret-requires : goal.put_secret-requires
put_secret-requires c = room_as (ap verdict_text c.in-Accepted.is) c.requires

pub returns-in-None : goal.returns-in-None
returns-in-None c = written_as (ap verdict_text c.in-None.is) c.put_bytes.ensures

pub returns-in-Refused : goal.returns-in-Refused
returns-in-Refused c = written_as (ap verdict_text c.in-Refused.is ∙ ap (λ (v : ℕ). refused_word ++ figure v) (sym c.from.ensures)) c.put_worded.ensures

pub returns-in-Accepted : goal.returns-in-Accepted
returns-in-Accepted c = written_as (ap verdict_text c.in-Accepted.is) c.put_secret.ensures
