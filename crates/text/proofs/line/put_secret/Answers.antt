-- `put_secret` meets its contract: each case writes its word, and its value where it has one.
use mathlib.Core.Path.{ap}
use Rattle.text.specs.Text.{secret_text}
use Rattle.text.proofs.Writing.{room_as, written_as}
use Rattle.text.proofs.line.put_secret.Goals as goal

pub put_worded-requires : goal.put_worded-requires
put_worded-requires c = room_as (ap secret_text c.in-Opened.is) c.requires

pub put_worded-requires-in-Recovered : goal.put_worded-requires-in-Recovered
put_worded-requires-in-Recovered c = room_as (ap secret_text c.in-Recovered.is) c.requires

pub put_bytes-requires : goal.put_bytes-requires
put_bytes-requires c = room_as (ap secret_text c.in-Stuck.is) c.requires

pub returns-in-Opened : goal.returns-in-Opened
returns-in-Opened c = written_as (ap secret_text c.in-Opened.is) c.put_worded.ensures

pub returns-in-Recovered : goal.returns-in-Recovered
returns-in-Recovered c = written_as (ap secret_text c.in-Recovered.is) c.put_worded-in-Recovered.ensures

pub returns-in-Stuck : goal.returns-in-Stuck
returns-in-Stuck c = written_as (ap secret_text c.in-Stuck.is) c.put_bytes.ensures
