-- What `digest` answers for each message.
use Rattle.std.specs.Prelude.{ℕ, List, [], ◌∷◌, length, nat_le}
use Rattle.words.specs.Checks.{Check, Outcome, outcome, ◌unless◌}
use Rattle.words.specs.declared.Record.{Record}
use Rattle.sha256.specs.Hash.{hash_value}
use Rattle.words.specs.declared.refusal.Refusal.TheVariants.{BadLength}

-- refused 3 above 65,536 bytes
abbrev pub digest_checks : List ℕ → List Check
digest_checks m = BadLength unless nat_le (length m) 65536 ∷ []

-- the hash value, or the refusal
abbrev pub digest_outcome : List ℕ → Outcome Record
digest_outcome m = outcome (digest_checks m) (hash_value m)
