-- What reading a file leaves in the space that was lent.
use Rattle.std.specs.Prelude.{◌≡◌, List, ℕ, Option, Some, None}
use Rattle.io.specs.Counts.{IsPrefixLen}

-- The bytes that were read lie within the space; a missing file, which is none, leaves the space as it was.
abbrev pub Answered : Option ℕ → List ℕ → List ℕ → Type 0
Answered (Some n) before after = IsPrefixLen n after
Answered None before after = after ≡ before
