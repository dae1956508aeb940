-- Keys and secret keys, and the stage that tests the members' keys.
use Rattle.std.specs.Prelude.{Bool, ◌&&◌, List, [], ◌∷◌, ℕ, leb, ltb}
use Rattle.words.specs.Lists.{all, none_twice}
use Rattle.words.specs.Checks.{Check, ◌unless◌}
use Rattle.group.specs.Element.{is_generator}
use Rattle.group.specs.declared.Group.{Group}
use Rattle.words.specs.declared.refusal.Refusal.TheVariants.{NoElement, SameKey}

-- a key: an element that is not 1
unfoldable pub is_key : Group → ℕ → Bool
is_key G y = is_generator G y

-- a secret key: 1 to q - 1
unfoldable pub is_secret_key : Group → ℕ → Bool
is_secret_key G x = leb 1 x && ltb x G.q

-- the keys of all members, on a board or lent: 6 a number that is no key, 22 two equal keys
unfoldable pub key_checks : Group → List ℕ → List Check
key_checks G ys = NoElement unless all (is_key G) ys ∷ SameKey unless none_twice ys ∷ []
