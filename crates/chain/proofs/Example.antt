-- The first link, by computing the definitions, its digest included.
use mathlib.Core.Path.{refl}
use Rattle.words.specs.Bytes.{word_at, word_bytes, words_bytes, record_bytes}
use Rattle.sha256.specs.Constants.{K, initial}
use Rattle.sha256.specs.Padding.{zero_bits, bits64, pad, blocks, block}
use Rattle.sha256.specs.Hash.{later, W, schedule, T₁, T₂, round, rounds, add_states, compress, intermediate, hash_value}
use Rattle.group.specs.Power.{pow}
use Rattle.group.specs.Table.{groups_of, table_checks, is_group, group_of}
use Rattle.group.specs.Element.{is_element}
use Rattle.chain.specs.Link.{link_message}
use Rattle.chain.specs.Chain.{digest_after, linked_checks, chain_checks, next_link, extend_checks, extend_outcome}
use Rattle.chain.specs.Claims.{FirstLink}

pub first-link : FirstLink
unfolding word_at word_bytes words_bytes record_bytes K initial zero_bits bits64 pad blocks block later W schedule T₁ T₂ round rounds add_states compress intermediate hash_value pow groups_of table_checks is_group group_of is_element link_message digest_after linked_checks chain_checks next_link extend_checks extend_outcome
first-link = record { passed = refl; passed-too = refl; bytes = refl }
