-- What the two judges answer for the lines and the shares of the boards, by computing the definitions, digests included.
use mathlib.Core.Path.{◌≡◌, refl}
use mathlib.Core.List.{List, [], ◌∷◌}
use Prim.Native.Nat.{ℕ}
use Rattle.std.specs.Prelude.{Ok}
use Rattle.words.specs.Bytes.{word_at, word_bytes, words_bytes, record_bytes, record_in, record_at, agrees}
use Rattle.words.specs.Lists.{entry}
use Rattle.field.specs.Residue.{add, mul, sub, inv}
use Rattle.sha256.specs.Constants.{K, initial}
use Rattle.sha256.specs.Padding.{zero_bits, bits64, pad, blocks, block}
use Rattle.sha256.specs.Hash.{later, W, schedule, T₁, T₂, round, rounds, add_states, compress, intermediate, hash_value, hash}
use Rattle.group.specs.Power.{pow}
use Rattle.group.specs.Table.{groups_of, group_of}
use Rattle.group.specs.Element.{is_element, is_generator, is_exponent}
use Rattle.sharing.specs.Setting.{takes_whole, is_member}
use Rattle.sharing.specs.Weights.{gaps_at, weight_at, weights_of, powers_product}
use Rattle.sharing.specs.Answer.{degree_product}
use Rattle.sharing.specs.Figures.{small}
use Rattle.records.specs.Keys.{is_key, key_checks}
use Rattle.challenge.specs.Exponent.{exponent_of}
use Rattle.challenge.specs.Message.{round_bytes, head_bytes, bytes_over, challenge_of, dealing_message, share_message, coefficient_message, check_polynomial}
use Rattle.equality.specs.Equality.{announced}
use Rattle.lines.specs.Lines.{address_checks, v_in, Y_in, r_in, c_in, is_line_for, line_checks}
use Rattle.dealing.specs.Dealing.{judge_size_checks, dealing_form_checks, recomputed, range_checks, equation_checks, judge_dealing_in}
use Rattle.share.specs.Share.{opened_form, added_form, is_dealer, members_checks, share_recomputed, share_input_checks, share_form_checks, share_admission_checks, share_figure_checks, judge_share_in}
use Rattle.conditions.specs.Boards.{share, added, first_lines, uncarried_lines, second_lines}

-- the dealing judge accepts the lines of dealer d
abbrev pub Dealing : ℕ → List ℕ → Type 0
Dealing d lines = judge_dealing_in small d (8 ∷ 12 ∷ 4 ∷ 16 ∷ []) lines ≡ Ok tt

-- the share judge accepts the share Z of member i for dealer 1, with the key y and the encrypted share Y
abbrev pub Share : ℕ → ℕ → ℕ → ℕ → ℕ → ℕ → Type 0
Share i y Y Z c r = judge_share_in small (opened_form 1) i y Y (share 1 i Z c r) ≡ Ok (record { 0 = Z })

-- and the added share Z, with the product Y of the encrypted shares
abbrev pub AddedShare : ℕ → ℕ → ℕ → ℕ → ℕ → ℕ → Type 0
AddedShare i y Y Z c r = judge_share_in small added_form i y Y (added i Z c r) ≡ Ok (record { 0 = Z })

pub record Answers : Type 0 where
  pub first : Dealing 1 first_lines
  pub uncarried : Dealing 1 uncarried_lines
  pub second : Dealing 2 second_lines
  pub share-1 : Share 1 8 4 13 9 4
  pub share-2 : Share 2 12 6 12 5 6
  pub share-3 : Share 3 4 4 9 3 6
  pub forged : Share 1 8 4 6 2 4
  pub added-1 : AddedShare 1 8 12 4 4 7
  pub added-2 : AddedShare 2 12 18 8 4 8
  pub added-forged : AddedShare 1 8 12 16 2 3

pub answers : Answers
unfolding word_at word_bytes words_bytes record_bytes record_in add mul sub inv K initial zero_bits bits64 pad blocks block later W schedule T₁ T₂ round rounds add_states compress intermediate hash_value hash pow groups_of group_of takes_whole is_element is_exponent is_member gaps_at weight_at weights_of powers_product degree_product agrees entry record_at is_generator is_key key_checks round_bytes head_bytes bytes_over exponent_of challenge_of dealing_message share_message coefficient_message check_polynomial announced address_checks v_in Y_in r_in c_in judge_size_checks is_line_for line_checks dealing_form_checks recomputed range_checks equation_checks judge_dealing_in is_dealer members_checks share_recomputed share_input_checks share_form_checks share_admission_checks share_figure_checks judge_share_in
answers = record { first = refl; uncarried = refl; second = refl; share-1 = refl; share-2 = refl; share-3 = refl; forged = refl; added-1 = refl; added-2 = refl; added-forged = refl }
