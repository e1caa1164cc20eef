-- A word of equal parts is an equal word. With these as its rules the check compares a grammar that has functions or closures in it:
-- `#![tactic(auto, using(nom::specs::Same::words))]` at a crate's root.
use Rattle.std.proofs.Common.{refl}
use Rattle.nom_internal.specs.Word.{answers_same}
use Rattle.nom_internal.specs.Words.{and_then_same, either_same, fixed_same, flat_map_same, into_same}
use Rattle.nom_internal.specs.Words.{map_opt_same, map_res_same, map_same, pair_same, tuple_same}
use Rattle.nom_calls.specs.Words.{given_same, stream_given_same}
use Rattle.nom_bytes.specs.Tests.{failing_same, outside_same, passing_same, within_same}
use Rattle.nom_bytes.specs.Words.{bounded_same, run_same, run1_same, tag_same, take_same, until_same}
use Rattle.nom_character.specs.Tests.{char_outside_same, char_passing_same, char_within_same}
use Rattle.nom_character.specs.Words.{char_same, class_same, satisfy_same}
use Rattle.nom_character_integer.specs.DigitWords.{digits_same}
use Rattle.nom_character_integer.specs.Words.{integer_same}
use Rattle.nom_number.specs.Words.{number_same}
use Rattle.nom_sequence.specs.Words.{preceded_same, terminated_same}
use Rattle.nom_branch.specs.Words.{alt_same, or_same}
use Rattle.nom_branch.specs.PermutationWords.{first_same, more_same, permutation_same}
use Rattle.nom_combinator.specs.Words.{all_consuming_same, complete_same, cond_same, consumed_same, context_same, cut_same, not_same, opt_same, peek_same}
use Rattle.nom_combinator.specs.Words.{recognize_same, value_same, verify_same}
use Rattle.nom_multi.specs.Words.{count_same, fill_same, many0_same, many1_same, many_m_n_same, many_till_same}
use Rattle.nom_separated.specs.Words.{separated_list0_same, separated_list1_same}
use Rattle.nom_multi_fold.specs.Words.{fold_many0_same, fold_many1_same, fold_many_m_n_same, fold_same, many0_count_same, many1_count_same, many_m_n_count_same}
use Rattle.nom_multi_fold.specs.Words.{many_same}
use Rattle.nom_multi.specs.LengthWords.{length_count_same, length_data_same, length_value_same}

pub ruleset words = (
  answers_same,
  refl,
  pair_same,
  tuple_same,
  preceded_same,
  terminated_same,
  or_same,
  alt_same,
  either_same,
  opt_same,
  map_same,
  map_opt_same,
  map_res_same,
  verify_same,
  value_same,
  char_same,
  satisfy_same,
  class_same,
  tag_same,
  take_same,
  until_same,
  run_same,
  run1_same,
  bounded_same,
  within_same,
  outside_same,
  passing_same,
  failing_same,
  char_within_same,
  char_outside_same,
  char_passing_same,
  number_same,
  integer_same,
  digits_same,
  given_same,
  stream_given_same,
  cut_same,
  peek_same,
  not_same,
  complete_same,
  recognize_same,
  consumed_same,
  all_consuming_same,
  cond_same,
  context_same,
  many0_same,
  many1_same,
  count_same,
  many_m_n_same,
  many_till_same,
  separated_list0_same,
  separated_list1_same,
  fill_same,
  many0_count_same,
  many1_count_same,
  many_m_n_count_same,
  fold_same,
  fold_many0_same,
  fold_many1_same,
  fold_many_m_n_same,
  many_same,
  length_data_same,
  length_value_same,
  length_count_same,
  first_same,
  more_same,
  permutation_same,
  fixed_same,
  into_same,
  and_then_same,
  flat_map_same,
)
