-- The words that a file of a crate above names most, in one place: of errors and modes, of inputs, and of meanings.
pub use Rattle.nom_error.specs.Answers.{IResult, PResult, Refuses, WantsMore, size_of}
pub use Rattle.nom_error.specs.Errors.{Errors}
pub use Rattle.nom_error.specs.Modes.{Built, BuiltFrom, BuiltFromBoth, Modes, modes, with_errors, with_outputs, with_streaming}
pub use Rattle.nom_error.specs.declared.answer.Err.TheVariants.{Error, Failure, Incomplete, OutOfMemory}
pub use Rattle.nom_error.specs.declared.answer.Needed.{Needed}
pub use Rattle.nom_error.specs.declared.answer.Needed.TheVariants.{Size, Unknown}
pub use Rattle.nom_error.specs.declared.kind.ErrorKind.{ErrorKind}
pub use Rattle.nom_traits.specs.Bits.{AreBytes, all_bits, bits_lawful, bits_model, is_bit, low_bits, past_bits, spelled, spelled_after}
unfoldable pub use Rattle.nom_traits.specs.Bits.{byte_bits, whole_bytes}
pub use Rattle.nom_traits.specs.Bytes.{bytes_lawful, bytes_model}
pub use Rattle.nom_traits.specs.Classes.{IsInside, IsOutside, has_code, is_alpha_code, is_alphanum_code, is_bin_digit_code, is_dec_digit_code}
pub use Rattle.nom_traits.specs.Classes.{is_hex_digit_code, is_newline_code, is_oct_digit_code, is_space_code}
pub use Rattle.nom_traits.specs.CompareTags.{bytes_comparing, bytes_comparing_no_case, found_not_begun, itself_form, text_comparing, text_comparing_no_case}
pub use Rattle.nom_traits.specs.CompareTags.{text_is_bytes}
pub use Rattle.nom_traits.specs.Compares.{CompareLaws, ComparesBytes, ComparesBytesNoCase, ComparesText, ComparesTextNoCase, IsFound}
pub use Rattle.nom_traits.specs.Digits.{digits_after, value_more, value_of}
pub use Rattle.nom_traits.specs.Input.{AreValues, Extends, InputLaws, IsBoundary, IsPrefixOf, IsSame, IsSuffixOf, Model, Related, input_len, items_len, placed}
pub use Rattle.nom_traits.specs.Rests.{items_len-append, items_len-ones, place_more, rest_consistent, rest_place, rest_related, rest_rest, same_cut, same_front}
pub use Rattle.nom_traits.specs.Rests.{same_self, same_sym, same_then}
pub use Rattle.nom_traits.specs.Runs.{EndsAt, IsPosition, Stops}
pub use Rattle.nom_traits.specs.Slices.{IsCount, IsFirst, IsModelledBy, Slice, first_fewer, first_place, first_related, front_seen, place_first, place_slice}
pub use Rattle.nom_traits.specs.Slices.{same_count, same_length}
pub use Rattle.nom_traits.specs.Text.{text_lawful, text_model, text_values}
pub use Rattle.nom_traits.specs.View.{View, behind_view, itself, option_view, pair_view, result_view, single_view, text_view, vec_view, view_4, view_some}
pub use Rattle.nom_traits.specs.declared.compare.CompareResult.{CompareResult}
pub use Rattle.nom_internal.specs.Cases.{Case, Closed, OnPart, OnRefused, PartMode, Passes, SettlesIn, case_meaning, closed_case, closed_meaning, fixed_case}
pub use Rattle.nom_internal.specs.Cases.{fixed_meaning, fixed_of, labelled, labelled_meaning, mode_of, plain_case}
pub use Rattle.nom_internal.specs.Cases.CaseRunsOut.{RunsOutBeside, RunsOutInPart}
pub use Rattle.nom_internal.specs.Cases.PartMode.{Always, AsAsked}
pub use Rattle.nom_internal.specs.Choice.{ClosesError, ClosesResult, EitherOutput, GoesOnRefused, Joined, JoinsErrors, JoinsResult, NextBlames, NextRunsOut}
pub use Rattle.nom_internal.specs.Choice.{OnError, OnRefusal, OrBlames, OtherwiseBlames, ShowsNext, either_meaning, either_of, or_meaning, otherwise_meaning}
pub use Rattle.nom_internal.specs.Choice.NextBlames.{NextFails, NextRefuses}
pub use Rattle.nom_internal.specs.Choice.OrBlames.{FirstFails, FirstRefuses}
pub use Rattle.nom_internal.specs.Closures.{GivesFor, IsCallable, IsAsked, IsJudge, SeesConsistently}
pub use Rattle.nom_internal.specs.Families.{AnyKey, Family, IsLawfulFamily, IsOne, OfValue, always, always_lawful, of_value, of_value_lawful, of_value_steady}
pub use Rattle.nom_internal.specs.Grammar.{GivesAt, Grammar, Parses, Shows, sliced, valued}
pub use Rattle.nom_internal.specs.Judged.{Judged, JudgedBlames, OfError, OnUnfit, judged_case, judged_meaning, kept_if}
pub use Rattle.nom_internal.specs.Leaf.{Leaf, LeafAnswers, LeafLaws, leaf_lawful, leaf_meaning, leaf_steady}
pub use Rattle.nom_internal.specs.Mapped.{BuildsError, ConvertsResult, ConvertsSome, into_by, into_meaning, map_by, map_case, map_meaning, renamed_case}
pub use Rattle.nom_internal.specs.Mapped.{renamed_meaning}
pub use Rattle.nom_internal.specs.Meaning.{Agree, Carries, IsLawful, IsSteady, Keeps, Meaning, NeverTooLarge, ParsesMeaning, SameBlame, ShowsMeaning, Within}
pub use Rattle.nom_internal.specs.Meaning.{premised, premised_lawful, premised_steady}
pub use Rattle.nom_internal.specs.Outcome.{Cause, Reason, IsDecided, IsFailure, IsFault, OnOutcome, Outcome, ParsesOutcome, ParsesAnswer, ShowsOutcome}
pub use Rattle.nom_internal.specs.Outcome.{ShowsAnswer, mapped}
pub use Rattle.nom_internal.specs.Outcome.Cause.{Outright, TooLarge}
pub use Rattle.nom_internal.specs.Outcome.Outcome.{Accept, Refuse, Stop}
pub use Rattle.nom_internal.specs.Outcome.ParsesAnswer.{ParseRanOut, Parsed}
pub use Rattle.nom_internal.specs.Outcome.Reason.{Fails, Needs}
pub use Rattle.nom_internal.specs.Outcome.ShowsAnswer.{RanOut, Shown}
pub use Rattle.nom_internal.specs.Pinned.{IsPinned, either_pinned, pair_pinned, slice_pinned, value_pinned}
pub use Rattle.nom_internal.specs.Recognized.{IsSliced, recognized_meaning}
pub use Rattle.nom_internal.specs.Results.{AsksForMore, BoundSideCondition, HasRests, HoldsSame, IsFull, JudgedSideCondition, MadeSideCondition, OfRest}
pub use Rattle.nom_internal.specs.Results.{OrSideCondition}
pub use Rattle.nom_internal.specs.Results.{ThenSideCondition, WithRest, rest_of}
pub use Rattle.nom_internal.specs.Sequence.{GoesOn, OnRest, PairOutput, Then, ThenBlames, ThenRunsOut, after, pair_meaning, pair_of, sequence_meaning}
pub use Rattle.nom_internal.specs.Sequence.{then_meaning}
pub use Rattle.nom_internal.specs.Sequence.ThenRunsOut.{RunsOutFirst, RunsOutNext}
pub use Rattle.nom_internal.specs.Success.{place_zero, success_lawful, success_meaning, success_steady}
pub use Rattle.nom_internal.specs.Width.{HasWidth}
