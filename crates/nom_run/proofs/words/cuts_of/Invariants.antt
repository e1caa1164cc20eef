use Rattle.std.proofs.Common.{◌≡◌, ℕ, ◌<◌, ◌-◌, [], map, length, slice_index, slice_index_or}
use Rattle.nom_run.specs.Runs.{NeverFalls}
use Rattle.nom_run.specs.Words.{IsDecimalSize, word_number}
use Rattle.nom_run.proofs.words.cuts_of.Given as goal

abbrev pub invariant-loop-word : goal.invariant-loop-word
invariant-loop-word g l = record {
  lengths : length l.cuts.items ≡ l.word-index;
  each : (k : ℕ) → k < l.word-index → IsDecimalSize (slice_index_or (map g.T.Word.spelled l.words) k []) ×
      (slice_index l.cuts.items k ≡ word_number (slice_index_or (map g.T.Word.spelled l.words) k []));
  ordered : NeverFalls l.cuts.items;
  first : l.word-index ≡ 0 → l.floor ≡ 0;
  last : 0 < l.word-index → slice_index l.cuts.items (l.word-index - 1) ≡ l.floor;
}
