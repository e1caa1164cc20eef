-- The promises of parsers, combinators and lists: the words of `nom::promises`.
pub use Rattle.nom_internal.specs.Promises.{AcceptsFronts, AnswersComplete, AnswersStay, HasNoFailure, HasOneOutcome}
pub use Rattle.nom_internal.specs.Promises.{IsCompleteToo, IsOfWhole, NeverRunsOut, StaysOnLonger}
pub use Rattle.nom_combinator.specs.Promises.{AreParts, ConsumesNothing, GivesFront, GivesFrontAndOutput, NeverRefuses, NeverWaits}
pub use Rattle.nom_multi.specs.Promises.{AcceptsUntil, HasEmptyItem, HasFewItems, ItemsAndEnd, RefusesAtEmpty}
pub use Rattle.nom_separated.specs.Promises.{AcceptsNoneOrMore}
pub use Rattle.nom_multi.specs.LengthPromises.{AcceptsCounted, CountedItems}
