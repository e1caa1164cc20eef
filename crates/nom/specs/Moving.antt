-- Inputs of a user's own type that hold another input, and a mark that each item moves: a count of the items that were passed, say. The
-- words and laws of `Located`, which is the first of them.
pub use Rattle.nom_located.specs.Moving.{Fitting, Moving, at_any_place, moved, moving_view, moving_model}
pub use Rattle.nom_located.specs.laws.MovingLaws.{always_fitting, counts_moving, fits_front, fits_rest, front_moving, place_moving, rest_moving}
pub use Rattle.nom_located.specs.laws.MovingLaws.{moving_comparing, moving_finding, moving_lawful, moving_reads, moving_injective, moving_views}
