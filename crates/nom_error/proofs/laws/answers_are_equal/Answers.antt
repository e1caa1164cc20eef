use Rattle.std.proofs.Common.{rules, ◌≡◌, IsTrue, sym, ◌∙◌}
use Rattle.nom_error.specs.contracts.answer.Needed.{the_row}
use Rattle.nom_error.specs.contracts.answer.ErrPartialEq.TheImpl as Same
use Rattle.nom_error.specs.contracts.answer.NeededPartialEq.TheImpl as Need
use Rattle.nom_error.specs.declared.answer.Needed.{Needed}
use Rattle.nom_error.specs.declared.answer.Err as Answer
use Rattle.nom_error.specs.declared.answer.Err.TheVariants.{Incomplete, Error, Failure, OutOfMemory}
use Rattle.nom_error.specs.Equality.{AreSame}
use Rattle.nom_error.proofs.Needs.{same_needs}
use Rattle.nom_error.proofs.laws.answers_are_equal.Given as given
use Rattle.nom_error.proofs.laws.answers_are_equal.Goals as goal

module _ (g : given.Over) where
  same_answers : (x y : Answer.Err g.row.F.Denot g.row.E.Denot Needed) → let same =
      (Same.ghosts g.row.F g.row.E the_row g.F.PartialEq g.F.PartialEq-dict g.E.PartialEq g.E.PartialEq-dict Need.ghosts Need.dict).eq x y in
      (IsTrue same → AreSame g.F.PartialEq.eq g.E.PartialEq.eq x y) × (AreSame g.F.PartialEq.eq g.E.PartialEq.eq x y → IsTrue same)
  same_answers (Incomplete k) (Incomplete l) = same_needs k l
  same_answers (Incomplete k) (Error e) = search rules
  same_answers (Incomplete k) (Failure e) = search rules
  same_answers (Incomplete k) OutOfMemory = search rules
  same_answers (Error d) (Incomplete l) = search rules
  same_answers (Error d) (Error e) = search rules
  same_answers (Error d) (Failure e) = search rules
  same_answers (Error d) OutOfMemory = search rules
  same_answers (Failure d) (Incomplete l) = search rules
  same_answers (Failure d) (Error e) = search rules
  same_answers (Failure d) (Failure e) = search rules
  same_answers (Failure d) OutOfMemory = search rules
  same_answers OutOfMemory (Incomplete l) = search rules
  same_answers OutOfMemory (Error e) = search rules
  same_answers OutOfMemory (Failure e) = search rules
  same_answers OutOfMemory OutOfMemory = search rules

pub returns : goal.returns
returns g c =
    let e : c.eq.result ≡ (Same.ghosts g.row.F g.row.E the_row g.F.PartialEq g.F.PartialEq-dict g.E.PartialEq g.E.PartialEq-dict Need.ghosts
    Need.dict).eq c.args.answer.now c.args.other.now = c.eq.ensures in
    let law = same_answers g c.args.answer.now c.args.other.now in
    (λ t. law.0 (sym e ∙ t), λ s. e ∙ law.1 s)
