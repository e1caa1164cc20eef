use Rattle.std.proofs.Common.{false, refl, subst, sym}
use Rattle.nom_internal.specs.Prelude.{text_lawful, text_model}
use Rattle.nom_internal.proofs.Shown.{err_from_residual}
use Rattle.nom_calls.specs.Func.{Answers}
use Rattle.nom_combinator.specs.Words.{eof_worded}
use Rattle.nom.specs.Chains.{map_stop, pair_stop_later, tuple_stop, two_map}
use Rattle.nom.specs.Word.{answers_by}
use Rattle.nom.specs.Texts.{Parses, eof_of, plain_errors}
use Rattle.example_json.specs.Json.{json_of, json_text_of}
use Rattle.example_json.proofs.values.whole.Goals as goal

pub returns-in_err-rest : goal.returns-in_err-rest
unfolding Answers
returns-in_err-rest c =
    let ended = answers_by text_model (eof_worded text_model plain_errors) c.in_err-rest.ensures.shown in
    subst (λ r. Parses (json_text_of c.args.depth) false c.args.input r) (sym (err_from_residual c.from_residual-in_err-rest.ensures))
    (map_stop text_model _ false _ _ _ _ (tuple_stop text_model _ _ false _ _
    (pair_stop_later text_model (json_of c.args.depth) eof_of false _ text_lawful _ _ _ c.in_ok-after.ensures ended)))

pub returns : goal.returns
unfolding Answers
returns c =
    let ended = answers_by text_model (eof_worded text_model plain_errors) c.in_ok-rest.ensures.shown in
    two_map text_model false text_lawful (json_of c.args.depth) eof_of _ _ _ _ _ _ _ _ c.in_ok-after.ensures ended refl
