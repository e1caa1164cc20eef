-- Lemmas on rests: after a character, and what follows it, less is left.
use Rattle.std.proofs.Common.{◌≡◌, ℕ, ◌+◌, ◌<◌, false, Ok, Err, arith, refl, sym, subst}
use Rattle.std.specs.Prelude.{IfOk}
use Rattle.nom_internal.specs.Prelude.{GoesOn, Needed, input_len, text_model, text_lawful, Outcome, Accept, Refuse, Stop, after}
use Rattle.nom_error.specs.declared.answer.Err as Answer
use Rattle.nom_error.specs.declared.value.Error.{Error}
use Rattle.nom_internal.proofs.Consumed.{rest_length}
use Rattle.nom_character.specs.Words.{char_worded}
use Rattle.nom_sequence.specs.Words.{terminated_worded}
use Rattle.nom.specs.Word.{parses_by}
use Rattle.nom.specs.grammars.Texts as Grammars
use Rattle.nom.specs.Texts.{Parses, Text, TextWord, plain_errors}
use Rattle.example_json.specs.Scalars.{spaces_of, token_of}
use Rattle.example_json.proofs.Results.{TextResult, taken}

after_more : {P : Type 0} (n m t u : ℕ) (p : Outcome P) → 0 < n → Accept m t ≡ after n (λ _. u) p → 0 < m
after_more n m t u (Accept k v) h e = let same : m ≡ n + k = cc (e) in omega (arith, h, same)
after_more n m t u Refuse h e = cc (e)
after_more n m t u (Stop why) h e = cc (e)

token_length : (c : ℕ) (i : Text) (n t : ℕ) (o : Outcome ℕ) → (Grammars.char_of c).meaning.answers false i o →
    GoesOn text_model (λ u v. u) (λ _. spaces_of.grammar.meaning.answers false) i o (Accept n t) → 0 < n
token_length c i n t (Accept k u) a g = after_more k n t u g.1 (subst (λ m. 0 < m) (sym a.3) (text_lawful.positive a.0)) g.4
token_length c i n t Refuse a g = cc (g)
token_length c i n t (Stop why) a g = cc (g)

pub shorter : {O : Type 0} (h : TextWord O) (c : ℕ) (i j k : Text) (x : ℕ) (y : O) → Parses (token_of c) false i (Ok (j, x)) →
    Parses h false j (Ok (k, y)) → input_len text_model k < input_len text_model i
shorter h c i j k x y p q =
    let t = taken refl (parses_by text_model (terminated_worded text_model (char_worded text_model plain_errors (λ x. x) c) refl) p) in
    let u = taken refl (parses_by text_model refl q) in
    omega (arith, token_length c i t.length t.tree t.answered.first t.answered.answered t.answered.goes_on, rest_length t.rest_is, rest_length u.rest_is)

pub moved_not : {O : Type 0} (i : Text) {r : TextResult O} {e : Answer.Err (Error Text) (Error Text) Needed} → r ≡ Err e →
    IfOk r (λ a. input_len text_model a.0 < input_len text_model i)
moved_not i q = subst (λ z. IfOk z (λ a. input_len text_model a.0 < input_len text_model i)) (sym q) tt
