-- Lemmas on the answers of one of two branches, where the second runs if the first was refused.
use Rattle.std.proofs.Common.{◌≡◌, true, false, refl, ◌∙◌, ap, inl, inr}
use Rattle.nom_internal.specs.Prelude.{Grammar, Accept, Refuse, Stop, Fails, Needs, ParseRanOut, Parsed, FirstFails, FirstRefuses, NextFails, NextRefuses}
use Rattle.nom_internal.specs.Prelude.{RunsOutInPart, text_model}
use Rattle.nom_error.specs.declared.value.Error.{Error}
use Rattle.nom_branch.specs.Words.{or_worded}
use Rattle.nom.specs.Word.{answers_by, parses_by}
use Rattle.nom.specs.grammars.Texts as Grammars
use Rattle.nom.specs.Texts.{Parses, Text, TextWord, or_of, plain_errors}
use Rattle.example_json.specs.Json.{refuses}
use Rattle.example_json.proofs.Results.{TextResult, refused}

module _ {V U O : Type 0} (g : Grammar Text V O (Error Text)) (h : Grammar Text U O (Error Text)) {i : Text} {r : TextResult O} where
  -- the first, where it doesn't refuse
  first_tells : Grammars.Parses g false i r → false ≡ refuses r → Grammars.Parses (Grammars.or_of g h) false i r
  first_tells (ParseRanOut e z) q = ParseRanOut e (inl (RunsOutInPart i refl z))
  first_tells (Parsed (Accept n v) a p) q =
      Parsed (Accept n (inl v)) (record {
        first = Accept n (inl v);
        answered =
            record { at = i; at_is = refl; outcome = Accept n v; answered = a; fact = refl };
        goes_on = refl;
      }) p
  first_tells (Parsed Refuse a p) q = let no : false ≡ true = q ∙ ap refuses p.2 in absurd (cc (no))
  first_tells (Parsed (Stop (Fails cause)) a p) q =
      Parsed (Stop (Fails cause)) (record {
        first = Stop (Fails cause);
        answered = record { at = i; at_is = refl; outcome = Stop (Fails cause); answered = a; fact = refl };
        goes_on =
            refl;
      }) (
        p.0,
        FirstFails (record {
          outcome = Stop (Fails cause);
          answered = record { at = i; at_is = refl; outcome = Stop (Fails cause); answered = a; fact = refl };
          kind_is = tt;
          fact = record { at = i; at_is = refl; outcome = Stop (Fails cause); answered = a; fact = p.1 };
        }),
        p.2,
      )
  first_tells (Parsed (Stop (Needs k)) a p) q =
      Parsed (Stop (Needs k)) (record {
        first = Stop (Needs k);
        answered =
            record { at = i; at_is = refl; outcome = Stop (Needs k); answered = a; fact = refl };
        goes_on = refl;
      }) p

  -- the second, where the first refused with an error
  next_tells : g.meaning.answers false i Refuse → (e : Error Text) → g.meaning.blames false i e → Grammars.Parses h false i r →
      Grammars.Parses (Grammars.or_of g h) false i r
  next_tells f first blamed (ParseRanOut e z) =
      ParseRanOut e (inr (record { at = i; at_is = refl; outcome = Refuse; answered = f; fact = refl }, inl (RunsOutInPart i refl z)))
  next_tells f first blamed (Parsed (Accept n v) a p) =
      Parsed (Accept n (inr v)) (record {
        first = Refuse;
        answered = record { at = i; at_is = refl; outcome = Refuse; answered = f; fact = refl };
        goes_on =
            record { at = i; at_is = refl; outcome = Accept n v; answered = a; fact = refl };
      }) p
  next_tells f first blamed (Parsed Refuse a p) =
      Parsed Refuse (record {
        first = Refuse;
        answered = record { at = i; at_is = refl; outcome = Refuse; answered = f; fact = refl };
        goes_on = record { at = i; at_is = refl; outcome = Refuse; answered = a; fact = refl };
      }) (
        p.0,
        FirstRefuses (record { at = i; at_is = refl; outcome = Refuse; answered = f; fact = refl })
            (NextRefuses (record { at = i; at_is = refl; outcome = Refuse; answered = a; fact = refl })
            (record {
              first = first;
              second = p.0;
              first_is =
                  record { at = i; at_is = refl; outcome = Refuse; answered = f; fact = blamed };
              second_is =
                  record { at = i; at_is = refl; outcome = Refuse; answered = a; fact = p.1 };
              joined = refl;
            })),
        p.2,
      )
  next_tells f first blamed (Parsed (Stop (Fails cause)) a p) =
      Parsed (Stop (Fails cause)) (record {
        first = Refuse;
        answered = record { at = i; at_is = refl; outcome = Refuse; answered = f; fact = refl };
        goes_on = record { at = i; at_is = refl; outcome = Stop (Fails cause); answered = a; fact = refl };
      }) (
        p.0,
        FirstRefuses (record { at = i; at_is = refl; outcome = Refuse; answered = f; fact = refl })
            (NextFails (record {
              outcome = Stop (Fails cause);
              answered = record { at = i; at_is = refl; outcome = Stop (Fails cause); answered = a; fact = refl };
              kind_is = tt;
              fact = record { at = i; at_is = refl; outcome = Stop (Fails cause); answered = a; fact = p.1 };
            })),
        p.2,
      )
  next_tells f first blamed (Parsed (Stop (Needs k)) a p) =
      Parsed (Stop (Needs k)) (record {
        first = Refuse;
        answered =
            record { at = i; at_is = refl; outcome = Refuse; answered = f; fact = refl };
        goes_on =
            record { at = i; at_is = refl; outcome = Stop (Needs k); answered = a; fact = refl };
      }) p

module _ {O : Type 0} (g h : TextWord O) (i : Text) where
  pub first_branch : (r : TextResult O) → Parses g false i r → false ≡ refuses r → Parses (or_of g h) false i r
  first_branch r p stays = answers_by text_model (or_worded plain_errors refl refl) (first_tells g.grammar h.grammar (parses_by text_model refl p) stays)

  pub next_branch : (s r : TextResult O) → Parses g false i s → true ≡ refuses s → Parses h false i r → Parses (or_of g h) false i r
  next_branch s r p is q =
      let f = refused is (parses_by text_model refl p) in
      answers_by text_model (or_worded plain_errors refl refl) (next_tells g.grammar h.grammar f.0 f.1.0 f.1.1 (parses_by text_model refl q))
