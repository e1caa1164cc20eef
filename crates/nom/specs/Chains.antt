-- Steps by `?`. A function that runs parsers one after another, each by a `?`, and returns their outputs together answers as the tuple of these
-- parsers does. With these as its rules the check finds so: `#[tactic(auto, using(nom::specs::Chains::steps))]` on the function.
use Rattle.std.specs.Prelude.{◌≡◌, ℕ, ◌+◌, Bool, Ok, Err}
use Rattle.std.proofs.Common.{refl, ap, subst, sym}
use Rattle.nom_error.specs.declared.answer.Err as Answer
use Rattle.nom_internal.specs.Prelude.{IResult, Needed, OutOfMemory, Model, InputLaws, IsSuffixOf, rest_rest, Grammar, Parses, Outcome, Accept, Refuse, Stop}
use Rattle.nom_internal.specs.Prelude.{Fails, Needs, ParseRanOut, Parsed, RunsOutFirst, RunsOutNext, RunsOutInPart, bytes_lawful, text_lawful}
use Rattle.nom_internal.specs.Mapped as Mapped
use Rattle.nom_internal.specs.Sequence as Sequence
use Rattle.nom_internal.specs.Sequence.ThenBlames.{BlamesFirst, BlamesNext}
use Rattle.nom_internal.specs.Tuples as Tuples
use Rattle.nom_internal.specs.Word.{Answers, Word, answers_by, parses_by}
use Rattle.nom_internal.specs.TupleWords.{tuple_of_eight, tuple_of_five, tuple_of_four, tuple_of_seven, tuple_of_six, tuple_of_three, tuple_of_two}
use Rattle.nom_internal.specs.Words.{map_of, map_worded, mapping, pair_of, pair_worded, tuple_of, tuple_worded}

-- the outputs of two steps
abbrev paired : {I O P E : Type 0} → O → IResult I P E → IResult I (O × P) E
paired x (Ok (k, y)) = Ok (k, (x, y))
paired x (Err e) = Err e

module _ {I A V U O P E : Type 0} (w : Model I A) (g : Grammar I V O E) (h : Grammar I U P E) (s : Bool) (i : I) where
  stops : (e : Answer.Err E E Needed) → Parses w g s i (Err e) → Parses w (Sequence.pair_of w g h) s i (Err e)
  stops e (ParseRanOut f r) = ParseRanOut (cc (f)) (RunsOutFirst r)
  stops e (Parsed (Accept n v) a p) = cc (p.4)
  stops e (Parsed Refuse a p) = Parsed Refuse (record { first = Refuse; answered = a; goes_on = refl })
      (p.0, BlamesFirst (record { outcome = Refuse; answered = a; kind_is = tt; fact = p.1 }), cc (p.2))
  stops e (Parsed (Stop (Fails cause)) a p) = Parsed (Stop (Fails cause)) (record { first = Stop (Fails cause); answered = a; goes_on = refl })
      (p.0, BlamesFirst (record { outcome = Stop (Fails cause); answered = a; kind_is = tt; fact = p.1 }), cc (p.2))
  stops e (Parsed (Stop (Needs k)) a p) = Parsed (Stop (Needs k)) (record { first = Stop (Needs k); answered = a; goes_on = refl }) (p.0, p.1, cc (p.2))

  module _ (l : InputLaws w) (j : I) (x : O) (n : ℕ) (v : V) (a : g.meaning.answers s i (Accept n v)) (d : IsSuffixOf w i n j) (q : g.IsOutput v x) where
    then_on : (r : IResult I P E) → Parses w h s j r → Parses w (Sequence.pair_of w g h) s i (paired x r)
    then_on r (ParseRanOut f c) = ParseRanOut (ap (paired x) f)
        (RunsOutNext (record { length = n; tree = v; rest = j; accepted = a; rest_is = d; fact = c }))
    then_on r (Parsed (Accept m u) b p) = Parsed (Accept (n + m) (v, u)) (record { first = Accept n v; answered = a; goes_on = (j, Accept m u, d, b, refl) })
        (p.0, (x, p.1), rest_rest w l i n j m p.0 d p.2, (q, p.3), ap (paired x) p.4)
    then_on r (Parsed Refuse b p) = Parsed Refuse (record { first = Accept n v; answered = a; goes_on = (j, Refuse, d, b, refl) }) (
      p.0,
      BlamesNext (record {
        length = n;
        tree = v;
        rest = j;
        accepted = a;
        rest_is = d;
        fact = record { outcome = Refuse; answered = b; kind_is = tt; fact = p.1 };
      }),
      ap (paired x) p.2,
    )
    then_on r (Parsed (Stop (Fails cause)) b p) = Parsed (Stop (Fails cause))
        (record { first = Accept n v; answered = a; goes_on = (j, Stop (Fails cause), d, b, refl) }) (
          p.0,
          BlamesNext (record {
            length = n;
            tree = v;
            rest = j;
            accepted = a;
            rest_is = d;
            fact = record { outcome = Stop (Fails cause); answered = b; kind_is = tt; fact = p.1 };
          }),
          ap (paired x) p.2,
        )
    then_on r (Parsed (Stop (Needs k)) b p) = Parsed (Stop (Needs k))
        (record { first = Accept n v; answered = a; goes_on = (j, Stop (Needs k), d, b, refl) }) (p.0, p.1, ap (paired x) p.2)

  goes_on : (l : InputLaws w) (j : I) (x : O) (r : IResult I P E) → Parses w g s i (Ok (j, x)) → Parses w h s j r →
      Parses w (Sequence.pair_of w g h) s i (paired x r)
  goes_on l j x r (ParseRanOut f c) b = cc (f)
  goes_on l j x r (Parsed (Accept n v) a p) b =
      let same : ◌≡◌ {A = I × O} (j, x) (p.0, p.1) = cc (p.4) in
      then_on l j x n v a (subst (λ k. IsSuffixOf w i n k) (sym (ap (λ t. t.0) same)) p.2) (subst (λ y. g.IsOutput v y) (sym (ap (λ t. t.1) same)) p.3) r b
  goes_on l j x r (Parsed Refuse a p) b = cc (p.2)
  goes_on l j x r (Parsed (Stop (Fails cause)) a p) b = cc (p.2)
  goes_on l j x r (Parsed (Stop (Needs k)) a p) b = cc (p.2)

module _ {I A V O F E : Type 0} (w : Model I A) (pairs : F → O) (g : Grammar I V O E) (s : Bool) (i : I) where
  tuple_stops : (e : Answer.Err E E Needed) → Parses w g s i (Err e) → Parses w (Tuples.tuple_of pairs g) s i (Err e)
  tuple_stops e (ParseRanOut f r) = ParseRanOut (cc (f)) r
  tuple_stops e (Parsed (Accept n v) a p) = cc (p.4)
  tuple_stops e (Parsed Refuse a p) = Parsed Refuse a (p.0, p.1, cc (p.2))
  tuple_stops e (Parsed (Stop (Fails cause)) a p) = Parsed (Stop (Fails cause)) a (p.0, p.1, cc (p.2))
  tuple_stops e (Parsed (Stop (Needs k)) a p) = Parsed (Stop (Needs k)) a (p.0, p.1, cc (p.2))

  tuple_gives : (j : I) (f : F) → Parses w g s i (Ok (j, pairs f)) → Parses w (Tuples.tuple_of pairs g) s i (Ok (j, f))
  tuple_gives j f (ParseRanOut e c) = cc (e)
  tuple_gives j f (Parsed (Accept n v) a p) =
      let same : ◌≡◌ {A = I × O} (j, pairs f) (p.0, p.1) = cc (p.4) in
      Parsed (Accept n v) a (
        j,
        f,
        subst (λ k. IsSuffixOf w i n k) (sym (ap (λ t. t.0) same)) p.2,
        subst (λ y. g.IsOutput v y) (sym (ap (λ t. t.1) same)) p.3,
        refl,
      )
  tuple_gives j f (Parsed Refuse a p) = cc (p.2)
  tuple_gives j f (Parsed (Stop (Fails cause)) a p) = cc (p.2)
  tuple_gives j f (Parsed (Stop (Needs k)) a p) = cc (p.2)

-- a first word stops, the second stops after it, or both give outputs
module _ {I A P Q E : Type 0} (w : Model I A) (a : Word I P E) (b : Word I Q E) (s : Bool) (i : I) where
  pub pair_stop : (e : Answer.Err E E Needed) → Answers w a s i (Err e) → Answers w (pair_of w a b) s i (Err e)
  pair_stop e h = answers_by w (pair_worded w refl refl) (stops w a.grammar b.grammar s i e (parses_by w refl h))

  pair_goes : (l : InputLaws w) (j : I) (x : P) (r : IResult I Q E) → Answers w a s i (Ok (j, x)) → Answers w b s j r →
      Answers w (pair_of w a b) s i (paired x r)
  pair_goes l j x r h k = answers_by w (pair_worded w refl refl) (goes_on w a.grammar b.grammar s i l j x r (parses_by w refl h) (parses_by w refl k))

  pub pair_stop_later : InputLaws w → (j : I) (x : P) (e : Answer.Err E E Needed) → Answers w a s i (Ok (j, x)) → Answers w b s j (Err e) →
      Answers w (pair_of w a b) s i (Err e)
  pair_stop_later l j x e h k = pair_goes l j x (Err e) h k

  pub pair_give : InputLaws w → (j k : I) (x : P) (y : Q) → Answers w a s i (Ok (j, x)) → Answers w b s j (Ok (k, y)) →
      Answers w (pair_of w a b) s i (Ok (k, (x, y)))
  pair_give l j k x y h q = pair_goes l j x (Ok (k, y)) h q

-- a tuple, by its nested pairs
module _ {I A O F E : Type 0} (w : Model I A) (pairs : F → O) (a : Word I O E) (s : Bool) (i : I) where
  pub tuple_stop : (e : Answer.Err E E Needed) → Answers w a s i (Err e) → Answers w (tuple_of pairs a) s i (Err e)
  tuple_stop e h = answers_by w (tuple_worded pairs refl) (tuple_stops w pairs a.grammar s i e (parses_by w refl h))

  pub tuple_give : (j : I) (f : F) → Answers w a s i (Ok (j, pairs f)) → Answers w (tuple_of pairs a) s i (Ok (j, f))
  tuple_give j f h = answers_by w (tuple_worded pairs refl) (tuple_gives w pairs a.grammar s i j f (parses_by w refl h))

-- outputs that a function maps
module _ {I A V O P E : Type 0} (w : Model I A) (Takes : O → Type 0) (Gives : O → P → Type 0) (g : Grammar I V O E) (s : Bool) (i : I) where
  map_stops : (e : Answer.Err E E Needed) → Parses w g s i (Err e) → Parses w (Mapped.map_by Takes Gives g) s i (Err e)
  map_stops e (ParseRanOut f r) = ParseRanOut (cc (f)) (RunsOutInPart i refl r)
  map_stops e (Parsed (Accept n v) a p) = cc (p.4)
  map_stops e (Parsed Refuse a p) = Parsed Refuse (record { at = i; at_is = refl; outcome = Refuse; answered = a; fact = refl })
      (p.0, record { at = i; at_is = refl; outcome = Refuse; answered = a; fact = p.1 }, cc (p.2))
  map_stops e (Parsed (Stop (Fails cause)) a p) =
      Parsed (Stop (Fails cause)) (record { at = i; at_is = refl; outcome = Stop (Fails cause); answered = a; fact = refl })
      (p.0, record { at = i; at_is = refl; outcome = Stop (Fails cause); answered = a; fact = p.1 }, cc (p.2))
  map_stops e (Parsed (Stop (Needs k)) a p) = Parsed (Stop (Needs k))
      (record { at = i; at_is = refl; outcome = Stop (Needs k); answered = a; fact = refl }) (p.0, p.1, cc (p.2))

  map_gives : (j : I) (x : O) (y : P) → Gives x y → Parses w g s i (Ok (j, x)) → Parses w (Mapped.map_by Takes Gives g) s i (Ok (j, y))
  map_gives j x y q (ParseRanOut e c) = cc (e)
  map_gives j x y q (Parsed (Accept n v) a p) =
      let same : ◌≡◌ {A = I × O} (j, x) (p.0, p.1) = cc (p.4) in
      Parsed (Accept n v) (record { at = i; at_is = refl; outcome = Accept n v; answered = a; fact = refl }) (
        j,
        y,
        subst (λ k. IsSuffixOf w i n k) (sym (ap (λ t. t.0) same)) p.2,
        record { output = x; is_output = subst (λ o. g.IsOutput v o) (sym (ap (λ t. t.1) same)) p.3; given = q },
        refl,
      )
  map_gives j x y q (Parsed Refuse a p) = cc (p.2)
  map_gives j x y q (Parsed (Stop (Fails cause)) a p) = cc (p.2)
  map_gives j x y q (Parsed (Stop (Needs k)) a p) = cc (p.2)

module _ {I A O P E : Type 0} (w : Model I A) (a : Word I O E) (s : Bool) (i : I) where
  pub map_stop : (Takes : O → Type 0) (Gives : O → P → Type 0) (e : Answer.Err E E Needed) → Answers w a s i (Err e) →
      Answers w (map_of (mapping Takes Gives) a) s i (Err e)
  map_stop Takes Gives e h = answers_by w (map_worded Takes Gives refl) (map_stops w Takes Gives a.grammar s i e (parses_by w refl h))

  map_give : (Takes : O → Type 0) (Gives : O → P → Type 0) (j : I) (x : O) (y : P) → Gives x y → Answers w a s i (Ok (j, x)) →
      Answers w (map_of (mapping Takes Gives) a) s i (Ok (j, y))
  map_give Takes Gives j x y q h = answers_by w (map_worded Takes Gives refl) (map_gives w Takes Gives a.grammar s i j x y q (parses_by w refl h))

-- what a function maps of the outputs of two to eight steps
module _ {I T E : Type 0} (w : Model I T) (s : Bool) (l : InputLaws w) where
  both : {A B : Type 0} (a : Word I A E) (b : Word I B E) (i j k : I) (x : A) (y : B) → Answers w a s i (Ok (j, x)) → Answers w b s j (Ok (k, y)) →
      Answers w (pair_of w a b) s i (Ok (k, (x, y)))
  both a b i j k x y h q = pair_give w a b s i l j k x y h q

  mapped : {F O P : Type 0} (pairs : F → O) (a : Word I O E) (Takes : F → Type 0) (Gives : F → P → Type 0) (i j : I) (f : F) (t : P) →
      Answers w a s i (Ok (j, pairs f)) → Gives f t → Answers w (map_of (mapping Takes Gives) (tuple_of pairs a)) s i (Ok (j, t))
  mapped pairs a Takes Gives i j f t h given = map_give w (tuple_of pairs a) s i Takes Gives j f t given (tuple_give w pairs a s i j f h)

  pub two_map : {A B P : Type 0} (a : Word I A E) (b : Word I B E) (Takes : A × B → Type 0) (Gives : A × B → P → Type 0) (i0 i1 i2 : I) (v0 : A) (v1 : B)
      (t : P) → Answers w a s i0 (Ok (i1, v0)) → Answers w b s i1 (Ok (i2, v1)) → Gives (v0, v1) t →
      Answers w (map_of (mapping Takes Gives) (tuple_of_two w a b)) s i0 (Ok (i2, t))
  two_map a b Takes Gives i0 i1 i2 v0 v1 t h0 h1 given = mapped _ _ Takes Gives _ _ (v0, v1) t (both _ _ _ _ _ _ _ h0 h1) given

  pub three_map : {A B C P : Type 0} (a : Word I A E) (b : Word I B E) (c : Word I C E) (Takes : A × B × C → Type 0) (Gives : A × B × C → P → Type 0)
      (i0 i1 i2 i3 : I) (v0 : A) (v1 : B) (v2 : C) (t : P) → Answers w a s i0 (Ok (i1, v0)) → Answers w b s i1 (Ok (i2, v1)) →
      Answers w c s i2 (Ok (i3, v2)) → Gives (v0, v1, v2) t → Answers w (map_of (mapping Takes Gives) (tuple_of_three w a b c)) s i0 (Ok (i3, t))
  three_map a b c Takes Gives i0 i1 i2 i3 v0 v1 v2 t h0 h1 h2 given = mapped _ _ Takes Gives _ _ (v0, v1, v2) t (both _ _ _ _ _ _ _ h0 (both _ _ _ _ _ _ _
      h1 h2)) given

  pub four_map : {A B C D P : Type 0} (a : Word I A E) (b : Word I B E) (c : Word I C E) (d : Word I D E) (Takes : A × B × C × D → Type 0)
      (Gives : A × B × C × D → P → Type 0) (i0 i1 i2 i3 i4 : I) (v0 : A) (v1 : B) (v2 : C) (v3 : D) (t : P) → Answers w a s i0 (Ok (i1, v0)) →
      Answers w b s i1 (Ok (i2, v1)) → Answers w c s i2 (Ok (i3, v2)) → Answers w d s i3 (Ok (i4, v3)) → Gives (v0, v1, v2, v3) t →
      Answers w (map_of (mapping Takes Gives) (tuple_of_four w a b c d)) s i0 (Ok (i4, t))
  four_map a b c d Takes Gives i0 i1 i2 i3 i4 v0 v1 v2 v3 t h0 h1 h2 h3 given = mapped _ _ Takes Gives _ _ (v0, v1, v2, v3) t (both _ _ _ _ _ _ _ h0 (both _
      _ _ _ _ _ _ h1 (both _ _ _ _ _ _ _ h2 h3))) given

  pub five_map : {A B C D F P : Type 0} (a : Word I A E) (b : Word I B E) (c : Word I C E) (d : Word I D E) (f : Word I F E)
      (Takes : A × B × C × D × F → Type 0) (Gives : A × B × C × D × F → P → Type 0) (i0 i1 i2 i3 i4 i5 : I) (v0 : A) (v1 : B) (v2 : C) (v3 : D) (v4 : F)
      (t : P) → Answers w a s i0 (Ok (i1, v0)) → Answers w b s i1 (Ok (i2, v1)) → Answers w c s i2 (Ok (i3, v2)) → Answers w d s i3 (Ok (i4, v3)) →
      Answers w f s i4 (Ok (i5, v4)) → Gives (v0, v1, v2, v3, v4) t → Answers w (map_of (mapping Takes Gives) (tuple_of_five w a b c d f)) s i0 (Ok (i5, t))
  five_map a b c d f Takes Gives i0 i1 i2 i3 i4 i5 v0 v1 v2 v3 v4 t h0 h1 h2 h3 h4 given = mapped _ _ Takes Gives _ _ (v0, v1, v2, v3, v4) t (both _ _ _ _ _
      _ _ h0 (both _ _ _ _ _ _ _ h1 (both _ _ _ _ _ _ _ h2 (both _ _ _ _ _ _ _ h3 h4)))) given

  pub six_map : {A B C D F G P : Type 0} (a : Word I A E) (b : Word I B E) (c : Word I C E) (d : Word I D E) (f : Word I F E) (g : Word I G E)
      (Takes : A × B × C × D × F × G → Type 0) (Gives : A × B × C × D × F × G → P → Type 0) (i0 i1 i2 i3 i4 i5 i6 : I) (v0 : A) (v1 : B) (v2 : C) (v3 : D)
      (v4 : F) (v5 : G) (t : P) → Answers w a s i0 (Ok (i1, v0)) → Answers w b s i1 (Ok (i2, v1)) → Answers w c s i2 (Ok (i3, v2)) →
      Answers w d s i3 (Ok (i4, v3)) → Answers w f s i4 (Ok (i5, v4)) → Answers w g s i5 (Ok (i6, v5)) → Gives (v0, v1, v2, v3, v4, v5) t →
      Answers w (map_of (mapping Takes Gives) (tuple_of_six w a b c d f g)) s i0 (Ok (i6, t))
  six_map a b c d f g Takes Gives i0 i1 i2 i3 i4 i5 i6 v0 v1 v2 v3 v4 v5 t h0 h1 h2 h3 h4 h5 given = mapped _ _ Takes Gives _ _ (v0, v1, v2, v3, v4, v5) t
      (both _ _ _ _ _ _ _ h0 (both _ _ _ _ _ _ _ h1 (both _ _ _ _ _ _ _ h2 (both _ _ _ _ _ _ _ h3 (both _ _ _ _ _ _ _ h4 h5))))) given

  pub seven_map : {A B C D F G H P : Type 0} (a : Word I A E) (b : Word I B E) (c : Word I C E) (d : Word I D E) (f : Word I F E) (g : Word I G E)
      (h : Word I H E) (Takes : A × B × C × D × F × G × H → Type 0) (Gives : A × B × C × D × F × G × H → P → Type 0) (i0 i1 i2 i3 i4 i5 i6 i7 : I) (v0 : A)
      (v1 : B) (v2 : C) (v3 : D) (v4 : F) (v5 : G) (v6 : H) (t : P) → Answers w a s i0 (Ok (i1, v0)) → Answers w b s i1 (Ok (i2, v1)) →
      Answers w c s i2 (Ok (i3, v2)) → Answers w d s i3 (Ok (i4, v3)) → Answers w f s i4 (Ok (i5, v4)) → Answers w g s i5 (Ok (i6, v5)) →
      Answers w h s i6 (Ok (i7, v6)) → Gives (v0, v1, v2, v3, v4, v5, v6) t →
      Answers w (map_of (mapping Takes Gives) (tuple_of_seven w a b c d f g h)) s i0 (Ok (i7, t))
  seven_map a b c d f g h Takes Gives i0 i1 i2 i3 i4 i5 i6 i7 v0 v1 v2 v3 v4 v5 v6 t h0 h1 h2 h3 h4 h5 h6 given = mapped _ _ Takes Gives _ _
      (v0, v1, v2, v3, v4, v5, v6) t (both _ _ _ _ _ _ _ h0 (both _ _ _ _ _ _ _ h1 (both _ _ _ _ _ _ _ h2 (both _ _ _ _ _ _ _ h3 (both _ _ _ _ _ _ _ h4
      (both _ _ _ _ _ _ _ h5 h6)))))) given

  pub eight_map : {A B C D F G H J P : Type 0} (a : Word I A E) (b : Word I B E) (c : Word I C E) (d : Word I D E) (f : Word I F E) (g : Word I G E)
      (h : Word I H E) (j : Word I J E) (Takes : A × B × C × D × F × G × H × J → Type 0) (Gives : A × B × C × D × F × G × H × J → P → Type 0)
      (i0 i1 i2 i3 i4 i5 i6 i7 i8 : I) (v0 : A) (v1 : B) (v2 : C) (v3 : D) (v4 : F) (v5 : G) (v6 : H) (v7 : J) (t : P) → Answers w a s i0 (Ok (i1, v0)) →
      Answers w b s i1 (Ok (i2, v1)) → Answers w c s i2 (Ok (i3, v2)) → Answers w d s i3 (Ok (i4, v3)) → Answers w f s i4 (Ok (i5, v4)) →
      Answers w g s i5 (Ok (i6, v5)) → Answers w h s i6 (Ok (i7, v6)) → Answers w j s i7 (Ok (i8, v7)) → Gives (v0, v1, v2, v3, v4, v5, v6, v7) t →
      Answers w (map_of (mapping Takes Gives) (tuple_of_eight w a b c d f g h j)) s i0 (Ok (i8, t))
  eight_map a b c d f g h j Takes Gives i0 i1 i2 i3 i4 i5 i6 i7 i8 v0 v1 v2 v3 v4 v5 v6 v7 t h0 h1 h2 h3 h4 h5 h6 h7 given = mapped _ _ Takes Gives _ _
      (v0, v1, v2, v3, v4, v5, v6, v7) t (both _ _ _ _ _ _ _ h0 (both _ _ _ _ _ _ _ h1 (both _ _ _ _ _ _ _ h2 (both _ _ _ _ _ _ _ h3 (both _ _ _ _ _ _ _ h4
      (both _ _ _ _ _ _ _ h5 (both _ _ _ _ _ _ _ h6 h7))))))) given

pub ruleset steps = (
  bytes_lawful,
  text_lawful,
  pair_stop,
  pair_stop_later,
  pair_give,
  tuple_stop,
  tuple_give,
  map_stop,
  two_map,
  three_map,
  four_map,
  five_map,
  six_map,
  seven_map,
  eight_map,
)
