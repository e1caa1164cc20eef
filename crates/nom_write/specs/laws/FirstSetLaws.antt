-- Which codes forms begin with, by those of the parts.
use Rattle.std.specs.Prelude.{◌≡◌, ℕ, Bool, true, false, cond, eqb, ◌&&◌, List, [], ◌∷◌, ◌++◌, length, map, Option, Some, None, refl}
use Rattle.std.proofs.Common.{sym, ◌∙◌, ap, subst, inl, inr, append-nil, append_assoc}
use Rattle.std.proofs.lemmas.Bool.{and_from, and_parts, eq-eqb}
use Rattle.std.specs.Borrow.{Bor}
use Rattle.nom_internal.specs.Prelude.{Errors, Family, GoesOn, GoesOnRefused, Grammar, Meaning, Model, Modes, OnPart, Outcome, Accept, Refuse, Stop}
use Rattle.nom_internal.specs.Prelude.{Fails, Needs, bytes_model, ComparesBytes, then_meaning, labelled, either_of, always, with_outputs}
use Rattle.nom_internal.specs.Prelude.{Then, map_by, pair_of}
use Rattle.nom_sequence.specs.Sequences.{preceded_of, terminated_of}
use Rattle.nom_bytes.specs.Tags.{tag_meaning}
use Rattle.nom_branch.specs.Alternatives.{alt_of}
use Rattle.nom_combinator.specs.Contexts.{context_of}
use Rattle.nom_error.specs.Errors.{Contexts}
use Rattle.nom_sink.specs.declared.error.WriteError.{WriteError}
use Rattle.nom_sink.specs.Choices.{Either}
use Rattle.nom_write.specs.Choices.{Apart}
use Rattle.nom_write.specs.laws.ChoiceReads.{become_refused}
use Rattle.nom_write.specs.FirstSets.{BeginsWith, Differ, IsAmong, HasFirst, RefusesOthers, StartsWith, CodeWords}
use Rattle.nom_write.specs.FirstSets.{are_others, are_unlike, or_first, is_unlike, first_of, whole_first}
use Rattle.nom_sink.specs.Parts.{Both}
use Rattle.nom_write.specs.Reads.{NoItem}
use Rattle.nom_sink.specs.Written.{Space}

-- nothing is told
pub no_first : {I A V O E : Type 0} {w : Model I A} {code : A → ℕ} {g : Grammar I V O E} {Form : O → List A → Type 0} → HasFirst w code g Form None
no_first = record { begins = λ bs e. absurd (cc (e)); others = record { refuses = λ bs e. absurd (cc (e)) } }

-- nor of items
pub no_start : {I A V E : Type 0} {w : Model I A} {code : A → ℕ} {m : Meaning I V E} {items : List A} → StartsWith w code m items None
no_start = record { begins = λ bs e. absurd (cc (e)); others = record { refuses = λ bs e. absurd (cc (e)) } }

-- one of the others is none of the first
is_other : (bs cs : CodeWords) (c : List ℕ) → are_others bs cs ≡ true → IsAmong cs c → are_unlike bs c ≡ true
is_other bs [] c o h = absurd h
is_other bs (d ∷ cs) c o (inl e) = subst (λ z. are_unlike bs z ≡ true) e (and_parts (are_unlike bs d) (are_others bs cs) o).0
is_other bs (d ∷ cs) c o (inr h) = is_other bs cs c (and_parts (are_unlike bs d) (are_others bs cs) o).1 h

module _ {I A V U O E : Type 0} {w : Model I A} {code : A → ℕ} {g : Grammar I V O E} {h : Grammar I U O E} {First Second : O → List A → Type 0} where
  told_apart : (bs cs : CodeWords) → HasFirst w code g First (Some bs) → HasFirst w code h Second (Some cs) → are_others bs cs ≡ true →
      Apart w g.meaning (λ xs. (v : O) × Second v xs)
  told_apart bs cs p q o = record {
    refuses = λ xs rest k.
        let b : BeginsWith code cs xs = q.begins cs refl k.0 xs k.1 in
        let whole : b.front ++ (b.more ++ rest) ≡ xs ++ rest = sym (ap (λ z. z ++ rest) b.whole ∙ append_assoc b.front b.more rest) in
        subst (λ z. NoItem w g.meaning z) whole (p.others.refuses bs refl b.front (b.more ++ rest) (is_other bs cs (map code b.front) o b.is_one));
  }

  -- what begins with a word of the second's the first refuses
  pub differ_apart : {a b : Option CodeWords} → HasFirst w code g First a → HasFirst w code h Second b → Differ a b (Apart w g.meaning (λ xs. (v : O) ×
      Second v xs)) →
      Apart w g.meaning (λ xs. (v : O) × Second v xs)
  differ_apart {a} {b} p q d = by a b p q d
    where
      by : (a b : Option CodeWords) → HasFirst w code g First a → HasFirst w code h Second b → Differ a b (Apart w g.meaning (λ xs. (v : O) × Second v xs)) →
          Apart w g.meaning (λ xs. (v : O) × Second v xs)
      by (Some bs) (Some cs) p q d = told_apart bs cs p q d
      by (Some bs) None p q d = d
      by None b p q d = d

heads : {A : Type 0} (a b : A) (xs ys : List A) → a ∷ xs ≡ b ∷ ys → a ≡ b
heads a b xs ys e = cc (e)

-- items are told apart by the first, where whatever begins with another is refused
pub first_starts : {I A V E : Type 0} {w : Model I A} (code : A → ℕ) (m : Meaning I V E) (items : List A) →
    ((a : A) (more : List A) → items ≡ a ∷ more → (c : A) (rest : List A) → eqb (code a) (code c) ≡ false → NoItem w m (c ∷ rest)) →
    StartsWith w code m items (first_of code items)
first_starts code m [] f = no_start
first_starts {A = A} {w = w} code m (a ∷ more) f = record {
  begins = λ bs e. record { front = a ∷ []; more = more; whole = refl; is_one = subst (λ z. IsAmong z (code a ∷ [])) {x = one} {y = bs} (cc (e)) (inl refl) };
  others = record { refuses = λ bs e front rest h. other front rest (subst (λ z. are_unlike z (map code front) ≡ true) {x = bs} {y = one} (cc (e)) h) };
}
  where
    one : CodeWords
    one = (code a ∷ []) ∷ []

    differs : (b : Bool) → (cond b false true && true) ≡ true → b ≡ false
    differs true h = absurd (cc (h))
    differs false h = refl

    other : (front rest : List A) → are_unlike one (map code front) ≡ true → NoItem w m (front ++ rest)
    other [] rest h = absurd (cc (h))
    other (c ∷ cs) rest h = f a more refl c (cs ++ rest) (differs (eqb (code a) (code c)) h)

-- and by all of them, where as many others are refused
pub whole_starts : {I A V E : Type 0} {w : Model I A} (code : A → ℕ) (m : Meaning I V E) (items : List A) →
    ((front rest : List A) → is_unlike (map code items) (map code front) ≡ true → NoItem w m (front ++ rest)) →
    StartsWith w code m items (whole_first code items)
whole_starts code m [] f = no_start
whole_starts code m (a ∷ more) f = record {
  begins = λ bs e. record {
    front = a ∷ more;
    more = [];
    whole = sym (append-nil (a ∷ more));
    is_one = subst (λ z. IsAmong z (map code (a ∷ more))) {x = map code (a ∷ more) ∷ []} {y = bs} (cc (e)) (inl refl);
  };
  others = record {
    refuses = λ bs e front rest h. f front rest (and_parts (is_unlike (map code (a ∷ more)) (map code front)) true
        (subst (λ z. are_unlike z (map code front) ≡ true) {x = bs} {y = map code (a ∷ more) ∷ []} (cc (e)) h)).0;
  };
}

-- an item of another code is another
pub other_item : {A : Type 0} (code : A → ℕ) (a c : A) → eqb (code a) (code c) ≡ false → a ≡ c → ⊥
other_item code a c h e = absurd (cc (h, eq-eqb (code a) (code c) (ap code e)))

-- a tag begins with its first byte
module _ {E : Type 0} (errs : Errors (Bor (List ℕ)) E) where
  tag_refuses : (tag : List ℕ) (a : ℕ) (more : List ℕ) → tag ≡ a ∷ more → (c : ℕ) (rest : List ℕ) → eqb a c ≡ false →
      NoItem bytes_model (tag_meaning bytes_model errs length ComparesBytes tag) (c ∷ rest)
  tag_refuses tag a more is c rest h s i (Accept n t) known e k =
      let found = k.2 in
      let both : (a ∷ more) ++ found.rest ≡ c ∷ rest = ap (λ zs. zs ++ found.rest) (sym is ∙ sym found.tag_is) ∙ (sym found.whole ∙ e) in
      absurd (other_item (λ x. x) a c h (heads a c (more ++ found.rest) rest both))
  tag_refuses tag a more is c rest h s i Refuse known e k = refl
  tag_refuses tag a more is c rest h s i (Stop (Fails cause)) known e k = absurd k
  tag_refuses tag a more is c rest h s i (Stop (Needs m)) known e k =
      let begun = k.1.0 in
      let both : a ∷ more ≡ c ∷ (rest ++ (begun.byte ∷ begun.more)) = sym is ∙ (begun.tag_is ∙ ap (λ zs. zs ++ (begun.byte ∷ begun.more)) e) in
      absurd (other_item (λ x. x) a c h (heads a c more (rest ++ (begun.byte ∷ begun.more)) both))

  pub tag_starts : (tag : List ℕ) → StartsWith bytes_model (λ x. x) (tag_meaning bytes_model errs length ComparesBytes tag) tag (first_of (λ x. x) tag)
  tag_starts tag = first_starts (λ x. x) (tag_meaning bytes_model errs length ComparesBytes tag) tag (tag_refuses tag)

module _ {A : Type 0} (code : A → ℕ) where
  pub begins_as : (bs : CodeWords) (xs ys : List A) → xs ≡ ys → BeginsWith code bs ys → BeginsWith code bs xs
  begins_as bs xs ys e b = subst (BeginsWith code bs) (sym e) b

  pub begins_before : (bs : CodeWords) (front back : List A) → BeginsWith code bs front → BeginsWith code bs (front ++ back)
  begins_before bs front back b = record {
    front = b.front;
    more = b.more ++ back;
    whole = ap (λ z. z ++ back) b.whole ∙ append_assoc b.front b.more back;
    is_one = b.is_one;
  }

  -- forms that are some items
  pub fixed_begins : {I V O E : Type 0} {w : Model I A} {g : Grammar I V O E} {Form : O → List A → Type 0} {words : Option CodeWords} (items : List A) →
      ((v : O) (xs : List A) → Form v xs → xs ≡ items) → StartsWith w code g.meaning items words → HasFirst w code g Form words
  fixed_begins items is p = record { begins = λ bs e v xs f. begins_as bs xs items (is v xs f) (p.begins bs e); others = p.others }

-- a part, and then what its tree says, refuses what the part refuses
pub then_refuses : {I A P Q T E : Type 0} (w : Model I A) (code : A → ℕ) (tree : P → Q → T) (first next : Modes → Modes) (m : Meaning I P E)
    (f : Family P I Q E) (words : Option CodeWords) → RefusesOthers w code m words → RefusesOthers w code (then_meaning w tree first next m f) words
then_refuses w code tree first next m f words p = record {
  refuses = λ bs e front rest h s i o known el a. subst (λ z. GoesOn w tree (λ u. (f.at u).answers s) i z o)
      (p.refuses bs e front rest h s i a.first known el a.answered) a.goes_on;
}

-- where the first of two parts refuses, both do
pub then_first : {I A P Q T : Type 0} {w : Model I A} {tree : P → Q → T} {F : I → Outcome P → Type 0} {N : P → I → Outcome Q → Type 0} {i : I}
    {o : Outcome T} → Then w tree F N i o → (a : Outcome P) × F i a × (a ≡ Refuse → o ≡ Refuse)
then_first {w = w} {tree} {N = N} {i} {o} a = (a.first, a.answered, λ e. subst (λ z. GoesOn w tree N i z o) e a.goes_on)

-- a part whose refusals stay refusals
pub case_refuses : {I A P T E F : Type 0} (w : Model I A) (code : A → ℕ) (m : Meaning I P E) (n : Meaning I T F) (words : Option CodeWords)
    (stays : (s : Bool) (i : I) (o : Outcome T) → n.answers s i o → (a : Outcome P) × m.answers s i a × (a ≡ Refuse → o ≡ Refuse)) →
    RefusesOthers w code m words → RefusesOthers w code n words
case_refuses w code m n words stays p = record {
  refuses = λ bs e front rest h s i o known el a.
      let k = stays s i o a in k.2 (p.refuses bs e front rest h s i k.0 known el k.1);
}

-- a part whose outcome becomes another, as its refusal becomes a refusal
pub become_refuses : {I A P T E F : Type 0} {w : Model I A} {code : A → ℕ} {m : Meaning I P E} {words : Option CodeWords}
    (Becomes : Outcome P → Outcome T → Type 0) (n : Meaning I T F) → ((o : Outcome T) → Becomes Refuse o → o ≡ Refuse) →
    ((s : Bool) (i : I) (o : Outcome T) → n.answers s i o → OnPart (λ (x y : I). x ≡ y) (m.answers s) (λ _ a. Becomes a o) i) →
    RefusesOthers w code m words → RefusesOthers w code n words
become_refuses {w = w} {code} {m} {words} Becomes n stays part p = case_refuses w code m n words (λ s i o a. let b = part s i o a in (
  b.outcome,
  subst (λ z. m.answers s z b.outcome) (sym b.at_is) b.answered,
  λ e. stays o (subst (λ z. Becomes z o) e b.fact),
)) p

module _ {I A V O E : Type 0} {w : Model I A} {code : A → ℕ} {g : Grammar I V O E} {Form : O → List A → Type 0} {words : Option CodeWords}
    (p : HasFirst w code g Form words) where
  -- what stands before other items
  pub both_begins : {Next : O → List A → Type 0} → HasFirst w code g (λ v. Both (Form v) (Next v)) words
  both_begins = record {
    begins = λ bs e v xs f. begins_as code bs xs (f.front ++ f.back) f.whole (begins_before code bs f.front f.back (p.begins bs e v f.front f.first));
    others = p.others;
  }

  pub pair_begins : {U P : Type 0} (h : Grammar I U P E) → HasFirst w code (pair_of w g h) (λ v. Form v.0) words
  pair_begins h = record {
    begins = λ bs e v xs f. p.begins bs e v.0 xs f;
    others = then_refuses w code (λ u v. (u, v)) (λ o. o) (λ o. o) g.meaning (always h.meaning) words p.others;
  }

  pub terminated_begins : {U P : Type 0} (h : Grammar I U P E) → HasFirst w code (terminated_of w g h) Form words
  terminated_begins h = record {
    begins = p.begins;
    others = then_refuses w code (λ u v. u) (λ o. o) (with_outputs false) g.meaning (always h.meaning) words p.others;
  }

  -- a tuple, by its first member
  pub first_begins : {U F : Type 0} {h : Grammar I U F E} (first : F → O) {Next : F → List A → Type 0} →
      ((s : Bool) (i : I) (o : Outcome U) → h.meaning.answers s i o → (a : Outcome V) × g.meaning.answers s i a × (a ≡ Refuse → o ≡ Refuse)) →
      HasFirst w code h (λ v. Both (Form (first v)) (Next v)) words
  first_begins {h = h} first stays = record {
    begins = λ bs e v xs f. begins_as code bs xs (f.front ++ f.back) f.whole
        (begins_before code bs f.front f.back (p.begins bs e (first v) f.front f.first));
    others = case_refuses w code g.meaning h.meaning words stays p.others;
  }

  -- a map back
  pub map_begins : {R : Type 0} {IsTaken : O → Type 0} {Gives : O → R → Type 0} {Back : R → O → Type 0} →
      HasFirst w code (map_by IsTaken Gives g) (λ v xs. (x : O) × Back v x × Form x xs) words
  map_begins = record {
    begins = λ bs e v xs f. p.begins bs e f.0 xs f.2;
    others = become_refuses (λ a o. o ≡ a) _ (λ o e. e) (λ s i o a. a) p.others;
  }

  pub alt_begins : (errs : Errors I E) → HasFirst w code (alt_of errs g) Form words
  alt_begins errs = record { begins = p.begins; others = become_refuses (λ a o. o ≡ a) _ (λ o e. e) (λ s i o a. a) p.others }

  pub context_begins : (contexts : Contexts I E) (name : List ℕ) → HasFirst w code (context_of contexts name g) Form words
  context_begins contexts name = record { begins = p.begins; others = become_refuses (λ a o. o ≡ a) _ (λ o e. e) (λ s i o a. a) p.others }

-- items, and then a form
pub preceded_begins : {I A V U O P E : Type 0} {w : Model I A} (code : A → ℕ) (g : Grammar I V O E) {h : Grammar I U P E} {NextForm : P → List A → Type 0}
    {words : Option CodeWords} (items : List A) → StartsWith w code g.meaning items words →
    HasFirst w code (preceded_of w g h) (λ v. Both (λ ys. ys ≡ items) (NextForm v)) words
preceded_begins {w = w} code g {h} {words = words} items p = record {
  begins = λ bs e v xs f. begins_as code bs xs (f.front ++ f.back) f.whole
      (begins_before code bs f.front f.back (begins_as code bs f.front items f.first (p.begins bs e)));
  others = then_refuses w code (λ u v. v) (with_outputs false) (λ o. o) g.meaning (always h.meaning) words p.others;
}

among_front : (bs cs : CodeWords) (c : List ℕ) → IsAmong bs c → IsAmong (bs ++ cs) c
among_front [] cs c h = absurd h
among_front (b ∷ bs) cs c (inl e) = inl e
among_front (b ∷ bs) cs c (inr h) = inr (among_front bs cs c h)

among_back : (bs cs : CodeWords) (c : List ℕ) → IsAmong cs c → IsAmong (bs ++ cs) c
among_back [] cs c h = h
among_back (b ∷ bs) cs c h = inr (among_back bs cs c h)

-- unlike words of both
unlike_both : (bs cs : CodeWords) (c : List ℕ) → are_unlike (bs ++ cs) c ≡ true → (are_unlike bs c ≡ true) × (are_unlike cs c ≡ true)
unlike_both [] cs c h = (refl, h)
unlike_both (b ∷ bs) cs c h =
    let here = and_parts (is_unlike b c) (are_unlike (bs ++ cs) c) h in
    let more = unlike_both bs cs c here.1 in (and_from (is_unlike b c) (are_unlike bs c) here.0 more.0, more.1)

module _ {I A P Q O E : Type 0} {w : Model I A} {code : A → ℕ} (errs : Errors I E) {g : Grammar I P O E} {h : Grammar I Q O E}
    {First Second : O → List A → Type 0} {FirstFails : O → Space → WriteError → Type 0} where
  both_told : (bs cs : CodeWords) → HasFirst w code g First (Some bs) → HasFirst w code h Second (Some cs) →
      HasFirst w code (either_of errs.joined errs.grows g h) (λ v. Either (First v) (FirstFails v) (Second v)) (Some (bs ++ cs))
  both_told bs cs p q = record {
    begins = λ ds e v xs f. subst (λ z. BeginsWith code z xs) {x = bs ++ cs} {y = ds} (cc (e)) (begins v xs f);
    others = record { refuses = others };
  }
    where
      begins : (v : O) (xs : List A) → Either (First v) (FirstFails v) (Second v) xs → BeginsWith code (bs ++ cs) xs
      begins v xs (inl f) = let b = p.begins bs refl v xs f in record {
        front = b.front;
        more = b.more;
        whole = b.whole;
        is_one = among_front bs cs (map code b.front) b.is_one;
      }
      begins v xs (inr f) = let b = q.begins cs refl v xs f.1 in record {
        front = b.front;
        more = b.more;
        whole = b.whole;
        is_one = among_back bs cs (map code b.front) b.is_one;
      }

      others : (ds : CodeWords) → Some (bs ++ cs) ≡ Some ds → (front rest : List A) → are_unlike ds (map code front) ≡ true →
          NoItem w (either_of errs.joined errs.grows g h).meaning (front ++ rest)
      others ds e front rest unlike s i o known el r =
          let parts = unlike_both bs cs (map code front) (subst (λ z. are_unlike z (map code front) ≡ true) {x = ds} {y = bs ++ cs} (cc (e)) unlike) in
          let first = become_refused w (labelled inl) (g.meaning.answers s) (front ++ rest) i r.first known el (p.others.refuses bs refl front rest parts.0 s)
          r.answered in
          become_refused w (labelled inr) (h.meaning.answers s) (front ++ rest) i o known el (q.others.refuses cs refl front rest parts.1 s)
          (subst (λ z. GoesOnRefused (λ o. OnPart (λ (x y : I). x ≡ y) (h.meaning.answers s) (λ _ a. o ≡ labelled inr a) i) z o) first r.goes_on)

  -- one of two
  pub or_begins : {a b : Option CodeWords} → HasFirst w code g First a → HasFirst w code h Second b →
      HasFirst w code (either_of errs.joined errs.grows g h) (λ v. Either (First v) (FirstFails v) (Second v)) (or_first a b)
  or_begins {a} {b} p q = by a b p q
    where
      by : (a b : Option CodeWords) → HasFirst w code g First a → HasFirst w code h Second b →
          HasFirst w code (either_of errs.joined errs.grows g h) (λ v. Either (First v) (FirstFails v) (Second v)) (or_first a b)
      by (Some bs) (Some cs) p q = both_told bs cs p q
      by (Some bs) None p q = no_first
      by None b p q = no_first

  -- the last branch of a choice
  pub last_begins : {a b : Option CodeWords} → HasFirst w code g First a → HasFirst w code h Second b →
      HasFirst w code (alt_of errs (either_of errs.joined errs.grows g h)) (λ v. Either (First v) (FirstFails v) (Second v)) (or_first a b)
  last_begins p q = alt_begins (or_begins p q) errs
