-- The laws of what is sought at the first items of an input.
use Rattle.std.specs.Prelude.{◌≡◌, ℕ, ◌==◌, Bool, true, false, cond, List, [], ◌∷◌, ◌++◌, length, Option, Some, None, refl}
use Rattle.std.proofs.Common.{sym, ◌∙◌, ap, subst, append-nil}
use Rattle.nom_internal.specs.Prelude.{ErrorKind, Errors, Model, Related, first_place, first_related, same_count, IsLawful, IsSteady, LeafLaws, leaf_lawful}
use Rattle.nom_internal.specs.Prelude.{leaf_steady}
use Rattle.nom_character.specs.LineMatches.{Match, one_item_more, after_return, crlf_in, line_ending_in, line_in, match_leaf, match_meaning}
use Rattle.nom_character.specs.LineMatches.Match.{Full, Absent, Partial}

-- nothing is open
abbrev pub IsSettled : Match → Type 0
IsSettled (Full n) = Unit {0}
IsSettled Absent = Unit {0}
IsSettled (Partial lack) = ⊥

-- What is settled where more may come is so on a longer list, in both modes.
pub record LineMatchLaws {A : Type 0} (pattern : Bool → List A → Match) : Type 0 where
  pub stays : (s : Bool) (xs more : List A) → IsSettled (pattern true xs) → pattern s (xs ++ more) ≡ pattern true xs

module _ {I A : Type 0} (w : Model I A) (pattern : Bool → List A → Match) (l : LineMatchLaws pattern) where
  -- a settled answer stays
  answer_stays : (longer s : Bool) → (longer ≡ true → s ≡ true) → (x y : I) (a : Match) → IsSettled a → Related w longer x y →
      pattern s (w.elements x) ≡ a → pattern s (w.elements y) ≡ a
  answer_stays true s only x y a d r e =
      let before : pattern true (w.elements x) ≡ a = subst (λ z. pattern z (w.elements x) ≡ a) (only refl) e in
      ap (pattern s) r.whole ∙ (l.stays s (w.elements x) r.more (subst IsSettled (sym before) d) ∙ before)
  answer_stays false s only x y a d r e = ap (pattern s) (sym r.elements_are) ∙ e

  settles : (i : I) (a : Match) → IsSettled a → pattern true (w.elements i) ≡ a → pattern false (w.elements i) ≡ a
  settles i a d e = ap (pattern false) (sym (append-nil (w.elements i))) ∙ (l.stays false (w.elements i) [] (subst IsSettled (sym e) d) ∙ e)

  one_count : (n m : ℕ) → ◌≡◌ {A = Match} (Full n) (Full m) → n ≡ m
  one_count n m e = cc (e)

  pub match_laws : LeafLaws w (match_leaf w pattern)
  match_laws = record {
    place = λ s i n t h a. first_place w i n t a.0;
    one_accepted = λ s i n m t u h a b. same_count w i n m t u a.0 b.0 (one_count (length t.items) (length u.items) (sym a.1 ∙ b.1));
    one_lack = λ i j k h a b. let e : ◌≡◌ {A = Match} (Partial j) (Partial k) = sym a ∙ b in cc (e);
    accepted_refused = λ s i n t h a b. let e : ◌≡◌ {A = Match} (Full (length t.items)) Absent = sym a.1 ∙ b in cc (e);
    accepted_lacks = λ i n t k h a b. let e : ◌≡◌ {A = Match} (Full (length t.items)) (Partial k) = sym a.1 ∙ b in cc (e);
    refused_lacks = λ i k h a b. let e : ◌≡◌ {A = Match} Absent (Partial k) = sym a ∙ b in cc (e);
    accepted_stays = λ longer s only x y n t kx ky r a. (
      first_related w longer x y n t r a.0,
      answer_stays longer s only x y (Full (length t.items)) tt r a.1,
    );
    refused_stays = λ longer s only x y kx ky r a. answer_stays longer s only x y Absent tt r a;
    lack_consistent = λ x y k kx ky r a. ap (pattern true) (sym r.elements_are) ∙ a;
    accepted_settles = λ i n t h a. (a.0, settles i (Full (length t.items)) tt a.1);
    refused_settles = λ i h a. settles i Absent tt a;
  }

  module _ {E : Type 0} (errs : Errors I E) (kind : ErrorKind) where
    pub match_lawful : IsLawful w (match_meaning w pattern errs kind)
    match_lawful = leaf_lawful match_laws

    pub match_steady : IsSteady w (match_meaning w pattern errs kind)
    match_steady = leaf_steady match_laws

module _ {A : Type 0} (code : A → ℕ) where
  return_stays : (s : Bool) (found : Match) (lack : Option ℕ) (xs more : List A) → IsSettled (after_return code true found lack xs) →
      after_return code s found lack (xs ++ more) ≡ after_return code true found lack xs
  return_stays s found lack [] more h = absurd h
  return_stays s found lack (x ∷ xs) more h = refl

  -- what is answered by a test, where the answers to it stay
  by_test : (b : Bool) (p q p' q' : Match) → (IsSettled p → p' ≡ p) → (IsSettled q → q' ≡ q) → IsSettled (cond b p q) → cond b p' q' ≡ cond b p q
  by_test true p q p' q' f g h = f h
  by_test false p q p' q' f g h = g h

  pub crlf_laws : LineMatchLaws (crlf_in code)
  crlf_laws = record { stays = stays }
    where
      stays : (s : Bool) (xs more : List A) → IsSettled (crlf_in code true xs) → crlf_in code s (xs ++ more) ≡ crlf_in code true xs
      stays s [] more h = absurd h
      stays s (x ∷ xs) more h = by_test (code x == 13) _ _ _ _ (return_stays s (Full 2) (Some 2) xs more) (λ k. refl) h

  pub line_ending_laws : LineMatchLaws (line_ending_in code)
  line_ending_laws = record { stays = stays }
    where
      stays : (s : Bool) (xs more : List A) → IsSettled (line_ending_in code true xs) → line_ending_in code s (xs ++ more) ≡ line_ending_in code true xs
      stays s [] more h = absurd h
      stays s (x ∷ xs) more h = by_test (code x == 10) _ _ _ _ (λ k. refl)
          (by_test (code x == 13) _ _ _ _ (return_stays s (Full 2) (Some 2) xs more) (λ k. refl)) h

  settled_less : (a : Match) → IsSettled (one_item_more a) → IsSettled a
  settled_less (Full n) h = tt
  settled_less Absent h = tt
  settled_less (Partial lack) h = h

  line_stays : (s : Bool) (xs more : List A) → IsSettled (line_in code true xs) → line_in code s (xs ++ more) ≡ line_in code true xs
  line_stays s [] more h = absurd h
  line_stays s (x ∷ xs) more h =
      by_test (code x == 10) _ _ _ _ (λ k. refl)
      (by_test (code x == 13) _ _ _ _ (return_stays s (Full 0) None xs more)
      (λ k. ap one_item_more (line_stays s xs more (settled_less (line_in code true xs) k)))) h

  pub line_laws : LineMatchLaws (line_in code)
  line_laws = record { stays = line_stays }
