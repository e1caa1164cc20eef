-- The laws of parsers of bits among parsers of bytes, and of bytes among parsers of bits.
use Rattle.std.specs.Prelude.{◌≡◌, ℕ, ◌+◌, ◌*◌, Bool, true, false, ◌++◌, Option, Some, None, refl}
use Rattle.std.proofs.Common.{arith, sym, ◌∙◌, ap, subst, inl, inr, append_assoc}
use Rattle.nom_internal.specs.Prelude.{Errors, Model, InputLaws, IsBoundary, IsSuffixOf, IsSame}
use Rattle.nom_internal.specs.Prelude.{Related, rest_consistent, items_len-append, items_len-ones, IsCount}
use Rattle.nom_internal.specs.Prelude.{all_bits, AreBytes, bits_model, Outcome, Cause, Accept, Refuse, Stop, Fails, Needs, Outright, TooLarge, IsDecided}
use Rattle.nom_internal.specs.Prelude.{Meaning, IsLawful, IsSteady}
use Rattle.nom_traits.specs.BitLists.{length-all_bits}
use Rattle.nom_internal.specs.laws.CaseLaws.{CaseLaws, case_lawful, case_steady}
use Rattle.nom_bits.specs.BitRests.{all_bits-append, bits_ahead, same_counts, same_lengths, as_bits, same_ahead, ahead_related}
use Rattle.nom_bits.specs.Bridges.{BitsBecome, BytesAccept, BytesBecome, IsTooLarge, BitsNeeded, OnTooLarge, bits_case, bits_meaning, BytesBlame}
use Rattle.nom_bits.specs.Bridges.{bytes_case, bytes_meaning}

-- what is asked only where it is too large
not_asked : {T : Type 0} (Fact : Type 0) (a : Outcome T) → (Fact → ⊥) → OnTooLarge Fact a → ⊥
not_asked Fact (Accept n t) f h = h
not_asked Fact Refuse f h = h
not_asked Fact (Stop (Fails cause)) f h = h
not_asked Fact (Stop (Needs k)) f h = f h.1

-- one need in bits, which isn't too large
one_need : (k i j : Option ℕ) → BitsNeeded k i → BitsNeeded k j → i ≡ j
one_need (Some n) i j a b = a.1 ∙ sym b.1
one_need None i j a b = a ∙ sym b

too_many : (k i : Option ℕ) → IsTooLarge k → BitsNeeded k i → ⊥
too_many (Some n) i a b = omega (arith, a, b.0)
too_many None i a b = a

module _ {I : Type 0} (w : Model I ℕ) where
  count_consistent : (x y : I) (c n : ℕ) → IsSame w x y → IsCount w x c n → IsCount w y c n
  count_consistent x y c n r q = record {
    place = record { front = q.place.front; rest = q.place.rest; whole = sym r.elements_are ∙ q.place.whole; length_is = q.place.length_is };
    count_is = q.count_is;
  }

module _ {I : Type 0} (w : Model I ℕ) (l : InputLaws w) {T : Type 0} where
  -- of `bits`
  bits_keeps : (i : I) (a o : Outcome T) → BitsBecome w i a o → IsDecided o → IsDecided a
  bits_keeps i (Accept n t) o b d = tt
  bits_keeps i Refuse o b d = tt
  bits_keeps i (Stop (Fails cause)) o b d = subst (λ z. IsDecided z) b d
  bits_keeps i (Stop (Needs k)) o b d = subst (λ z. IsDecided z) b d

  bits_same : (longer : Bool) (x y : I) (a o p : Outcome T) → Related w longer x y → BitsBecome w x a o → BitsBecome w y a p → o ≡ p
  bits_same longer x y (Accept n t) o p r s u = s.2 ∙ (ap (λ m. Accept m t) (same_lengths w l longer x y _ s.0 u.0 r s.1 u.1) ∙ sym u.2)
  bits_same longer x y Refuse o p r s u = s ∙ sym u
  bits_same longer x y (Stop (Fails cause)) o p r s u = s ∙ sym u
  bits_same longer x y (Stop (Needs k)) o p r s u = s ∙ sym u

  bits_consistent : (x y : I) (a o : Outcome T) → IsSame w x y → BitsBecome w x a o → BitsBecome w y a o
  bits_consistent x y (Accept n t) o r s = (s.0, count_consistent w x y _ s.0 r s.1, s.2)
  bits_consistent x y Refuse o r s = s
  bits_consistent x y (Stop why) o r s = s

  bits_place_of : (i : I) (a : Outcome T) (n : ℕ) (t : T) → BitsBecome w i a (Accept n t) → IsBoundary w i n
  bits_place_of i (Accept m u) n t s = let same : s.0 ≡ n = cc (s.2) in subst (λ k. IsBoundary w i k) same s.1.place
  bits_place_of i Refuse n t s = absurd (cc (s))
  bits_place_of i (Stop (Fails cause)) n t s = absurd (cc (s))
  bits_place_of i (Stop (Needs k)) n t s = absurd (cc (s))

  bits_fails : (cause : Cause) (i : I) (a : Outcome T) → BitsBecome w i a (Stop (Fails cause)) → a ≡ Stop (Fails cause)
  bits_fails cause i (Accept n t) s = absurd (cc (s.2))
  bits_fails cause i Refuse s = absurd (cc (s))
  bits_fails cause i (Stop (Fails x)) s = cc (s)
  bits_fails cause i (Stop (Needs k)) s = cc (s)

  module _ {E F : Type 0} (Converts : E → F → Type 0) where
    bits_laws : CaseLaws true w (bits_model w) (bits_case {T = T} w Converts)
    bits_laws = record {
      at_known = λ i j h a. subst (λ z. w.IsKnown z.0) (sym a.0) h;
      at_related = λ longer stays x y j k r a b. subst (λ z. Related (bits_model w) longer j z) (sym b.0)
          (subst (λ z. Related (bits_model w) longer z (y, 0)) (sym a.0) (as_bits w l longer x y b.1 r));
      at_consistent = λ x y j r a. ((y, 0), (refl, subst AreBytes r.elements_are a.1));
      keeps = λ only. bits_keeps;
      same = λ longer stays x y a o p kx ky r s k u. bits_same longer x y a o p r s u;
      consistent = λ x y a o kx ky r s. bits_consistent x y a o r s;
      place = λ i j a n t h e place s. bits_place_of i a n t s;
      never_fails = λ Part cause i a g s. (g, bits_fails cause i a s);
      blames = λ i a X Y f h b. (b.0, b.1, h b.0 b.2, b.3);
      part_frugal = λ Part mode h. h;
      asks_none = λ Part mode i a h g. g;
    }

  -- of `bytes`
  module _ (values : (i : I) → w.IsKnown i → AreBytes (w.elements i)) where
    bytes_keeps : (i : I × ℕ) (a o : Outcome T) → BytesBecome w i a o → IsDecided o → IsDecided a
    bytes_keeps i (Accept n t) o b d = tt
    bytes_keeps i Refuse o b d = tt
    bytes_keeps i (Stop (Fails Outright)) o b d = tt
    bytes_keeps i (Stop (Fails TooLarge)) o b d = subst (λ z. IsDecided z) b d
    bytes_keeps i (Stop (Needs k)) o (inl b) d = subst (λ z. IsDecided z) b.1 d
    bytes_keeps i (Stop (Needs k)) o (inr b) d = subst (λ z. IsDecided z) b.2 d

    accept_same : (longer : Bool) (x y : I × ℕ) (n : ℕ) (t : T) (o p : Outcome T) → Related (bits_model w) longer x y → BytesAccept w x n t o →
        BytesAccept w y n t p → o ≡ p
    accept_same longer x y n t o p r s u =
        let counts = same_counts w l longer s.at u.at s.count u.count n (ahead_related w l values longer x y s.at u.at r s.at_is u.at_is) s.counted u.counted in
        s.outcome_is ∙ (ap (λ m. Accept (m + 8 * s.count) t) (same_ahead w l longer x y r) ∙
        (ap (λ c. Accept (bits_ahead w y + 8 * c) t) counts ∙ sym u.outcome_is))

    bytes_same : (longer : Bool) (x y : I × ℕ) (a o p : Outcome T) → Related (bits_model w) longer x y → BytesBecome w x a o → BytesBecome w y a p → o ≡ p
    bytes_same longer x y (Accept n t) o p r s u = accept_same longer x y n t o p r s u
    bytes_same longer x y Refuse o p r s u = s ∙ sym u
    bytes_same longer x y (Stop (Fails cause)) o p r s u = s ∙ sym u
    bytes_same longer x y (Stop (Needs k)) o p r (inl s) (inl u) = s.1 ∙ sym u.1
    bytes_same longer x y (Stop (Needs k)) o p r (inl s) (inr u) = absurd (too_many k u.0 s.0 u.1)
    bytes_same longer x y (Stop (Needs k)) o p r (inr s) (inl u) = absurd (too_many k s.0 u.0 s.1)
    bytes_same longer x y (Stop (Needs k)) o p r (inr s) (inr u) = s.2 ∙ (ap (λ j. Stop (Needs j)) (one_need k s.0 u.0 s.1 u.1) ∙ sym u.2)

    accept_consistent : (x y : I × ℕ) (n : ℕ) (t : T) (o : Outcome T) → IsSame (bits_model w) x y → BytesAccept w x n t o → BytesAccept w y n t o
    accept_consistent x y n t o r s =
        let ahead : bits_ahead w x ≡ bits_ahead w y = same_ahead w l false x y r in
        record {
          at = s.at;
          at_is = subst (λ m. IsSuffixOf (bits_model w) y m (s.at, 0)) ahead (rest_consistent (bits_model w) x y (bits_ahead w x) (s.at, 0) r s.at_is);
          count = s.count;
          counted = s.counted;
          outcome_is = s.outcome_is ∙ ap (λ m. Accept (m + 8 * s.count) t) ahead;
        }

    bytes_consistent : (x y : I × ℕ) (a o : Outcome T) → IsSame (bits_model w) x y → BytesBecome w x a o → BytesBecome w y a o
    bytes_consistent x y (Accept n t) o r s = accept_consistent x y n t o r s
    bytes_consistent x y Refuse o r s = s
    bytes_consistent x y (Stop why) o r s = s

    accept_place : (i : I × ℕ) (m n : ℕ) (u t : T) → BytesAccept w i m u (Accept n t) → IsBoundary (bits_model w) i n
    accept_place i m n u t s =
        let f = s.counted.place.front in
        let r = s.counted.place.rest in
        let same : n ≡ bits_ahead w i + 8 * s.count = cc (s.outcome_is) in
        record {
          front = s.at_is.front ++ all_bits f;
          rest = all_bits r;
          whole = s.at_is.whole ∙ (ap (λ xs. s.at_is.front ++ all_bits xs) s.counted.place.whole ∙
              (ap (λ bs. s.at_is.front ++ bs) (all_bits-append f r) ∙ sym (append_assoc s.at_is.front (all_bits f) (all_bits r))));
          length_is = omega (
            arith,
            items_len-append (λ _. 1) s.at_is.front (all_bits f),
            s.at_is.length_is,
            items_len-ones (all_bits f),
            length-all_bits f,
            s.counted.count_is,
            same,
          );
        }

    bytes_place : (i : I × ℕ) (a : Outcome T) (n : ℕ) (t : T) → BytesBecome w i a (Accept n t) → IsBoundary (bits_model w) i n
    bytes_place i (Accept m u) n t s = accept_place i m n u t s
    bytes_place i Refuse n t s = absurd (cc (s))
    bytes_place i (Stop (Fails cause)) n t s = absurd (cc (s))
    bytes_place i (Stop (Needs k)) n t (inl s) = absurd (cc (s.1))
    bytes_place i (Stop (Needs k)) n t (inr s) = absurd (cc (s.2))

    bytes_fails : (i : I × ℕ) (a : Outcome T) → BytesBecome w i a (Stop (Fails Outright)) → a ≡ Stop (Fails Outright)
    bytes_fails i (Accept n t) s = absurd (cc (s.outcome_is))
    bytes_fails i Refuse s = absurd (cc (s))
    bytes_fails i (Stop (Fails cause)) s = cc (s)
    bytes_fails i (Stop (Needs k)) (inl s) = absurd (cc (s.1))
    bytes_fails i (Stop (Needs k)) (inr s) = absurd (cc (s.2))

    only_fails : (Part : Cause → Type 0) (cause : Cause) (i : I × ℕ) (a : Outcome T) → Part cause × (cause ≡ Outright) →
        BytesBecome w i a (Stop (Fails cause)) →
        Part cause × (a ≡ Stop (Fails cause))
    only_fails Part TooLarge i a g s = absurd (cc (g.1))
    only_fails Part Outright i a g s = (g.0, bytes_fails i a s)

    module _ {E F : Type 0} (errs : Errors (I × ℕ) F) (Converts : E → F → Type 0) where
      blames_more : (i : I × ℕ) (a : Outcome T) (X Y : E → Type 0) (f : F) → ((e : E) → X e → Y e) → BytesBlame w errs Converts i a X f →
          BytesBlame w errs Converts i a Y f
      blames_more i a X Y f h (inl b) = inl (b.0, b.1, h b.0 b.2, b.3)
      blames_more i a X Y f h (inr b) = inr b

      bytes_laws : CaseLaws true (bits_model w) w (bytes_case {T = T} w errs Converts)
      bytes_laws = record {
        at_known = λ i j h a. a.known;
        at_related = λ longer stays x y j k r a b. ahead_related w l values longer x y j k r a b;
        at_consistent = λ x y j r a. (
          j,
          subst (λ m. IsSuffixOf (bits_model w) y m (j, 0)) (same_ahead w l false x y r)
              (rest_consistent (bits_model w) x y (bits_ahead w x) (j, 0) r a),
        );
        keeps = λ only. bytes_keeps;
        same = λ longer stays x y a o p kx ky r s k u. bytes_same longer x y a o p r s u;
        consistent = λ x y a o kx ky r s. bytes_consistent x y a o r s;
        place = λ i j a n t h e place s. bytes_place i a n t s;
        never_fails = only_fails;
        blames = blames_more;
        part_frugal = λ Part mode h. h.0;
        asks_none = λ Part mode i a h g. not_asked errs.grows a h.1 g;
      }

-- `bits` and `bytes` are lawful and steady where their parts are
module _ {I T E F : Type 0} {w : Model I ℕ} (l : InputLaws w) (Converts : E → F → Type 0) {m : Meaning (I × ℕ) T E} where
  pub bits_of_lawful : IsLawful (bits_model w) m → IsLawful w (bits_meaning w Converts m)
  bits_of_lawful p = case_lawful (bits_laws w l Converts) p

  pub bits_of_steady : IsSteady (bits_model w) m → IsSteady w (bits_meaning w Converts m)
  bits_of_steady p = case_steady (bits_laws w l Converts) refl p

module _ {I T E F : Type 0} {w : Model I ℕ} (l : InputLaws w) (values : (i : I) → w.IsKnown i → AreBytes (w.elements i)) (errs : Errors (I × ℕ) F)
    (Converts : E → F → Type 0) {m : Meaning I T E} where
  pub bytes_of_lawful : IsLawful w m → IsLawful (bits_model w) (bytes_meaning w errs Converts m)
  bytes_of_lawful p = case_lawful (bytes_laws w l values errs Converts) p

  pub bytes_of_steady : IsSteady w m → IsSteady (bits_model w) (bytes_meaning w errs Converts m)
  bytes_of_steady p = case_steady (bytes_laws w l values errs Converts) refl p
