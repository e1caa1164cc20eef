-- The outcome that stands after what was taken.
use Rattle.std.proofs.Common.{arith, ◌≡◌, ℕ, zero, suc, ◌+◌, Bool, List, [], ◌∷◌, ◌++◌, length, Ok, Err, refl, sym, ◌∙◌, ap, subst, length-append}
use Rattle.nom_internal.specs.Prelude.{size_of, Needed, bytes_model, IsSuffixOf, items_len-ones, Outcome, Accept, Refuse, Stop, Fails, Needs, Grammar, Parses}
use Rattle.nom_internal.specs.Prelude.{ParsesOutcome, ParseRanOut, Parsed, Cause}
use Rattle.nom_error.specs.declared.answer.Err.TheVariants as Stopped
use Rattle.nom_error.specs.declared.value.Error.{Error}
use Rattle.nom_stream.specs.Items.{Bytes, Answered, Taken, Takes}
use Rattle.nom_stream.specs.Items as Items

pub nil_of : (xs : List ℕ) → length xs ≡ 0 → xs ≡ []
nil_of [] e = refl
nil_of (x ∷ xs) e = absurd (omega (arith, e))

module _ {V O : Type 0} (grammar : Grammar Bytes V O (Error Bytes)) (more : Bool) (x : Bytes) where
  -- an acceptance, and what is left
  pub record Accepts (j : Bytes) (o : O) : Type 0 where
    pub size : ℕ
    pub tree : V
    pub accepted : grammar.meaning.answers more x (Accept size tree)
    pub rest : IsSuffixOf bytes_model x size j
    pub item : grammar.IsOutput tree o

  accepts_of : (j : Bytes) (o : O) (p : Outcome V) → grammar.meaning.answers more x p →
      ParsesOutcome {E = Error Bytes} bytes_model grammar.IsOutput x (grammar.meaning.blames more x) p (Ok (j, o)) → Accepts j o
  accepts_of j o (Accept n v) a h =
      let both : ◌≡◌ {A = Bytes × O} (h.0, h.1) (j, o) = cc (h.4) in
      let place : h.0 ≡ j = ap (λ (z : Bytes × O). z.0) both in
      let value : h.1 ≡ o = ap (λ (z : Bytes × O). z.1) both in
      record { size = n; tree = v; accepted = a; rest = subst (IsSuffixOf bytes_model x n) place h.2; item = subst (λ z. grammar.IsOutput v z) value h.3 }
  accepts_of j o Refuse a h = absurd (cc (h.2))
  accepts_of j o (Stop (Fails cause)) a h = absurd (cc (h.2))
  accepts_of j o (Stop (Needs k)) a h = absurd (cc (h.2))

  pub accepts : (j : Bytes) (o : O) → Parses bytes_model grammar more x (Ok (j, o)) → Accepts j o
  accepts j o (ParseRanOut e r) = absurd (cc (e))
  accepts j o (Parsed p a h) = accepts_of j o p a h

  lacks_of : (k : Needed) (p : Outcome V) → grammar.meaning.answers more x p →
      ParsesOutcome {E = Error Bytes} bytes_model grammar.IsOutput x (grammar.meaning.blames more x) p (Err (Stopped.Incomplete k)) →
      grammar.meaning.answers more x (Stop (Needs (size_of k)))
  lacks_of k (Accept n v) a h = absurd (cc (h.4))
  lacks_of k Refuse a h = absurd (cc (h.2))
  lacks_of k (Stop (Fails cause)) a h = absurd (cc (h.2))
  lacks_of k (Stop (Needs n)) a h =
      let same : h.0 ≡ k = cc (h.2) in
      subst (λ z. grammar.meaning.answers more x (Stop (Needs z))) (sym h.1 ∙ ap size_of same) a

  lacks : (k : Needed) → Parses bytes_model grammar more x (Err (Stopped.Incomplete k)) → grammar.meaning.answers more x (Stop (Needs (size_of k)))
  lacks k (ParseRanOut e r) = absurd (cc (e))
  lacks k (Parsed p a h) = lacks_of k p a h

  refuses_of : (e : Error Bytes) (p : Outcome V) → grammar.meaning.answers more x p →
      ParsesOutcome {E = Error Bytes} bytes_model grammar.IsOutput x (grammar.meaning.blames more x) p (Err (Stopped.Error e)) →
      grammar.meaning.answers more x Refuse
  refuses_of e (Accept n v) a h = absurd (cc (h.4))
  refuses_of e Refuse a h = a
  refuses_of e (Stop (Fails cause)) a h = absurd (cc (h.2))
  refuses_of e (Stop (Needs k)) a h = absurd (cc (h.2))

  refuses : (e : Error Bytes) → Parses bytes_model grammar more x (Err (Stopped.Error e)) → grammar.meaning.answers more x Refuse
  refuses e (ParseRanOut u r) = absurd (cc (u))
  refuses e (Parsed p a h) = refuses_of e p a h

  abbrev HasFailed : Type 0
  HasFailed = (cause : Cause) × grammar.meaning.answers more x (Stop (Fails cause))

  fails_of : (e : Error Bytes) (p : Outcome V) → grammar.meaning.answers more x p →
      ParsesOutcome {E = Error Bytes} bytes_model grammar.IsOutput x (grammar.meaning.blames more x) p (Err (Stopped.Failure e)) → HasFailed
  fails_of e (Accept n v) a h = absurd (cc (h.4))
  fails_of e Refuse a h = absurd (cc (h.2))
  fails_of e (Stop (Fails cause)) a h = (cause, a)
  fails_of e (Stop (Needs k)) a h = absurd (cc (h.2))

  fails : (e : Error Bytes) → Parses bytes_model grammar more x (Err (Stopped.Failure e)) → HasFailed
  fails e (ParseRanOut u r) = absurd (cc (u))
  fails e (Parsed p a h) = fails_of e p a h

  -- the outcome for what was taken, and what is held then
  abbrev pub Means : List ℕ → Taken O → Type 0
  Means new (Ok (n, o)) = (v : V) × grammar.IsOutput v o × grammar.meaning.answers more x (Accept n v) × ((front : List ℕ) × (length front ≡ n) ×
      (x.now ≡ front ++ new))
  Means new (Err (Stopped.Incomplete k)) = grammar.meaning.answers more x (Stop (Needs (size_of k))) × (new ≡ x.now)
  Means new (Err (Stopped.Error e)) = grammar.meaning.answers more x Refuse × (new ≡ x.now)
  Means new (Err (Stopped.Failure e)) = HasFailed × (new ≡ x.now)
  Means new (Err Stopped.OutOfMemory) = new ≡ x.now

  -- the length that was accepted is how many bytes were taken
  same_size : (n size : ℕ) (front rest : List ℕ) → n + length rest ≡ length x.now → x.now ≡ front ++ rest → length front ≡ size → n ≡ size
  same_size n size front rest a e f = omega (arith, a, ap length e, length-append front rest, f)

  accepted : (n : ℕ) (j : Bytes) (o : O) (new : List ℕ) → n + length j.now ≡ length x.now → new ≡ j.now → Accepts j o → Means new (Ok (n, o))
  accepted n j o new e is a =
      let rest = a.rest in
      let size : n ≡ a.size = same_size n a.size rest.front j.now e rest.whole (sym (items_len-ones rest.front) ∙ rest.length_is) in (
        a.tree,
        a.item,
        subst (λ z. grammar.meaning.answers more x (Accept z a.tree)) (sym size) a.accepted,
        (rest.front, sym (items_len-ones rest.front) ∙ rest.length_is ∙ sym size, rest.whole ∙ ap (λ z. rest.front ++ z) (sym is)),
      )

  by_answer : (new : List ℕ) (answer : Answered O) (r : Taken O) → Parses bytes_model grammar more x answer → Items.Took x new answer r → Means new r
  by_answer new (Ok (j, o)) r p h = subst (Means new) (sym h.3) (accepted h.0 j o new h.1 h.2 (accepts j o p))
  by_answer new (Err (Stopped.Incomplete k)) r p h = subst (Means new) (sym h.1) (lacks k p, h.0)
  by_answer new (Err (Stopped.Error e)) r p h = subst (Means new) (sym h.1) (refuses e p, h.0)
  by_answer new (Err (Stopped.Failure e)) r p h = subst (Means new) (sym h.1) (fails e p, h.0)
  by_answer new (Err Stopped.OutOfMemory) r p h = subst (Means new) (sym h.1) h.0

pub meant : {V O : Type 0} (grammar : Grammar Bytes V O (Error Bytes)) (more : Bool) (old new : List ℕ) (r : Taken O) →
    (t : Takes grammar more old new r) → Means grammar more t.input new r
meant grammar more old new r t = by_answer grammar more t.input new t.answer r t.parses.shown t.took
