-- Laws of reading back choices, and a part whose outcome becomes another.
use Rattle.std.specs.Prelude.{◌≡◌, ℕ, Bool, false, List, [], ◌++◌, ◌⊎◌, Option, Some, None, refl, true}
use Rattle.std.proofs.Common.{sym, ◌∙◌, ap, subst, inl, inr}
use Rattle.nom_internal.specs.Prelude.{Errors, Model, items_len, Grammar, Outcome, Accept, Refuse, GoesOnRefused, EitherOutput, Meaning}
use Rattle.nom_internal.specs.Prelude.{OnPart, labelled, either_meaning, either_of, map_by}
use Rattle.nom_branch.specs.Alternatives.{alt_of}
use Rattle.nom_combinator.specs.Conditions.{cond_of}
use Rattle.nom_combinator.specs.Contexts.{context_of}
use Rattle.nom_error.specs.Errors.{Contexts}
use Rattle.nom_combinator.specs.Verdicts.{OptOutput, cut_of, opt_of, opt_outcome}
use Rattle.nom_sink.specs.declared.error.WriteError.{WriteError}
use Rattle.nom_sink.specs.Choices.{Either}
use Rattle.nom_write.specs.Choices.{Apart, RefusesForms}
use Rattle.nom_write.specs.Options.{CondForm, OptForm, WhereRun}
use Rattle.nom_write.specs.Reads.{Anything, IsEnd, NoItem, NoItemIn, Reads, ReadsAtEnd, ReadsBefore}
use Rattle.nom_write.specs.laws.LeafReads.{success_reads}
use Rattle.nom_write.specs.laws.SequenceReads.{as_whole}
use Rattle.nom_sink.specs.Written.{Space}

-- a part, with what its outcome becomes: of an acceptance one of that length
module _ {I A P T : Type 0} (w : Model I A) (becomes : Outcome P → Outcome T) (label : P → T)
    (keeps : (n : ℕ) (u : P) → becomes (Accept n u) ≡ Accept n (label u)) where
  pub become_reads : (F : I → Outcome P → Type 0) (IsPart : P → Type 0) (IsTree : T → Type 0) (First Next : List A → Type 0) (xs : List A) →
      ((rest : List A) → Next rest → First rest) → ((u : P) → IsPart u → IsTree (label u)) → ReadsBefore w F IsPart First xs →
      ReadsBefore w (λ i o. OnPart (λ (x y : I). x ≡ y) F (λ _ a. o ≡ becomes a) i) IsTree Next xs
  become_reads F IsPart IsTree First Next xs follows h p = record {
    read = λ i rest o known e f a.
        let k = p.read i rest a.outcome known e (follows rest f) (subst (λ z. F z a.outcome) (sym a.at_is) a.answered) in
        (label k.0, a.fact ∙ (ap becomes k.1 ∙ keeps (items_len w.item_len xs) k.0), h k.0 k.2);
  }

-- what is refused becomes what a refusal becomes
pub become_refused : {I A P T : Type 0} (w : Model I A) (becomes : Outcome P → Outcome T) (F : I → Outcome P → Type 0) (xs : List A) (i : I) (o : Outcome T) →
    w.IsKnown i → w.elements i ≡ xs → ((i : I) (o : Outcome P) → w.IsKnown i → w.elements i ≡ xs → F i o → o ≡ Refuse) →
    OnPart (λ (x y : I). x ≡ y) F (λ _ a. o ≡ becomes a) i → o ≡ becomes Refuse
become_refused w becomes F xs i o known e none a =
    a.fact ∙ ap becomes (none i a.outcome known e (subst (λ z. F z a.outcome) (sym a.at_is) a.answered))

module _ {I A P Q O E : Type 0} {w : Model I A} (errs : Errors I E) {g : Grammar I P O E} {h : Grammar I Q O E} where
  -- one of two
  pub either_reads : {FirstForm SecondForm : O → List A → Type 0} {FirstFails : O → Space → WriteError → Type 0} {First Second : List A → Type 0} →
      RefusesForms w g SecondForm → Reads w g FirstForm First → Reads w h SecondForm Second →
      Reads w (either_of errs.joined errs.grows g h) (λ v. Either (FirstForm v) (FirstFails v) (SecondForm v)) (λ rest. First rest × Second rest)
  either_reads {FirstForm} {SecondForm} {FirstFails} {First} {Second} apart p q = record { reads = reads }
    where
      Both : List A → Type 0
      Both rest = First rest × Second rest

      Next : Bool → I → Outcome (P ⊎ Q) → Type 0
      Next s i o = OnPart (λ (x y : I). x ≡ y) (h.meaning.answers s) (λ _ a. o ≡ labelled inr a) i

      IsTree : O → P ⊎ Q → Type 0
      IsTree v t = EitherOutput g.IsOutput h.IsOutput t v

      refuses : (s : Bool) (v : O) (xs : List A) → SecondForm v xs → (i : I) (rest : List A) (o : Outcome (P ⊎ Q)) → w.IsKnown i → w.elements i ≡ xs ++ rest →
          OnPart (λ (x y : I). x ≡ y) (g.meaning.answers s) (λ _ a. o ≡ labelled inl a) i → o ≡ Refuse
      refuses s v xs f i rest o known e a = become_refused w (labelled inl) (g.meaning.answers s) (xs ++ rest) i o known e
          (λ i o known e a. apart.refuses xs rest (v, f) s i o known e a) a

      reads : (v : O) (xs : List A) → Either (FirstForm v) (FirstFails v) (SecondForm v) xs → (s : Bool) →
          ReadsBefore w ((either_of errs.joined errs.grows g h).meaning.answers s) (IsTree v) Both xs
      reads v xs (inl f) s =
          let r = become_reads w (labelled inl) inl (λ n u. refl) (g.meaning.answers s) (λ u. g.IsOutput u v) (IsTree v) First Both xs (λ rest k. k.0)
          (λ u k. k)
          (p.reads v xs f s) in
          record {
            read = λ i rest o known e f a.
                let k = r.read i rest a.first known e f a.answered in
                let g : GoesOnRefused (Next s i) (Accept (items_len w.item_len xs) k.0) o = subst (λ z. GoesOnRefused (Next s i) z o) k.1 a.goes_on in
                (k.0, g, k.2);
          }
      reads v xs (inr f) s =
          let r = become_reads w (labelled inr) inr (λ n u. refl) (h.meaning.answers s) (λ u. h.IsOutput u v) (IsTree v) Second Both xs
          (λ rest k. k.1) (λ u k. k)
          (q.reads v xs f.1 s) in
          record {
            read = λ i rest o known e k a. r.read i rest o known e k
                (subst (λ z. GoesOnRefused (Next s i) z o) (refuses s v xs f.1 i rest a.first known e a.answered) a.goes_on);
          }

-- what both refuse their choice refuses
pub either_apart : {I A P Q E : Type 0} {w : Model I A} (errs : Errors I E) {m : Meaning I P E} {n : Meaning I Q E} {Kind : List A → Type 0} →
    Apart w m Kind → Apart w n Kind → Apart w (either_meaning errs.joined errs.grows m n) Kind
either_apart {I} {w = w} errs {m} {n} a b = record {
  refuses = λ xs rest t s i o known e r.
      let first = become_refused w (labelled inl) (m.answers s) (xs ++ rest) i r.first known e (a.refuses xs rest t s) r.answered in
      become_refused w (labelled inr) (n.answers s) (xs ++ rest) i o known e (b.refuses xs rest t s)
      (subst (λ z. GoesOnRefused (λ o. OnPart (λ (x y : I). x ≡ y) (n.answers s) (λ _ a. o ≡ labelled inr a) i) z o) first r.goes_on);
}

module _ {I A V O E : Type 0} {w : Model I A} {g : Grammar I V O E} {Form : O → List A → Type 0} {Follow : List A → Type 0} where
  -- a choice whose error is closed
  pub alt_reads : (errs : Errors I E) → Reads w g Form Follow → Reads w (alt_of errs g) Form Follow
  alt_reads errs p = record {
    reads = λ v xs f s. become_reads w (λ a. a) (λ u. u) (λ n u. refl) (g.meaning.answers s) (λ u. g.IsOutput u v) (λ u. g.IsOutput u v) Follow Follow xs
        (λ rest k. k) (λ u k. k) (p.reads v xs f s);
  }

  pub cut_reads : Reads w g Form Follow → Reads w (cut_of g) Form Follow
  cut_reads p = record {
    reads = λ v xs f s. become_reads w _ (λ u. u) (λ n u. refl) (g.meaning.answers s) (λ u. g.IsOutput u v) (λ u. g.IsOutput u v) Follow Follow xs
        (λ rest k. k) (λ u k. k) (p.reads v xs f s);
  }

  pub context_reads : (contexts : Contexts I E) (name : List ℕ) → Reads w g Form Follow → Reads w (context_of contexts name g) Form Follow
  context_reads contexts name p = record {
    reads = λ v xs f s. become_reads w (λ a. a) (λ u. u) (λ n u. refl) (g.meaning.answers s) (λ u. g.IsOutput u v) (λ u. g.IsOutput u v) Follow Follow xs
        (λ rest k. k) (λ u k. k) (p.reads v xs f s);
  }

  -- an option: nothing stands for none, where what follows begins with no item
  pub opt_reads : Reads w g Form Follow → Reads w (opt_of g) (OptForm Form) (λ rest. Follow rest × NoItem w g.meaning rest)
  opt_reads p = record { reads = reads }
    where
      Both : List A → Type 0
      Both rest = Follow rest × NoItem w g.meaning rest

      reads : (v : Option O) (xs : List A) → OptForm Form v xs → (s : Bool) → ReadsBefore w ((opt_of g).meaning.answers s)
          (λ t. OptOutput g.IsOutput t v) Both xs
      reads (Some v) xs f s = become_reads w opt_outcome Some (λ n u. refl) (g.meaning.answers s) (λ u. g.IsOutput u v)
          (λ t. OptOutput g.IsOutput t (Some v)) Follow Both xs (λ rest k. k.0) (λ u k. (v, refl, k)) (p.reads v xs f s)
      reads None xs f s = record {
        read = λ i rest o known e k a.
            let whole : w.elements i ≡ rest = e ∙ ap (λ z. z ++ rest) f in (
              None,
              become_refused w opt_outcome (g.meaning.answers s) rest i o known whole (k.1 s) a ∙ ap (λ z. Accept (items_len w.item_len z) None)
                  (sym f),
              refl,
            );
      }

  -- a map: what stands for what a value is mapped back to stands for the value, which it is mapped to again
  pub map_back_reads : {R : Type 0} (IsTaken : O → Type 0) (Gives : O → R → Type 0) (Back : R → O → Type 0) →
      ((v : R) (x : O) → Back v x → Gives x v) → Reads w g Form Follow → Reads w (map_by IsTaken Gives g) (λ v xs. (x : O) × Back v x × Form x xs) Follow
  map_back_reads {R} IsTaken Gives Back again p = record {
    reads = λ v xs f s. become_reads w (λ a. a) (λ u. u) (λ n u. refl) (g.meaning.answers s) (λ u. g.IsOutput u f.0) (λ t.
        (map_by IsTaken Gives g).IsOutput t v)
        Follow Follow xs (λ rest k. k) (λ u k. record { output = f.0; is_output = k; given = again v f.0 f.1 }) (p.reads f.0 xs f.2 s);
  }

-- the same at the end of a complete input
module _ {I A V O E : Type 0} {w : Model I A} {g : Grammar I V O E} {Form : O → List A → Type 0} where
  pub opt_ends : ReadsAtEnd w g Form → NoItemIn w g.meaning false [] → ReadsAtEnd w (opt_of g) (OptForm Form)
  opt_ends p none = record { reads = reads }
    where
      reads : (v : Option O) (xs : List A) → OptForm Form v xs → ReadsBefore w ((opt_of g).meaning.answers false) (λ t. OptOutput g.IsOutput t v) IsEnd xs
      reads (Some v) xs f = become_reads w opt_outcome Some (λ n u. refl) (g.meaning.answers false) (λ u. g.IsOutput u v)
          (λ t. OptOutput g.IsOutput t (Some v)) IsEnd IsEnd xs (λ rest k. k) (λ u k. (v, refl, k)) (p.reads v xs f)
      reads None xs f = record {
        read = λ i rest o known e k a.
            let whole : w.elements i ≡ [] = e ∙ (ap (λ z. z ++ rest) f ∙ k) in (
              None,
              become_refused w opt_outcome (g.meaning.answers false) [] i o known whole none a ∙ ap (λ z. Accept (items_len w.item_len z) None)
                  (sym f),
              refl,
            );
      }

  pub map_back_ends : {R : Type 0} (IsTaken : O → Type 0) (Gives : O → R → Type 0) (Back : R → O → Type 0) →
      ((v : R) (x : O) → Back v x → Gives x v) → ReadsAtEnd w g Form →
      ReadsAtEnd w (map_by IsTaken Gives g) (λ v xs. (x : O) × Back v x × Form x xs)
  map_back_ends {R} IsTaken Gives Back again p = record {
    reads = λ v xs f. become_reads w (λ a. a) (λ u. u) (λ n u. refl) (g.meaning.answers false) (λ u. g.IsOutput u f.0) (λ t.
        (map_by IsTaken Gives g).IsOutput t v)
        IsEnd IsEnd xs (λ rest k. k) (λ u k. record { output = f.0; is_output = k; given = again v f.0 f.1 }) (p.reads f.0 xs f.2);
  }

-- a part on a condition
pub cond_reads : {I A V O E : Type 0} (w : Model I A) (g : Grammar I V O E) (Form : O → List A → Type 0) (Follow : List A → Type 0) (Can : Type 0) →
    (g.meaning.IsSound → Can → Reads w g Form Follow) → (b : Bool) → (cond_of b g).meaning.IsSound → WhereRun b Can →
    Reads w (cond_of b g) (CondForm b Form) (λ rest. WhereRun b (Follow rest))
cond_reads {A = A} {O = O} w g Form Follow Can p true k c = record { reads = reads }
  where
    reads : (v : Option O) (xs : List A) → CondForm true Form v xs → (s : Bool) →
        ReadsBefore w ((cond_of true g).meaning.answers s) (λ t. OptOutput g.IsOutput t v) Follow xs
    reads (Some v) xs h s = become_reads w (labelled Some) Some (λ n u. refl) (g.meaning.answers s) (λ u. g.IsOutput u v)
        (λ t. OptOutput g.IsOutput t (Some v)) Follow Follow xs (λ rest k. k) (λ u k. (v, refl, k)) ((p (k refl) c).reads v xs h s)
    reads None xs h s = absurd h
cond_reads {A = A} {O = O} {E} w g Form Follow Can p false k c = record { reads = reads }
  where
    reads : (v : Option O) (xs : List A) → CondForm false Form v xs → (s : Bool) →
        ReadsBefore w ((cond_of false g).meaning.answers s) (λ t. v ≡ None) Anything xs
    reads (Some v) xs h s = absurd h
    reads None xs h s = as_whole w h (success_reads E w None s (λ t. ◌≡◌ {A = Option O} None None) Anything refl)
