-- Lemmas on the answers of the parser of messages.
use Rattle.std.proofs.Common.{◌≡◌, ℕ, true, List, [], ◌∷◌, Err, Vec, sym, subst, inl, inr, ◌⊎◌}
use Rattle.nom_internal.specs.Prelude.{IResult, OutOfMemory, bytes_model, Meaning, Outcome, TooLarge, ParsesOutcome}
use Rattle.nom_error.specs.declared.value.Error.{Error}
use Rattle.nom_calls.specs.Growing.{AnswersOn, IsBeginning, IsGrown}
use Rattle.nom_calls.specs.Growing.AnswersOn.{RanOutOn, ShownOn}
use Rattle.nom_calls.specs.Growing.IsBeginning.{AtCut, AtEnd}
use Rattle.nom_internal.specs.Promises.{HasNoFailure}
use Rattle.nom.specs.grammars.Bytes.{Bytes, BytesGrammar, Endianness, Big, all_consuming_of}
use Rattle.nom.specs.grammars.Bytes.{alt_of, length_data_of, length_value_of, many0_of, map_of, number_of}
use Rattle.nom.specs.grammars.Bytes.{or_of, pair_of, preceded_of, tag_of, terminated_of}
use Rattle.nom_messages_run.specs.declared.protocol.Message.{Message}
use Rattle.nom_messages_run.specs.declared.protocol.Message.TheVariants.{Ping, Text, Close}
use Rattle.nom_messages_run.specs.Protocol.{Body, messages_of}

-- the grammar, by which bytes each kind begins and the messages end, and by the orders of numbers of several bytes
abbrev written_of : {M : Type 0} → (ping text close end : List ℕ) → (length_endian number_endian : Endianness) → BytesGrammar (List Body) (Vec Message M)
written_of ping text close end length_endian number_endian =
    let first = map_of (λ o. Ping o.1) (pair_of (tag_of ping) (number_of number_endian 4)) in
    let second = map_of Text (preceded_of (tag_of text) (length_data_of (number_of Big 1))) in
    let body = alt_of (or_of (or_of first second) (map_of (λ _. Close) (tag_of close))) in
    terminated_of (many0_of (length_value_of (number_of length_endian 2) (all_consuming_of body))) (tag_of end)

-- what holds of the grammar by its parts holds of the grammar
pub by_its_parts : {M : Type 0} (P : BytesGrammar (List Body) (Vec Message M) → Type 0) (ping text close end : List ℕ) (l n : Endianness) →
    ping ≡ 1 ∷ [] → text ≡ 2 ∷ [] → close ≡ 3 ∷ [] → end ≡ 0 ∷ 0 ∷ [] → l ≡ Big → n ≡ Big → P (written_of ping text close end l n) → P messages_of
by_its_parts P ping text close end l n p t c e f g h =
    subst (λ x. P (written_of x (2 ∷ []) (3 ∷ []) (0 ∷ 0 ∷ []) Big Big)) p (
    subst (λ x. P (written_of ping x (3 ∷ []) (0 ∷ 0 ∷ []) Big Big)) t (
    subst (λ x. P (written_of ping text x (0 ∷ 0 ∷ []) Big Big)) c (
    subst (λ x. P (written_of ping text close x Big Big)) e (
    subst (λ x. P (written_of ping text close end x Big)) f (
    subst (λ x. P (written_of ping text close end l x)) g h)))))

module _ {V O : Type 0} (m : Meaning Bytes V (Error Bytes)) (IsOutput : V → O → Type 0) (whole : Bytes) (cuts : List ℕ) (index : ℕ)
    (known : bytes_model.IsKnown whole) where
  begins_known : (x : Bytes) → IsBeginning bytes_model whole cuts index x → bytes_model.IsKnown x
  begins_known x (AtCut h p) = p.known
  begins_known x (AtEnd h e) = subst bytes_model.IsKnown (sym e) known

  abbrev HasAnswer : IResult Bytes O (Error Bytes) → Outcome V → Type 0
  HasAnswer r o = (r ≡ Err OutOfMemory) ⊎ ((beginning : Bytes) × ParsesOutcome bytes_model IsOutput whole (m.blames true beginning) o r)

  answered : (none : HasNoFailure bytes_model m) (never : m.NeverFails TooLarge) (x : Bytes)
      (r : IResult Bytes O (Error Bytes)) → IsBeginning bytes_model whole cuts index x →
      AnswersOn bytes_model IsOutput m whole cuts index x r → (o : Outcome V) → m.answers true whole o → HasAnswer r o
  answered none never x r begins (RanOutOn e h) o a = inl e
  answered none never x r begins (ShownOn b) o a =
      let same = b.stays (λ e. none TooLarge true x (begins_known x begins) never (subst (λ p. m.answers true x p) e b.answered)) o a in
      inr (x, subst (λ p. ParsesOutcome bytes_model IsOutput whole (m.blames true x) p r) same b.shown)

  pub of_whole : (r : IResult Bytes O (Error Bytes)) → IsGrown bytes_model IsOutput m whole cuts index r ×
      HasNoFailure bytes_model m → m.NeverFails TooLarge → (o : Outcome V) → m.answers true whole o → HasAnswer r o
  of_whole r g never = answered g.1 never g.0.beginning r g.0.begins g.0.answer
