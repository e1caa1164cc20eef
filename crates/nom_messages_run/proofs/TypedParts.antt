-- Lemmas on the grammar of typed lines: what holds of it by its parts holds of it.
use Rattle.std.proofs.Common.{◌≡◌, ℕ, ℤ, Bool, false, List, codes, subst, pos}
use Rattle.nom_internal.specs.Prelude.{bytes_model}
use Rattle.std.specs.Int.{FitsUnsignedBits}
use Rattle.nom_character_integer.specs.Integers.{integer_meaning}
use Rattle.nom.specs.grammars.Bytes.{BytesGrammar, all_consuming_of, alt_of, map_of, or_of, pair_of, plain_errors, preceded_of, tag_of, take_of}
use Rattle.nom_messages_run.specs.declared.protocol.Message.{Message}
use Rattle.nom_messages_run.specs.declared.protocol.Message.TheVariants.{Ping, Text, Close}
use Rattle.nom_messages_run.specs.Typed.{Line, typed_of}

-- the grammar, by the word of each message, whether a number may have a sign, and how long a text is
abbrev typed_by : (ping text close : List ℕ) → (signed : Bool) → (count : ℕ) → BytesGrammar Line Message
typed_by ping text close signed count =
    let number : BytesGrammar ℤ ℕ = record {
      meaning = integer_meaning bytes_model (λ x. x) signed (FitsUnsignedBits 32) plain_errors;
      IsOutput = λ z n. pos n ≡ z;
    } in
    let first = map_of (λ o. Ping o.1) (pair_of (tag_of ping) number) in
    let second = map_of Text (preceded_of (tag_of text) (take_of count)) in
    all_consuming_of (alt_of (or_of (or_of first second) (map_of (λ _. Close) (tag_of close))))

pub typed_by_parts : (P : BytesGrammar Line Message → Type 0) (ping text close : List ℕ) (signed : Bool) (count most : ℕ) → ping ≡ codes "ping " →
    text ≡ codes "text " → close ≡ codes "close" → signed ≡ false → count ≡ most → P (typed_by ping text close signed count) → P (typed_of most)
typed_by_parts P ping text close signed count most p t c s n h =
    subst (λ x. P (typed_by x (codes "text ") (codes "close") false most)) p (
    subst (λ x. P (typed_by ping x (codes "close") false most)) t (
    subst (λ x. P (typed_by ping text x false most)) c (
    subst (λ x. P (typed_by ping text close x most)) s (
    subst (λ x. P (typed_by ping text close signed x)) n h))))
