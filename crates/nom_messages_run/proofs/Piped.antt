-- The lines of messages, call by call.
use Rattle.std.proofs.Common.{arith, ◌≡◌, ℕ, ◌+◌, List, [], ◌∷◌, ◌++◌, Option, Some, Result, Ok, Err, refl, sym, ◌∙◌, ap, subst, append_assoc, append-nil}
use Rattle.std.proofs.Common.{◌-◌, ◌^◌, ◌<◌, ◌≤◌, ◌⊎◌, inl, inr, length, length-append}
use Rattle.std.specs.Prelude.{Vec, vec_capacity, vec_len}
use Rattle.nom_error.specs.declared.value.Error.{Error}
use Rattle.nom_internal.specs.Prelude.{Grammar}
use Rattle.nom_io.specs.Account.{Account}
use Rattle.nom_io.specs.Written.{Wrote, WroteFront}
use Rattle.nom_io.proofs.Written.{begun_then, wrote_all, wrote_none, wrote_then}
use Rattle.nom_run.specs.declared.error.RunError.{RunError}
use Rattle.nom_run.specs.declared.error.RunError.TheVariants as Run
use Rattle.nom_run.specs.Pieces.{HasRoom, Puts}
use Rattle.nom_run.specs.Pieces.Puts.{Added, Broken}
use Rattle.nom_run.specs.Runs.{WritesText}
use Rattle.nom_run.specs.Runs.WritesText.{Whole, Cut, NoMemory}
use Rattle.nom_stream.specs.declared.stream.Stop as Why
use Rattle.nom_stream.specs.declared.stream.Stream.{Stream}
use Rattle.nom_stream.specs.Held.{last_of}
use Rattle.nom_stream.specs.Items.{Bytes}
use Rattle.nom_stream.specs.Streams.{Decides}
use Rattle.nom_messages_run.specs.declared.messages.Received.{Received}
use Rattle.nom_messages_run.specs.Pipe.{Ends, Lines, Lists, TellsMessages, WroteLines, ending_status, ending_text, received_text, stopped}

none_of : {X : Type 0} (xs : List X) → length xs ≡ 0 → xs ≡ []
none_of [] e = refl
none_of (x ∷ xs) e = absurd (omega (arith, e))

module _ {R A V : Type 0} (left : R → Option (List ℕ)) (grammar : Grammar Bytes V Received (Error Bytes)) where
  -- one more message, and its line
  with_line : (messages : List (ℕ × Received)) (s t u : Stream R A) (text : List ℕ) (n : ℕ) (message : Received) →
      Lines left grammar messages s t text → Decides left grammar t u (Ok (Some (n, message))) →
      Lines left grammar (messages ++ (n, message) ∷ []) s u (text ++ received_text message (last_of n u.held))
  with_line [] s t u text n message h d =
      let line = received_text message (last_of n u.held) in (
        u,
        subst (λ z. Decides left grammar z u (Ok (Some (n, message)))) h.0 d,
        ([], ap (λ z. z ++ line) h.1 ∙ sym (append-nil line), (refl, refl)),
      )
  with_line ((k, first) ∷ messages) s t u text n message h d =
      let line = received_text message (last_of n u.held) in
      let rest = h.2 in (
        h.0,
        h.1,
        (
          rest.0 ++ line,
          ap (λ z. z ++ line) rest.1 ∙ append_assoc (received_text first (last_of k (h.0).held)) rest.0 line,
          with_line messages h.0 t u rest.0 n message rest.2 d,
        ),
      )

  -- that many messages came, and of their lines all but the text was written
  pub record Going (s t : Stream R A) (a b : Account) (text : List ℕ) (count : ℕ) : Type 0 where
    pub written : List ℕ
    pub wrote : Wrote a b written
    pub lists : Lists left grammar s t (written ++ text) count

  pub none_yet : (s : Stream R A) (a : Account) (text : List ℕ) → text ≡ [] → Going s s a a text 0
  none_yet s a text e = record { written = []; wrote = wrote_none; lists = record { messages = []; lines = (refl, e); counted = refl } }

  module _ {s t : Stream R A} {a b : Account} {text : List ℕ} {count : ℕ} (g : Going s t a b text count) where
    module _ {u : Stream R A} {n : ℕ} {message : Received} {given : Option (ℕ × Received)} (is : given ≡ Some (n, message))
        (decides : Decides left grammar t u (Ok given)) {bytes : List ℕ} (lent : bytes ≡ last_of n u.held) where
      all_lines : Lists left grammar s u (g.written ++ (text ++ received_text message bytes)) (count + 1)
      all_lines = record {
        messages = g.lists.messages ++ (n, message) ∷ [];
        lines = subst (λ z. Lines left grammar (g.lists.messages ++ (n, message) ∷ []) s u (g.written ++ (text ++ received_text message z))) (sym lent)
            (subst (Lines left grammar (g.lists.messages ++ (n, message) ∷ []) s u) (append_assoc g.written text (received_text message (last_of n u.held)))
            (with_line g.lists.messages s t u (g.written ++ text) n message g.lists.lines (subst (λ z. Decides left grammar t u (Ok z)) is decides)));
        counted = simp length-append (omega (arith, g.lists.counted));
      }

      pub goes_on : {c : Account} {new : List ℕ} {x : Unit {0}} {K L : Type 0} → Puts b c text (received_text message bytes) new (Ok x) ⊎
          (◌≡◌ {A = Result (Unit {0}) RunError} (Ok x) (Err Run.OutOfMemory) × K × L) → Going s u a c new (count + 1)
      goes_on {new = new} (inl (Added e w)) = record {
        written = g.written ++ w.front;
        wrote = wrote_then g.wrote w.wrote;
        lists = subst (λ z. Lists left grammar s u z (count + 1)) (ap (λ z. g.written ++ z) w.parts ∙ sym (append_assoc g.written w.front new)) all_lines;
      }
      goes_on (inl (Broken e w)) = absurd (cc (e))
      goes_on (inr h) = absurd (cc (h.0))

      -- a write failed, or memory is wanted for the first line
      pub halts : {c : Account} {new : List ℕ} {error : RunError} {K L Same : Type 0} → (K → L → (count ≡ 0) × Same) →
          Puts b c text (received_text message bytes) new (Err error) ⊎
          (◌≡◌ {A = Result (Unit {0}) RunError} (Err error) (Err Run.OutOfMemory) × K × L) → TellsMessages left grammar s u a c Same (Err error)
      halts fresh (inl (Added e w)) = absurd (cc (e))
      halts {c} {error = error} {Same = Same} fresh (inl (Broken e w)) =
          let same : Run.Write ≡ error = cc (e) in
          subst (λ z. TellsMessages left grammar s u a c Same (Err z)) same
          (g.written ++ (text ++ received_text message bytes), inl (count + 1, omega arith, all_lines), begun_then g.wrote w)
      halts {c} {error = error} {Same = Same} fresh (inr h) =
          let same : Run.OutOfMemory ≡ error = cc (h.0) in
          let first = fresh h.1 h.2 in
          let all = g.written ++ (text ++ received_text message bytes) in
          subst (λ z. TellsMessages left grammar s u a c Same (Err z)) same
          (first.1, (all, inl (subst (λ k. Lists left grammar s u all (k + 1)) first.0 all_lines)))

    -- no more messages can be counted
    pub flushed : {c : Account} {x : Unit {0}} → count ≡ 2 ^ 64 - 1 → Puts b c text [] [] (Ok x) → WroteLines left grammar s t a c (2 ^ 64 - 1)
    flushed full (Added e w) =
        let all = wrote_all w in (
          g.written ++ (text ++ []),
          subst (Lists left grammar s t (g.written ++ (text ++ []))) full
              (subst (λ z. Lists left grammar s t (g.written ++ z) count) (sym (append-nil text)) g.lists),
          wrote_then g.wrote all,
        )
    flushed full (Broken e w) = absurd (cc (e))

    pub not_flushed : (Same : Type 0) {c : Account} {error : RunError} → count ≡ 2 ^ 64 - 1 → Puts b c text [] [] (Err error) →
        TellsMessages left grammar s t a c Same (Err error)
    not_flushed Same full (Added e w) = absurd (cc (e))
    not_flushed Same {c} {error} full (Broken e w) =
        let same : Run.Write ≡ error = cc (e) in
        subst (λ z. TellsMessages left grammar s t a c Same (Err z)) same (
          g.written ++ (text ++ []),
          inl (
            count,
            omega (arith, full),
            subst (λ z. Lists left grammar s t (g.written ++ z) count) (sym (append-nil text)) g.lists,
          ),
          begun_then g.wrote w,
        )

    -- and the end
    module _ {u : Stream R A} (why : Option Why.Stop) (d : Decides left grammar t u (stopped why)) where
      all_ends : (status : ℕ) → status ≡ ending_status why → Ends left grammar s u (g.written ++ (text ++ ending_text why u.offset)) status
      all_ends status e = record {
        before = t;
        lines = g.written ++ text;
        messages = g.lists.messages;
        listed = g.lists.lines;
        why = why;
        last = d;
        text_is = sym (append_assoc g.written text (ending_text why u.offset));
        status_is = e;
      }

      pub ended : {c : Account} {r : Result ℕ RunError} {K Same : Type 0} → (K → (count ≡ 0) × Same) →
          WritesText (λ last status. (last ≡ text ++ ending_text why u.offset) × (status ≡ ending_status why)) b c K r →
          TellsMessages left grammar s u a c Same r
      unfolding all_ends
      ended {c} {Same = Same} fresh (Whole last status e i w) = subst (TellsMessages left grammar s u a c Same) (sym e)
          (g.written ++ (text ++ ending_text why u.offset), all_ends status i.1, subst (λ z. Wrote a c (g.written ++ z)) i.0 (wrote_then g.wrote w))
      ended {c} {Same = Same} fresh (Cut last status e i w) = subst (TellsMessages left grammar s u a c Same) (sym e) (
        g.written ++ (text ++ ending_text why u.offset),
        inr (status, all_ends status i.1),
        subst (λ z. WroteFront a c (g.written ++ z)) i.0
            (begun_then g.wrote w),
      )
      ended {c} {Same = Same} fresh (NoMemory e k) =
          let first = fresh k in
          subst (TellsMessages left grammar s u a c Same) (sym e) (
            first.1,
            (
              g.written ++ (text ++ ending_text why u.offset),
              inr (ending_status why, all_ends (ending_status why) refl, none_of g.lists.messages (g.lists.counted ∙ first.0)),
            ),
          )

-- room that was taken
pub has_room : {A : Type 0} (room : Vec ℕ A) → vec_len room ≤ 65536 → (vec_capacity room < 65536 → ⊥) → HasRoom room
has_room room few taken = (few, omega (arith, taken))
