-- Items, one after another.
use Rattle.std.proofs.Common.{◌≡◌, ℕ, zero, suc, ◌+◌, ◌<◌, ◌≤◌, List, [], ◌∷◌, ◌++◌, length, take, get_or, Option, Ok, Err}
use Rattle.std.proofs.Common.{refl, sym, ◌∙◌, ap, subst}
use Rattle.std.proofs.Common.{add-one, append_assoc, append-nil, arith}
use Rattle.nom_sink.specs.declared.error.WriteError.{WriteError}
use Rattle.nom_sink.specs.Lists.{EachForm}
use Rattle.nom_sink.specs.Written.{Space}
use Rattle.nom_write_stream.specs.declared.outgoing.Outgoing.{Outgoing}
use Rattle.nom_write_stream.specs.declared.outgoing.Unwritten.{Unwritten}
use Rattle.nom_write_stream.specs.declared.outgoing.Unwritten.TheVariants.{TooLong, Mismatch, Nothing, OverLimit, Fault, OutOfMemory}
use Rattle.nom_write_stream.specs.Outgoing.{WritesItem, WritesItems, CountsUnwritten, IsItem, Sends, WhyNot}
use Rattle.nom_io.specs.Faults.{NoFault}
use Rattle.nom_io.proofs.SeveralCalls.{fault_then, none_then}
use Rattle.nom_write_stream.proofs.Sending.{no_call, sends_none, sends_then}

module _ {O : Type 0} (Form : O → List ℕ → Type 0) where
  -- a form of one value more
  each_suc : (k : ℕ) (vs : List O) (v : O) → k < length vs → v ≡ get_or vs k v → (xs ys : List ℕ) → EachForm Form (take k vs) xs → Form v ys →
      EachForm Form (take (suc k) vs) (xs ++ ys)
  each_suc k [] v below is xs ys h f = absurd (omega (arith, below))
  each_suc zero (w ∷ vs) v below is xs ys h f = record {
    front = ys;
    back = [];
    whole = ap (λ z. z ++ ys) h ∙ sym (append-nil ys);
    first = subst (λ z. Form z ys) is f;
    second = refl;
  }
  each_suc (suc k) (w ∷ vs) v below is xs ys h f = record {
    front = h.front;
    back = h.back ++ ys;
    whole = ap (λ z. z ++ ys) h.whole ∙ append_assoc h.front h.back ys;
    first = h.first;
    second = each_suc k vs v (omega (arith, below)) is h.back ys h.second f;
  }

  each_more : (k : ℕ) (vs : List O) (v : O) → k < length vs → v ≡ get_or vs k v → (xs ys : List ℕ) → EachForm Form (take k vs) xs → Form v ys →
      EachForm Form (take (k + 1) vs) (xs ++ ys)
  each_more k vs v below is xs ys h f = subst (λ n. EachForm Form (take n vs) (xs ++ ys)) (sym (add-one k)) (each_suc k vs v below is xs ys h f)

take_all : {O : Type 0} (k : ℕ) (vs : List O) → length vs ≤ k → take k vs ≡ vs
take_all zero [] h = refl
take_all zero (v ∷ vs) h = absurd (omega (arith, h))
take_all (suc k) [] h = refl
take_all (suc k) (v ∷ vs) h = ap (λ us. v ∷ us) (take_all k vs (omega (arith, h)))

counts_then : {W A : Type 0} (a b c : Outgoing W A) (why : Unwritten) → NoFault a.target.faults b.target.faults → CountsUnwritten b c why →
    CountsUnwritten a c why
counts_then a b c (TooLong at) p q = none_then a.target.faults b.target.faults c.target.faults p q
counts_then a b c (Mismatch at) p q = none_then a.target.faults b.target.faults c.target.faults p q
counts_then a b c Nothing p q = none_then a.target.faults b.target.faults c.target.faults p q
counts_then a b c OverLimit p q = none_then a.target.faults b.target.faults c.target.faults p q
counts_then a b c (Fault e) p q = fault_then a.target.faults b.target.faults c.target.faults e p q
counts_then a b c OutOfMemory p q = none_then a.target.faults b.target.faults c.target.faults p q

module _ {W A O : Type 0} (contents : W → Option (List ℕ)) (Form : O → List ℕ → Type 0) (Fails : O → Space → WriteError → Type 0)
    (vs : List O) where
  -- the first items were added
  pub record Added (k : ℕ) (a b : Outgoing W A) : Type 0 where
    pub bytes : List ℕ
    pub forms : EachForm (λ v. IsItem (Form v) a.most) (take k vs) bytes
    pub sends : Sends contents a b bytes
    pub faults : NoFault a.target.faults b.target.faults

  pub none_added : (a : Outgoing W A) → Added 0 a a
  none_added a = record { bytes = []; forms = refl; sends = sends_none contents a a refl refl; faults = no_call a a refl }

  module _ (k : ℕ) (a b c : Outgoing W A) (h : Added k a b) (m : b.most ≡ a.most) where
    pub one_added : (v : O) → k < length vs → v ≡ get_or vs k v → (x : Unit {0}) → WritesItem contents b c (Form v) (Fails v) (Ok x) → Added (k + 1) a c
    one_added v below is x s = record {
      bytes = h.bytes ++ s.0;
      forms = each_more (λ v. IsItem (Form v) a.most) k vs v below is h.bytes s.0 h.forms (subst (λ z. IsItem (Form v) z s.0) m s.1);
      sends = sends_then contents a b c h.bytes s.0 h.sends s.2;
      faults = none_then a.target.faults b.target.faults c.target.faults h.faults s.3;
    }

    pub one_halts : (v : O) → k < length vs → v ≡ get_or vs k v → (why : Unwritten) → WritesItem contents b c (Form v) (Fails v) (Err why) →
        WritesItems contents a c Form Fails vs (Err (record { count = k; why = why }))
    one_halts v below is why s = (
      h.bytes,
      h.forms,
      subst (Sends contents a c) (append-nil h.bytes) (sends_then contents a b c h.bytes [] h.sends s.0),
      below,
      (v, is, subst (λ z. WhyNot (Form v) (Fails v) z why) m s.1),
      counts_then a b c why h.faults s.2,
    )

  pub all_added : (k : ℕ) → length vs ≤ k → (a b : Outgoing W A) → Added k a b → (x : Unit {0}) → WritesItems contents a b Form Fails vs (Ok x)
  all_added k end a b h x = (
    h.bytes,
    subst (λ us. EachForm (λ v. IsItem (Form v) a.most) us h.bytes) (take_all k vs end) h.forms,
    h.sends,
    h.faults,
  )
