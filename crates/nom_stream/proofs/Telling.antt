-- Lemmas on what is told of the bytes that are held.
use Rattle.std.proofs.Common.{arith, ◌≡◌, ℕ, zero, suc, ◌+◌, ◌-◌, ◌<◌, ◌≤◌, ◌⊎◌, Bool, true, false, List, [], ◌++◌, length, Option}
use Rattle.std.proofs.Common.{None, Some, Result, Ok, Err, refl, sym, ◌∙◌, ap, subst}
use Rattle.std.proofs.Common.{append-nil, length-append, vec_len, inl, inr}
use Rattle.std.specs.Coded.{le_prop}
use Rattle.std_io.specs.declared.io.error.Error as Io
use Rattle.nom_internal.specs.Prelude.{Needed, Grammar}
use Rattle.nom_error.specs.declared.answer.Err.TheVariants as Stops
use Rattle.nom_error.specs.declared.value.Error.{Error}
use Rattle.nom_stream.specs.declared.held.Held.{Held}
use Rattle.nom_stream.specs.declared.stream.Stop.TheVariants as Stopped
use Rattle.nom_stream.specs.declared.stream.Stream.{Stream}
use Rattle.nom_stream.specs.declared.stream.Unread.{Unread}
use Rattle.nom_stream.specs.Held.{held_of}
use Rattle.nom_stream.specs.Items.{Bytes, HoldsLast, IsUndecided, Stays, Taken, Takes, undecided}
use Rattle.nom_io.specs.Faults.{NoFault, OneFault}
use Rattle.nom_io.proofs.SeveralCalls.{fault_kept, fault_then, none_then}
use Rattle.nom_stream.specs.Streams.{Answers, AreFillings, CountsFaults, Decides, Ends, EndsAsReader}
use Rattle.nom_stream.specs.Streams.{Fills, Gives, HasEnough, IsUnread, IsUntold, BufferLacksRoom}
use Rattle.nom_stream.specs.Streams.{ReadAsNeeded, Reads, ReadsNothing, IsItemResult, TellsFault, TellsNoFault, ItemResult, Waited, counted}
use Rattle.nom_stream.specs.Streams.AreFillings.{NoFilling, OneMore}
use Rattle.nom_stream.specs.Wanted.{most_read, wanted_of}
use Rattle.nom_stream.specs.Streams.Answers.{Decided, AtEnd, Full, Faulted, Lacking}
use Rattle.nom_stream.specs.Streams.Ends.{Clean, Within, Completed}
use Rattle.nom_stream.specs.Streams.ReadAsNeeded.{NoneRead, MoreRead}
use Rattle.nom_stream.proofs.Outcomes.{nil_of}
use Rattle.nom_stream.proofs.Reading.{gives_more}

module _ {R A V O : Type 0} (grammar : Grammar Bytes V O (Error Bytes)) (s t : Stream R A) where
  -- an item that is told of what is held as a complete input
  pub completed : (k : Needed) (h : Held A) (taken : Taken O) (r : ItemResult O) → t.held ≡ h → 0 < length (held_of s.held) →
      s.settings.complete ≡ true → Takes grammar false (held_of s.held) (held_of h) taken → HoldsLast (held_of s.held) h taken → IsItemResult taken r →
      Ends grammar s t k r
  completed k h taken r e some complete g l tells =
      Completed some complete taken (subst (λ z. Takes grammar false (held_of s.held) (held_of z) taken) (sym e) g)
      (subst (λ z. HoldsLast (held_of s.held) z taken) (sym e) l) tells

  -- what is told of what is held, where that decides
  pub decided : (h : Held A) (taken : Taken O) (r : ItemResult O) → t.held ≡ h → (IsUndecided taken → ⊥) →
      Takes grammar true (held_of s.held) (held_of h) taken → HoldsLast (held_of s.held) h taken → IsItemResult taken r → Answers grammar s t r
  decided h taken r e d g l tells =
      Decided taken d (subst (λ z. Takes grammar true (held_of s.held) (held_of z) taken) (sym e) g)
      (subst (λ z. HoldsLast (held_of s.held) z taken) (sym e) l) tells

-- the faults of a reader, over several readings
module _ {R A : Type 0} (s u t : Stream R A) where
  pub none_told : TellsNoFault s u → u.pending ≡ None → TellsNoFault u t → TellsNoFault s t
  none_told (inl f) e (inl g) = inl (none_then s.source.faults u.source.faults t.source.faults f.0 g.0, g.1 ∙ f.1)
  none_told (inl f) e (inr g) = inr (sym f.1 ∙ g.0, ((g.1).0, fault_then s.source.faults u.source.faults t.source.faults (g.1).0 f.0 (g.1).1, (g.1).2))
  none_told (inr f) e g = let h = (f.1).2 in absurd (cc (e, h))

  told_after : (e : Io.Error) → TellsNoFault s u → t.pending ≡ None →
      ((u.pending ≡ None) × OneFault u.source.faults t.source.faults e) ⊎ ((u.pending ≡ Some e) × NoFault u.source.faults t.source.faults) → TellsFault s t e
  told_after e (inl f) n (inl g) = (n, inl (sym f.1 ∙ g.0, fault_then s.source.faults u.source.faults t.source.faults e f.0 g.1))
  told_after e (inl f) n (inr g) = (n, inr (sym f.1 ∙ g.0, none_then s.source.faults u.source.faults t.source.faults f.0 g.1))
  told_after e (inr f) n (inl g) = let h = (f.1).2 in let k = g.0 in absurd (cc (k, h))
  told_after e (inr f) n (inr g) =
      let h = (f.1).2 in
      let k = g.0 in
      let same : (f.1).0 ≡ e = cc (k, h) in
      (n, inl (f.0, fault_kept s.source.faults u.source.faults t.source.faults e (subst (OneFault s.source.faults u.source.faults) same (f.1).1) g.1))

  pub one_told : (e : Io.Error) → TellsNoFault s u → TellsFault u t e → TellsFault s t e
  one_told e f g = told_after e f g.0 g.1

-- where the reader and what is pending stay, so do the faults
still_none : {R A : Type 0} (s u t : Stream R A) → t.source ≡ u.source → t.pending ≡ u.pending → TellsNoFault s u → TellsNoFault s t
still_none s u t a b (inl f) = inl (subst (λ z. NoFault s.source.faults z.faults) (sym a) f.0, b ∙ f.1)
still_none s u t a b (inr f) = inr (f.0, ((f.1).0, subst (λ z. OneFault s.source.faults z.faults (f.1).0) (sym a) (f.1).1, b ∙ (f.1).2))

-- an answer that tells no fault
counts_none : {R A O : Type 0} (s t : Stream R A) (taken : Taken O) (r : ItemResult O) → IsItemResult taken r → TellsNoFault s t → CountsFaults s t r
counts_none s t (Ok (zero, o)) r e f = subst (CountsFaults s t) (sym (e.0 refl)) f
counts_none s t (Ok (suc n, o)) r e f = subst (CountsFaults s t) (sym (e.1 (omega arith))) f
counts_none s t (Err (Stops.Incomplete k)) r e f = subst (CountsFaults s t) (sym e) f
counts_none s t (Err (Stops.Error k)) r e f = subst (CountsFaults s t) (sym e) f
counts_none s t (Err (Stops.Failure k)) r e f = subst (CountsFaults s t) (sym e) f
counts_none s t (Err Stops.OutOfMemory) r e f = subst (CountsFaults s t) (sym e) f

more_reasons : {R A : Type 0} (count : ℕ) (t : Stream R A) (P Q : Type 0) → HasEnough count t P → HasEnough count t (P ⊎ Q)
more_reasons count t P Q (inl a) = inl a
more_reasons count t P Q (inr (inl a)) = inr (inl a)
more_reasons count t P Q (inr (inr (inl a))) = inr (inr (inl a))
more_reasons count t P Q (inr (inr (inr a))) = inr (inr (inr (inl a)))

counts_end : {R A V O : Type 0} (grammar : Grammar Bytes V O (Error Bytes)) (s u t : Stream R A) (k : Needed) (r : ItemResult O) → Ends grammar u t k r →
    TellsNoFault s t → CountsFaults s t r
counts_end grammar s u t k r (Clean a b e) f = subst (CountsFaults s t) (sym e) f
counts_end grammar s u t k r (Within a b c e) f = subst (CountsFaults s t) (sym e) f
counts_end grammar s u t k r (Completed a b taken g l e) f = counts_none s t taken r e f

-- how many more parses there can be: none at the end, none where there is no room for more bytes, and else one for each byte that may be held, and one
abbrev pub turns_left : (ended lacks : Bool) (most held : ℕ) → ℕ
turns_left true lacks most held = zero
turns_left false true most held = zero
turns_left false false most held = suc (most - held)

-- What is so of a stream u before a parse, of which s was the beginning: bytes were read as they were needed, and nothing was told. Where
-- `lacks`, there was no room for more.
pub record SoFar {R A V O : Type 0} (left : R → Option (List ℕ)) (grammar : Grammar Bytes V O (Error Bytes)) (s u : Stream R A) (lacks : Bool) : Type 0 where
  pub at_end : EndsAsReader left s → EndsAsReader left u
  pub reads : Reads left grammar s u (IsUntold u ⊎ (lacks ≡ true))
  pub room : lacks ≡ true → BufferLacksRoom u
  pub faults : TellsNoFault s u
  pub no_read : s.ended ≡ true → (u.source ≡ s.source) × (u.ended ≡ true)
  pub settings : u.settings ≡ s.settings
  pub offset : u.offset ≡ s.offset

-- so it is, and the bytes that are held leave the item undecided
pub record Stands {R A V O : Type 0} (left : R → Option (List ℕ)) (grammar : Grammar Bytes V O (Error Bytes)) (s u : Stream R A) (lacks : Bool) (k : Needed) :
    Type 0 where
  pub so_far : SoFar left grammar s u lacks
  pub waits : Takes grammar true (held_of u.held) (held_of u.held) (undecided k)

module _ {R A V O : Type 0} (left : R → Option (List ℕ)) (grammar : Grammar Bytes V O (Error Bytes)) (s u : Stream R A) (lacks : Bool)
    (i : SoFar left grammar s u lacks) where
  -- what is told now is nothing to what was read before
  weakened : (r : ItemResult O) (given : List ℕ) → ReadAsNeeded grammar s u (IsUntold u ⊎ (lacks ≡ true)) given → ReadAsNeeded grammar s u (IsUnread u r) given
  weakened r given (NoneRead e f) = NoneRead e f
  weakened r given (MoreRead earlier last e all f (inl a)) = MoreRead earlier last e all f (inl a)
  weakened r given (MoreRead earlier last e all f (inr (inl a))) = MoreRead earlier last e all f (inr (inl a))
  weakened r given (MoreRead earlier last e all f (inr (inr (inl a)))) = MoreRead earlier last e all f (inr (inr (inl a)))
  weakened r given (MoreRead earlier last e all f (inr (inr (inr (inl a))))) = MoreRead earlier last e all f (inr (inr (inr (inr (inl a)))))
  weakened r given (MoreRead earlier last e all f (inr (inr (inr (inr a))))) = MoreRead earlier last e all f (inr (inr (inr (inr (inr (i.room a))))))

  reads_so_far : (r : ItemResult O) → Reads left grammar s u (IsUnread u r)
  reads_so_far r = record { given = i.reads.given; gives = i.reads.gives; as_needed = weakened r i.reads.given i.reads.as_needed }

  -- where more may be read, each filling gave as many bytes as were wanted
  all_filled : (given : List ℕ) → held_of u.held ≡ held_of s.held ++ given → u.ended ≡ false → length (held_of u.held) < u.settings.most →
      u.pending ≡ None → lacks ≡ false → ReadAsNeeded grammar s u (IsUntold u ⊎ (lacks ≡ true)) given →
      AreFillings grammar s.settings (held_of s.held) given
  all_filled given added goes_on few told enough (NoneRead e f) = NoFilling e
  all_filled given added goes_on few told enough (MoreRead earlier last e all f (inl a)) =
      let then : length (held_of u.held) ≡ length (held_of s.held) + length earlier + length last =
      ap length (added ∙ ap (λ z. held_of s.held ++ z) e) ∙ simp length-append (omega arith) in
      OneMore earlier last all f (omega (arith, a, then, length-append (held_of s.held) earlier)) e
  all_filled given added goes_on few told enough (MoreRead earlier last e all f (inr (inl a))) = absurd (cc (goes_on, a))
  all_filled given added goes_on few told enough (MoreRead earlier last e all f (inr (inr (inl a)))) = absurd (omega (arith, few, a))
  all_filled given added goes_on few told enough (MoreRead earlier last e all f (inr (inr (inr (inl a))))) = let h = a.1 in absurd (cc (told, h))
  all_filled given added goes_on few told enough (MoreRead earlier last e all f (inr (inr (inr (inr a))))) = absurd (cc (enough, a))

  -- it is decided, and told
  pub decides_item : (t : Stream R A) (h : Held A) (taken : Taken O) (r : ItemResult O) → (IsUndecided taken → ⊥) →
      Takes grammar true (held_of u.held) (held_of h) taken → HoldsLast (held_of u.held) h taken → IsItemResult taken r → t.offset ≡ counted u.offset r →
      (t.source ≡ u.source) × (t.held ≡ h) × (t.settings ≡ u.settings) × (t.ended ≡ u.ended) × (t.pending ≡ u.pending) → Decides left grammar s t r
  decides_item t h taken r d g l tells count o = record {
    filled = u;
    reads = reads_so_far r;
    faults = counts_none s t taken r tells (still_none s u t o.0 o.4 i.faults);
    at_end = i.at_end;
    answers = decided grammar u t h taken r o.1 d g l tells;
    no_read = i.no_read;
    source = o.0;
    ended = o.3;
    settings = (i.settings, o.2 ∙ i.settings);
    offset = count ∙ ap (λ z. counted z r) i.offset;
  }

-- It is not.
module _ {R A V O : Type 0} {left : R → Option (List ℕ)} {grammar : Grammar Bytes V O (Error Bytes)} {s u : Stream R A} {lacks : Bool} {k : Needed}
    (there : Stands left grammar s u lacks k) where
  -- the reader is at its end
  pub decides_end : (t : Stream R A) (r : ItemResult O) → u.ended ≡ true → Ends grammar u t k r → ReadsNothing u t r → Decides left grammar s t r
  decides_end t r e ends o =
      let i = there.so_far in
      record {
        filled = u;
        reads = reads_so_far left grammar s u lacks i r;
        faults = counts_end grammar s u t k r ends (still_none s u t o.source o.pending i.faults);
        at_end = i.at_end;
        answers = AtEnd e k there.waits ends;
        no_read = i.no_read;
        source = o.source;
        ended = o.ended;
        settings = (i.settings, o.settings ∙ i.settings);
        offset = o.offset ∙ ap (λ z. counted z r) i.offset;
      }

  -- an answer for which nothing is done, and that has no item
  stopped : (r : ItemResult O) → CountsFaults s u r → u.offset ≡ counted u.offset r → Answers grammar u u r → Decides left grammar s u r
  stopped r faults same answers =
      let i = there.so_far in
      record {
        filled = u;
        reads = reads_so_far left grammar s u lacks i r;
        faults = faults;
        at_end = i.at_end;
        answers = answers;
        no_read = i.no_read;
        source = refl;
        ended = refl;
        settings = (i.settings, i.settings);
        offset = same ∙ ap (λ z. counted z r) i.offset;
      }

  -- no more may be held
  pub decides_full : u.ended ≡ false → u.settings.most ≤ length (held_of u.held) → Decides left grammar s u (Err Stopped.TooLong)
  decides_full goes_on full = stopped (Err Stopped.TooLong) there.so_far.faults refl (Full goes_on full refl (k, there.waits) refl)

  -- or there is no room for more
  pub decides_lack : lacks ≡ true → Decides left grammar s u (Err Stopped.OutOfMemory)
  decides_lack e = stopped (Err Stopped.OutOfMemory) there.so_far.faults refl (Lacking (there.so_far.room e) refl (k, there.waits) refl)

  -- at the end no read is made
  goes_on_from : u.ended ≡ false → s.ended ≡ true → ⊥
  goes_on_from goes_on e = let h = (there.so_far.no_read e).1 in cc (goes_on, h)

  -- more is read, since what is held doesn't decide
  reads_on : u.ended ≡ false → length (held_of u.held) < u.settings.most → u.pending ≡ None → lacks ≡ false → (wants : ℕ) →
      wants ≡ wanted_of u.settings k (length (held_of u.held)) → (Unreadable : Type 0) (t : Stream R A) → Fills left u t →
      length (held_of t.held) < wants + length (held_of u.held) + most_read u.settings →
      HasEnough (wants + length (held_of u.held)) t Unreadable → Reads left grammar s t Unreadable
  reads_on goes_on few told has_room wants as_many Unreadable t f below enough =
      let i = there.so_far in
      let given = i.reads.given in
      let here : held_of u.held ≡ held_of s.held ++ given = i.reads.gives.added in
      let wanted : wants ≡ wanted_of s.settings k (length (held_of s.held ++ given)) =
      as_many ∙ ap (λ z. wanted_of z k (length (held_of u.held))) i.settings ∙ ap (λ z. wanted_of s.settings k (length z)) here in
      let all : wants + length (held_of u.held) ≡ wanted_of s.settings k (length (held_of s.held ++ given)) + length (held_of s.held ++ given) =
      ap (λ z. z + length (held_of u.held)) wanted ∙ ap (λ z. wanted_of s.settings k (length (held_of s.held ++ given)) + length z) here in
      record {
        given = given ++ f.given;
        gives = gives_more left s u u t given f.given i.reads.gives refl refl f.gives;
        as_needed = MoreRead given f.given refl (all_filled left grammar s u lacks i given here goes_on few told has_room i.reads.as_needed)
            (record {
              needed = k;
              waits = subst (λ z. Takes grammar true z z (undecided k)) here there.waits;
              no_more = omega (arith, below, ap length f.gives.added, length-append (held_of u.held) f.given, wanted, ap most_read i.settings);
            })
            (subst (λ z. HasEnough z t Unreadable) all enough);
      }

  -- or a read failed: nothing is read then
  module _ (t : Stream R A) (e : Io.Error) (f : Fills left u t) (none : held_of t.held ≡ held_of u.held) where
    abbrev Unreadable : Type 0
    Unreadable = IsUnread {O = O} t (Err (Stopped.Fault e))

    unread : Unreadable
    unread = inl (e, refl)

    nothing : f.given ≡ []
    nothing = nil_of f.given (omega (arith, ap length f.gives.added, ap length none, length-append (held_of u.held) f.given))

    as_before : (given : List ℕ) → held_of u.held ≡ held_of s.held ++ given → ReadAsNeeded grammar s u (IsUntold u ⊎ (lacks ≡ true)) given →
        ReadAsNeeded grammar s t Unreadable given
    as_before given added (NoneRead e' f') =
        let here : held_of u.held ≡ held_of s.held ++ [] = added ∙ ap (λ z. held_of s.held ++ z) e' in
        MoreRead [] [] e' (NoFilling refl) (record {
          needed = k;
          waits = subst (λ z. Takes grammar true z z (undecided k)) here there.waits;
          no_more = omega arith;
        }) (inr (inr (inr unread)))
    as_before given added (MoreRead earlier last e' all f' enough) = MoreRead earlier last e' all f' (inr (inr (inr unread)))

    faulted_reads : Reads left grammar s t Unreadable
    faulted_reads =
        let reads = there.so_far.reads in
        record {
          given = reads.given;
          gives = subst (Gives left s t) (ap (λ z. reads.given ++ z) nothing ∙ append-nil reads.given)
              (gives_more left s u u t reads.given f.given reads.gives refl refl f.gives);
          as_needed = as_before reads.given reads.gives.added reads.as_needed;
        }

  pub decides_fault : u.ended ≡ false → (wants : ℕ) (w : Stream R A) (why : Unread) (e : Io.Error) → why ≡ Unread.Fault e →
      Waited left u w wants (Err why) → Decides left grammar s w (Err (Stopped.Fault e))
  decides_fault goes_on wants w why e is_so waited =
      let i = there.so_far in
      let d = subst (λ z. Waited left u w wants (Err z)) is_so waited in
      let none : held_of w.held ≡ held_of u.held = d.none e refl in
      record {
        filled = w;
        reads = faulted_reads w e d.fills none;
        faults = one_told s u w e i.faults d.faults;
        at_end = λ _. d.at_end;
        answers = Faulted e refl (k, subst (λ z. Takes grammar true z z (undecided k)) (sym none) there.waits) refl;
        no_read = λ h. absurd (goes_on_from goes_on h);
        source = refl;
        ended = refl;
        settings = (d.settings ∙ i.settings, d.settings ∙ i.settings);
        offset = d.offset ∙ i.offset;
      }

  -- so it is of a stream after more was waited for, which told no fault
  further : (t : Stream R A) (wants : ℕ) (r : Result (Unit {0}) Unread) (lack : Bool) → u.ended ≡ false → Waited left u t wants r → u.pending ≡ None →
      TellsNoFault u t → (lack ≡ true → BufferLacksRoom t) → Reads left grammar s t (IsUntold t ⊎ (lack ≡ true)) → SoFar left grammar s t lack
  further t wants r lack goes_on d told faults room reads =
      let i = there.so_far in
      record {
        at_end = λ _. d.at_end;
        reads = reads;
        room = room;
        faults = none_told s u t i.faults told faults;
        no_read = λ h. absurd (goes_on_from goes_on h);
        settings = d.settings ∙ i.settings;
        offset = d.offset ∙ i.offset;
      }

  -- it goes on with more bytes, as many as were wanted
  pub goes_further : u.ended ≡ false → length (held_of u.held) < u.settings.most → lacks ≡ false → (wants : ℕ) →
      wants ≡ wanted_of u.settings k (length (held_of u.held)) → (t : Stream R A) (x : Unit {0}) → Waited left u t wants (Ok x) → (lack : Bool) → lack ≡ lacks →
      SoFar left grammar s t lack
  goes_further goes_on few has_room wants as_many t x d lack same =
      further t wants (Ok x) lack goes_on d d.faults.0 d.faults.1 (λ e. absurd (cc (e, same, has_room)))
      (reads_on goes_on few d.faults.0 has_room wants as_many (IsUntold t ⊎ (lack ≡ true)) t d.fills d.no_more
      (more_reasons (wants + length (held_of u.held)) t (IsUntold t) (lack ≡ true) (d.enough refl)))

  -- or with fewer, where there is no room for more
  pub goes_short : u.ended ≡ false → length (held_of u.held) < u.settings.most → lacks ≡ false → (wants : ℕ) →
      wants ≡ wanted_of u.settings k (length (held_of u.held)) → (t : Stream R A) (why : Unread) → why ≡ Unread.OutOfMemory →
      Waited left u t wants (Err why) → (lack : Bool) → lack ≡ true → SoFar left grammar s t lack
  goes_short goes_on few has_room wants as_many t why is_so waited lack e =
      let d = subst (λ z. Waited left u t wants (Err z)) is_so waited in
      further t wants (Err Unread.OutOfMemory) lack goes_on d d.faults.0 d.faults.1 (λ _. d.memory refl)
      (reads_on goes_on few d.faults.0 has_room wants as_many (IsUntold t ⊎ (lack ≡ true)) t d.fills d.no_more (inr (inr (inr (inr e)))))

-- what is told at the end, by a grammar's state that was kept
pub ends_by : {R A V O State : Type 0} (grammar : State → Grammar Bytes V O (Error Bytes)) (p q : State) → p ≡ q → {u t : Stream R A} {k : Needed}
    {r : ItemResult O} → Ends (grammar p) u t k r → Ends (grammar q) u t k r
ends_by grammar p q e {u} {t} {k} {r} h = subst (λ z. Ends (grammar z) u t k r) e h

-- where what was taken leaves the item undecided, all is held as it was
pub stands_there : {R A V O State : Type 0} (left : R → Option (List ℕ)) (grammar : State → Grammar Bytes V O (Error Bytes)) (p q : State) → p ≡ q →
    (s u : Stream R A) (lacks : Bool) → SoFar left (grammar q) s u lacks → (h : Held A) (taken : Taken O) (k : Needed) → taken ≡ undecided k →
    Stays u.held h taken → Takes (grammar p) true (held_of u.held) (held_of h) taken → (b : vec_len h.bytes ≤ u.settings.most) →
    Stands left (grammar q) s (record u { held = h; bounded = b }) lacks k
stands_there left grammar p q same s u lacks i h taken k e stays takes b =
    let held : h ≡ u.held = subst (Stays u.held h) e stays in
    let now : Takes (grammar p) true (held_of u.held) (held_of h) (undecided k) = subst (Takes (grammar p) true (held_of u.held) (held_of h)) e takes in
    record {
      so_far = subst (λ z. (b : vec_len z.bytes ≤ u.settings.most) → SoFar left (grammar q) s (record u { held = z; bounded = b }) lacks) (sym held)
          (λ b. subst (λ b. SoFar left (grammar q) s (record u { bounded = b }) lacks) (le_prop u.bounded b) i) b;
      waits = subst (λ z. Takes (grammar z) true (held_of h) (held_of h) (undecided k)) same
          (subst (λ z. Takes (grammar p) true (held_of z) (held_of h) (undecided k)) (sym held) now);
    }
