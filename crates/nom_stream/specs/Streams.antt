-- Items of a reader.
use Rattle.std.specs.Prelude.{◌≡◌, ℕ, ◌+◌, ◌-◌, ◌^◌, ◌<◌, ◌≤◌, ◌⊎◌, min, Bool, true, false}
use Rattle.std.specs.Prelude.{List, [], ◌++◌, length, Option, Some, None, Result, Ok, Err, IfOk, IfSome, IsOk, vec_capacity}
use Rattle.std.specs.Io.KnownBytes.{Consumes, IsAtEnd}
use Rattle.std_io.specs.declared.io.error.Error as Io
use Rattle.nom_internal.specs.Prelude.{Needed, Grammar}
use Rattle.nom_error.specs.declared.answer.Err.TheVariants as Stops
use Rattle.nom_error.specs.declared.value.Error.{Error}
use Rattle.nom_stream.specs.declared.stream.Stop as Why
use Rattle.nom_stream.specs.declared.stream.Stop.TheVariants as Stopped
use Rattle.nom_stream.specs.declared.stream.Unread.{Unread}
use Rattle.nom_stream.specs.declared.settings.Settings.{Settings}
use Rattle.nom_stream.specs.declared.stream.Stream.{Stream}
use Rattle.nom_stream.specs.Held.{held_of}
use Rattle.nom_stream.specs.Items.{Bytes, HoldsLast, IsUndecided, Taken, Takes, undecided}
use Rattle.nom_io.specs.Faults.{NoFault, OneFault}
use Rattle.nom_io.specs.declared.counted.Faults.{Faults}
use Rattle.nom_stream.specs.Wanted.{most_read, wanted_of}

-- an item with how many bytes it has, none at the end, or why there is none
abbrev pub ItemResult : Type 0 → Type 0
ItemResult O = Result (Option (ℕ × O)) Why.Stop

-- what is told of what was taken
abbrev pub IsItemResult : {O : Type 0} → Taken O → ItemResult O → Type 0
IsItemResult (Ok (n, o)) r = (n ≡ 0 → r ≡ Err Stopped.Nothing) × (0 < n → r ≡ Ok (Some (n, o)))
IsItemResult (Err (Stops.Incomplete k)) r = r ≡ Err (Stopped.Incomplete k)
IsItemResult (Err (Stops.Error e)) r = r ≡ Err (Stopped.Refused e.0 e.1)
IsItemResult (Err (Stops.Failure e)) r = r ≡ Err (Stopped.Failed e.0 e.1)
IsItemResult (Err Stops.OutOfMemory) r = r ≡ Err Stopped.OutOfMemory

-- the offset after an answer: an item's bytes are counted, up to the greatest `u64`
abbrev pub counted : {O : Type 0} → ℕ → ItemResult O → ℕ
counted offset (Ok (Some (n, o))) = min (offset + n) (2 ^ 64 - 1)
counted offset (Ok None) = offset
counted offset (Err e) = offset

module _ {R A : Type 0} (left : R → Option (List ℕ)) where
  -- a stream that has ended has a reader that is at its end
  abbrev pub EndsAsReader : Stream R A → Type 0
  EndsAsReader s = s.ended ≡ true → IsAtEnd (left s.source.inner)

  module _ (s t : Stream R A) where
    -- these bytes were read, and are held after the others
    pub record Gives (given : List ℕ) : Type 0 where
      pub consumed : Consumes (left s.source.inner) (left t.source.inner) given
      pub added : held_of t.held ≡ held_of s.held ++ given

    -- some bytes were read, or none: nothing is lost
    pub record Fills : Type 0 where
      pub given : List ℕ
      pub gives : Gives given

    -- one read: at the end alone are none given
    abbrev pub ReadsOnce : Result ℕ Unread → Type 0
    ReadsOnce (Ok n) = (given : List ℕ) × Gives given × (length given ≡ n) × (n ≡ 0 → IsAtEnd (left t.source.inner))
    ReadsOnce (Err e) = Gives []

-- that many bytes are held; or the reader is at its end, no more may be held, or bytes couldn't be read
abbrev pub HasEnough : {R A : Type 0} → (count : ℕ) → Stream R A → (Unreadable : Type 0) → Type 0
HasEnough count t Unreadable = (count ≤ length (held_of t.held)) ⊎ (t.ended ≡ true) ⊎ (t.settings.most ≤ length (held_of t.held)) ⊎ Unreadable

-- memory is wanted: the buffer has too little for the bytes that are held and those that a read asks for, as far as the limit lets it
abbrev pub BufferLacksRoom : {R A : Type 0} → Stream R A → Type 0
BufferLacksRoom t = vec_capacity t.held.bytes < min (length (held_of t.held) + most_read t.settings) t.settings.most

-- of one read
abbrev pub CountsOnce : {T : Type 0} → (old new : Faults) → Result T Unread → Type 0
CountsOnce old new (Ok x) = NoFault old new
CountsOnce old new (Err (Unread.Fault e)) = OneFault old new e
CountsOnce old new (Err Unread.OutOfMemory) = NoFault old new

-- an error is yet to be told
abbrev pub IsUntold : {R A : Type 0} → Stream R A → Type 0
IsUntold t = (e : Io.Error) × (t.pending ≡ Some e)

-- The faults of a reader, from one state of a stream to another.
module _ {R A : Type 0} (s t : Stream R A) where
  -- None is told. No read failed; or one did after others had given bytes, and its error is yet to be told.
  abbrev pub TellsNoFault : Type 0
  TellsNoFault = (NoFault s.source.faults t.source.faults × (t.pending ≡ s.pending)) ⊎ ((s.pending ≡ None) ×
      ((e : Io.Error) × OneFault s.source.faults t.source.faults e × (t.pending ≡ Some e)))

  -- One is told: of a read that failed just now, or of one before.
  abbrev pub TellsFault : Io.Error → Type 0
  TellsFault e = (t.pending ≡ None) ×
      (((s.pending ≡ None) × OneFault s.source.faults t.source.faults e) ⊎ ((s.pending ≡ Some e) × NoFault s.source.faults t.source.faults))

  -- an error that is yet to be told is told before anything is read
  abbrev pub CountsUnread : {T : Type 0} → Result T Unread → Type 0
  CountsUnread (Ok x) = (s.pending ≡ None) × TellsNoFault
  CountsUnread (Err (Unread.Fault e)) = TellsFault e
  CountsUnread (Err Unread.OutOfMemory) = (s.pending ≡ None) × TellsNoFault

  abbrev pub CountsFaults : {O : Type 0} → ItemResult O → Type 0
  CountsFaults (Ok x) = TellsNoFault
  CountsFaults (Err (Stopped.Refused e n)) = TellsNoFault
  CountsFaults (Err (Stopped.Failed e n)) = TellsNoFault
  CountsFaults (Err Stopped.Nothing) = TellsNoFault
  CountsFaults (Err (Stopped.Incomplete k)) = TellsNoFault
  CountsFaults (Err Stopped.TooLong) = TellsNoFault
  CountsFaults (Err (Stopped.Fault e)) = TellsFault e
  CountsFaults (Err Stopped.OutOfMemory) = TellsNoFault

-- More bytes may be waited for: the reader isn't at its end, and more may be held.
pub record MayWait {R A : Type 0} (s : Stream R A) (wants : ℕ) : Type 0 where
  pub some : 0 < wants
  pub goes_on : s.ended ≡ false
  pub most : length (held_of s.held) < s.settings.most

-- That many bytes more were waited for: they were read, unless the reader is at its end, no more may be held, or a read failed after
-- others gave bytes; less than one read more was. Or memory ran out, or the first read failed.
pub record Waited {R A : Type 0} (left : R → Option (List ℕ)) (s t : Stream R A) (wants : ℕ) (r : Result (Unit {0}) Unread) : Type 0 where
  pub at_end : EndsAsReader left t
  pub fills : Fills left s t
  pub enough : IsOk r → HasEnough (wants + length (held_of s.held)) t (IsUntold t)
  pub some : IsOk r → (t.ended ≡ true) ⊎ (length (held_of s.held) < length (held_of t.held))
  pub no_more : length (held_of t.held) < wants + length (held_of s.held) + most_read s.settings
  pub memory : r ≡ Err Unread.OutOfMemory → BufferLacksRoom t
  pub none : (e : Io.Error) → r ≡ Err (Unread.Fault e) → held_of t.held ≡ held_of s.held
  pub faults : CountsUnread s t r
  pub settings : t.settings ≡ s.settings
  pub offset : t.offset ≡ s.offset

-- bytes couldn't be read: a read failed, and that is told, or is yet to be; or there is no room for one
abbrev pub IsUnread : {R A O : Type 0} → Stream R A → ItemResult O → Type 0
IsUnread t r = ((e : Io.Error) × (r ≡ Err (Stopped.Fault e))) ⊎ IsUntold t ⊎ BufferLacksRoom t

-- these bytes leave the item undecided
abbrev pub WaitsForMore : {V O : Type 0} → Grammar Bytes V O (Error Bytes) → List ℕ → Type 0
WaitsForMore grammar xs = (k : Needed) × Takes grammar true xs xs (undecided k)

module _ {V O : Type 0} (grammar : Grammar Bytes V O (Error Bytes)) (settings : Settings) (held : List ℕ) where
  -- A filling: bytes that were read after those that were held and those of earlier fillings. These were parsed before it, and left the
  -- item undecided; and it has less than one read more than what was wanted then.
  pub record IsFilling (earlier last : List ℕ) : Type 0 where
    pub needed : Needed
    pub waits : Takes grammar true (held ++ earlier) (held ++ earlier) (undecided needed)
    pub no_more : length last < wanted_of settings needed (length (held ++ earlier)) + most_read settings

  -- bytes that were read by fillings, each of which gave as many as were wanted, or more
  pub data AreFillings : List ℕ → Type 0 where
    NoFilling : {given : List ℕ} → given ≡ [] → AreFillings given
    OneMore : {given : List ℕ} (earlier last : List ℕ) → AreFillings earlier → (f : IsFilling earlier last) →
        wanted_of settings f.needed (length (held ++ earlier)) ≤ length last → given ≡ earlier ++ last → AreFillings given

module _ {R A V O : Type 0} (grammar : Grammar Bytes V O (Error Bytes)) (s t : Stream R A) (Unreadable : Type 0) where
  -- Nothing was read, or bytes were, by fillings. The last one alone may have given fewer than were wanted: where the reader is at its
  -- end, no more may be held, or bytes couldn't be read.
  pub data ReadAsNeeded (given : List ℕ) : Type 0 where
    NoneRead : given ≡ [] → t.source ≡ s.source → ReadAsNeeded given
    MoreRead : (earlier last : List ℕ) → given ≡ earlier ++ last → AreFillings grammar s.settings (held_of s.held) earlier →
        (f : IsFilling grammar s.settings (held_of s.held) earlier last) →
        HasEnough (wanted_of s.settings f.needed (length (held_of s.held ++ earlier)) + length (held_of s.held ++ earlier)) t Unreadable →
        ReadAsNeeded given

module _ {R A V O : Type 0} (grammar : Grammar Bytes V O (Error Bytes)) (s t : Stream R A) where
  -- what is told at the end of the reader, where what is held isn't decided
  pub data Ends (k : Needed) (r : ItemResult O) : Type 0 where
    -- nothing is held
    Clean : held_of s.held ≡ [] → held_of t.held ≡ [] → r ≡ Ok None → Ends k r
    -- the data ended within an item
    Within : 0 < length (held_of s.held) → s.settings.complete ≡ false → held_of t.held ≡ held_of s.held → r ≡ Err (Stopped.Incomplete k) → Ends k r
    -- or what is held is parsed as a complete input
    Completed : 0 < length (held_of s.held) → s.settings.complete ≡ true → (taken : Taken O) → Takes grammar false (held_of s.held) (held_of t.held) taken →
        HoldsLast (held_of s.held) t.held taken → IsItemResult taken r → Ends k r

  -- what is told of what is held
  pub data Answers (r : ItemResult O) : Type 0 where
    -- it is decided
    Decided : (taken : Taken O) → (IsUndecided taken → ⊥) → Takes grammar true (held_of s.held) (held_of t.held) taken →
        HoldsLast (held_of s.held) t.held taken → IsItemResult taken r → Answers r
    -- the reader is at its end
    AtEnd : s.ended ≡ true → (k : Needed) → Takes grammar true (held_of s.held) (held_of s.held) (undecided k) → Ends k r → Answers r
    -- the reader isn't at its end; as many bytes are held as may be, and don't decide
    Full : s.ended ≡ false → s.settings.most ≤ length (held_of s.held) → held_of t.held ≡ held_of s.held → WaitsForMore grammar (held_of s.held) →
        r ≡ Err Stopped.TooLong → Answers r
    -- it isn't decided, and a read failed
    Faulted : (e : Io.Error) → held_of t.held ≡ held_of s.held → WaitsForMore grammar (held_of s.held) → r ≡ Err (Stopped.Fault e) → Answers r
    -- it isn't decided, and there is no room for more
    Lacking : BufferLacksRoom s → held_of t.held ≡ held_of s.held → WaitsForMore grammar (held_of s.held) → r ≡ Err Stopped.OutOfMemory → Answers r

-- What else holds of a stream after an answer for which nothing was read: the bytes of an item are counted, and are the last that were
-- used.
pub record ReadsNothing {R A O : Type 0} (s t : Stream R A) (r : ItemResult O) : Type 0 where
  pub offset : t.offset ≡ counted s.offset r
  pub last : IfOk r (λ r. IfSome r (λ p. p.0 ≤ t.held.start))
  pub source : t.source ≡ s.source
  pub settings : t.settings ≡ s.settings
  pub ended : t.ended ≡ s.ended
  pub pending : t.pending ≡ s.pending

module _ {R A V O : Type 0} (left : R → Option (List ℕ)) (grammar : Grammar Bytes V O (Error Bytes)) (s t : Stream R A) where
  -- bytes were read as they were needed
  pub record Reads (Unreadable : Type 0) : Type 0 where
    pub given : List ℕ
    pub gives : Gives left s t given
    pub as_needed : ReadAsNeeded grammar s t Unreadable given

-- One answer: some bytes were read, as they were needed, and of what is held then an answer is told.
pub record Decides {R A V O : Type 0} (left : R →
    Option (List ℕ)) (grammar : Grammar Bytes V O (Error Bytes)) (s t : Stream R A) (r : ItemResult O) : Type 0 where
  -- the stream as it stood then
  pub filled : Stream R A
  pub reads : Reads left grammar s filled (IsUnread filled r)
  pub faults : CountsFaults s t r
  -- it had ended then only if its reader was at its end
  pub at_end : EndsAsReader left s → EndsAsReader left filled
  pub answers : Answers grammar filled t r
  -- once the reader is at its end no read is made
  pub no_read : s.ended ≡ true → (filled.source ≡ s.source) × (filled.ended ≡ true)
  pub source : t.source ≡ filled.source
  pub ended : t.ended ≡ filled.ended
  pub settings : (filled.settings ≡ s.settings) × (t.settings ≡ s.settings)
  pub offset : t.offset ≡ counted s.offset r
