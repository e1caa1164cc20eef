-- Forms of options.
use Rattle.std.specs.Prelude.{◌≡◌, Bool, true, false, List, [], Option, Some, None}
use Rattle.nom_sink.specs.declared.error.WriteError.{WriteError}
use Rattle.nom_sink.specs.declared.error.WriteError.TheVariants.{Mismatch}
use Rattle.nom_sink.specs.Written.{Space}

-- a form of the value, or nothing where there is none
abbrev pub OptForm : {O A : Type 0} → (O → List A → Type 0) → Option O → List A → Type 0
OptForm Form (Some v) xs = Form v xs
OptForm Form None xs = xs ≡ []

abbrev pub OptFails : {O : Type 0} → (O → Space → WriteError → Type 0) → Option O → Space → WriteError → Type 0
OptFails Fails (Some v) s e = Fails v s e
OptFails Fails None s e = ⊥

-- of a parser on a condition: a form of the value where it runs, and else nothing
abbrev pub CondForm : {O A : Type 0} → Bool → (O → List A → Type 0) → Option O → List A → Type 0
CondForm true Form (Some v) xs = Form v xs
CondForm true Form None xs = ⊥
CondForm false Form (Some v) xs = ⊥
CondForm false Form None xs = xs ≡ []

-- the value can't be written, or there is one without the parser, or the parser without one
abbrev pub CondFails : {O : Type 0} → Bool → (O → Space → WriteError → Type 0) → Option O → Space → WriteError → Type 0
CondFails true Fails (Some v) s e = Fails v s e
CondFails true Fails None s e = e ≡ Mismatch s.start
CondFails false Fails (Some v) s e = e ≡ Mismatch s.start
CondFails false Fails None s e = ⊥

-- the fact, where the parser runs
abbrev pub WhereRun : Bool → Type 0 → Type 0
WhereRun true Fact = Fact
WhereRun false Fact = Unit {0}
