-- Lemmas on a text that was written, and on one that was built whole.
use Rattle.std.proofs.Common.{◌≡◌, ℕ, List, [], Result, Ok, Err, IfOk, ap, refl, sym, subst}
use Rattle.std.specs.Prelude.{String, string_bytes}
use Rattle.nom_io.specs.Account.{Account}
use Rattle.nom_io.proofs.Written.{wrote_all}
use Rattle.nom_run.specs.declared.error.RunError.{RunError}
use Rattle.nom_run.specs.Pieces.{Puts}
use Rattle.nom_run.specs.Pieces.Puts.{Added, Broken}
use Rattle.nom_run.specs.Report.{IsBuilt}
use Rattle.nom_run.specs.Runs.{WritesText}
use Rattle.nom_run.specs.Runs.WritesText.{Whole, Cut, NoMemory}

-- such a text is one of another kind
pub tells_other : {T : Type 0} {P Q : (text : List ℕ) → T → Type 0} {a b : Account} {Lacks : Type 0} {r : Result T RunError} →
    ((text : List ℕ) (x : T) → P text x → Q text x) → WritesText P a b Lacks r → WritesText Q a b Lacks r
tells_other f (Whole text x e p w) = Whole text x e (f text x p) w
tells_other f (Cut text x e p w) = Cut text x e (f text x p) w
tells_other f (NoMemory e l) = NoMemory e l

-- and what is lacking is told otherwise
pub tells_lack : {T : Type 0} {P Q : (text : List ℕ) → T → Type 0} {a b : Account} {L M : Type 0} {r : Result T RunError} →
    ((text : List ℕ) (x : T) → P text x → Q text x) → (L → M) → WritesText P a b L r → WritesText Q a b M r
tells_lack f m (Whole text x e p w) = Whole text x e (f text x p) w
tells_lack f m (Cut text x e p w) = Cut text x e (f text x p) w
tells_lack f m (NoMemory e l) = NoMemory e (m l)

-- it was written, or a write failed
module _ {T : Type 0} {IsText : (text : List ℕ) → T → Type 0} {a b : Account} {Lacks : Type 0} {text : List ℕ} (x : T) (is : IsText text x) where
  pub told : {u : Unit {0}} → Puts a b [] text [] (Ok u) → WritesText IsText a b Lacks (Ok x)
  told (Added e w) = Whole text x refl is (wrote_all w)
  told (Broken e w) = absurd (cc (e))

  pub pending : {left : List ℕ} {e : RunError} → Puts a b [] text left (Err e) → WritesText IsText a b Lacks (Err e)
  pending (Added d w) = absurd (cc (d))
  pending (Broken d w) = Cut text x (ap Err (cc (d))) is w

-- a text that was built is such a text
pub built_is : {A E : Type 0} (P : (text : List ℕ) → (status : ℕ) → Type 0) (built : Result (String A × ℕ) E) →
    IfOk built (λ r. P (string_bytes r.0) r.1) → (text : List ℕ) (status : ℕ) → IsBuilt built text status → P text status
built_is P (Ok r) h text status b = subst (λ t. P t status) (sym b.0) (subst (P (string_bytes r.0)) (sym b.1) h)
built_is P (Err e) h text status b = absurd b

pub is_built : {A E : Type 0} {built : Result (String A × ℕ) E} {r : String A × ℕ} → built ≡ Ok r → IsBuilt built (string_bytes r.0) r.1
is_built {r = r} is = subst (λ b. IsBuilt b (string_bytes r.0) r.1) (sym is) (refl, refl)
