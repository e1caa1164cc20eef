-- Lemmas on the output of a program, for the words that it was given.
use Rattle.std.proofs.Common.{arith, ◌≡◌, ℕ, ◌⊎◌, List, [], Result, Ok, Err, IfErr, IfOk, refl, sym, subst, inl, inr}
use Rattle.nom_io.specs.Account.{Account, one_more}
use Rattle.nom_run.specs.declared.error.RunError.{RunError}
use Rattle.nom_run.specs.declared.error.RunError.TheVariants.{Read, Write, OutOfMemory, Usage}
use Rattle.nom_run.specs.Asked.{BeginsAsked, Opened, ReportsAsked, ToldAsked, WhyMemory, WhyRead, WhyUsage}
use Rattle.nom_run.specs.Asked.ToldAsked.{ReportAsked, BrokenAsked, FaultAsked}
use Rattle.nom_run.specs.Runs.{CanGrow, CutAbove, Falls, MatchRunError, NeverFalls, Reported, Stopped}
use Rattle.nom_run.specs.Reporting.{ToldRun, WroteText, fault_text}
use Rattle.nom_run.specs.Reporting.ToldRun.{BrokenRun, FaultRun}

falls_never : (cuts : List ℕ) → NeverFalls cuts → Falls cuts → ⊥
falls_never cuts never (k, below, falls) = let up = never k below in omega (arith, up, falls)

module _ {F S : Type 0} (IsFile : F → (name : List ℕ) → S → Type 0) (account : S → Account) (words : List (List ℕ))
    (missed : F → ℕ) (folder folder' : F) (IsReport : (bytes cuts text : List ℕ) → (status : ℕ) → Type 0) where
  -- a sink before the report, after it, and after the line that tells why there is none
  module _ {W : Type 0} (of : W → Account) (a b c : W) (status : ℕ) (is : status ≡ 3) where
    pub told_end : (e : RunError) → MatchRunError e ((b ≡ a) × WhyRead IsFile account words missed folder folder')
        (BeginsAsked IsFile account words missed folder folder' IsReport (of a) (of b))
        ((b ≡ a) × WhyMemory IsFile account words missed folder folder') ((b ≡ a) × WhyUsage IsFile account words missed folder folder') →
        WroteText (of b) (of c) (fault_text e) → (e ≡ Write → c ≡ b) →
        ToldAsked IsFile account words missed folder folder' IsReport (of a) (of c) status
    told_end Read h w f = FaultAsked Read h.1 (subst (λ x. WroteText (of x) (of c) (fault_text Read)) h.0 w) is
    told_end Write h w f =
        BrokenAsked (subst (λ x. BeginsAsked IsFile account words missed folder folder' IsReport (of a) (of x)) (sym (f refl)) h) is
    told_end OutOfMemory h w f = FaultAsked OutOfMemory h.1 (subst (λ x. WroteText (of x) (of c) (fault_text OutOfMemory)) h.0 w) is
    told_end Usage h w f = FaultAsked Usage h.1 (subst (λ x. WroteText (of x) (of c) (fault_text Usage)) h.0 w) is

  -- what a run answers, of the file that was opened
  module _ (cuts : List ℕ) (never : NeverFalls cuts) (s t : S) (o : Opened IsFile account words missed folder folder' cuts s) (a b : Account) where
    pub on_report : (r : Result ℕ RunError) → IfOk r (Reported IsReport (account s) (account t) a b cuts) →
        IfOk r (ReportsAsked IsFile account words missed folder folder' IsReport a b)
    on_report (Ok status) h = (cuts, s, t, o, h)
    on_report (Err e) h = tt

    module _ (Same N : Type 0) where
      by_error : (e : RunError) → MatchRunError e (Same × ((account t).failures ≡ one_more (account s).failures))
          (Stopped IsReport (account s) (account t) a b cuts) (Same × CanGrow (account s) (account t) cuts)
          (Same × ((N × Falls cuts) ⊎ CutAbove (account s) (account t) cuts)) →
          MatchRunError e (Same × WhyRead IsFile account words missed folder folder')
          (BeginsAsked IsFile account words missed folder folder' IsReport a b)
          (Same × WhyMemory IsFile account words missed folder folder') (Same × WhyUsage IsFile account words missed folder folder')
      by_error Read h = (h.0, inr (cuts, s, t, o, h.1))
      by_error Write h = (cuts, s, t, o, h)
      by_error OutOfMemory h = (h.0, inr (cuts, s, t, o, h.1))
      by_error Usage (same, inl falls) = absurd (falls_never cuts never falls.1)
      by_error Usage (same, inr above) = (same, inr (cuts, s, t, o, above))

      pub on_run : (r : Result ℕ RunError) → IfErr r (λ e. MatchRunError e (Same × ((account t).failures ≡ one_more (account s).failures))
          (Stopped IsReport (account s) (account t) a b cuts) (Same × CanGrow (account s) (account t) cuts)
          (Same × ((N × Falls cuts) ⊎ CutAbove (account s) (account t) cuts))) →
          IfErr r (λ e. MatchRunError e (Same × WhyRead IsFile account words missed folder folder')
          (BeginsAsked IsFile account words missed folder folder' IsReport a b)
          (Same × WhyMemory IsFile account words missed folder folder') (Same × WhyUsage IsFile account words missed folder folder'))
      on_run (Ok x) h = tt
      on_run (Err e) h = by_error e h

-- the output of a run, from its answer
module _ (IsReport : (bytes cuts text : List ℕ) → (status : ℕ) → Type 0) (s t : Account) (cuts : List ℕ) {W : Type 0} (of : W → Account) (a b c : W)
    (status : ℕ) (is : status ≡ 3) where
  pub told_run : (N : Type 0) (e : RunError) → MatchRunError e ((b ≡ a) × (t.failures ≡ one_more s.failures)) (Stopped IsReport s t (of a) (of b) cuts)
      ((b ≡ a) × CanGrow s t cuts) ((b ≡ a) × ((N × Falls cuts) ⊎ CutAbove s t cuts)) → WroteText (of b) (of c) (fault_text e) →
      (e ≡ Write → c ≡ b) → ToldRun IsReport s t (of a) (of c) cuts status
  told_run N Read h w f = FaultRun Read h.1 (subst (λ x. WroteText (of x) (of c) (fault_text Read)) h.0 w) is
  told_run N Write h w f = BrokenRun (subst (λ x. Stopped IsReport s t (of a) (of x) cuts) (sym (f refl)) h) is
  told_run N OutOfMemory h w f = FaultRun OutOfMemory h.1 (subst (λ x. WroteText (of x) (of c) (fault_text OutOfMemory)) h.0 w) is
  told_run N Usage (same, inl falls) w f = FaultRun Usage (inl falls.1) (subst (λ x. WroteText (of x) (of c) (fault_text Usage)) same w) is
  told_run N Usage (same, inr above) w f = FaultRun Usage (inr above) (subst (λ x. WroteText (of x) (of c) (fault_text Usage)) same w) is
