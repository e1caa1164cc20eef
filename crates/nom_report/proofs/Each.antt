-- Lemmas on a choice among the parsers of a list, and what it tells of its branches.
use Rattle.std.proofs.Common.{ℕ, ◌+◌, Bool, List, [], ◌∷◌, ◌++◌, sym, subst, append-nil, append_assoc}
use Rattle.nom_internal.specs.Prelude.{Model, Meaning, IsLawful, or_meaning}
use Rattle.nom_internal.specs.laws.CaseLaws.{labelled_lawful}
use Rattle.nom_internal.specs.laws.ChoiceLaws.{or_lawful}
use Rattle.nom_choose.specs.Lists.{Each, branch_meaning, others_meaning}
use Rattle.nom_report.specs.Reports.{report_errors}
use Rattle.nom_report.specs.Furthest.{TellsOfBranches, TellsOfEach, branches_of, refuses_with}
use Rattle.nom_report.specs.declared.value.Report.{Report}
use Rattle.nom_report.specs.laws.Branches.{choice_tells, first_tells, labelled_tells, or_tells}

module _ {I A : Type 0} (w : Model I A) (place : I → ℕ) where
  module _ {S V : Type 0} (part : S → Meaning I V (Report I)) (lawful : (t : S) → (part t).IsSound → IsLawful w (part t)) (s : Bool) where
    others_tell : (m : Meaning I (ℕ × V) (Report I)) (k : ℕ) (ts : List S) (bs : List (I → Report I → Type 0)) → Each (λ t. (part t).IsSound) ts →
        IsLawful w m → TellsOfBranches place w bs m s →
        TellsOfBranches place w (bs ++ branches_of part s ts) (others_meaning (report_errors place) part m k ts) s
        × IsLawful w (others_meaning (report_errors place) part m k ts)
    others_tell m k [] bs h l t = (subst (λ cs. TellsOfBranches place w cs m s) (sym (append-nil bs)) t, l)
    others_tell m k (x ∷ ts) bs h l t =
        let one = refuses_with s (part x) in
        let more = or_meaning (report_errors place).joined (report_errors place).grows m (branch_meaning k (part x)) in
        let sound = lawful x h.0 in
        let told = or_tells w place m (λ v. (k, v)) (part x) l sound s bs t in
        let rest = others_tell more (k + 1) ts (bs ++ (one ∷ [])) h.1 (or_lawful l (labelled_lawful sound)) told in (
          subst (λ cs. TellsOfBranches place w cs (others_meaning (report_errors place) part more (k + 1) ts) s)
              (append_assoc bs (one ∷ []) (branches_of part s ts)) rest.0,
          rest.1,
        )

    pub each_tells : (ts : List S) → Each (λ t. (part t).IsSound) ts → TellsOfEach place w part ts s
    each_tells [] h = tt
    each_tells (x ∷ ts) h =
        let m = branch_meaning 0 (part x) in
        let sound = lawful x h.0 in
        let one = labelled_tells w place (λ v. (0, v)) (part x) s (refuses_with s (part x) ∷ []) (first_tells w place (part x) s) in
        let all = others_tell m 1 ts (refuses_with s (part x) ∷ []) h.1 (labelled_lawful sound) one in
        choice_tells w place (others_meaning (report_errors place) part m 1 ts) all.1 s (branches_of part s (x ∷ ts)) all.0
