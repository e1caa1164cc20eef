-- The text of a report.
use Rattle.std.specs.Prelude.{◌≡◌, ℕ, ◌-◌, Bool, if◌then◌else◌, List, [], ◌∷◌, ◌++◌, codes}
use Rattle.nom_report.specs.Around.{around}
use Rattle.nom_report.specs.Kept.{kept}
use Rattle.nom_report.specs.Named.{Context}
use Rattle.nom_report.specs.Quotes.{IsCut, IsPlaceText, IsQuote}
use Rattle.nom_report.specs.Words.{all_expected_text}
use Rattle.nom_report.specs.declared.value.Report.{Report}

-- t tells of a context, with the place where it begins in a source, whose own place is start
pub record TellsContext (source : List ℕ) (start : ℕ) (context : Context) (t : List ℕ) : Type 0 where
  pub before : List ℕ
  pub after : List ℕ
  pub cut_is : IsCut source (context.begins - start) before after
  pub place : List ℕ
  pub place_is : IsPlaceText before place
  pub text_is : t ≡ codes "while reading " ++ context.name ++ codes ", which begins at " ++ place ++ codes "\n"

-- one after another, from the innermost on
abbrev pub TellsContexts : List ℕ → ℕ → List Context → List ℕ → Type 0
TellsContexts source start [] t = t ≡ []
TellsContexts source start (c ∷ cs) t = (first : List ℕ) × (rest : List ℕ) × TellsContext source start c first ×
    TellsContexts source start cs rest × (t ≡ first ++ rest)

abbrev pub more_text : Bool → List ℕ
more_text more = if more then codes "..\n" else []

-- before the place, the name of the source
abbrev pub name_text : List ℕ → List ℕ
name_text name = codes " --> " ++ name ++ codes ":"

-- t is the text of a report on a source of a name, which begins at start: what was expected, where, the line, and the contexts
pub record IsRendered {I : Type 0} (place : I → ℕ) (name source : List ℕ) (start : ℕ) (e : Report I) (t : List ℕ) : Type 0 where
  pub before : List ℕ
  pub after : List ℕ
  pub cut_is : IsCut source (place e.at - start) before after
  pub at : List ℕ
  pub at_is : IsPlaceText before at
  pub quote : List ℕ
  pub quote_is : IsQuote before after quote
  pub contexts : List ℕ
  pub contexts_are : TellsContexts source start (around e.inside) contexts
  pub text_is : t ≡ all_expected_text (kept e.expected).wanted (kept e.expected).more ++ name_text name ++ at ++ codes "\n" ++ quote ++ contexts
      ++ more_text e.inside.more
