-- Files make one list of definitions, one environment of types and one of terms at most, so that faults refute acceptance.
use Rattle.std.proofs.Common.{◌≡◌, ℕ, zero, suc, true, List, [], ◌∷◌, ◌++◌, ◌+◌, Some, arith, sym, ◌∙◌, subst, subst₂, ap₂, slice_get}
use Rattle.std.proofs.lemmas.Option.{none-some, same_Some}
use Rattle.isle_ast.specs.declared.ast.Def.{Def}
use Rattle.isle_ast.specs.declared.error.Error.{Error}
use Rattle.isle_ast.specs.Positions.Files.{SourceFile}
use Rattle.isle_syntax.specs.Grammar.Verdict.{Spells}
use Rattle.isle_syntax.proofs.Productions.OneReading.{whole_reading, spelt_has_no_fault}
use Rattle.isle_types.specs.Environment.{Environment, Makes, AreWithinSizes}
use Rattle.isle_types.proofs.OneEnvironment.{one_environment}
use Rattle.isle_rules.specs.Definitions.{TermEnvironment, MakesTerms, declared_by}
use Rattle.isle_meaning.specs.Facts.{facts_of}
use Rattle.isle_rules.proofs.OneTermEnvironment.{one_term_environment}
use Rattle.isle_blocks.specs.RuleFaults.{AreFaultless}
use Rattle.isle_program.specs.Compiled.{AreSpelt, AreTypedFiles, AreAccepted, IsFirstFault, AreFaults, of_a_text, of_types, of_terms, of_rules}
use Rattle.isle_program.specs.Compiled.{facts_in, rules_of, max_levels, max_nodes}
use Rattle.isle_program.proofs.Compiling.RuleErrors.{faulty}

-- a text spells one list of definitions
pub spelt_once : (file : ℕ) (text : List ℕ) (defs others : List Def) → Spells file text defs → Spells file text others → others ≡ defs
spelt_once file text defs others spells also =
    let whole = whole_reading file text in
    (spells whole.0 whole.1 whole.2).only others (also whole.0 whole.1 whole.2).spelt

-- so do texts
pub files_spelt_once : (first : ℕ) (files : List SourceFile) (defs others : List Def) → AreSpelt first files defs → AreSpelt first files others
    → others ≡ defs
files_spelt_once first [] defs others spelt also = also ∙ sym spelt
files_spelt_once first (file ∷ files) defs others spelt also =
    also.4
    ∙ ap₂ (λ (a b : List Def). a ++ b) (spelt_once first file.text spelt.0 also.0 spelt.2 also.2)
    (files_spelt_once (suc first) files spelt.1 also.1 spelt.3 also.3)
    ∙ sym spelt.4

-- where files are spelt, so is each
spelt_at : (first place number : ℕ) (files : List SourceFile) (file : SourceFile) (defs : List Def) → number ≡ first + place
    → AreSpelt first files defs → slice_get files place ≡ Some file → (these : List Def) × Spells number file.text these
spelt_at first place number [] file defs is spelt at = absurd (none-some file at)
spelt_at first zero number (head ∷ files) file defs is spelt at =
    let same : first ≡ number = omega (arith, is) in
    (spelt.0, subst₂ (λ (n : ℕ) (f : SourceFile). Spells n f.text spelt.0) same (same_Some head file at) spelt.2)
spelt_at first (suc place) number (head ∷ files) file defs is spelt at =
    spelt_at (suc first) place number files file spelt.1 (omega (arith, is)) spelt.3 at

no_first_fault : (files : List SourceFile) (error : Error) (defs : List Def) → AreSpelt 0 files defs → IsFirstFault files error → ⊥
no_first_fault files error defs spelt first =
    let here = spelt_at 0 first.place first.place files first.file defs (omega arith) spelt first.among in
    let whole = whole_reading first.place first.file.text in
    spelt_has_no_fault whole.0 here.0 error (here.1 whole.0 whole.1 whole.2) (first.fault whole.0 whole.1 whole.2)

-- two ways to be typed have the same rules, so both are faultless or neither
faultless_both : (files : List SourceFile) (one other : AreTypedFiles files) → AreFaultless (facts_in files one) (rules_of files one)
    → AreFaultless (facts_in files other) (rules_of files other)
faultless_both files one other faultless =
    let defs : other.defs ≡ one.defs = files_spelt_once 0 files one.defs other.defs one.spelt other.spelt in
    let types : one.types ≡ other.types = one_environment one.defs one.types other.types one.made
    (subst (λ (d : List Def). Makes d other.types) defs other.made) in
    let makes : MakesTerms one.types true max_levels max_nodes one.defs other.environment =
    subst₂ (λ (t : Environment) (d : List Def). MakesTerms t true max_levels max_nodes d other.environment) (sym types) defs other.makes in
    let terms : one.environment ≡ other.environment =
    one_term_environment one.types true max_levels max_levels max_nodes max_nodes one.defs one.environment other.environment one.makes makes in
    subst₂ (λ (t : Environment) (e : TermEnvironment). AreFaultless (facts_of (declared_by t true e)) e.rules) types terms faultless

-- files with faults aren't accepted
pub faults_refute : (files : List SourceFile) (errors : List Error) → AreFaults files errors → AreAccepted files → ⊥
faults_refute files errors (of_a_text error alone first) accepted =
    no_first_fault files error accepted.typed.defs accepted.typed.spelt first
faults_refute files errors (of_types defs spelt faults none) accepted =
    let typed = accepted.typed in
    let same : typed.defs ≡ defs = files_spelt_once 0 files defs typed.defs spelt typed.spelt in
    none (typed.types, (subst (λ (d : List Def). Makes d typed.types) same typed.made, subst AreWithinSizes same typed.within))
faults_refute files errors (of_terms defs types spelt made within faults none) accepted =
    let typed = accepted.typed in
    let same : typed.defs ≡ defs = files_spelt_once 0 files defs typed.defs spelt typed.spelt in
    let one : typed.types ≡ types = one_environment defs typed.types types (subst (λ (d : List Def). Makes d typed.types) same typed.made) made in
    none (
      typed.environment,
      subst₂ (λ (t : Environment) (d : List Def). MakesTerms t true max_levels max_nodes d typed.environment) one same typed.makes,
    )
faults_refute files errors (of_rules typed are) accepted =
    faulty (facts_in files typed) (rules_of files typed) errors are (faultless_both files accepted.typed typed accepted.faultless)
