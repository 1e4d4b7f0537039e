-- How definitions are spelt means nothing.
use Rattle.std.proofs.Common.{◌≡◌, List, map, Bool, true, sym, ◌∙◌, ap, subst, subst₂}
use Rattle.isle_ast.specs.declared.ast.Def.{Def}
use Rattle.isle_ast.specs.Positions.Files.{SourceFile}
use Rattle.isle_ast.specs.Trees.WithoutPos.{def_without_pos}
use Rattle.isle_types.specs.Environment.{Environment, Makes, AreWithinSizes}
use Rattle.isle_types.proofs.OneEnvironment.{one_environment}
use Rattle.isle_rules.specs.Definitions.{TermEnvironment, MakesTerms, declared_by}
use Rattle.isle_meaning.specs.Facts.{TermFacts, facts_of}
use Rattle.isle_meaning.specs.Worlds.{CheckedProgram}
use Rattle.isle_rules.proofs.OneTermEnvironment.{one_term_environment}
use Rattle.isle_blocks.specs.RuleFaults.{AreFaultless}
use Rattle.isle_program.specs.declared.program.Program.{Program}
use Rattle.isle_program.specs.Compiled.{IsProgramOf, max_levels, max_nodes}
use Rattle.isle_meaning.specs.DefinedPrograms.{defined_program}
use Rattle.isle_program.specs.Meanings.{checked}
use Rattle.isle_meaning.specs.Laws.Spelling.{AreAlike, AreAlikePrograms, typed_rule_without_pos}
use Rattle.isle_run.specs.Laws.Spelling.{AlikeTextsAreAcceptedAlike, AlikeTextsMakeAlikePrograms}
use Rattle.isle_program.proofs.Compiling.OneAcceptance.{files_spelt_once}
use Rattle.isle_program.proofs.SoundPrograms.Defined.{program_agrees}
use Rattle.isle_meaning.proofs.Spelling.Bare.{bare_types, bare_terms}
use Rattle.isle_run.proofs.Spelling.Faults.{faultless_like}
use Rattle.isle_meaning.proofs.Spelling.Programs.{facts_bare, program_bare, alike_back, alike_chain}
use Rattle.isle_meaning.proofs.Spelling.Terms.{made_there, made_back}
use Rattle.isle_meaning.proofs.Spelling.Types.{makes_there, makes_back, within_there, within_back}

-- the definitions of one list make what those of the other make, but for positions
record Remade (types : Environment) (environment : TermEnvironment) (those : List Def) : Type 0 where
  own_types : Environment
  own : TermEnvironment
  made : Makes those own_types
  makes : MakesTerms own_types true max_levels max_nodes those own
  types_alike : bare_types own_types ≡ bare_types types
  terms_alike : bare_terms own ≡ bare_terms environment

remade : (defs those : List Def) (types : Environment) (environment : TermEnvironment) → AreAlike defs those → Makes defs types
    → MakesTerms types true max_levels max_nodes defs environment → Remade types environment those
remade defs those types environment alike made makes =
    let (own_types, own_made, types_alike) = makes_back those (bare_types types)
    (subst (λ (d : List Def). Makes d (bare_types types)) alike (makes_there defs types made)) in
    let there : MakesTerms (bare_types own_types) true max_levels max_nodes (map def_without_pos those) (bare_terms environment) =
    subst₂ (λ (t : Environment) (d : List Def). MakesTerms t true max_levels max_nodes d (bare_terms environment)) (sym types_alike) alike
    (made_there defs types true max_levels max_nodes environment makes) in
    let (own, own_makes, terms_alike) = made_back those own_types true max_levels max_nodes (bare_terms environment) there in
    record {
      own_types = own_types;
      own = own;
      made = own_made;
      makes = own_makes;
      types_alike = types_alike;
      terms_alike = terms_alike;
    }

-- what declarations say of terms
facts_alike : (types others : Environment) (environment other : TermEnvironment) → bare_types others ≡ bare_types types
    → bare_terms other ≡ bare_terms environment
    → facts_of (declared_by types true environment) ≡ facts_of (declared_by others true other)
facts_alike types others environment other types_alike terms_alike =
    let moved : facts_of (declared_by (bare_types types) true (bare_terms environment))
    ≡ facts_of (declared_by (bare_types others) true (bare_terms other)) =
    (λ i. facts_of (declared_by (sym types_alike i) true (sym terms_alike i))) in
    sym (facts_bare types environment) ∙ moved ∙ facts_bare others other

pub accepted_alike : AlikeTextsAreAcceptedAlike
accepted_alike files others defs those spelt also alike accepted =
    let typed = accepted.typed in
    let one : typed.defs ≡ defs = files_spelt_once 0 files defs typed.defs spelt typed.spelt in
    let made : Makes defs typed.types = subst (λ (d : List Def). Makes d typed.types) one typed.made in
    let makes : MakesTerms typed.types true max_levels max_nodes defs typed.environment =
    subst (λ (d : List Def). MakesTerms typed.types true max_levels max_nodes d typed.environment) one typed.makes in
    let r = remade defs those typed.types typed.environment alike made makes in
    record {
      typed = record {
        defs = those;
        types = r.own_types;
        environment = r.own;
        spelt = also;
        made = r.made;
        within = within_back those (subst AreWithinSizes alike (within_there defs (subst AreWithinSizes one typed.within)));
        makes = r.makes;
      };
      faultless = faultless_like (facts_of (declared_by r.own_types true r.own)) typed.environment.rules r.own.rules
          (sym (ap (λ (e : TermEnvironment). e.rules) r.terms_alike))
          (subst (λ (f : TermFacts). AreFaultless f typed.environment.rules)
          (facts_alike typed.types r.own_types typed.environment r.own r.types_alike r.terms_alike) accepted.faultless);
    }

-- what a program's definitions make
pub makes_of : (files : List SourceFile) (program : Program) (is : IsProgramOf files program)
    → MakesTerms is.types true max_levels max_nodes is.defs is.terms.environment
makes_of files program is =
    subst (λ (b : Bool). MakesTerms is.types b max_levels max_nodes is.defs is.terms.environment) is.expands is.terms.makes

same_programs : (one other : CheckedProgram) → one ≡ other → AreAlikePrograms one other
same_programs one other is = record {
  terms = ap (λ (p : CheckedProgram). p.terms) is;
  values = ap (λ (p : CheckedProgram). p.values) is;
  has_rules = ap (λ (p : CheckedProgram). p.has_rules) is;
  rules = ap (λ (p : CheckedProgram). map typed_rule_without_pos p.rules) is;
}

-- what is said of a program is said of its definitions without positions
pub bare_alike : (files : List SourceFile) (program : Program) (is : IsProgramOf files program)
    → AreAlikePrograms (checked program) (defined_program (bare_types is.types) (bare_terms is.terms.environment))
bare_alike files program is =
    alike_chain (checked program) (defined_program is.types is.terms.environment) _
    (same_programs (checked program) (defined_program is.types is.terms.environment) (program_agrees files program is))
    (program_bare is.types is.terms.environment)

pub made_alike : AlikeTextsMakeAlikePrograms
made_alike files others program other is also alike =
    let there : Makes (map def_without_pos is.defs) (bare_types is.types) = makes_there is.defs is.types is.made in
    let here : Makes (map def_without_pos is.defs) (bare_types also.types) =
    subst (λ (d : List Def). Makes d (bare_types also.types)) (sym alike) (makes_there also.defs also.types also.made) in
    let types : bare_types is.types ≡ bare_types also.types =
    one_environment (map def_without_pos is.defs) (bare_types is.types) (bare_types also.types) there here in
    let makes = made_there is.defs is.types true max_levels max_nodes is.terms.environment (makes_of files program is) in
    let those : MakesTerms (bare_types is.types) true max_levels max_nodes (map def_without_pos is.defs) (bare_terms also.terms.environment) =
    subst₂ (λ (t : Environment) (d : List Def). MakesTerms t true max_levels max_nodes d (bare_terms also.terms.environment)) (sym types) (sym alike)
    (made_there also.defs also.types true max_levels max_nodes also.terms.environment (makes_of others other also)) in
    let terms : bare_terms is.terms.environment ≡ bare_terms also.terms.environment =
    one_term_environment (bare_types is.types) true max_levels max_levels max_nodes max_nodes (map def_without_pos is.defs)
    (bare_terms is.terms.environment) (bare_terms also.terms.environment) makes those in
    let middle : defined_program (bare_types is.types) (bare_terms is.terms.environment)
    ≡ defined_program (bare_types also.types) (bare_terms also.terms.environment) = (λ i. defined_program (types i) (terms i)) in
    alike_chain (checked program) (defined_program (bare_types is.types) (bare_terms is.terms.environment)) (checked other)
    (bare_alike files program is)
    (alike_chain (defined_program (bare_types is.types) (bare_terms is.terms.environment))
    (defined_program (bare_types also.types) (bare_terms also.terms.environment)) (checked other)
    (same_programs _ _ middle)
    (alike_back (checked other) (defined_program (bare_types also.types) (bare_terms also.terms.environment)) (bare_alike others other also)))
