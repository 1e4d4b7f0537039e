-- The faults of files by the layer that has them.
use Rattle.std.proofs.Common.{◌≡◌, ◌<◌, ℕ, [], ◌∷◌, List, length, true, subst, subst₂, sym, Vec}
use Rattle.std.specs.Global.{Global}
use Rattle.std.specs.List.{All}
use Rattle.isle_ast.specs.declared.ast.Def.{Def}
use Rattle.isle_ast.specs.declared.error.Error.{Error}
use Rattle.isle_ast.specs.declared.refusal.Refusal.{Refusal}
use Rattle.isle_ast.specs.declared.refusal.Refusal.TheVariants.{Fault, Memory}
use Rattle.isle_ast.specs.Errors.{IfFault, RefusalsAt}
use Rattle.isle_ast.specs.Positions.Files.{SourceFile}
use Rattle.isle_ast.specs.Positions.Printable.{IsPrintablePos}
use Rattle.std.proofs.lemmas.List.Elements.{All-weaker}
use Rattle.isle_types.specs.declared.ids.TermId.{TermId}
use Rattle.isle_types.specs.Environment.{Environment, Makes, AreWithinSizes, HaveEnvironment}
use Rattle.isle_types.specs.TypeTables.{TypeTables}
use Rattle.isle_types.specs.TypeFaults.{AreFaultsOf}
use Rattle.isle_rules.specs.declared.rules.Rule.{Rule}
use Rattle.isle_rules.specs.Definitions.{MakesTerms}
use Rattle.isle_rules.specs.TypedTrees.{TypedRuleAt}
use Rattle.isle_terms.specs.TypingFaults.{AreTypingFaults}
use Rattle.isle_rules.specs.Shown.TermTables.{TermTables}
use Rattle.isle_blocks.specs.DefinedSets.{AreDefined, facts_by, rules_by, AreSetsOf, IsTermSet}
use Rattle.isle_blocks.specs.RuleSets.{RulesOverSites}
use Rattle.isle_blocks.specs.RuleFaults.{AreFaultless, AreRuleErrors}
use Rattle.isle_blocks.specs.Trees.Promises.{IsCheckedSet}
use Rattle.isle_blocks.specs.Trees.Shown.{BlockShown}
use Rattle.isle_program.specs.declared.program.Program.{Program}
use Rattle.isle_program.specs.Programs.{types_of, terms_of, rule_sets_of, set_trees_of}
use Rattle.isle_program.specs.Trees.{AreSetTrees}
use Rattle.isle_program.specs.ShownFiles.{ShowFiles}
use Rattle.isle_program.specs.Compiled.{AreSpelt, AreTyped, AreTypedFiles, AreAccepted, IsProgramOf, IsFirstFault, AreFaults, of_a_text, of_types}
use Rattle.isle_program.specs.Compiled.{of_terms, of_rules, max_levels, max_nodes}
use Rattle.isle_blocks.proofs.FewArguments.{few_arguments}
use Rattle.isle_blocks.proofs.Sets.GatheredRules.{term_within, root_within}
use Rattle.isle_blocks.proofs.Sets.SetsOfTerms.{all_places}
use Rattle.isle_program.proofs.Compiling.RuleErrors.{typed_placed, rule_errors_at}

pub text_faults : (files : List SourceFile) (told : Refusal (Vec Error Global))
    → IfFault told (λ errors. (error : Error) × (errors.items ≡ error ∷ []) × IsFirstFault files error)
    → IfFault told (λ errors. AreFaults files errors.items)
text_faults files (Memory e) fault = tt
text_faults files (Fault errors) fault = of_a_text fault.0 fault.1 fault.2

pub type_faults : (files : List SourceFile) (defs : List Def) (told : Refusal (Vec Error Global)) → AreSpelt 0 files defs
    → IfFault told (λ errors. AreFaultsOf defs errors.items) → IfFault told (λ _. ¬ HaveEnvironment defs)
    → IfFault told (λ errors. AreFaults files errors.items)
type_faults files defs (Memory e) spelt faults none = tt
type_faults files defs (Fault errors) spelt faults none =
    of_types defs spelt faults none

pub term_faults : (files : List SourceFile) (defs : List Def) (types : Environment) (told : Refusal (Vec Error Global))
    → AreSpelt 0 files defs → Makes defs types → AreWithinSizes defs
    → IfFault told (λ errors. AreTypingFaults types true max_levels max_nodes defs errors.items)
    → IfFault told (λ _. ¬ AreTyped types defs) → IfFault told (λ errors. AreFaults files errors.items)
term_faults files defs types (Memory e) spelt made within faults none = tt
term_faults files defs types (Fault errors) spelt made within faults none =
    of_terms defs types spelt made within faults none

module _ (files : List SourceFile) (tyenv : TypeTables) (env : TermTables) (shown : ShowFiles files tyenv env) where
  -- the files are typed
  abbrev pub typed_files : AreTypedFiles files
  typed_files = record {
    defs = shown.defs;
    types = shown.types;
    environment = shown.terms.environment;
    spelt = shown.spelt;
    made = shown.made;
    within = shown.within;
    makes =
        subst (λ put_in. MakesTerms shown.types put_in max_levels max_nodes shown.defs shown.terms.environment) shown.expands shown.terms.makes;
  }

  -- no term has too many arguments
  abbrev pub defined_files : AreDefined env
  defined_files = record {
    tyenv = tyenv;
    types = shown.types;
    levels = max_levels;
    max = max_nodes;
    defs = shown.defs;
    once = shown.once;
    shows = shown.terms;
    few = few_arguments tyenv env shown.types max_levels max_nodes shown.defs shown.made shown.within shown.terms;
  }

  pub accepts : ((d : AreDefined env) → AreFaultless (facts_by env d) (rules_by env d)) → AreAccepted files
  accepts faultless = record { typed = typed_files; faultless = faultless defined_files }

  pub rule_faults : (told : Refusal (Vec Error Global))
      → IfFault told (λ errors. (d : AreDefined env) → AreRuleErrors (facts_by env d) (rules_by env d) errors.items)
      → IfFault told (λ errors. AreFaults files errors.items)
  rule_faults (Memory e) faults = tt
  rule_faults (Fault errors) faults = of_rules typed_files (faults defined_files)

  pub rule_faults_at : (told : Refusal (Vec Error Global)) → All (TypedRuleAt (IsPrintablePos files)) env.rules
      → IfFault told (λ errors. (d : AreDefined env) → AreRuleErrors (facts_by env d) (rules_by env d) errors.items)
      → RefusalsAt (IsPrintablePos files) told
  rule_faults_at (Memory e) placed faults = tt
  rule_faults_at (Fault errors) placed faults =
      rule_errors_at (IsPrintablePos files) (facts_by env defined_files) (rules_by env defined_files) errors.items
      (typed_placed (IsPrintablePos files) tyenv.names (rules_by env defined_files) env.rules shown.terms.rules placed) (faults defined_files)

-- tables with the rule sets of their rules and the trees of these are a program's
pub program_of : (files : List SourceFile) (program : Program) (tyenv : TypeTables) (env : TermTables) (sets : List (TermId × RulesOverSites))
    (trees : List BlockShown) (shown : ShowFiles files tyenv env) → types_of program ≡ tyenv → terms_of program ≡ env → rule_sets_of program ≡ sets
    → set_trees_of program ≡ trees → ((d : AreDefined env) → AreFaultless (facts_by env d) (rules_by env d))
    → ((d : AreDefined env) → AreSetsOf env d sets) → AreSetTrees sets trees → IsProgramOf files program
program_of files program tyenv env sets trees shown same_types same_terms same_sets same_trees faultless are_sets are_trees =
    let own : ShowFiles files (types_of program) (terms_of program) = subst₂ (ShowFiles files) (sym same_types) (sym same_terms) shown in
    let d = defined_files files (types_of program) (terms_of program) own in
    let none : AreFaultless (facts_by (terms_of program) d) (rules_by (terms_of program) d) =
    subst (λ (e : TermTables). (d : AreDefined e) → AreFaultless (facts_by e d) (rules_by e d)) (sym same_terms) faultless d in
    let mine : AreSetsOf (terms_of program) d (rule_sets_of program) =
    subst (λ (l : List (TermId × RulesOverSites)). AreSetsOf (terms_of program) d l) (sym same_sets)
    (subst (λ (e : TermTables). (d : AreDefined e) → AreSetsOf e d sets) (sym same_terms) are_sets d) in
    record {
      defs = own.defs;
      types = own.types;
      spelt = own.spelt;
      made = own.made;
      within = own.within;
      once = own.once;
      terms = own.terms;
      expands = own.expands;
      faultless = none;
      few = d.few;
      sets = mine;
      trees = subst₂ AreSetTrees (sym same_sets) (sym same_trees) are_trees;
    }

-- the terms of rule sets are the environment's
pub sets_within : (env : TermTables) (d : AreDefined env) (sets : List (TermId × RulesOverSites)) → AreSetsOf env d sets
    → All (λ (set : TermId × RulesOverSites). set.0.0 < length env.terms) sets
sets_within env d sets are = All-weaker (IsTermSet env d) (λ (set : TermId × RulesOverSites). set.0.0 < length env.terms)
    (λ set has. subst (λ (n : ℕ). n < length env.terms) has.0.of_term (root_within env d has.0.place has.0.rule has.0.at)) sets are.each

-- trees are built of each of them
pub sets_checked : (env : TermTables) (d : AreDefined env) (sets : List (TermId × RulesOverSites)) → AreSetsOf env d sets
    → All (λ (set : TermId × RulesOverSites). IsCheckedSet set.1) sets
sets_checked env d sets are = All-weaker (IsTermSet env d) (λ (set : TermId × RulesOverSites). IsCheckedSet set.1)
    (λ set is. record { env = env; defined = d; term = set.0; is = is }) sets are.each

-- the terms of rules are too
pub rules_within : (env : TermTables) → AreDefined env → All (λ (rule : Rule). rule.root_term.0 < length env.terms) env.rules
rules_within env d = all_places (λ (rule : Rule). rule.root_term.0 < length env.terms) env.rules (term_within env d)
