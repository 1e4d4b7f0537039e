-- Typed rules with their names complete what definitions make; their faults are faults of typing.
use Rattle.std.proofs.Common.{◌≡◌, ℕ, inl, List, [], ◌∷◌, map, length, Option, refl, ap, sym, subst, ◌∙◌}
use Rattle.std.specs.List.{AllZip}
use Rattle.std.proofs.lemmas.List.{length-map}
use Rattle.isle_ast.specs.declared.ast.Rule.{Rule as RuleTree}
use Rattle.isle_ast.specs.declared.ast.Def.{Def}
use Rattle.isle_ast.specs.declared.error.Error.{Error}
use Rattle.isle_ast.specs.declared.pos.Pos.{Pos}
use Rattle.isle_types.specs.Environment.{Environment}
use Rattle.isle_types.specs.Names.{AreDistinct}
use Rattle.isle_types.specs.TypeTables.{TypeTables}
use Rattle.isle_types.specs.TypeEnvs.{HasMoreNames}
use Rattle.isle_types.proofs.TypeReadings.{reading_then}
use Rattle.isle_terms.specs.declared.env.rule_names.NamedRules.{NamedRules}
use Rattle.isle_rules.specs.TypedRules.{TypedRule}
use Rattle.isle_rules.specs.Signatures.{Declared}
use Rattle.isle_rules.specs.Elaboration.{ElaboratesRule}
use Rattle.isle_rules.specs.Definitions.{rules_in, name_of}
use Rattle.isle_terms.specs.TypingFaults.{BreaksTyping, of_a_rule, ExceedsTyping, by_a_rule, IsLoneSize, AreTypingFaults}
use Rattle.isle_rules.specs.Shown.TermTables.{TermTables}
use Rattle.isle_terms.specs.Inside.Collecting.Environments.{ShowsDeclaredOf}
use Rattle.isle_rules.specs.Shown.RulesShown.{ShowsTerms}
use Rattle.isle_terms.specs.Inside.Collecting.RuleChecks.{IsIllAmong, IsLargeAmong}
use Rattle.isle_terms.specs.Inside.Collecting.RuleNames.{with_names, AreNamedRules}
use Rattle.isle_terms.proofs.Collections.RuleNames.{named_rules_names, rules_named}
use Rattle.isle_rules.proofs.Zipped.{zipped_length}
use Rattle.isle_terms.proofs.Showing.MoreNames.{shows_still}

-- what rules are read under, where tables are those of definitions
abbrev pub declared_of : {tyenv : TypeTables} {env : TermTables} {types : Environment} {defs : List Def} → ShowsDeclaredOf tyenv env types defs
    → Declared
declared_of {tyenv} {env} {types} {defs} whole =
    record { types = types; terms = whole.terms; conversions = whole.conversions; expands = env.expands }

-- with the typed rules tables show all that the definitions make
pub rules_complete : (tyenv new : TypeTables) (env : TermTables) (types : Environment) (levels max : ℕ) (defs : List Def)
    (typed : List TypedRule) (named : NamedRules) (whole : ShowsDeclaredOf tyenv env types defs) → HasMoreNames tyenv new
    → AllZip (ElaboratesRule (declared_of whole) levels max) (rules_in defs) typed
    → AreNamedRules new.names (with_names typed (map (name_of defs) (rules_in defs))) named
    → ShowsTerms new (record env { rules = named.rules.items; rule_numbers = named.numbers }) types levels max defs
rules_complete tyenv new env types levels max defs typed named whole more stand are =
    let names = map (name_of defs) (rules_in defs) in
    let many : length typed ≡ length names = sym (zipped_length (ElaboratesRule (declared_of whole) levels max) (rules_in defs) typed stand)
    ∙ sym (length-map (rules_in defs) (name_of defs)) in
    let distinct = subst AreDistinct (sym (named_rules_names defs typed names refl many)) whole.names in
    let shows = shows_still tyenv new env (declared_of whole) whole.shown more whole.symbols in
    record {
      environment = record { terms = whole.terms; conversions = whole.conversions; rules = with_names typed names };
      makes = record {
        terms = whole.made;
        within = whole.within;
        constructors = whole.constructors;
        extractors = whole.extractors;
        conversions = whole.converted;
        defined = whole.defined;
        rules = rules_named (declared_of whole) defs levels max typed stand;
        names = distinct;
      };
      declared = record {
        types = shows.types;
        terms = shows.terms;
        counted = shows.counted;
        named = shows.named;
        converters = shows.converters;
        expands = shows.expands;
      };
      rules = are.shown;
      numbers = are.counted;
      named = are.table distinct;
    }

-- there are as many names as typed rules
pub as_many_names : {X Y : Type 0} (R : RuleTree → Y → Type 0) (defs : List Def) (names : List X) (shown : X → Option (List ℕ)) (typed : List Y)
    {Z : Type 0} (S : Y → Z → Type 0) (made : List Z) → map shown names ≡ map (name_of defs) (rules_in defs) → AllZip R (rules_in defs) typed
    → AllZip S typed made → length names ≡ length made
as_many_names R defs names shown typed S made are stand same =
    sym (length-map names shown) ∙ ap length are ∙ length-map (rules_in defs) (name_of defs) ∙ zipped_length R (rules_in defs) typed stand
    ∙ zipped_length S typed made same

-- an ill-typed rule is a fault of typing
pub ill_rules_break : (tyenv : TypeTables) (env : TermTables) (types : Environment) (levels : ℕ) (defs : List Def)
    (whole : ShowsDeclaredOf tyenv env types defs) (at : Pos) → IsIllAmong (declared_of whole) levels (rules_in defs) at
    → BreaksTyping types env.expands levels defs at
ill_rules_break tyenv env types levels defs whole at ill =
    of_a_rule at whole.terms whole.conversions ill.0 whole.made whole.converted ill.1 ill.2

-- a rule that is too large exceeds a size
large_exceeds : (tyenv : TypeTables) (env : TermTables) (types : Environment) (levels max : ℕ) (defs : List Def)
    (whole : ShowsDeclaredOf tyenv env types defs) (at : Pos) → IsLargeAmong (declared_of whole) levels max (rules_in defs) at
    → ExceedsTyping types env.expands levels max defs at
large_exceeds tyenv env types levels max defs whole at large =
    subst (ExceedsTyping types env.expands levels max defs) (sym large.2.0)
    (by_a_rule whole.terms whole.conversions large.0 whole.made whole.converted large.1 large.2.1)

-- alone it is what a refusal lists
pub large_rules_listed : (tyenv : TypeTables) (env : TermTables) (types : Environment) (levels max : ℕ) (defs : List Def)
    (whole : ShowsDeclaredOf tyenv env types defs) (errors : List Error)
    → IsLoneSize (IsLargeAmong (declared_of whole) levels max (rules_in defs)) errors → AreTypingFaults types env.expands levels max defs errors
large_rules_listed tyenv env types levels max defs whole [] alone = absurd alone
large_rules_listed tyenv env types levels max defs whole (error ∷ []) alone =
    inl (reading_then (λ _. ⊥) (IsLargeAmong (declared_of whole) levels max (rules_in defs)) (λ _. ⊥)
    (ExceedsTyping types env.expands levels max defs) (λ _ none. none) (large_exceeds tyenv env types levels max defs whole) error alone)
large_rules_listed tyenv env types levels max defs whole (error ∷ (other ∷ others)) alone = absurd alone
