-- The order of the rules of texts means nothing.
use Rattle.std.proofs.Common.{◌≡◌, ℕ, map, true, sym, ap, subst}
use Rattle.std.specs.Prelude.{◌==◌}
use Rattle.std.specs.List.{list_any}
use Rattle.isle_ast.specs.Trees.WithoutPos.{def_without_pos}
use Rattle.isle_types.specs.Environment.{Environment}
use Rattle.isle_types.proofs.OneEnvironment.{one_environment}
use Rattle.isle_rules.specs.TypedRules.{TypedRule}
use Rattle.isle_rules.specs.Definitions.{MakesTerms}
use Rattle.isle_meaning.specs.Facts.{facts_of}
use Rattle.isle_meaning.specs.Calls.{Means}
use Rattle.isle_program.specs.Compiled.{max_levels, max_nodes}
use Rattle.isle_meaning.specs.DefinedPrograms.{defined_program, values_in}
use Rattle.isle_program.specs.Meanings.{checked}
use Rattle.isle_run.specs.Laws.Order.{OrderOfTextsMeansNothing}
use Rattle.isle_meaning.proofs.Spelling.Bare.{bare_types, bare_terms}
use Rattle.isle_meaning.proofs.Spelling.Meanings.{like_means, alike_means}
use Rattle.isle_meaning.proofs.Spelling.Programs.{alike_back}
use Rattle.isle_meaning.proofs.Spelling.Terms.{made_there}
use Rattle.isle_meaning.proofs.Spelling.Types.{makes_there}
use Rattle.isle_run.proofs.Spelling.Whole.{makes_of, bare_alike}
use Rattle.isle_meaning.proofs.Spelling.Ordered.{both_ways, roots_like, types_same, made_terms, made_declared, rules_there, rules_back}

-- Of texts whose definitions differ in the order of their rules, and in positions, the programs give a call the same meaning.
pub order_of_texts : OrderOfTextsMeansNothing
order_of_texts files others program other is also moved w n t args trace answer h =
    let defs = map def_without_pos is.defs in
    let those = map def_without_pos also.defs in
    let made = makes_there is.defs is.types is.made in
    let types : bare_types is.types ≡ bare_types also.types =
    one_environment those (bare_types is.types) (bare_types also.types) (types_same defs those moved (bare_types is.types) made)
    (makes_there also.defs also.types also.made) in
    let one = bare_terms is.terms.environment in
    let two = bare_terms also.terms.environment in
    let makes : MakesTerms (bare_types is.types) true max_levels max_nodes defs one =
    made_there is.defs is.types true max_levels max_nodes is.terms.environment (makes_of files program is) in
    let those_make : MakesTerms (bare_types is.types) true max_levels max_nodes those two =
    subst (λ (e : Environment). MakesTerms e true max_levels max_nodes those two) (sym types)
    (made_there also.defs also.types true max_levels max_nodes also.terms.environment (makes_of others other also)) in
    let terms = made_terms defs those moved (bare_types is.types) max_levels max_nodes one two makes those_make in
    let declared = made_declared defs those moved (bare_types is.types) max_levels max_nodes one two makes those_make in
    let there = rules_there defs those moved (bare_types is.types) max_levels max_nodes one two makes those_make in
    let back = rules_back defs those moved (bare_types is.types) max_levels max_nodes one two makes those_make in
    let roots : (u : ℕ) → list_any (λ (rule : TypedRule). rule.root == u) one.rules ≡ list_any (λ (rule : TypedRule). rule.root == u) two.rules =
    λ u. both_ways _ _ (roots_like one.rules two.rules there u) (roots_like two.rules one.rules back u) in
    let here = alike_means (checked program) (defined_program (bare_types is.types) one) (bare_alike files program is) w n t args trace answer h in
    let across : Means (defined_program (bare_types is.types) two) w n t args trace answer =
    like_means (defined_program (bare_types is.types) one) (defined_program (bare_types is.types) two) (ap facts_of declared)
    (ap (values_in (bare_types is.types)) terms) (λ i u. roots u i) there back w n t args trace answer here in
    let at_last : Means (defined_program (bare_types also.types) two) w n t args trace answer =
    subst (λ (e : Environment). Means (defined_program e two) w n t args trace answer) types across in
    alike_means (defined_program (bare_types also.types) two) (checked other)
    (alike_back (checked other) (defined_program (bare_types also.types) two) (bare_alike others other also)) w n t args trace answer at_last
