use Rattle.std.proofs.Common.{◌≡◌, ◌<◌, List, length, get_or, sym, ap, subst, ◌∙◌}
use Rattle.std.specs.Prelude.{All}
use Rattle.isle_types.specs.TypeTables.{TypeTables}
use Rattle.isle_types.specs.declared.ids.TermId.{TermId}
use Rattle.isle_blocks.specs.declared.binding.Binding.{Binding}
use Rattle.isle_blocks.specs.Bindings.{MakesKnownVariant}
use Rattle.isle_blocks.specs.RuleSets.{RulesOverSites}
use Rattle.isle_tests.proofs.blocks.terms_of_sites.Goals as goal

pub write_terms-requires : goal.write_terms-requires
write_terms-requires c =
    let (d, same) = c.in_ok-tyenv.ensures.known in
    let env = c.in_ok-tyenv.termenv in let sets = c.in_ok-sets.sets.items in
    let item : TermId × RulesOverSites = c.set-item.result in let k = c.loop-set.set-index in
    let here : item ≡ get_or sets k item = c.set-item.is ∙ ap (λ (l : List (TermId × RulesOverSites)). get_or l k item)
    c.deref-set-items.ensures.value in
    let within : k < length sets = subst (λ (l : List (TermId × RulesOverSites)). k < length l) c.deref-set-items.ensures.value
    c.loop-set-test.true in
    let known = c.sites_have_terms.ensures env d sets (c.in_ok-sets.ensures.sets d) k item within in
    let of_item = subst (λ (pair : TermId × RulesOverSites). All (MakesKnownVariant d.tyenv env) pair.1.sites) (sym here) known in
    subst (λ (sites : List Binding). All (MakesKnownVariant c.in_ok-tyenv.tyenv env) sites) (sym c.bindings.ensures)
    (subst (λ (types : TypeTables). All (MakesKnownVariant types env) item.1.sites) same of_item)
