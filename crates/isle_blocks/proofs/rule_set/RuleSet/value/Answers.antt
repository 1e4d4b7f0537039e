use Rattle.std.proofs.Common.{◌≡◌, ◌∙◌, Some, None, sym}
use Rattle.isle_blocks.specs.declared.binding.Binding.TheVariants as sites
use Rattle.isle_blocks.proofs.Trees.Fields.{found_place}
use Rattle.isle_blocks.proofs.rule_set.RuleSet.value.Goals as goal

pub returns-in-Some : goal.returns-in-Some
returns-in-Some c =
    found_place c.args.self.now.sites (sites.Iterator c.args.site) (Some c.in-Some.value)
    c.site_count-count.ensures.once c.in-Some.ensures

pub returns : goal.returns
returns c =
    let e = found_place c.args.self.now.sites (sites.Iterator c.args.site) None c.site_count-count.ensures.once c.in-None.ensures in
    let f : None ≡ Some c.requires.made.0 = sym e ∙ c.requires.made.1 in absurd cc
