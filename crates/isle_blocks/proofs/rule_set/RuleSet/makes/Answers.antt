use Rattle.std.proofs.Common.{Bool, ◌∙◌, ap, length, sym}
use Rattle.std.specs.Prelude.{◌&&◌}
use Rattle.isle_trees.specs.Search.{same_wants}
use Rattle.isle_blocks.specs.Inside.Trees.Builder.{opener_at, rules_in}
use Rattle.isle_blocks.proofs.Trees.Fields.{made_unopened, made_opened}
use Rattle.isle_blocks.proofs.rule_set.RuleSet.makes.Goals as goal

pub returns-in_default-opener : goal.returns-in_default-opener
returns-in_default-opener c w e =
    let set = c.args.self.now in
    sym (made_unopened set (length set.sites) (opener_at c.args.index.now) c.args.site.0 c.args.rule c.args.source.0 w
    c.requires.index.openers c.requires.site (sym c.in_default-opener.ensures) e)

pub returns-then-eq : goal.returns-then-eq
returns-then-eq c w e =
    let set = c.args.self.now in
    let R = rules_in set in
    let source = c.args.source.0 in
    let opener = c.in-Some-opener.opener in
    c.same_want.ensures ∙ ap (λ (b : Bool). b && same_wants R.tests (R.at opener source) (R.at c.args.rule source)) c.if-eq.ensures
    ∙ made_opened set (length set.sites) (opener_at c.args.index.now) c.args.site.0 c.in-Some.own.0 opener c.args.rule source w
    c.requires.index.openers (sym c.in-Some.ensures) (sym c.in-Some-opener.ensures) e
