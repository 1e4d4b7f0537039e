use Rattle.std.proofs.Common.{sym, ◌∙◌, ap, length}
use Rattle.std.specs.Option.{option_map}
use Rattle.isle_blocks.specs.declared.ids.BindingId.{BindingId}
use Rattle.isle_blocks.specs.Inside.Trees.Builder.{opener_at}
use Rattle.isle_blocks.proofs.Trees.Opened.{made_opened, made_unopened}
use Rattle.isle_blocks.proofs.rule_set.RuleSet.is_made.Goals as goal

pub returns-in-Some-opener : goal.returns-in-Some-opener
returns-in-Some-opener c =
    c.same_want.ensures
    ∙ made_opened c.args.self.now (length c.args.self.now.sites) (opener_at c.args.index.now) c.args.known.now c.requires.index.openers c.args.site.0
    c.in-Some.source.0 (sym c.source.ensures ∙ ap (option_map (λ (id : BindingId). id.0)) c.in-Some.is)
    c.in-Some-opener.opener c.in-Some-passed.rule (sym c.opener.ensures ∙ c.in-Some-opener.is) (sym c.passed.ensures ∙ c.in-Some-passed.is)

pub returns-in-None : goal.returns-in-None
returns-in-None c =
    sym (made_unopened c.args.self.now (length c.args.self.now.sites) (opener_at c.args.index.now) c.args.known.now
    c.requires.index.openers c.args.site.0
    c.in-Some.source.0 (sym c.source.ensures ∙ ap (option_map (λ (id : BindingId). id.0)) c.in-Some.is)
    c.requires.site (sym c.opener.ensures ∙ c.in-None.is))
