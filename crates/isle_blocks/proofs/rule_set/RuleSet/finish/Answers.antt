use Rattle.std.proofs.Common.{List, ℕ, subst, sym}
use Rattle.isle_blocks.specs.Inside.Trees.Work.{AreRules}
use Rattle.isle_blocks.proofs.rule_set.RuleSet.finish.Goals as goal

pub returns-requires-clause-rules : goal.returns-requires-clause-rules
returns-requires-clause-rules c =
    subst (λ (l : List ℕ). AreRules c.args.self.now l) (sym c.deref.ensures.value) c.requires.place.rules
