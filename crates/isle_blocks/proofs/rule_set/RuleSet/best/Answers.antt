use Rattle.std.proofs.Common.{Option, subst}
use Rattle.isle_trees.specs.Ranking.{IsRanked}
use Rattle.isle_trees.proofs.Building.Offers.{IsSearched, nothing_best, something_best}
use Rattle.isle_blocks.specs.declared.serializer.known.Ranked.{Ranked as CodeRanked}
use Rattle.isle_blocks.specs.Inside.Trees.Builder.{best_shown, ranked_shown, rules_in, scope_of}
use Rattle.isle_blocks.proofs.Trees.Considered.{searched_all}
use Rattle.isle_blocks.proofs.rule_set.RuleSet.best.Goals as goal

pub returns-in-None : goal.returns-in-None
returns-in-None c =
    let R = rules_in c.args.self.now in
    let sc = scope_of c.args.self.now c.args.known.now in
    let Q : Option CodeRanked → Type 0 = λ b. IsSearched R c.args.left.now sc (best_shown b) in
    nothing_best R c.args.left.now sc (subst Q c.in-None.is
    (searched_all R c.args.left.now sc c.args.marks.now c.args.ready.now (best_shown c.best_of-best.result) (best_shown c.consider_equalities.result)
    c.requires.set.both c.requires.order c.requires.marked c.requires.ready c.best_of-best.ensures.passed c.consider_equalities.ensures.kept
    c.consider_equalities.ensures.passed))

pub returns-in-Some : goal.returns-in-Some
returns-in-Some c =
    let R = rules_in c.args.self.now in
    let sc = scope_of c.args.self.now c.args.known.now in
    let Q : Option CodeRanked → Type 0 = λ b. IsSearched R c.args.left.now sc (best_shown b) in
    let K : Option CodeRanked → Type 0 = λ b. IsRanked R c.args.left.now sc (best_shown b) in
    something_best R c.args.left.now sc (ranked_shown c.in-Some.ranked) (subst K c.in-Some.is c.consider_equalities.ensures.kept.ranked)
    (subst Q c.in-Some.is
    (searched_all R c.args.left.now sc c.args.marks.now c.args.ready.now (best_shown c.best_of-best.result) (best_shown c.consider_equalities.result)
    c.requires.set.both c.requires.order c.requires.marked c.requires.ready c.best_of-best.ensures.passed c.consider_equalities.ensures.kept
    c.consider_equalities.ensures.passed))
