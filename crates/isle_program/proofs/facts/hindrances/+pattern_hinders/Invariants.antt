use Rattle.std.proofs.Common.{◌≡◌, drop, map}
use Rattle.isle_rules.specs.Shown.ShownRules.{typed_list, typed_shown}
use Rattle.isle_program.specs.Facts.Reach.{are_hindering_patterns}
use Rattle.isle_program.proofs.facts.hindrances.+pattern_hinders.Given as goal

abbrev pub invariant-patterns_hinder-loop-pattern : goal.invariant-patterns_hinder-loop-pattern
invariant-patterns_hinder-loop-pattern l =
    are_hindering_patterns l.tyenv l.termenv (typed_list (map (typed_shown l.tyenv.names) (drop l.pattern-index l.patterns)))
    ≡ are_hindering_patterns l.tyenv l.termenv (typed_list (map (typed_shown l.tyenv.names) l.patterns))
