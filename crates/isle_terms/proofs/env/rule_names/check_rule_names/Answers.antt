use Rattle.std.proofs.Common.{map, subst}
use Rattle.isle_types.specs.Names.{AreDistinct}
use Rattle.isle_terms.specs.TermFaults.{IsTaken, names_of}
use Rattle.isle_terms.specs.Inside.Collecting.Checks.{Checks}
use Rattle.isle_terms.specs.Inside.Collecting.NamedItems.{named_shown}
use Rattle.isle_terms.proofs.env.rule_names.check_rule_names.Goals as goal

pub returns : goal.returns
returns c = λ defs trees names.
    subst (λ pairs. Checks (IsTaken pairs) (AreDistinct (names_of pairs)) c.args.errors.now.items c.name_all.new.errors.items)
    (c.in_ok-placed.ensures defs trees names)
    (subst (λ placed. Checks (IsTaken (map named_shown placed)) (AreDistinct (names_of (map named_shown placed))) c.args.errors.now.items
    c.name_all.new.errors.items) c.as_slice.ensures.value c.in_ok-name_all.ensures.checked)
