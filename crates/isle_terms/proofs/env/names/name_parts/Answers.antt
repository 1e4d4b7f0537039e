use Rattle.isle_terms.proofs.Collections.Checking.{check_both}
use Rattle.isle_terms.proofs.Collections.CheckedTyping.{checks_wider}
use Rattle.isle_terms.proofs.env.names.name_parts.Goals as goal

pub returns-clause-checked : goal.returns-clause-checked
returns-clause-checked c = λ types expands levels defs are.
    checks_wider (λ at broken. broken) (λ both. record { declared = both.0; host_constructors = both.1 })
    (check_both (c.in_ok-name_declared.ensures.checked types expands levels defs are)
    (c.in_ok-name_host_constructors.ensures.checked types expands levels defs are))
