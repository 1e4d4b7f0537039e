use Rattle.std.proofs.Common.{◌∷◌, reverse, option_copied, sym, ap, subst, ◌∙◌}
use Rattle.isle_program.specs.Programs.{value_facts, types_of}
use Rattle.isle_calls.specs.Inside.Stores.Printing.{Leads}
use Rattle.isle_calls.proofs.Stores.Values.{stands_there}
use Rattle.isle_calls.proofs.store.Store.take_step.Goals as goal

pub returns-in-None : goal.returns-in-None
returns-in-None c = λ made leads.
    let (v, is, rest) =
    subst (λ s. Leads (value_facts c.args.program.now) (types_of c.args.program.now) c.args.self.now
    (s ∷ reverse c.args.left.now.items) c.args.laid.now made)
    c.in-Number.is leads in
    absurd (stands_there c.args.self.now v c.in-Number.number is (sym c.get.ensures ∙ ap option_copied c.in-None.is))
