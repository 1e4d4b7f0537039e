use Rattle.std.proofs.Common.{refl}
use Rattle.isle_terms.proofs.Collections.DeclaredForms.{read_at}
use Rattle.isle_terms.proofs.Collections.TermNames.{names_turn, names_done}
use Rattle.isle_terms.proofs.env.naming.term_names.Goals as goal

pub loop-term-preserved : goal.loop-term-preserved
loop-term-preserved c = λ signatures zipped.
    names_turn c.args.tyenv.now.names signatures c.args.terms.now c.loop-term.term-index c.term-item.result c.loop-term.all.items
    c.push.new.self.items (record { name = c.sym_name.result; pos = c.term-item.result.decl_pos }) zipped
    (read_at c.args.terms.now c.loop-term.term-index c.term-item.result c.loop-term-test.true c.term-item.is)
    c.sym_name.ensures refl c.in_ok-push.ensures.items (c.loop-term.invariant signatures zipped)

pub returns : goal.returns
returns c = λ signatures zipped.
    names_done c.args.tyenv.now.names signatures c.args.terms.now c.loop-term.term-index c.loop-term.all.items zipped c.loop-term-test.false
    (c.loop-term.invariant signatures zipped)
