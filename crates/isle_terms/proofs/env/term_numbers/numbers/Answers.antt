use Rattle.isle_terms.proofs.Collections.DeclaredForms.{read_at}
use Rattle.isle_terms.proofs.Collections.TermNumbers.{number_none, number_turn, numbers_done, symbols_none, symbols_turn}
use Rattle.isle_terms.proofs.env.term_numbers.numbers.Goals as goal

pub loop-term-init : goal.loop-term-init
loop-term-init c = record {
  numbered = λ names signatures zipped once distinct counted name. number_none names _ name c.new-numbers.ensures;
  known = symbols_none c.args.terms.now _ c.new-numbers.ensures;
}

pub loop-term-preserved : goal.loop-term-preserved
loop-term-preserved c =
    let here = read_at c.args.terms.now c.loop-term.term-index c.term-item.result c.loop-term-test.true c.term-item.is in
    record {
      numbered = λ names signatures zipped once distinct counted.
          number_turn names signatures c.args.terms.now c.loop-term.term-index c.term-item.result c.loop-term.numbers c.insert.new.self zipped once
          distinct counted here (λ q. c.in_ok-insert.ensures.values q)
          (c.loop-term.invariant.numbered names signatures zipped once distinct counted);
      known = symbols_turn c.args.terms.now c.loop-term.term-index c.term-item.result c.loop-term.numbers c.insert.new.self here
          (λ q. c.in_ok-insert.ensures.values q) c.loop-term.invariant.known;
    }

pub returns-clause-numbered : goal.returns-clause-numbered
returns-clause-numbered c = λ names signatures zipped once distinct counted name.
    numbers_done names signatures c.args.terms.now c.loop-term.term-index c.loop-term.numbers name zipped c.loop-term-test.false
    (c.loop-term.invariant.numbered names signatures zipped once distinct counted name)

pub returns-clause-known : goal.returns-clause-known
returns-clause-known c = c.loop-term.invariant.known
