use Rattle.isle_ast.specs.Positions.Printable.{IsPrintablePos}
use Rattle.isle_terms.specs.declared.env.from_ast.TheConstants.{MAX_LEVELS, MAX_NODES}
use Rattle.isle_terms.proofs.Collections.Answered.{value_then, error_then, fault_then}
use Rattle.isle_terms.proofs.Collections.TypingRefused.{faults_make_none, faults_stand, rules_stand}
use Rattle.isle_terms.proofs.env.from_ast.TermEnvFromAst.from_ast.Goals as goal

pub returns-clause-refused : goal.returns-clause-refused
returns-clause-refused c = λ types shows.
    error_then c.collect.result (λ refusal faults. fault_then refusal (λ errors listed have. faults_make_none types
    c.args.expand_internal_extractors MAX_LEVELS MAX_NODES c.args.defs.now errors.items listed have) faults) (c.collect.ensures.faults types shows)

pub returns-clause-placed : goal.returns-clause-placed
returns-clause-placed c = λ files all.
    let own = c.requires.environment in
    value_then c.collect.result (λ env shows. rules_stand (IsPrintablePos files) c.collect.new.tyenv env own.environment MAX_LEVELS MAX_NODES
    c.args.defs.now all shows) (c.collect.ensures.made own.environment own.shows)

pub returns-clause-printable : goal.returns-clause-printable
returns-clause-printable c = λ files all.
    let own = c.requires.environment in
    error_then c.collect.result (λ refusal faults. fault_then refusal (λ errors listed. faults_stand (IsPrintablePos files) own.environment
    c.args.expand_internal_extractors MAX_LEVELS MAX_NODES c.args.defs.now all own.makes errors.items listed) faults)
    (c.collect.ensures.faults own.environment own.shows)
