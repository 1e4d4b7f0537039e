use Rattle.isle_terms.proofs.EqualTerms.{term-decides, kind-decides, flags-decides, constructor-decides, extractor-decides, return-decides}
use Rattle.isle_terms.proofs.laws.equal_terms_are_the_same.Goals as goal

pub returns-clause-terms : goal.returns-clause-terms
returns-clause-terms c = term-decides

pub returns-clause-kinds : goal.returns-clause-kinds
returns-clause-kinds c = kind-decides

pub returns-clause-flags : goal.returns-clause-flags
returns-clause-flags c = flags-decides

pub returns-clause-constructors : goal.returns-clause-constructors
returns-clause-constructors c = constructor-decides

pub returns-clause-extractors : goal.returns-clause-extractors
returns-clause-extractors c = extractor-decides

pub returns-clause-returns : goal.returns-clause-returns
returns-clause-returns c = return-decides
