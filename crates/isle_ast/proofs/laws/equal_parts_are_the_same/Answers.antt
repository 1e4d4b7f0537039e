use Rattle.isle_ast.proofs.Trees.DefEquality.{decl-decides, rule-decides, if_let-decides, extractor-decides, extern-decides, kept-decides}
use Rattle.isle_ast.proofs.laws.equal_parts_are_the_same.Goals as goal

pub returns-clause-decls : goal.returns-clause-decls
returns-clause-decls c = decl-decides

pub returns-clause-rules : goal.returns-clause-rules
returns-clause-rules c = rule-decides

pub returns-clause-if_lets : goal.returns-clause-if_lets
returns-clause-if_lets c = if_let-decides

pub returns-clause-extractors : goal.returns-clause-extractors
returns-clause-extractors c = extractor-decides

pub returns-clause-externs : goal.returns-clause-externs
returns-clause-externs c = extern-decides

pub returns-clause-kept : goal.returns-clause-kept
returns-clause-kept c = kept-decides
