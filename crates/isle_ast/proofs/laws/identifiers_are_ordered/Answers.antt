use Rattle.std.proofs.Common.{refl}
use Rattle.isle_ast.specs.contracts.ast.IdentOrd.TheImpl.Laws as laws
use Rattle.isle_ast.proofs.Trees.DefEquality.{ident-decides}
use Rattle.isle_ast.proofs.Positions.Orders.{ident_cmp-Equal}
use Rattle.isle_ast.proofs.Trees.Hashes.{names_apart}
use Rattle.isle_ast.proofs.laws.identifiers_are_ordered.Goals as goal

pub returns-clause-ordered : goal.returns-clause-ordered
returns-clause-ordered c = record {
  compares = λ a b. refl;
  compares_always = laws.matches_partial_cmp-law;
  total = laws.total-law;
  level = ident_cmp-Equal;
  equality = ident-decides;
  hashes = λ a. refl;
}

pub returns-clause-apart : goal.returns-clause-apart
returns-clause-apart c = names_apart
