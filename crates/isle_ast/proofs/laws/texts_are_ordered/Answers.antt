use Rattle.std.proofs.Common.{refl}
use Rattle.std.proofs.lemmas.Slice.Eq.{bytes_eq-Decides}
use Rattle.std.specs.Cmp.Lexicographic.{slice_cmp, nat_list_cmp_total, texts_ties}
use Rattle.std.specs.Ordering.{nat_cmp}
use Rattle.isle_ast.proofs.Positions.Orders.{level}
use Rattle.isle_ast.proofs.laws.texts_are_ordered.Goals as goal

pub returns-clause-ordered : goal.returns-clause-ordered
returns-clause-ordered c = record {
  compares = λ a b. refl;
  compares_always = λ a b. refl;
  total = nat_list_cmp_total;
  level = level (slice_cmp nat_cmp) texts_ties bytes_eq-Decides;
  equality = bytes_eq-Decides;
  hashes = λ a. refl;
}
