use Rattle.std.proofs.Common.{◌≡◌, ℕ, List, true, take}
use Rattle.std.specs.Prelude.{All}
use Rattle.isle_ast.specs.declared.ast.Ident.{Ident}
use Rattle.isle_ast.specs.Trees.PatternShape.{pattern_of}
use Rattle.isle_terms.specs.Inside.Collecting.NameTables.{IsTableOf}
use Rattle.isle_rules.specs.Definitions.{is_among}
use Rattle.isle_terms.specs.Inside.Collecting.ExtractorChecks.{Adds, IsUnknownAt, named_in}
use Rattle.isle_terms.proofs.Collections.AddedErrors.{SomeBreaks}
use Rattle.isle_terms.proofs.env.bodies.check_body.Given as goal

abbrev pub invariant-loop-term : goal.invariant-loop-term
invariant-loop-term l = record {
  terms : l.term-items ≡ named_in (pattern_of l.body);
  checked : (names : List (List ℕ)) → IsTableOf names l.known
      → Adds (SomeBreaks (IsUnknownAt names) l.term-items) (All (λ (term : Ident). is_among term.0 names ≡ true) (take l.term-index l.term-items))
      l.fn.errors.items l.errors.items;
}
