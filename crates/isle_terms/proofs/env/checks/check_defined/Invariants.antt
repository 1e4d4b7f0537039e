use Rattle.std.proofs.Common.{◌≡◌, ℕ, List, map, take, false}
use Rattle.std.specs.List.{All}
use Rattle.isle_ast.specs.declared.ast.Decl.{Decl as DeclTree}
use Rattle.isle_terms.specs.Inside.Collecting.Checks.{Checks, IsIllAt}
use Rattle.isle_terms.specs.Inside.Collecting.NameTables.{IsTableOf}
use Rattle.isle_terms.specs.Inside.Collecting.DefinitionChecks.{is_unused}
use Rattle.isle_terms.proofs.env.checks.check_defined.Given as goal

abbrev pub invariant-loop-decl : goal.invariant-loop-decl
invariant-loop-decl l = (ruled : List (List ℕ)) → (hosted : List (List ℕ)) → (extracted : List (List ℕ)) → IsTableOf ruled l.roots
    → IsTableOf hosted l.hosts → IsTableOf extracted l.extractors
    → Checks (IsIllAt (map (λ decl. decl.now) l.decls) (is_unused ruled hosted extracted) (λ (decl : DeclTree). decl.pos))
    (All (λ x. is_unused ruled hosted extracted x ≡ false) (take l.decl-index (map (λ decl. decl.now) l.decls))) l.initial.errors.items l.errors.items
