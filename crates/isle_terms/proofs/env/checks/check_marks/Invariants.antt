use Rattle.std.proofs.Common.{◌≡◌, map, take, false}
use Rattle.std.specs.List.{All}
use Rattle.isle_ast.specs.declared.ast.Decl.{Decl as DeclTree}
use Rattle.isle_terms.specs.Inside.Collecting.Checks.{Checks, IsIllAt}
use Rattle.isle_terms.specs.Inside.Collecting.DefinitionChecks.{is_ill_marked}
use Rattle.isle_terms.proofs.env.checks.check_marks.Given as goal

abbrev pub invariant-loop-decl : goal.invariant-loop-decl
invariant-loop-decl l = Checks (IsIllAt (map (λ decl. decl.now) l.decls) (is_ill_marked) (λ (decl : DeclTree). decl.pos))
    (All (λ x. is_ill_marked x ≡ false) (take l.decl-index (map (λ decl. decl.now) l.decls))) l.initial.errors.items l.errors.items
