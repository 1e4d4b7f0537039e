use Rattle.std.proofs.Common.{List, map, take, ◌≤◌}
use Rattle.std.specs.List.{All}
use Rattle.std.below.core.specs.declared.int.usize.TheConstants.{MAX}
use Rattle.isle_ast.specs.declared.ast.Def.{Def}
use Rattle.isle_types.specs.Environment.{Environment}
use Rattle.isle_types.specs.TypeEnvs.{Shows, HasMoreNames}
use Rattle.isle_rules.specs.declared.terms.Term.{Term}
use Rattle.isle_rules.specs.Readings.Needs.{needed_of}
use Rattle.isle_terms.specs.Inside.Collecting.ExtractorChecks.{Adds}
use Rattle.isle_terms.specs.Inside.Collecting.DeclaredTerms.{AreFormsOf, OneNamesUnknownType, AreDeclaredTerms}
use Rattle.isle_terms.proofs.env.terms.Forms.declared_terms.Given as goal

abbrev pub invariant-loop-decl : goal.invariant-loop-decl
invariant-loop-decl l =
    ((types : Environment) (defs : List Def) → Shows l.initial.tyenv types → AreFormsOf defs l.self
    → Adds (OneNamesUnknownType types (map (λ decl. decl.now) l.decls))
    (AreDeclaredTerms types defs l.tyenv.names (take l.decl-index (map (λ decl. decl.now) l.decls)) l.terms.items)
    l.initial.errors.items l.errors.items) × HasMoreNames l.initial.tyenv l.tyenv
    × All (λ (term : Term). needed_of term ≤ MAX) l.terms.items
