use Rattle.std.proofs.Common.{◌≡◌, map, take}
use Rattle.isle_terms.specs.Inside.Collecting.NamedItems.{named_shown, named_declaration}
use Rattle.isle_terms.proofs.env.naming.declared_names.Given as goal

abbrev pub invariant-loop-decl : goal.invariant-loop-decl
invariant-loop-decl l = map named_shown l.all.items ≡ map (λ decl. named_declaration decl.now) (take l.decl-index l.decls)
