use Rattle.std.proofs.Common.{sym, ap, ◌∙◌}
use Rattle.isle_rules.specs.Definitions.{as_declaration}
use Rattle.isle_terms.proofs.Collections.Listing.{listed_more, listed_same, not_copied}
use Rattle.isle_terms.proofs.env.definitions.declarations.Goals as goal
use Rattle.isle_terms.proofs.env.definitions.declarations.Goals.{in-Some+in_ok-push, in_default}

pub loop-def-preserved : goal.loop-def-preserved
loop-def-preserved c = elim c.match-declaration.branch [
  | in-Some+in_ok-push w ↦ listed_more as_declaration (λ decl. decl.now) c.args.defs.now c.loop-def.def-index c.def-item.result c.loop-def.all.items
      c.match-declaration.all.items w.in-Some.decl c.loop-def-test.true c.def-item.is (sym w.in-Some.ensures)
      (ap (λ v. v.items) w.all-is ∙ w.in_ok-push.ensures.items) c.loop-def.invariant
  | in_default w ↦ listed_same as_declaration (λ decl. decl.now) c.args.defs.now c.loop-def.def-index c.def-item.result c.loop-def.all.items
      c.match-declaration.all.items c.loop-def-test.true c.def-item.is (not_copied c.declaration.result _ c.declaration.ensures w.in_default.not-Some)
      (ap (λ v. v.items) w.all-is) c.loop-def.invariant
]
