use Rattle.std.proofs.Common.{◌≡◌, ◌∙◌, ap, subst, List, map, Bor}
use Rattle.std.specs.Prelude.{IfOk, OnOk}
use Rattle.isle_ast.specs.declared.ast.Decl.{Decl as DeclTree}
use Rattle.isle_ast.specs.declared.ast.Def.{Def}
use Rattle.isle_ast.specs.declared.pos.Pos.{Pos}
use Rattle.isle_types.specs.Names.{AreDistinct}
use Rattle.isle_rules.specs.Definitions.{declarations}
use Rattle.isle_terms.specs.TermFaults.{names_of, IsTaken, term_twice}
use Rattle.isle_terms.specs.TypingFaults.{of_declarations}
use Rattle.isle_terms.specs.Inside.Collecting.Checks.{Checks}
use Rattle.isle_terms.specs.Inside.Collecting.NameTables.{IsTableOf}
use Rattle.isle_terms.specs.Inside.Collecting.NamedItems.{named_shown, named_declaration}
use Rattle.isle_terms.proofs.Collections.Answered.{ok_then}
use Rattle.isle_terms.proofs.Collections.CheckedDefinitions.{declarations_named}
use Rattle.isle_terms.proofs.Collections.CheckedTyping.{checks_wider}
use Rattle.isle_terms.proofs.Collections.PartNames.{declaration_pairs, declarations_pair, declared_twice}
use Rattle.isle_terms.proofs.env.names.name_declared.Goals as goal

-- what is named are the declarations
named : (c : goal.After-drop-named) (defs : List Def) → map (λ decl. decl.now) c.args.parts.now.decls.items ≡ declarations defs
    → map named_shown c.as_slice-2.result.now ≡ declaration_pairs defs
named c defs are =
    ap (map named_shown) c.as_slice-2.ensures.value ∙ c.in_ok-named.ensures
    ∙ ap (map (λ (decl : Bor DeclTree). named_declaration decl.now)) c.as_slice.ensures.value
    ∙ declarations_pair defs c.args.parts.now.decls.items are

pub returns-clause-table : goal.returns-clause-table
returns-clause-table c = λ defs are.
    subst (λ names. IfOk c.name_all.result (IsTableOf names)) (ap names_of (named c defs are.decls) ∙ declarations_named defs)
    c.name_all.ensures.table

pub returns-clause-checked : goal.returns-clause-checked
returns-clause-checked c = λ types expands levels defs are.
    let checked = subst (λ pairs. OnOk c.name_all.result (Checks (IsTaken pairs) (AreDistinct (names_of pairs)) c.args.errors.now.items
    c.name_all.new.errors.items)) (named c defs are.decls) c.name_all.ensures.checked in
    ok_then c.name_all.result (checks_wider (λ (at : Pos) taken. of_declarations at (term_twice at (declared_twice types defs at taken)))
    (subst AreDistinct (declarations_named defs))) checked
