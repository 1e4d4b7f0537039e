use Rattle.std.proofs.Common.{◌≡◌, ◌∙◌, ap, subst, List, map}
use Rattle.std.specs.Prelude.{IfOk, OnOk}
use Rattle.isle_ast.specs.declared.ast.Def.{Def}
use Rattle.isle_ast.specs.declared.pos.Pos.{Pos}
use Rattle.isle_types.specs.Names.{AreDistinct}
use Rattle.isle_rules.specs.Definitions.{external_constructors}
use Rattle.isle_terms.specs.TermFaults.{names_of, IsTaken}
use Rattle.isle_terms.specs.TypingFaults.{of_constructors}
use Rattle.isle_terms.specs.Inside.Collecting.Checks.{Checks}
use Rattle.isle_terms.specs.Inside.Collecting.DefinitionLists.{host_constructor_shown}
use Rattle.isle_terms.specs.Inside.Collecting.NameTables.{IsTableOf}
use Rattle.isle_terms.specs.Inside.Collecting.NamedItems.{named_shown, named_host_constructor}
use Rattle.isle_terms.proofs.Collections.Answered.{ok_then}
use Rattle.isle_terms.proofs.Collections.CheckedDefinitions.{hosts_named, second_host_breaks}
use Rattle.isle_terms.proofs.Collections.CheckedTyping.{checks_wider}
use Rattle.isle_terms.proofs.Collections.PartNames.{host_pairs, hosts_pair}
use Rattle.isle_terms.proofs.env.names.name_host_constructors.Goals as goal

-- what is named are the external constructors
named : (c : goal.After-drop-named) (defs : List Def)
    → map host_constructor_shown c.args.parts.now.host_constructors.items ≡ external_constructors defs
    → map named_shown c.as_slice-2.result.now ≡ host_pairs defs
named c defs are =
    ap (map named_shown) c.as_slice-2.ensures.value ∙ c.in_ok-named.ensures ∙ ap (map named_host_constructor) c.as_slice.ensures.value
    ∙ hosts_pair defs c.args.parts.now.host_constructors.items are

pub returns-clause-table : goal.returns-clause-table
returns-clause-table c = λ defs are.
    subst (λ names. IfOk c.name_all.result (IsTableOf names)) (ap names_of (named c defs are.host_constructors) ∙ hosts_named defs)
    c.name_all.ensures.table

pub returns-clause-checked : goal.returns-clause-checked
returns-clause-checked c = λ types expands levels defs are.
    let checked = subst (λ pairs. OnOk c.name_all.result (Checks (IsTaken pairs) (AreDistinct (names_of pairs)) c.args.errors.now.items
    c.name_all.new.errors.items)) (named c defs are.host_constructors) c.name_all.ensures.checked in
    ok_then c.name_all.result (checks_wider (λ (at : Pos) taken. of_constructors at (second_host_breaks defs at taken))
    (subst AreDistinct (hosts_named defs))) checked
