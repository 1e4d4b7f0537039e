use Rattle.std.proofs.Common.{◌≡◌, ◌∙◌, ◌++◌, ap, subst, List, map, Bor}
use Rattle.std.specs.Prelude.{IfOk, OnOk}
use Rattle.isle_ast.specs.declared.ast.Extractor.{Extractor as ExtractorTree}
use Rattle.isle_ast.specs.declared.ast.Def.{Def}
use Rattle.isle_ast.specs.declared.pos.Pos.{Pos}
use Rattle.isle_types.specs.Names.{AreDistinct}
use Rattle.isle_terms.specs.TermFaults.{names_of, IsTaken, named_extractors}
use Rattle.isle_terms.specs.Inside.Collecting.Checks.{Checks}
use Rattle.isle_terms.specs.Inside.Collecting.NameTables.{IsTableOf}
use Rattle.isle_terms.specs.Inside.Collecting.NamedItems.{named_shown, named_extractor, named_host_extractor}
use Rattle.isle_terms.specs.Inside.Collecting.Parts.{ArePartsOf}
use Rattle.isle_terms.proofs.Collections.Answered.{ok_then}
use Rattle.isle_terms.proofs.Collections.CheckedDefinitions.{extractors_named}
use Rattle.isle_terms.proofs.Collections.CheckedTyping.{checks_wider}
use Rattle.isle_terms.proofs.Collections.PartNames.{extractors_pair}
use Rattle.isle_terms.proofs.env.names.name_extractors.Goals as goal

-- what is named are the extractors
named : (c : goal.After-drop-named-2) (defs : List Def) → ArePartsOf defs c.args.parts.now
    → map named_shown c.as_slice-3.result.now ≡ named_extractors defs
named c defs are =
    ap (map named_shown) c.as_slice-3.ensures.value ∙ c.in_ok-add_host_extractor_names.ensures
    ∙ ap (λ front. front ++ map named_host_extractor c.as_slice-2.result.now) (c.in_ok-named.ensures
    ∙ ap (map (λ (extractor : Bor ExtractorTree). named_extractor extractor.now)) c.as_slice.ensures.value)
    ∙ ap (λ hosts. map (λ (extractor : Bor ExtractorTree). named_extractor extractor.now) c.args.parts.now.extractors.items
    ++ map named_host_extractor hosts) c.as_slice-2.ensures.value
    ∙ extractors_pair defs c.args.parts.now.extractors.items c.args.parts.now.host_extractors.items are.extractors are.host_extractors

pub returns-clause-table : goal.returns-clause-table
returns-clause-table c = λ defs are.
    subst (λ names. IfOk c.name_all.result (IsTableOf names)) (ap names_of (named c defs are) ∙ extractors_named defs) c.name_all.ensures.table

pub returns-clause-checked : goal.returns-clause-checked
returns-clause-checked c = λ defs are.
    let checked = subst (λ pairs. OnOk c.name_all.result (Checks (IsTaken pairs) (AreDistinct (names_of pairs)) c.args.errors.now.items
    c.name_all.new.errors.items)) (named c defs are) c.name_all.ensures.checked in
    ok_then c.name_all.result (checks_wider (λ (at : Pos) taken. taken) (subst AreDistinct (extractors_named defs))) checked
