use Rattle.std.proofs.Common.{◌≡◌, List, true, sym, ap, subst, ◌∙◌, slice_get, Contains}
use Rattle.std.specs.List.{filter_map}
use Rattle.isle_types.specs.TypeTables.{TypeTables}
use Rattle.isle_rules.specs.Shown.TermTables.{TermTables}
use Rattle.isle_meaning.specs.ValueTypes.{data_kind}
use Rattle.isle_blocks.specs.declared.constraint.Constraint.{Constraint}
use Rattle.isle_program.specs.Programs.{terms_of, types_of}
use Rattle.isle_program.specs.Tables.{kind_of_type}
use Rattle.isle_coverage.specs.Inside.Complete.{HaveConstants, KeepsTests, kind_of_builtin, own_test}
use Rattle.isle_coverage.proofs.Completeness.{HaveData, of_builtin, of_data}
use Rattle.isle_coverage.proofs.complete.complete_tests.Goals as goal

pub returns-then-branch : goal.returns-then-branch
returns-then-branch c = λ few v typed.
    let program = c.args.program.now in
    let ty = c.args.ty in
    let first = c.in_ok-tests.tests.items in
    let all = c.add_literals.new.tests.items in
    let kept : KeepsTests first all = λ d m. c.in_ok-add_literals.ensures.kept d (c.in_ok-add_constants.ensures.kept d m) in
    let same : first ≡ filter_map (own_test ty) (terms_of program).terms =
    c.in_ok-tests.ensures ∙ ap (filter_map (own_test ty)) (c.terms-2.ensures ∙ ap (λ (e : TermTables). e.terms) c.terms.ensures) in
    let with_data : HaveData program ty all = λ d m. kept d (subst (λ (l : List Constraint). Contains l d) (sym same) m) in
    let constants : HaveConstants (types_of program) ty all =
    subst (λ (types : TypeTables). HaveConstants types ty all) c.types-3.ensures
    (λ name e.
    (let (symbol, there, named) = c.in_ok-add_constants.ensures.constants name e in
    (symbol, c.in_ok-add_literals.ensures.kept _ there, named))) in
    let kind : kind_of_type (slice_get (types_of program).types ty.0) ≡ kind_of_builtin c.in-Some.builtin =
    subst (λ (types : TypeTables). kind_of_type (slice_get types.types ty.0) ≡ kind_of_builtin c.in-Some.builtin) c.types-2.ensures
    c.in-Some.ensures in
    of_builtin program ty all few with_data constants c.in-Some.builtin (c.in_ok-add_literals.ensures.literals c.if-branch.true) kind v typed

pub returns-then-is_data_type : goal.returns-then-is_data_type
returns-then-is_data_type c = λ few v typed.
    let program = c.args.program.now in
    let ty = c.args.ty in
    let all = c.in_ok-tests.tests.items in
    let same : all ≡ filter_map (own_test ty) (terms_of program).terms =
    c.in_ok-tests.ensures ∙ ap (filter_map (own_test ty)) (c.terms-2.ensures ∙ ap (λ (e : TermTables). e.terms) c.terms.ensures) in
    let with_data : HaveData program ty all = λ d m. subst (λ (l : List Constraint). Contains l d) (sym same) m in
    let yes : c.is_data_type.result ≡ true = cc in
    let kind : kind_of_type (slice_get (types_of program).types ty.0) ≡ data_kind =
    subst (λ (types : TypeTables). kind_of_type (slice_get types.types ty.0) ≡ data_kind) c.types.ensures (c.is_data_type.ensures yes) in
    of_data program ty all few with_data kind v typed
