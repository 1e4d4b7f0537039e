use Rattle.std.proofs.Common.{◌<◌, ℕ, List, length, map, refl, subst, ◌∙◌, rules}
use Rattle.std.specs.Option.{MatchOption}
use Rattle.std.proofs.lemmas.Option.{slice_get_read}
use Rattle.isle_ast.specs.declared.ast.StructField.{StructField as StructFieldTree}
use Rattle.isle_types.specs.declared.types.StructField.{StructField}
use Rattle.isle_types.specs.Names.{AreDistinct, IsDuplicate}
use Rattle.isle_types.specs.TypeTables.{TypeTables}
use Rattle.isle_types.proofs.NamedItems.{once_through, duplicate_through, duplicate_tree}
use Rattle.isle_types.proofs.ReportedFaults.{reported_so}
use Rattle.isle_types.proofs.env.TypeEnv.check_fields.Goals as goal
use Rattle.isle_types.proofs.env.TypeEnv.check_fields.Goals.{In-Some}

abbrev tree_name : StructFieldTree → List ℕ
tree_name tree = tree.name.0

abbrev field_name : StructField → Rattle.isle_types.specs.declared.ids.Sym.Sym
field_name field = field.name

duplicate_of : (c : In-Some) → IsDuplicate (map tree_name c.args.trees.now) c.in-Some.place
duplicate_of c =
    let found = subst (λ t. MatchOption t (AreDistinct c.as_slice.result.now)
    (IsDuplicate c.as_slice.result.now)) c.in-Some.is c.in_ok-duplicate.ensures in
    let names = c.as_slice.ensures.value ∙ c.in_ok-names.ensures in
    duplicate_through tree_name field_name c.args.self.now.names c.args.trees.now c.args.fields.now c.requires c.in-Some.place
    (subst (λ ns. IsDuplicate ns c.in-Some.place) names found)

within_of : (c : In-Some) → c.in-Some.place < length c.args.trees.now
within_of c = duplicate_tree tree_name c.args.trees.now c.in-Some.place (duplicate_of c)

pub returns-in-None-clause-once : goal.returns-in-None-clause-once
returns-in-None-clause-once c =
    let once = subst (λ t. MatchOption t (AreDistinct c.as_slice.result.now)
    (IsDuplicate c.as_slice.result.now)) c.in-None.is c.in_ok-duplicate.ensures in
    let names = c.as_slice.ensures.value ∙ c.in_ok-names.ensures in
    once_through tree_name field_name c.args.self.now.names
    (subst (λ (tables : TypeTables). AreDistinct tables.names) c.self.view_is c.self.invariant.once) c.args.trees.now c.args.fields.now c.requires
    (subst AreDistinct names once)

pub offset_bounds-trees-place : goal.offset_bounds-trees-place
offset_bounds-trees-place c = let within = within_of c in search rules

pub bounds-trees-place : goal.bounds-trees-place
bounds-trees-place c = within_of c

pub returns-clause-fault : goal.returns-clause-fault
returns-clause-fault c =
    let inside = (goal.at.returns-clause-fault c).In-Some in
    reported_so c.part_twice.result _ _ c.part_twice.ensures (λ _. (
      c.in-Some.place,
      (
        c.index-trees-place.result,
        (
          slice_get_read c.args.trees.now (length c.args.trees.now) c.in-Some.place c.index-trees-place.result refl
              (within_of inside) c.index-trees-place.is,
          duplicate_of inside,
          refl,
        ),
      ),
    ))
