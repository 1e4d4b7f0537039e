use Rattle.std.proofs.Common.{◌≡◌, ℕ, List, length, map, sym, ◌∙◌, ap, subst, Option, Some, None, take, slice_get}
use Rattle.std.proofs.lemmas.Result.{err_from_is_err_and}
use Rattle.isle_types.specs.declared.ids.Sym.{Sym}
use Rattle.isle_meaning.specs.Demands.{Demand, Among}
use Rattle.isle_meaning.specs.Numbered.{AreRecorded}
use Rattle.isle_blocks.specs.declared.ids.BindingId.{BindingId}
use Rattle.isle_blocks.specs.declared.binding.Binding.{Binding}
use Rattle.isle_blocks.specs.declared.constraint.Constraint.{Constraint}
use Rattle.isle_blocks.specs.declared.close.Closed.{Closed}
use Rattle.isle_blocks.specs.Rows.{IsInjective, rows_of, constraints_of, pairs_of}
use Rattle.isle_blocks.specs.Tables.{IsTable}
use Rattle.isle_blocks.specs.Inside.ClosureStates.{IsReady}
use Rattle.isle_meaning.specs.Faults.{IsUnreachable}
use Rattle.isle_blocks.specs.Closure.{ClosesTo, HasAllFields}
use Rattle.isle_blocks.specs.Inside.FieldOrder.{AreFieldsInOrder}
use Rattle.isle_blocks.specs.Inside.Placing.{GrowsFor, IsPutFirst}
use Rattle.isle_blocks.specs.Inside.MovedSites.{new_number, moved_test, moved_pair, MovesSites}
use Rattle.isle_blocks.proofs.Rows.Placed.{by_number, by_number_injective, after_ok, still_ready, still_recorded}
use Rattle.isle_blocks.proofs.Rows.PlacedRoom.{dead_recorded, recorded_field, closing_lacks_room, moving_lacks_room, closed_grows, moved_grows}
use Rattle.isle_blocks.proofs.placing.open_fields.Goals as goal

-- what the calls were lent is what was moved
record AreMoved (has given_has : List (BindingId × Constraint)) (same given_same : List (BindingId × BindingId))
    (numbers : List BindingId) : Type 0 where
  tests : given_has ≡ map (moved_test (new_number numbers)) has
  pairs : given_same ≡ map (moved_pair (new_number numbers)) same

module _ (base own after : List Binding) (numbers : List BindingId) (moves : MovesSites base own numbers after) (base_ok : IsTable base)
    (has given_has : List (BindingId × Constraint)) (same given_same : List (BindingId × BindingId)) (ready : IsReady own has same)
    (are : AreMoved has given_has same given_same numbers) where
  ready_given : IsReady after given_has given_same
  ready_given =
      subst (λ z. IsReady after z given_same) (sym are.tests)
      (subst (λ z. IsReady after (map (moved_test (new_number numbers)) has) z) (sym are.pairs)
      (still_ready base own after numbers moves base_ok ready.sites by_number by_number_injective has same ready))

  recorded_given : (name : Sym → List ℕ) → IsInjective name → (ds : List Demand)
      → AreRecorded (rows_of name own) (constraints_of name has) (pairs_of same) ds
      → AreRecorded (rows_of name after) (constraints_of name given_has) (pairs_of given_same) ds
  recorded_given name injective ds recorded =
      subst (λ z. AreRecorded (rows_of name after) (constraints_of name z) (pairs_of given_same) ds) (sym are.tests)
      (subst (λ z. AreRecorded (rows_of name after) (constraints_of name (map (moved_test (new_number numbers)) has)) (pairs_of z) ds) (sym are.pairs)
      (still_recorded base own after numbers moves base_ok ready.sites name injective has same ds recorded))

-- what the calls were given
pub close-requires : goal.close-requires
close-requires c =
    let base = c.args.table.now in let own = take c.args.own c.args.sites.now in let mid = c.move_sites.new.table in
    let numbers = c.in_ok-numbers.numbers.items in
    let has = c.args.has.now in let same = c.args.same.now in let given_has = c.deref-3.result.now in let given_same = c.deref-4.result.now in
    let are : AreMoved has given_has same given_same numbers = record {
      tests = c.deref-3.ensures.value ∙ c.in_ok-has.ensures ∙ ap (λ (l : List BindingId). map (moved_test (new_number l)) has) c.deref.ensures.value;
      pairs = c.deref-4.ensures.value ∙ c.in_ok-same.ensures ∙ ap (λ (l : List BindingId). map (moved_pair (new_number l)) same)
          c.deref-2.ensures.value;
    } in
    ready_given base own mid numbers c.in_ok-numbers.ensures.moved c.requires.table has given_has same given_same c.requires.ready are

pub returns-in_err-numbers-clause-full : goal.returns-in_err-numbers-clause-full
returns-in_err-numbers-clause-full c =
    let e = err_from_is_err_and c.from_residual.result c.from_residual.ensures.1 in
    rw (e.1, e.2) (λ size name injective ds are rows fits has_base has_own has_fields.
    moving_lacks_room c.args.table.now (take c.args.own c.args.sites.now) c.requires.table c.requires.ready.sites
    name injective ds c.move_sites.new.table
    (c.in_err-numbers.ensures.full size) rows fits has_base has_own)

pub returns-in_err-close-clause-full : goal.returns-in_err-close-clause-full
returns-in_err-close-clause-full c =
    let base = c.args.table.now in let own = take c.args.own c.args.sites.now in let mid = c.move_sites.new.table in
    let numbers = c.in_ok-numbers.numbers.items in
    let has = c.args.has.now in let same = c.args.same.now in let given_has = c.deref-3.result.now in let given_same = c.deref-4.result.now in
    let are : AreMoved has given_has same given_same numbers = record {
      tests = c.deref-3.ensures.value ∙ c.in_ok-has.ensures ∙ ap (λ (l : List BindingId). map (moved_test (new_number l)) has) c.deref.ensures.value;
      pairs = c.deref-4.ensures.value ∙ c.in_ok-same.ensures ∙ ap (λ (l : List BindingId). map (moved_pair (new_number l)) same)
          c.deref-2.ensures.value;
    } in
    let e = err_from_is_err_and c.from_residual-in_err-close.result c.from_residual-in_err-close.ensures.1 in
    rw (e.1, e.2) (λ size name injective ds recorded.
    let given = recorded_given base own mid numbers c.in_ok-numbers.ensures.moved c.requires.table has given_has same given_same c.requires.ready are
    name injective ds recorded in
    closing_lacks_room base own c.requires.table c.requires.ready.sites name injective ds mid numbers c.in_ok-numbers.ensures.moved
    given_has given_same given
    (c.in_err-close.ensures.full size name injective).1)

-- a table that is closed, or stays, has grown by a rule's sites and fields alone
grows : (name : Sym → List ℕ) (injective : IsInjective name) (ds : List Demand) (base own between table : List Binding) (numbers : List BindingId)
    (has : List (BindingId × Constraint)) (same : List (BindingId × BindingId)) (closed : Option Closed)
    → MovesSites base own numbers between → IsTable base → IsTable own → AreRecorded (rows_of name between)
    (constraints_of name has) (pairs_of same) ds
    → ClosesTo between has same table closed → GrowsFor name ds base own table
grows name injective ds base own between table numbers has same None moved base_ok own_ok recorded closes =
    subst (λ (t : List Binding). GrowsFor name ds base own t) (sym closes.1)
    (moved_grows name injective ds base own between numbers moved base_ok own_ok)
grows name injective ds base own between table numbers has same (Some closed) moved base_ok own_ok recorded closes =
    closed_grows name injective ds base own between table numbers has same closed.each.items closed.class.items moved base_ok own_ok recorded
    (closes name injective)

pub returns-clause-opened : goal.returns-clause-opened
returns-clause-opened c = λ name injective ds recorded.
    let base = c.args.table.now in let own = take c.args.own c.args.sites.now in let mid = c.move_sites.new.table in
    let numbers = c.in_ok-numbers.numbers.items in
    let has = c.args.has.now in let same = c.args.same.now in let given_has = c.deref-3.result.now in let given_same = c.deref-4.result.now in
    let are : AreMoved has given_has same given_same numbers = record {
      tests = c.deref-3.ensures.value ∙ c.in_ok-has.ensures ∙ ap (λ (l : List BindingId). map (moved_test (new_number l)) has) c.deref.ensures.value;
      pairs = c.deref-4.ensures.value ∙ c.in_ok-same.ensures ∙ ap (λ (l : List BindingId). map (moved_pair (new_number l)) same)
          c.deref-2.ensures.value;
    } in
    let given = recorded_given base own mid numbers c.in_ok-numbers.ensures.moved c.requires.table has given_has same given_same c.requires.ready are
    name injective ds recorded in
    grows name injective ds base own mid c.close.new.sites numbers given_has given_same c.in_ok-close.field-0
    c.in_ok-numbers.ensures.moved c.requires.table
    c.requires.ready.sites given c.in_ok-close.ensures.closed

-- a table that is closed, or stays, is a table
closes_table : (base own between table : List Binding) (numbers : List BindingId) (has : List (BindingId × Constraint))
    (same : List (BindingId × BindingId))
    (closed : Option Closed) → MovesSites base own numbers between → IsTable base → IsTable own → ClosesTo between has same table closed
    → IsTable table
closes_table base own between table numbers has same None moved base_ok own_ok closes =
    subst IsTable (sym closes.1) (after_ok base own between numbers moved base_ok own_ok by_number by_number_injective)
closes_table base own between table numbers has same (Some closed) moved base_ok own_ok closes = (closes by_number by_number_injective).sites

pub returns-clause-kept : goal.returns-clause-kept
returns-clause-kept c =
    closes_table c.args.table.now (take c.args.own c.args.sites.now) c.move_sites.new.table c.close.new.sites
    c.in_ok-numbers.numbers.items c.deref-3.result.now
    c.deref-4.result.now c.in_ok-close.field-0 c.in_ok-numbers.ensures.moved c.requires.table c.requires.ready.sites c.in_ok-close.ensures.closed

-- the sites moved into a table that is closed, or stays, stand first in it
put_first : (base own between table : List Binding) (ids : List BindingId) (has : List (BindingId × Constraint)) (same : List (BindingId × BindingId))
    (closed : Option Closed) → MovesSites base own ids between → ClosesTo between has same table closed → AreFieldsInOrder (length between) table
    → IsPutFirst base own table
put_first base own between table ids has same None moved closes fields = record {
  ids = ids;
  mid = between;
  moved = moved;
  kept = λ k b e. subst (λ (t : List Binding). slice_get t k ≡ Some b) (sym closes.1) e;
  fields = fields;
}
put_first base own between table ids has same (Some closed) moved closes fields = record {
  ids = ids;
  mid = between;
  moved = moved;
  kept = (closes by_number by_number_injective).kept;
  fields = fields;
}

pub returns-clause-first : goal.returns-clause-first
returns-clause-first c = λ more.
    put_first c.args.table.now (take c.args.own c.args.sites.now) c.move_sites.new.table c.close.new.sites
    c.in_ok-numbers.numbers.items c.deref-3.result.now
    c.deref-4.result.now c.in_ok-close.field-0 c.in_ok-numbers.ensures.moved c.in_ok-close.ensures.closed c.in_ok-close.ensures.ordered

-- a table that is closed has all fields that demands open which some values meet
closes_fields : (name : Sym → List ℕ) (injective : IsInjective name) (ds : List Demand) (between table : List Binding)
    (has : List (BindingId × Constraint))
    (same : List (BindingId × BindingId)) (closed : Option Closed) → AreRecorded (rows_of name between) (constraints_of name has) (pairs_of same) ds
    → ClosesTo between has same table closed → (IsUnreachable (Among ds) → ⊥) → HasAllFields (Among ds) (rows_of name table)
closes_fields name injective ds between table has same None recorded closes alive =
    absurd (alive (dead_recorded name between has same ds recorded (closes.0 name injective)))
closes_fields name injective ds between table has same (Some closed) recorded closes alive = λ s u f.
    (closes name injective).fields s u (recorded_field name between has same ds recorded s u f)

pub returns-clause-fields : goal.returns-clause-fields
returns-clause-fields c = λ more name injective ds recorded.
    let base = c.args.table.now in let own = take c.args.own c.args.sites.now in let mid = c.move_sites.new.table in
    let numbers = c.in_ok-numbers.numbers.items in
    let has = c.args.has.now in let same = c.args.same.now in let given_has = c.deref-3.result.now in let given_same = c.deref-4.result.now in
    let are : AreMoved has given_has same given_same numbers = record {
      tests = c.deref-3.ensures.value ∙ c.in_ok-has.ensures ∙ ap (λ (l : List BindingId). map (moved_test (new_number l)) has) c.deref.ensures.value;
      pairs = c.deref-4.ensures.value ∙ c.in_ok-same.ensures ∙ ap (λ (l : List BindingId). map (moved_pair (new_number l)) same)
          c.deref-2.ensures.value;
    } in
    let given = recorded_given base own mid numbers c.in_ok-numbers.ensures.moved c.requires.table has given_has same given_same c.requires.ready are
    name injective ds recorded in
    closes_fields name injective ds mid c.close.new.sites given_has given_same c.in_ok-close.field-0 given c.in_ok-close.ensures.closed
