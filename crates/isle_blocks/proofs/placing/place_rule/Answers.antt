use Rattle.std.proofs.Common.{◌≡◌, ℕ, suc, List, [], ◌∷◌, length, take, slice_get, sym, ap, ◌∙◌, subst, refl, arith, Option, Some, None, ◌≤◌, ◌<◌, inl, inr, take_all}
use Rattle.std.proofs.lemmas.Option.{same_Some, none-some}
use Rattle.std.proofs.lemmas.Result.{err_from_is_err_and}
use Rattle.isle_blocks.specs.declared.ids.BindingId.{BindingId}
use Rattle.isle_blocks.specs.declared.binding.Binding.{Binding}
use Rattle.isle_blocks.specs.declared.close.Closed.{Closed}
use Rattle.isle_blocks.specs.declared.constraint.Constraint.{Constraint}
use Rattle.isle_types.specs.declared.ids.Sym.{Sym}
use Rattle.isle_meaning.specs.Sites.{Site}
use Rattle.isle_meaning.specs.Demands.{Demand, Among}
use Rattle.isle_meaning.specs.Faults.{IsUnreachable}
use Rattle.isle_meaning.specs.Numbered.{At, AreRecorded}
use Rattle.isle_blocks.specs.Rows.{IsInjective, rows_of, constraints_of, pairs_of}
use Rattle.isle_blocks.specs.Closure.{ClosesTo, Stands, HasAllFields, IsClosure}
use Rattle.isle_blocks.specs.Inside.ClosureStates.{IsReady, demanded_in}
use Rattle.isle_blocks.specs.Inside.Placing.{ForDemandsOf, GrowsFor, IsPutFirst, HasNoRoomFor}
use Rattle.isle_blocks.specs.Inside.MovedSites.{MovesSites, EndsFull}
use Rattle.std.proofs.lemmas.Bool.{cases_lt}
use Rattle.isle_blocks.specs.Tables.{IsTable}
use Rattle.isle_blocks.proofs.Rows.Placed.{by_number, by_number_injective, after_ok, to_at, settled}
use Rattle.isle_blocks.proofs.Closure.Longer.{stays}
use Rattle.isle_blocks.proofs.Closure.FieldOrder.{none_added}
use Rattle.isle_blocks.proofs.Rows.PlacedRoom.{dead_recorded, recorded_dead, stays_put, grown_site, own_lacks_room, grown_lacks_room}
use Rattle.isle_blocks.proofs.placing.place_rule.Goals as goal

pub returns-in_err-closed-clause-full : goal.returns-in_err-closed-clause-full
returns-in_err-closed-clause-full c =
    let own = c.args.own.now in let has = c.args.has.now in let same = c.args.same.now in
    let e = err_from_is_err_and c.from_residual.result c.from_residual.ensures.1 in
    rw (e.1, e.2) (λ size name injective ds are.
    let (alive, lacks) = c.in_err-closed.ensures.full size name injective in (
      λ dead. alive (recorded_dead name own has same ds are dead),
      own_lacks_room c.args.table.now own c.requires.table c.requires.ready.sites name injective ds has same are lacks,
    ))

-- the own sites are the first of those that they have grown to
own_first : (own grown : List Binding) → ((k : ℕ) (b : Binding) → slice_get own k ≡ Some b → slice_get grown k ≡ Some b)
    → take (length own) grown ≡ own
own_first [] grown kept = refl
own_first (b ∷ own) [] kept = absurd (none-some b (kept 0 b refl))
own_first (b ∷ own) (g ∷ grown) kept =
    let same : g ≡ b = same_Some g b (kept 0 b refl) in
    let rest = own_first own grown (λ k x e. kept (suc k) x e) in
    λ i. same i ∷ rest i

-- what is first of the closed sites
first_of : (own has-sites : List Binding) (has : List (BindingId × Constraint)) (same : List (BindingId × BindingId))
    (grown : List Binding) (closed : Closed)
    → ClosesTo own has same grown (Some closed) → (count : ℕ) → count ≡ length own → has-sites ≡ grown → take count has-sites ≡ own
first_of own sites has same grown closed closes count counts is =
    ap (λ (n : ℕ). take n sites) counts ∙ ap (take (length own)) is ∙ own_first own grown (closes by_number by_number_injective).kept

-- each site of the closed table stands in the table whose fields are all opened
module _ (name : Sym → List ℕ) (injective : IsInjective name) (ds : List Demand) (base own grown between : List Binding) (base_ok : IsTable base)
    (own_ok : IsTable own) (has : List (BindingId × Constraint)) (same : List (BindingId × BindingId)) (each : List (Option Constraint))
    (class : List ℕ)
    (are : AreRecorded (rows_of name own) (constraints_of name has) (pairs_of same) ds)
    (closure : IsClosure name (demanded_in name own has (pairs_of same)) own grown each class) (first : IsPutFirst base own between)
    (fields : HasAllFields (Among ds) (rows_of name between)) where
  all_there : (s : Site) (k : ℕ) → At (rows_of name grown) s k → Stands (rows_of name between) s
  all_there s k p = elim (grown_site base own base_ok own_ok name injective ds has same are grown each class closure s k p) [
    | inl (j, q) ↦
        let at = to_at base own first.mid first.ids first.moved base_ok own_ok name injective s j q in
        (_, stays name first.mid between first.kept s _ at)
    | inr (t, f) ↦ fields t s f
  ]

-- the own sites stand first behind the table, and then fields
module _ (base own grown between table : List Binding) (ids : List BindingId) (kept : (k : ℕ) (b : Binding)
    → slice_get own k ≡ Some b → slice_get grown k ≡ Some b)
    (moved : MovesSites between grown ids table) where
  in_order : (length grown ≤ length own → between ≡ base) → (length own < length grown → IsPutFirst base own between × (table ≡ between))
      → IsPutFirst base own table
  in_order stays_same first = elim (cases_lt (length own) (length grown)) [
    | inl more ↦ let (put, same) = first more in subst (λ (l : List Binding). IsPutFirst base own l) (sym same) put
    | inr fits ↦
        let one : grown ≡ own = sym (take_all (length own) grown fits) ∙ own_first own grown kept in
        record {
          ids = ids;
          mid = table;
          moved = subst (λ (b : List Binding). MovesSites b own ids table) (stays_same fits)
              (subst (λ (l : List Binding). MovesSites between l ids table) one moved);
          kept = λ k b e. e;
          fields = none_added table;
        }
  ]

pub open_fields-requires-clause-ready : goal.open_fields-requires-clause-ready
open_fields-requires-clause-ready c =
    let own = c.args.own.now in let has = c.args.has.now in let same = c.args.same.now in let grown = c.close.new.sites in
    let closed : ClosesTo own has same grown (Some c.in-Some.closed) =
    subst (λ (q : Option Closed). ClosesTo own has same grown q) c.in-Some.is c.in_ok-closed.ensures.closed in
    subst (λ (l : List Binding). IsReady l has same)
    (sym (first_of own c.bindings.result.now has same grown c.in-Some.closed closed c.len-count.result c.len-count.ensures.count c.bindings.ensures))
    c.requires.ready

pub returns-in_err-open_fields-clause-full : goal.returns-in_err-open_fields-clause-full
returns-in_err-open_fields-clause-full c =
    let base = c.args.table.now in let own = c.args.own.now in let has = c.args.has.now in let same = c.args.same.now in
    let grown = c.close.new.sites in
    let closed : ClosesTo own has same grown (Some c.in-Some.closed) =
    subst (λ (q : Option Closed). ClosesTo own has same grown q) c.in-Some.is c.in_ok-closed.ensures.closed in
    let first = first_of own c.bindings.result.now has same grown c.in-Some.closed closed c.len-count.result
    c.len-count.ensures.count c.bindings.ensures in
    let e = err_from_is_err_and c.from_residual-in_err-open_fields.result c.from_residual-in_err-open_fields.ensures.1 in
    rw (e.1, e.2) (λ size name injective ds are. (
      λ dead. (closed name injective).reachable (recorded_dead name own has same ds are dead),
      subst (λ (l : List Binding). ForDemandsOf l has same (λ name ds. HasNoRoomFor name ds base l)) first (c.in_err-open_fields.ensures.full size)
          name injective ds are,
    ))

pub returns-in_err-numbers-clause-full : goal.returns-in_err-numbers-clause-full
returns-in_err-numbers-clause-full c =
    let base = c.args.table.now in let own = c.args.own.now in let has = c.args.has.now in let same = c.args.same.now in
    let grown = c.close.new.sites in
    let closed : ClosesTo own has same grown (Some c.in-Some.closed) =
    subst (λ (q : Option Closed). ClosesTo own has same grown q) c.in-Some.is c.in_ok-closed.ensures.closed in
    let first = first_of own c.bindings.result.now has same grown c.in-Some.closed closed c.len-count.result
    c.len-count.ensures.count c.bindings.ensures in
    let opened = subst (λ (l : List Binding). ForDemandsOf l has same (λ name ds. GrowsFor name ds base l c.open_fields.new.table)) first
    c.in_ok-open_fields.ensures.opened in
    let e = err_from_is_err_and c.from_residual-in_err-numbers.result c.from_residual-in_err-numbers.ensures.1 in
    rw (e.1, e.2) (λ size name injective ds are.
    let closure = closed name injective in (
      λ dead. closure.reachable (recorded_dead name own has same ds are dead),
      grown_lacks_room base own c.requires.table c.requires.ready.sites name injective ds has same are grown c.in-Some.closed.each.items
          c.in-Some.closed.class.items closure c.open_fields.new.table (opened name injective ds are) c.move_sites.new.table
          (subst (λ (l : List Binding). EndsFull c.open_fields.new.table l c.move_sites.new.table) c.bindings-2.ensures
          (c.in_err-numbers.ensures.full size)),
    ))

pub returns-in_default-clause-placed : goal.returns-in_default-clause-placed
returns-in_default-clause-placed c = λ name injective ds are.
    let own = c.args.own.now in let has = c.args.has.now in let same = c.args.same.now in
    let closed : ClosesTo own has same c.close.new.sites None =
    subst (λ (q : Option Closed). ClosesTo own has same c.close.new.sites q) c.in_default.is c.in_ok-closed.ensures.closed in
    (dead_recorded name own has same ds are (closed.0 name injective), refl)

pub returns-clause-placed : goal.returns-clause-placed
returns-clause-placed c = λ name injective ds are.
    let base = c.args.table.now in let own = c.args.own.now in let has = c.args.has.now in let same = c.args.same.now in
    let grown = c.close.new.sites in
    let closed : ClosesTo own has same grown (Some c.in-Some.closed) =
    subst (λ (q : Option Closed). ClosesTo own has same grown q) c.in-Some.is c.in_ok-closed.ensures.closed in
    let first = first_of own c.bindings.result.now has same grown c.in-Some.closed closed c.len-count.result
    c.len-count.ensures.count c.bindings.ensures in
    let opened = subst (λ (l : List Binding). ForDemandsOf l has same (λ name ds. GrowsFor name ds base l c.open_fields.new.table)) first
    c.in_ok-open_fields.ensures.opened in
    let len : length c.bindings.result.now ≡ length grown = ap length c.bindings.ensures in
    let count = c.len-count.ensures.count in
    let alive : IsUnreachable (Among ds) → ⊥ = λ dead. (closed name injective).reachable (recorded_dead name own has same ds are dead) in
    let moved = subst (λ (l : List Binding). MovesSites c.open_fields.new.table l c.in_ok-numbers.numbers.items c.move_sites.new.table)
    c.bindings-2.ensures
    c.in_ok-numbers.ensures.moved in
    record {
      reachable = alive;
      has = has;
      same = same;
      recorded = are;
      closure = closed name injective;
      between = c.open_fields.new.table;
      opened = opened name injective ds are;
      moved = moved;
      order = in_order base own grown c.open_fields.new.table c.move_sites.new.table c.in_ok-numbers.numbers.items (closed name injective).kept moved
          (λ fits. c.in_ok-open_fields.ensures.stays (omega (arith, fits, len, count)))
          (λ more.
          let inside : c.len-count.result < length c.bindings.result.now = omega (arith, more, len, count) in
          let put = subst (λ (l : List Binding). IsPutFirst base l c.open_fields.new.table) first (c.in_ok-open_fields.ensures.first inside) in
          let fields = subst (λ (l : List Binding). ForDemandsOf l has same (λ name ds. (IsUnreachable (Among ds) → ⊥)
          → HasAllFields (Among ds) (rows_of name c.open_fields.new.table)))
          first (c.in_ok-open_fields.ensures.fields inside) name injective ds are alive in (
            put,
            stays_put name injective c.open_fields.new.table grown c.move_sites.new.table c.in_ok-numbers.numbers.items moved
                (opened name injective ds are).sites
                (closed name injective).sites
                (all_there name injective ds base own grown c.open_fields.new.table c.requires.table c.requires.ready.sites has same
                c.in-Some.closed.each.items c.in-Some.closed.class.items are (closed name injective) put fields),
          ));
    }

pub returns-clause-kept : goal.returns-clause-kept
returns-clause-kept c =
    let own = c.args.own.now in let has = c.args.has.now in let same = c.args.same.now in let grown = c.close.new.sites in
    let closed : ClosesTo own has same grown (Some c.in-Some.closed) =
    subst (λ (q : Option Closed). ClosesTo own has same grown q) c.in-Some.is c.in_ok-closed.ensures.closed in
    let moved = subst (λ (l : List Binding). MovesSites c.open_fields.new.table l c.in_ok-numbers.numbers.items c.move_sites.new.table)
    c.bindings-2.ensures
    c.in_ok-numbers.ensures.moved in
    after_ok c.open_fields.new.table grown c.move_sites.new.table c.in_ok-numbers.numbers.items moved c.in_ok-open_fields.ensures.kept
    (closed by_number by_number_injective).sites by_number by_number_injective

pub returns-clause-settled : goal.returns-clause-settled
returns-clause-settled c =
    let own = c.args.own.now in let has = c.args.has.now in let same = c.args.same.now in let grown = c.close.new.sites in
    let closed : ClosesTo own has same grown (Some c.in-Some.closed) =
    subst (λ (q : Option Closed). ClosesTo own has same grown q) c.in-Some.is c.in_ok-closed.ensures.closed in
    let moved = subst (λ (l : List Binding). MovesSites c.open_fields.new.table l c.in_ok-numbers.numbers.items c.move_sites.new.table)
    c.bindings-2.ensures
    c.in_ok-numbers.ensures.moved in
    settled c.open_fields.new.table own grown c.move_sites.new.table c.in_ok-numbers.numbers.items has same c.in-Some.closed.each.items
    c.in-Some.closed.class.items moved c.in_ok-open_fields.ensures.kept (closed by_number by_number_injective)
