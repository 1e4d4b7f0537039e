use Rattle.std.proofs.Common.{◌≡◌, ℕ, List, not, true, false, is_some, ap, sym, ◌∙◌}
use Rattle.std.specs.Option.{option_map}
use Rattle.isle_types.specs.Names.{position_of}
use Rattle.isle_types.specs.TypeTables.{TypeTables}
use Rattle.isle_types.specs.TypeEnvs.{type_at, type_of_name}
use Rattle.isle_types.specs.Inside.Readings.{HasTypeNames}
use Rattle.isle_types.proofs.Tables.{either_way, symbol_here}
use Rattle.isle_types.proofs.FieldReadings.{named_kept}
use Rattle.isle_types.proofs.Naming.{entry_of_name, named_given, interned_after, known_from_entry, places_taken, names_given}
use Rattle.isle_types.proofs.env.TypeEnv.name_type.Goals as goal

taken : (c : goal.Then-contains_key) (known : List (List ℕ)) → HasTypeNames c.args.self.now known → is_some (position_of known c.args.name.now) ≡ true
taken c known has =
    let env = c.self.inside in
    let name = c.args.name.now in
    let entry = sym (entry_of_name env.symbols name c.in_ok-sym.sym env.type_map c.self.invariant.once c.self.invariant.types_named
    (symbol_here c.intern_str.new.self _ c.args.name.now c.in_ok-sym.sym c.self.view_is c.in_ok-sym.ensures.symbol))
    ∙ ap (λ (tables : TypeTables). type_of_name tables name) c.self.view_is ∙ named_kept _ _ known c.intern_str.ensures.same has name in
    known_from_entry known name _ entry true (sym c.if-contains_key.true ∙ c.contains_key.ensures)

pub returns-then-contains_key-clause-new : goal.returns-then-contains_key-clause-new
returns-then-contains_key-clause-new c = λ known has. ap not (sym (taken c known has))

pub returns-then-contains_key-clause-named : goal.returns-then-contains_key-clause-named
returns-then-contains_key-clause-named c = λ known has _ q.
    named_kept _ _ known c.intern_str.ensures.same has q ∙ ap (option_map type_at) (sym (places_taken known c.args.name.now (taken c known has) q))

pub invariant_of-self : goal.invariant_of-self
invariant_of-self c =
    let env = c.self.inside in
    record {
      once = c.self.invariant.once;
      types_named = interned_after env.symbols c.args.name.now c.in_ok-sym.sym env.type_map c.insert.new.self c.args.id
          (symbol_here c.intern_str.new.self _ c.args.name.now c.in_ok-sym.sym c.self.view_is c.in_ok-sym.ensures.symbol)
          c.self.invariant.types_named (either_way c.insert.result c.insert.ensures.values c.insert.ensures.unchanged);
      constants_named = c.self.invariant.constants_named;
    }

pub invariant_of-self-2 : goal.invariant_of-self-2
invariant_of-self-2 c =
    let env = c.self.inside in
    record {
      once = c.self.invariant.once;
      types_named = interned_after env.symbols c.args.name.now c.in_ok-sym.sym env.type_map c.insert.new.self c.args.id
          (symbol_here c.intern_str.new.self _ c.args.name.now c.in_ok-sym.sym c.self.view_is c.in_ok-sym.ensures.symbol)
          c.self.invariant.types_named (either_way c.insert.result c.insert.ensures.values c.insert.ensures.unchanged);
      constants_named = c.self.invariant.constants_named;
    }

free : (c : goal.In_ok-insert) (known : List (List ℕ)) → HasTypeNames c.args.self.now known → is_some (position_of known c.args.name.now) ≡ false
free c known has =
    let env = c.self.inside in
    let name = c.args.name.now in
    let entry = sym (entry_of_name env.symbols name c.in_ok-sym.sym env.type_map c.self.invariant.once c.self.invariant.types_named
    (symbol_here c.intern_str.new.self _ c.args.name.now c.in_ok-sym.sym c.self.view_is c.in_ok-sym.ensures.symbol))
    ∙ ap (λ (tables : TypeTables). type_of_name tables name) c.self.view_is ∙ named_kept _ _ known c.intern_str.ensures.same has name in
    known_from_entry known name _ entry false (sym c.if-contains_key.false ∙ c.contains_key.ensures)

pub returns-clause-new : goal.returns-clause-new
returns-clause-new c = λ known has. ap not (sym (free c known has))

pub returns-clause-named : goal.returns-clause-named
returns-clause-named c = λ known has last.
    let env = c.self.inside in
    names_given known c.args.name.now c.args.id _ _ (free c known has) last
    (λ q. ap (λ (tables : TypeTables). type_of_name tables q) c.self.view_is ∙ named_kept _ _ known c.intern_str.ensures.same has q)
    (named_given env.symbols c.args.name.now c.in_ok-sym.sym env.type_map c.insert.new.self c.args.id c.self.invariant.once
    c.self.invariant.types_named
    (symbol_here c.intern_str.new.self _ c.args.name.now c.in_ok-sym.sym c.self.view_is c.in_ok-sym.ensures.symbol)
    c.in_ok-insert.ensures.values)
