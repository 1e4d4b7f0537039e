use Rattle.std.proofs.Common.{if◌then◌else◌, Some, bytes_eq, ap, ◌∙◌}
use Rattle.isle_types.specs.TypeTables.{TypeTables}
use Rattle.isle_types.specs.TypeEnvs.{type_of_constant}
use Rattle.isle_types.proofs.Tables.{either_way, symbol_here}
use Rattle.isle_types.proofs.Naming.{named_given, interned_after}
use Rattle.isle_types.proofs.env.TypeEnv.set_constant.Goals as goal

pub invariant_of-self : goal.invariant_of-self
invariant_of-self c =
    let env = c.self.inside in
    record {
      once = c.self.invariant.once;
      constants_named = interned_after env.symbols c.args.name.now.0 c.in_ok-sym.sym env.const_types c.insert.new.self c.args.ty
          (symbol_here c.intern_str.new.self _ c.args.name.now.0 c.in_ok-sym.sym c.self.view_is
          (c.in_ok-sym.ensures.symbol ∙ ap Some c.as_str.ensures)) c.self.invariant.constants_named
          (either_way c.insert.result c.insert.ensures.values c.insert.ensures.unchanged);
      types_named = c.self.invariant.types_named;
    }

pub invariant_of-self-2 : goal.invariant_of-self-2
invariant_of-self-2 c =
    let env = c.self.inside in
    record {
      once = c.self.invariant.once;
      constants_named = interned_after env.symbols c.args.name.now.0 c.in_ok-sym.sym env.const_types c.insert.new.self c.args.ty
          (symbol_here c.intern_str.new.self _ c.args.name.now.0 c.in_ok-sym.sym c.self.view_is
          (c.in_ok-sym.ensures.symbol ∙ ap Some c.as_str.ensures)) c.self.invariant.constants_named
          (either_way c.insert.result c.insert.ensures.values c.insert.ensures.unchanged);
      types_named = c.self.invariant.types_named;
    }

pub returns-clause-set : goal.returns-clause-set
returns-clause-set c = λ q.
    let env = c.self.inside in
    named_given env.symbols c.args.name.now.0 c.in_ok-sym.sym env.const_types c.insert.new.self c.args.ty c.self.invariant.once
    c.self.invariant.constants_named
    (symbol_here c.intern_str.new.self _ c.args.name.now.0 c.in_ok-sym.sym c.self.view_is
    (c.in_ok-sym.ensures.symbol ∙ ap Some c.as_str.ensures)) c.in_ok-insert.ensures.values q
    ∙ ap (λ o. if bytes_eq q c.args.name.now.0 then Some c.args.ty else o)
    (ap (λ (tables : TypeTables). type_of_constant tables q) (c.self.view_is ∙ c.intern_str.ensures.same.same))
