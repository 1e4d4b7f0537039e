use Rattle.std.proofs.Common.{ap, ◌∙◌}
use Rattle.isle_types.specs.Names.{with_name}
use Rattle.isle_types.specs.TypeTables.{TypeTables}
use Rattle.isle_types.proofs.Tables.{seen, either_way, ok_then, err_then, interned_view, interned_more, names_kept, tables_kept}
use Rattle.isle_types.proofs.env.TypeEnv.intern_str.Goals as goal

pub returns-clause-ok : goal.returns-clause-ok
returns-clause-ok c =
    let env = c.self.inside in
    ok_then c.intern.result (λ is.
    ap (λ names. seen names env.types.items env.type_map env.const_types env.errors.items) is
    ∙ interned_view env.symbols c.args.name.now env.types.items env.type_map env.const_types env.errors.items c.self.invariant
    ∙ ap (λ (tables : TypeTables). record tables { names = with_name tables.names c.args.name.now }) c.self.view_is) c.intern.ensures.ok

pub returns-clause-err : goal.returns-clause-err
returns-clause-err c =
    let env = c.self.inside in
    err_then c.intern.result (λ is. ap (λ names. seen names env.types.items env.type_map env.const_types env.errors.items) is
    ∙ c.self.view_is) c.intern.ensures.err

pub returns-clause-same : goal.returns-clause-same
returns-clause-same c =
    interned_more c.args.self.now _ c.args.name.now (either_way c.intern.result (returns-clause-ok c) (returns-clause-err c))

pub invariant_of-self : goal.invariant_of-self
invariant_of-self c =
    let env = c.self.inside in
    tables_kept env.symbols c.intern.new.self env.type_map env.const_types
    (names_kept env.symbols c.intern.new.self c.args.name.now
    (either_way c.intern.result c.intern.ensures.ok c.intern.ensures.err)) c.intern.ensures.once c.self.invariant
