use Rattle.std.proofs.Common.{◌≡◌, None, Some, subst, sym, ◌∙◌}
use Rattle.std.specs.Option.{option_and_then}
use Rattle.isle_types.specs.Interned.{entry_of}
use Rattle.isle_types.specs.TypeTables.{TypeTables}
use Rattle.isle_types.specs.TypeEnvs.{type_of_constant}
use Rattle.isle_types.proofs.NamedTables.{found_entry}
use Rattle.isle_types.proofs.env.TypeEnv.const_type.Goals as goal

pub returns-in_err-sym : goal.returns-in_err-sym
returns-in_err-sym c =
    let env = c.self.inside in
    c.from_residual.ensures ∙ sym (subst
    (λ (tables : TypeTables). type_of_constant tables c.args.name.now ≡ option_and_then (entry_of env.const_types) None) c.self.view_is
    (found_entry env.symbols env.const_types c.self.invariant.once c.self.invariant.constants_named c.args.name.now None c.in_err-sym.ensures.found))

pub returns : goal.returns
returns c =
    let env = c.self.inside in
    c.copied.ensures ∙ c.get.ensures
    ∙ sym (subst (λ (tables : TypeTables). type_of_constant tables c.args.name.now ≡ option_and_then (entry_of env.const_types)
    (Some c.in_ok-sym.sym)) c.self.view_is
    (found_entry env.symbols env.const_types c.self.invariant.once c.self.invariant.constants_named c.args.name.now
    (Some c.in_ok-sym.sym) c.in_ok-sym.ensures.found))
