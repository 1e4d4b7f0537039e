use Rattle.std.proofs.Common.{◌≡◌, subst, sym}
use Rattle.std.specs.Option.{option_and_then}
use Rattle.isle_types.specs.Interned.{entry_of}
use Rattle.isle_types.specs.TypeTables.{TypeTables}
use Rattle.isle_types.specs.TypeEnvs.{sym_named, type_of_constant}
use Rattle.isle_types.proofs.NamedTables.{named_entry}
use Rattle.isle_types.proofs.env.TypeEnv.const_types.Goals as goal

pub returns : goal.returns
returns c = λ name.
    let env = c.self.inside in
    subst (λ (tables : TypeTables). option_and_then (entry_of env.const_types) (sym_named tables name) ≡ type_of_constant tables name) c.self.view_is
    (sym (named_entry env.symbols env.const_types c.self.invariant.once c.self.invariant.constants_named name))
