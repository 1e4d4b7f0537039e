use Rattle.std.proofs.Common.{◌≡◌, Some, None, IsTrue, sym, ◌∙◌, ap, subst}
use Rattle.std.specs.Prelude.{IsSome, slice_get}
use Rattle.std.specs.Option.{option_map, option_and_then}
use Rattle.isle_rules.specs.Shown.TermTables.{TermTables}
use Rattle.isle_values.specs.Worlds.Externals.{asked_of, asked_by, types_shown}
use Rattle.isle_values.specs.Worlds.Tables.{entry_at}
use Rattle.isle_values.proofs.TableWorlds.Refusals.{misses_iff}
use Rattle.isle_values.proofs.worlds.reading.lacks_else_on.Goals as goal

pub returns : goal.returns
returns c =
    let program = c.args.program.now in let side = c.args.side in let term = c.args.term in
    let asked : asked_by program side term ≡ Some (types_shown c.in-Some-external_of.external) =
    ap (option_and_then (asked_of side)) (sym (c.in-Some.ensures ∙ ap (λ (env : TermTables). slice_get env.terms term.0) c.terms.ensures))
    ∙ sym c.external_of.ensures ∙ ap (option_map types_shown) c.in-Some-external_of.is in
    misses_iff program c.args.world.now term side (types_shown c.in-Some-external_of.external) c.in_ok-found.found asked c.if-external.false
    (subst (λ name. (IsTrue c.in_ok-found.found → IsSome (entry_at c.args.world.now side name None))
    × (IsSome (entry_at c.args.world.now side name None) → IsTrue c.in_ok-found.found))
    c.name.ensures c.in_ok-found.ensures)
