use Rattle.std.proofs.Common.{◌<◌, subst}
use Rattle.std.specs.Prelude.{MatchOption}
use Rattle.std.proofs.lemmas.Result.{err_from_is_err_and}
use Rattle.isle_types.specs.declared.ids.TermId.{TermId}
use Rattle.isle_values.specs.Worlds.Texts.{SpellEntries, SpellsWorld}
use Rattle.isle_values.specs.Worlds.Reading.{RefusedBehind, MissesElse}
use Rattle.isle_values.proofs.TableWorlds.Refusals.{behind_refused, lacking, missing, tokens_placed}
use Rattle.isle_values.proofs.worlds.table.TableWorld.read.Goals as goal

pub returns-in_err-tokens-clause-refused : goal.returns-in_err-tokens-clause-refused
returns-in_err-tokens-clause-refused c =
    let e = err_from_is_err_and c.from_residual.result c.from_residual.ensures.1 in rw (e.1, e.2) (c.in_err-tokens.ensures.fault c.args.program.now)

pub returns-in_err-world-clause-refused : goal.returns-in_err-world-clause-refused
returns-in_err-world-clause-refused c =
    let e = err_from_is_err_and c.from_residual-in_err-world.result c.from_residual-in_err-world.ensures.1 in
    let program = c.args.program.now in
    let tokens = c.in_ok-tokens.tokens.items in let offsets = c.in_ok-tokens.offsets.items in let fault = c.in_err-world.field-0.0 in
    let refused : RefusedBehind program tokens offsets fault =
    subst (λ l. RefusedBehind program l offsets fault) c.as_slice.ensures.value
    (subst (λ l. RefusedBehind program c.as_slice.result.now l fault) c.as_slice-2.ensures.value c.in_err-world.ensures.refused) in
    rw (e.1, e.2) (behind_refused program c.args.text.now tokens offsets fault c.in_ok-tokens.ensures.placed refused)

pub returns-in-Some-clause-refused : goal.returns-in-Some-clause-refused
returns-in-Some-clause-refused c =
    let program = c.args.program.now in let world = c.in_ok-world.world in
    let (entries, good, has) = c.in_ok-world.ensures.read in
    let spelt = subst (λ l. SpellEntries program l entries) c.as_slice.ensures.value good in
    let found = subst (λ o. MatchOption o ((term : TermId) → MissesElse program world term → ⊥)
    (λ term. MissesElse program world term × ((other : TermId) → other.0 < term.0 → MissesElse program world other → ⊥)))
    c.in-Some.is c.in_ok-term.ensures in (
      entries,
      c.in_ok-tokens.tokens.items,
      tokens_placed c.args.text.now c.in_ok-tokens.tokens.items c.in_ok-tokens.offsets.items c.in_ok-tokens.ensures.placed,
      spelt,
      missing program world entries c.in-Some.term has found.0,
      λ other low lacks. found.1 other low (lacking program world entries other has lacks),
    )

pub returns-clause-spelt : goal.returns-clause-spelt
returns-clause-spelt c =
    let program = c.args.program.now in let world = c.in_ok-world.world in
    let (entries, good, has) = c.in_ok-world.ensures.read in
    let spelt = subst (λ l. SpellEntries program l entries) c.as_slice.ensures.value good in
    let none = subst (λ o. MatchOption o ((term : TermId) → MissesElse program world term → ⊥)
    (λ term. MissesElse program world term × ((other : TermId) → other.0 < term.0 → MissesElse program world other → ⊥)))
    c.in-None.is c.in_ok-term.ensures in
    let whole : SpellsWorld program c.args.text.now entries = record {
      tokens = c.in_ok-tokens.tokens.items;
      tokens_of = tokens_placed c.args.text.now c.in_ok-tokens.tokens.items c.in_ok-tokens.offsets.items c.in_ok-tokens.ensures.placed;
      spelt = spelt;
      always = λ term lacks. none term (lacking program world entries term has lacks);
    } in
    (entries, whole, has)
