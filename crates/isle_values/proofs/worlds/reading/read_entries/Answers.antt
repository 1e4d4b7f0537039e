use Rattle.std.proofs.Common.{◌≡◌, [], Some, drop, sym, subst, arith, slice_get, get_or}
use Rattle.std.proofs.lemmas.List.{take_rest}
use Rattle.std.proofs.lemmas.Result.{err_from_is_err_and}
use Rattle.isle_values.specs.Worlds.Tables.{HasEntries}
use Rattle.isle_values.specs.Worlds.Texts.{SpellEntries}
use Rattle.isle_values.specs.Worlds.Reading.{AddsEntry, RefusesEntry, RefusedBehind}
use Rattle.isle_values.proofs.TableWorlds.Refusals.{spell_none, has_none, some_tokens, reads_more, there_at, take_whole}
use Rattle.isle_values.proofs.worlds.reading.read_entries.Goals as goal

pub loop-at-init : goal.loop-at-init
loop-at-init c = (omega arith, ([], spell_none c.args.program.now, subst (λ t. HasEntries t []) (sym c.empty-world.ensures) has_none))

pub loop-at-preserved : goal.loop-at-preserved
loop-at-preserved c =
    let tokens = c.args.tokens.now in let at = c.loop-at.at in
    let (fits, rest) = c.loop-at.invariant in let (entries, good, has) = rest in
    let adds : AddsEntry c.args.program.now (drop at tokens) c.in_ok-count.count c.loop-at.world c.add_entry.new.world =
    subst (λ l. AddsEntry c.args.program.now l c.in_ok-count.count c.loop-at.world c.add_entry.new.world)
    (take_rest tokens at) c.in_ok-count.ensures.added in
    reads_more c.args.program.now tokens at c.in_ok-count.count entries c.loop-at.world c.add_entry.new.world fits good has adds

pub loop-at-smaller : goal.loop-at-smaller
loop-at-smaller c =
    let tokens = c.args.tokens.now in let at = c.loop-at.at in
    let adds : AddsEntry c.args.program.now (drop at tokens) c.in_ok-count.count c.loop-at.world c.add_entry.new.world =
    subst (λ l. AddsEntry c.args.program.now l c.in_ok-count.count c.loop-at.world c.add_entry.new.world)
    (take_rest tokens at) c.in_ok-count.ensures.added in
    let some = some_tokens (drop at tokens) c.in_ok-count.count adds.spelt adds.front in
    let more = c.loop-at-test.true in omega (arith, some, more)

pub returns-in_err-count-clause-refused : goal.returns-in_err-count-clause-refused
returns-in_err-count-clause-refused c =
    let tokens = c.args.tokens.now in let at = c.loop-at.at in
    let (fits, rest) = c.loop-at.invariant in let (entries, good, has) = rest in
    let e = err_from_is_err_and c.from_residual.result c.from_residual.ensures.1 in
    let offset = get_or c.args.offsets.now at 0 in
    let fault = c.in_err-count.field-0.0 in
    let same = c.requires in let more = c.loop-at-test.true in
    let stands : slice_get c.args.offsets.now at ≡ Some offset = there_at c.args.offsets.now at 0 (omega (arith, same, more)) in
    let refuses : RefusesEntry c.args.program.now (drop at tokens) offset c.loop-at.world fault =
    subst (λ l. RefusesEntry c.args.program.now l offset c.loop-at.world fault) (take_rest tokens at) c.in_err-count.ensures.refused in
    let refused : RefusedBehind c.args.program.now tokens c.args.offsets.now fault =
    record { at = at; offset = offset; entries = entries; table = c.loop-at.world; good = good; has = has; stands = stands; refuses = refuses } in
    rw (e.1, e.2) refused

pub returns-clause-read : goal.returns-clause-read
returns-clause-read c =
    let (fits, rest) = c.loop-at.invariant in let (entries, good, has) = rest in
    (entries, subst (λ l. SpellEntries c.args.program.now l entries) (take_whole c.args.tokens.now c.loop-at.at c.loop-at-test.false) good, has)
