use Rattle.std.proofs.Common.{◌==◌, ◌||◌, ap, sym, ◌∙◌, subst, take, get_or}
use Rattle.std.proofs.lemmas.Option.{slice_get-get_or}
use Rattle.std.proofs.lemmas.List.{take_all}
use Rattle.isle_types.specs.Names.{AreDistinct}
use Rattle.isle_types.specs.TypeEnvs.{symbol_at}
use Rattle.isle_containers.proofs.Lists.{taken_more}
use Rattle.isle_types.proofs.Duplicates.{among, once_more, duplicate_here, among_more, flip}
use Rattle.isle_types.proofs.env.fields.duplicate.Goals as goal

pub returns-then-not-branch : goal.returns-then-not-branch
returns-then-not-branch c =
    let symbol = get_or c.args.names.now c.loop-place.place (symbol_at 0) in
    duplicate_here c.args.names.now c.loop-place.place symbol
    (slice_get-get_or c.args.names.now c.loop-place.place (symbol_at 0) c.loop-place-test.true)
    (sym (c.loop-place.invariant.members symbol) ∙ flip _ _ (sym c.in_ok-insert.ensures.added ∙ c.if-not-branch.true))

pub loop-place-preserved : goal.loop-place-preserved
loop-place-preserved c =
    let symbol = get_or c.args.names.now c.loop-place.place (symbol_at 0) in
    let before = take c.loop-place.place c.args.names.now in
    let more = taken_more c.args.names.now c.loop-place.place symbol
    (slice_get-get_or c.args.names.now c.loop-place.place (symbol_at 0) c.loop-place-test.true) in
    let new = sym (c.loop-place.invariant.members symbol) ∙ flip _ _ (sym c.in_ok-insert.ensures.added ∙ c.if-not-branch.false) in
    record {
      members = λ other. c.in_ok-insert.ensures.has other ∙ ap (λ b. (symbol.0 == other.0) || b) (c.loop-place.invariant.members other)
          ∙ among_more before symbol other ∙ ap (among other) (sym more);
      once = subst AreDistinct (sym more) (once_more before symbol c.loop-place.invariant.once new);
    }

pub returns : goal.returns
returns c = subst AreDistinct (take_all c.loop-place.place c.args.names.now c.loop-place-test.false) c.loop-place.invariant.once
