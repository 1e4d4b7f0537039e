use Rattle.std.proofs.Common.{◌≡◌, refl, sym, subst, ◌∙◌}
use Rattle.std.proofs.lemmas.List.{map-id}
use Rattle.std.proofs.lemmas.Iterator.Adapters.{YieldsList-from_vec}
use Rattle.std.proofs.lemmas.Iterator.Consumers.{YieldsList-end}
use Rattle.isle_terms.specs.Inside.Collecting.Repeats.{AreToldOf}
use Rattle.isle_terms.proofs.Collections.ToldErrors.{none_told, next_told}
use Rattle.isle_terms.proofs.env.repeats.told_of.Goals as goal

pub loop-error-init : goal.loop-error-init
loop-error-init c = none_told _ c.new-told.result.items c.new-met.result refl c.new-told.ensures.items c.new-met.ensures

pub loop-error-preserved : goal.loop-error-preserved
loop-error-preserved c = next_told c.in-Some.error c.in_ok-key.key c.in_ok-is_new.is_new c.in_ok-key.ensures c.in_ok-is_new.ensures
    c.in_ok-tell.ensures c.loop-error.invariant

pub returns : goal.returns
returns c =
    let source = c.into_iter-error-iterator.ensures.into_iter_gives in
    let road = YieldsList-from_vec {s = c.into_iter-error-iterator.result} c.args.errors.items source.0 (source.1 ∙ c.args.errors.ok.0) in
    let ended = YieldsList-end road c.loop-error.yielded c.loop-error.error-iterator c.loop-error.yielded_by
    c.next.result c.next.new.self c.in-None.is
    c.next.ensures.steps in
    let all : c.loop-error.yielded ≡ c.args.errors.items = sym (map-id c.loop-error.yielded) ∙ ended.0 in
    subst (λ errors. AreToldOf errors c.loop-error.told.items) all c.loop-error.invariant.so_far
