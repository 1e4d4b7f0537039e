use Rattle.std.proofs.Common.{◌≡◌, ap, sym, subst, ◌∙◌, take, ◌++◌, ◌∷◌, [], length, refl}
use Rattle.std.specs.List.{AllZip}
use Rattle.std.proofs.lemmas.Option.{slice_get_read}
use Rattle.std.proofs.lemmas.List.{map-append}
use Rattle.std.proofs.lemmas.Slice.Zip.{all_zipped_more}
use Rattle.isle_types.specs.declared.ids.TypeId.{TypeId}
use Rattle.isle_types.proofs.DefinitionTurns.{take_here}
use Rattle.isle_rules.specs.Definitions.{IsTypeNumber}
use Rattle.isle_rules.specs.Shown.ShownTerms.{numbers_of}
use Rattle.isle_terms.proofs.Collections.WiderFaults.{refusal_wider}
use Rattle.isle_terms.proofs.env.terms.known_types.Goals as goal

pub returns-in-Err-clause-err : goal.returns-in-Err-clause-err
returns-in-Err-clause-err c = λ types shows.
    let here = slice_get_read c.args.names.now (length c.args.names.now) c.loop-name.name-index c.name-item.result refl c.loop-name-test.true
    c.name-item.is in
    refusal_wider (λ at unknown. (c.name-item.result, (c.loop-name.name-index, here), unknown)) (λ _ none. none) c.in-Err.refusal
    (c.in-Err.ensures.err types shows)

pub loop-name-preserved : goal.loop-name-preserved
loop-name-preserved c = λ types shows.
    let i = c.loop-name.name-index in
    let made : numbers_of c.push.new.self.items ≡ numbers_of c.loop-name.made.items ++ c.in-Ok.ty.0 ∷ [] =
    ap numbers_of c.in_ok-push-in-Ok.ensures.items ∙ map-append (λ (ty : TypeId). ty.0) c.loop-name.made.items (c.in-Ok.ty ∷ []) in
    subst (λ names. AllZip (IsTypeNumber types) names (numbers_of c.push.new.self.items))
    (sym (take_here c.args.names.now i c.name-item.result c.loop-name-test.true c.name-item.is))
    (subst (λ numbers. AllZip (IsTypeNumber types) (take i c.args.names.now ++ c.name-item.result ∷ []) numbers) (sym made)
    (all_zipped_more (IsTypeNumber types) (take i c.args.names.now) (numbers_of c.loop-name.made.items) c.name-item.result c.in-Ok.ty.0
    (c.loop-name.invariant types shows) (c.in-Ok.ensures.ok types shows)))
