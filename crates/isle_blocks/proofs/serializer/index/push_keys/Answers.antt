use Rattle.std.proofs.Common.{◌≡◌, ◌++◌, ◌∷◌, [], Some, ap, sym, ◌∙◌, slice_get}
use Rattle.std.proofs.lemmas.List.{map-append}
use Rattle.std.specs.Option.{option_map}
use Rattle.isle_blocks.specs.declared.ids.BindingId.{BindingId}
use Rattle.isle_blocks.specs.Rows.{numbers_of}
use Rattle.isle_blocks.proofs.Trees.Indexed.{keys_more}
use Rattle.isle_blocks.proofs.serializer.index.push_keys.Goals as goal

pub loop-place-preserved : goal.loop-place-preserved
loop-place-preserved c =
    let e = c.unwrap.result in
    let there : slice_get c.args.rule.now.constraints c.loop-place.place ≡ Some (e.0.now, e.1.now) =
    sym c.entry.ensures ∙ ap (option_map (λ e. (e.0.now, e.1.now))) c.unwrap.ensures in
    let step : numbers_of c.push.new.self.items ≡ numbers_of c.loop-place.all.items ++ e.0.now.0 ∷ [] =
    ap numbers_of c.in_ok-push.ensures.items ∙ map-append (λ (id : BindingId). id.0) c.loop-place.all.items (e.0.now ∷ []) in
    keys_more c.args.rule.now.constraints c.loop-place.place (e.0.now, e.1.now) (numbers_of c.args.all.now.items) (numbers_of c.loop-place.all.items)
    (numbers_of c.push.new.self.items) there c.loop-place.invariant step
