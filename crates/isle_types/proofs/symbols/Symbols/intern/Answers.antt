use Rattle.std.proofs.Common.{◌≡◌, ◌++◌, ◌∷◌, [], map, None, string_bytes, slice_get, sym, ◌∙◌, ap, subst}
use Rattle.std.proofs.lemmas.List.{length-map}
use Rattle.isle_types.specs.Names.{position_of}
use Rattle.isle_types.specs.Interned.{IsInterned}
use Rattle.isle_types.proofs.NamePlaces.{place_found}
use Rattle.isle_types.proofs.Interning.{names_pushed, pushed_symbol, interned_pushed, at_key}
use Rattle.isle_types.proofs.symbols.Symbols.intern.Goals as goal

pub returns-in-Some-clause-symbol : goal.returns-in-Some-clause-symbol
returns-in-Some-clause-symbol c = place_found _ _ _ (sym c.in-Some.ensures.found)

pub invariant_of-self-2 : goal.invariant_of-self-2
invariant_of-self-2 c =
    let names = map string_bytes c.self.inside.syms.items in
    let key = c.in_ok-key.key in
    let missing : position_of names (string_bytes key) ≡ None = ap (position_of names) c.in_ok-key.ensures.ok
    ∙ ap (λ ns. position_of ns c.args.name.now) c.self.view_is ∙ sym c.in_default.ensures.found in
    let new = interned_pushed names c.self.inside.sym_map c.insert.new.self key (record { 0 = c.len.result }) c.self.invariant missing
    (c.len.ensures ∙ c.self.inside.syms.ok.0 ∙ sym (length-map c.self.inside.syms.items string_bytes))
    (at_key _ _ key c.in_ok-insert.ensures.values) c.in_ok-insert.ensures.others in
    let items = names_pushed c.self.inside.syms.items c.push.new.self.items c.in_ok-kept.kept (string_bytes key)
    (c.in_ok-push.ensures.items ∙ ap (λ xs. xs ++ c.in_ok-kept.kept ∷ []) c.reserve.ensures.items)
    (c.in_ok-kept.ensures.ok ∙ sym c.in_ok-key.ensures.ok) in
    subst (λ ns. IsInterned ns c.insert.new.self) (sym items) new

pub returns-clause-symbol : goal.returns-clause-symbol
returns-clause-symbol c =
    ap (slice_get (map string_bytes c.push.new.self.items)) (c.len.ensures ∙ c.self.inside.syms.ok.0)
    ∙ pushed_symbol c.self.inside.syms.items c.push.new.self.items c.in_ok-kept.kept c.args.name.now
    (c.in_ok-push.ensures.items ∙ ap (λ xs. xs ++ c.in_ok-kept.kept ∷ []) c.reserve.ensures.items) c.in_ok-kept.ensures.ok

pub returns-clause-once : goal.returns-clause-once
returns-clause-once c = let interned = invariant_of-self-2 c in interned.once
