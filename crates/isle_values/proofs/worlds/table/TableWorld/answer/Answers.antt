use Rattle.std.proofs.Common.{◌≡◌, Some, None, sym, ◌∙◌, ap}
use Rattle.std.specs.Option.{option_map}
use Rattle.isle_rules.specs.Values.{value_list}
use Rattle.isle_values.specs.Worlds.Entries.{part_shown}
use Rattle.isle_values.specs.Worlds.Tables.{entry_at, or_else, key_of}
use Rattle.isle_values.proofs.TableWorlds.Keys.{got_at}
use Rattle.isle_values.proofs.worlds.table.TableWorld.answer.Goals as goal

pub returns-in-Some : goal.returns-in-Some
returns-in-Some c =
    let entries = c.args.self.now in let side = c.args.side in let term = c.args.term.now in let vs = value_list c.args.call.now in
    let key = c.in_ok-key.ensures ∙ ap (λ l. key_of side term (Some (value_list l))) c.in_ok-copies.ensures in
    let at = got_at c.self.inside.answers.entries entries side term (Some vs) c.in_ok-key.key c.self.invariant c.self.view_is key in
    let there : entry_at entries side term (Some vs) ≡ Some (part_shown c.in-Some.answer.now) =
    sym at ∙ ap (option_map part_shown) (sym c.in-Some.ensures.value) in
    c.in_ok-copy.ensures ∙ ap (λ o. or_else o (or_else (entry_at entries side term None) None)) (sym there)

pub returns-in-Some-get : goal.returns-in-Some-get
returns-in-Some-get c =
    let entries = c.args.self.now in let side = c.args.side in let term = c.args.term.now in let vs = value_list c.args.call.now in
    let key = c.in_ok-key.ensures ∙ ap (λ l. key_of side term (Some (value_list l))) c.in_ok-copies.ensures in
    let at = got_at c.self.inside.answers.entries entries side term (Some vs) c.in_ok-key.key c.self.invariant c.self.view_is key in
    let gone : entry_at entries side term (Some vs) ≡ None = sym at ∙ ap (option_map part_shown) (sym c.in_default.ensures.value) in
    let rest = got_at c.self.inside.answers.entries entries side term None c.in_ok-key-2.key c.self.invariant c.self.view_is c.in_ok-key-2.ensures in
    let there : entry_at entries side term None ≡ Some (part_shown c.in-Some-get.answer.now) =
    sym rest ∙ ap (option_map part_shown) (sym c.in-Some-get.ensures.value) in
    c.in_ok-copy-in-Some-get.ensures ∙ ap (λ o. or_else o None) (sym there) ∙ ap
    (λ o. or_else o (or_else (entry_at entries side term None) None)) (sym gone)

pub returns : goal.returns
returns c =
    let entries = c.args.self.now in let side = c.args.side in let term = c.args.term.now in let vs = value_list c.args.call.now in
    let key = c.in_ok-key.ensures ∙ ap (λ l. key_of side term (Some (value_list l))) c.in_ok-copies.ensures in
    let at = got_at c.self.inside.answers.entries entries side term (Some vs) c.in_ok-key.key c.self.invariant c.self.view_is key in
    let gone : entry_at entries side term (Some vs) ≡ None = sym at ∙ ap (option_map part_shown) (sym c.in_default.ensures.value) in
    let rest = got_at c.self.inside.answers.entries entries side term None c.in_ok-key-2.key c.self.invariant c.self.view_is c.in_ok-key-2.ensures in
    let also : entry_at entries side term None ≡ None = sym rest ∙ ap (option_map part_shown) (sym c.in-None.ensures.value) in
    ap (λ o. or_else o None) (sym also) ∙ ap (λ o. or_else o (or_else (entry_at entries side term None) None)) (sym gone)
