use Rattle.std.proofs.Common.{◌≡◌, ◌≤◌, ℕ, List, Option, Some, None, length, take, refl, sym, ◌∙◌, ap, subst}
use Rattle.std.specs.Prelude.{IfSome, IfNone}
use Rattle.std.specs.Option.{option_map}
use Rattle.isle_syntax.specs.declared.lexer.Token.{Token}
use Rattle.isle_values.specs.declared.worlds.entry.Entry.{Entry}
use Rattle.isle_program.specs.Programs.{value_facts}
use Rattle.isle_values.specs.Worlds.Entries.{entry_shown, entry_tokens, IsSpellableEntry}
use Rattle.isle_values.specs.Worlds.Externals.{IsTypedEntry, settled_entry, asked_named, types_shown}
use Rattle.isle_values.specs.Worlds.Texts.{IsRead}
use Rattle.isle_values.proofs.TableWorlds.Refusals.{begins_entry}
use Rattle.isle_values.proofs.worlds.reading.add_entry.Goals as goal

abbrev IsFront : List Token → Entry × ℕ → Type 0
IsFront tokens p = (p.1 ≤ length tokens) × IsSpellableEntry (entry_shown p.0) × (take p.1 tokens ≡ entry_tokens (entry_shown p.0))

pub returns-in_default-external_named-clause-refused : goal.returns-in_default-external_named-clause-refused
returns-in_default-external_named-clause-refused c =
    let front = subst (λ o. IfSome o (IsFront c.args.tokens.now)) c.in-Some.is c.in_ok-entry.ensures.some in
    let e = entry_shown c.in-Some.entry in
    let asked : asked_named c.args.program.now e.side e.term ≡ None =
    ap (asked_named c.args.program.now e.side) (sym c.as_str.ensures) ∙ sym c.external_named.ensures ∙ ap
    (option_map types_shown) c.in_default-external_named.is in
    (refl, (e, begins_entry c.args.tokens.now c.in-Some.count e front.1 front.2, asked))

pub returns-in_default-2-clause-refused : goal.returns-in_default-2-clause-refused
returns-in_default-2-clause-refused c =
    let front = subst (λ o. IfSome o (IsFront c.args.tokens.now)) c.in-Some.is c.in_ok-entry.ensures.some in
    let e = entry_shown c.in-Some.entry in let types = types_shown c.in-Some-external_named.external in
    let asked : asked_named c.args.program.now e.side e.term ≡ Some types =
    ap (asked_named c.args.program.now e.side) (sym c.as_str.ensures) ∙ sym c.external_named.ensures ∙ ap
    (option_map types_shown) c.in-Some-external_named.is in
    let untyped = subst (λ (o : Option Entry). IfNone o (IsTypedEntry (value_facts c.args.program.now) types
    (settled_entry (value_facts c.args.program.now) types e) → ⊥)) c.in_default-2.is
    c.in_ok-entry-2.ensures.none in
    (refl, (e, types, begins_entry c.args.tokens.now c.in-Some.count e front.1 front.2, asked, untyped))

pub returns-else-branch-clause-refused : goal.returns-else-branch-clause-refused
returns-else-branch-clause-refused c =
    let front = subst (λ o. IfSome o (IsFront c.args.tokens.now)) c.in-Some.is c.in_ok-entry.ensures.some in
    let e = entry_shown c.in-Some.entry in let types = types_shown c.in-Some-external_named.external in let read = entry_shown c.in-Some-2.entry in
    let asked : asked_named c.args.program.now e.side e.term ≡ Some types =
    ap (asked_named c.args.program.now e.side) (sym c.as_str.ensures) ∙ sym c.external_named.ensures ∙ ap
    (option_map types_shown) c.in-Some-external_named.is in
    let typed = subst (λ o. IfSome o (λ (r : Entry). (entry_shown r ≡ settled_entry (value_facts c.args.program.now) types e)
    × IsTypedEntry (value_facts c.args.program.now) types (entry_shown r)))
    c.in-Some-2.is c.in_ok-entry-2.ensures.some in
    let is_read : IsRead c.args.program.now e read = record { types = types; asked = asked; settled = typed.0; typed = typed.1 } in
    (refl, (e, read, begins_entry c.args.tokens.now c.in-Some.count e front.1 front.2, is_read, c.in_ok-add.ensures.twice c.if-branch.false))
