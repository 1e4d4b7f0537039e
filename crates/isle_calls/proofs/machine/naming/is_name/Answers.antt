-- A known symbol has the name at its place; another has its own text.
use Rattle.std.proofs.Common.{◌≡◌, ◌↔◌, ◌≤◌, List, ℕ, Some, None, length, slice_get, sym, ap, subst, ◌∙◌, IsTrue}
use Rattle.std.specs.Prelude.{string_bytes}
use Rattle.std.proofs.lemmas.Option.{slice_get-get_or, slice_get_past}
use Rattle.std.proofs.lemmas.Slice.Eq.{bytes_eq-Decides}
use Rattle.isle_blocks.specs.Building.Naming.{text_beyond}
use Rattle.isle_calls.proofs.TreeRoad.Naming.{name_there, name_beyond, text_at}
use Rattle.isle_calls.proofs.machine.naming.is_name.Goals as goal

pub returns-in-Some : goal.returns-in-Some
returns-in-Some c =
    let names = c.syms.result.now in let i = c.index.result in let item = c.in-Some.name.now in
    let there : slice_get names i ≡ Some item = slice_get-get_or names i item c.in-Some.ensures.lookup.3.0 ∙ ap Some
    (sym c.in-Some.ensures.lookup.1) in
    let decided = bytes_eq-Decides c.as_str.result.now c.args.text.now in
    let equal : IsTrue c.eq.result ↔ (c.as_str.result.now ≡ c.args.text.now) = (
      λ t. decided.0 (sym c.eq.ensures ∙ t),
      λ e. c.eq.ensures ∙ decided.1 e,
    ) in
    name_there c.args.types.now.names c.args.symbol c.args.text.now (string_bytes item) c.eq.result
    (text_at c.args.types.now.names names c.args.symbol.0 i (Some item) c.syms.ensures.names c.index.ensures there)
    (subst (λ (l : List ℕ). IsTrue c.eq.result ↔ (l ≡ c.args.text.now)) c.as_str.ensures.value equal)

pub returns-in-None : goal.returns-in-None
returns-in-None c =
    let names = c.syms.result.now in let i = c.index.result in
    let past : length names ≤ i = c.in-None.ensures.lookup.3 in
    let decided : IsTrue c.is_beyond.result ↔ (text_beyond c.args.types.now.names c.args.symbol ≡ c.args.text.now) =
    subst (λ (l : List (List ℕ)). IsTrue c.is_beyond.result ↔ (text_beyond l c.args.symbol ≡ c.args.text.now)) c.syms-in-None.ensures.names
    c.is_beyond.ensures in
    name_beyond c.args.types.now.names c.args.symbol c.args.text.now c.is_beyond.result
    (text_at c.args.types.now.names names c.args.symbol.0 i None c.syms.ensures.names c.index.ensures (slice_get_past names i past)) decided
