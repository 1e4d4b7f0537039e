use Rattle.std.proofs.Common.{◌≡◌, ◌≤◌, ℕ, List, length, slice_get, Option, None, Some, refl, sym, ap, ◌∙◌, arith}
use Rattle.std.specs.Option.{option_map_or}
use Rattle.std.proofs.lemmas.Option.{slice_get_read, slice_get_within}
use Rattle.isle_blocks.specs.declared.rule.Rule.{Rule}
use Rattle.isle_blocks.proofs.checking.number_of.Goals as goal

nothing : (rules : List Rule) (place : ℕ) → length rules ≤ place → slice_get rules place ≡ None
nothing rules place beyond = elim (slice_get rules place) as (λ o. slice_get rules place ≡ o → o ≡ None) [
  | None ↦ λ e. refl
  | Some rule ↦ λ e. let within = slice_get_within rules place rule e in absurd (omega arith)
] refl

pub returns-in-Some : goal.returns-in-Some
returns-in-Some c =
    let (found, is, low, (within, at), high) = c.in-Some.ensures.lookup in
    c.index.ensures ∙ sym (ap (λ (o : Option Rule). option_map_or (λ (rule : Rule). rule.id.0) o 0)
    (slice_get_read c.args.rules.now (length c.args.rules.now) c.args.place c.in-Some.rule.now refl within is))

pub returns-in-None : goal.returns-in-None
returns-in-None c =
    let (found, none, low, beyond, high) = c.in-None.ensures.lookup in
    sym (ap (λ (o : Option Rule). option_map_or (λ (rule : Rule). rule.id.0) o 0) (nothing c.args.rules.now c.args.place beyond))
