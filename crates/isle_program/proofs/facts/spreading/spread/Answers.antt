use Rattle.std.proofs.Common.{◌≡◌, ◌<◌, ◌+◌, ◌++◌, ◌∷◌, [], ℕ, List, Bool, length, sym, subst, ◌∙◌, ap, inl, inr, arith}
use Rattle.std.specs.Prelude.{Contains, ◌↔◌}
use Rattle.std.proofs.lemmas.List.{length_push}
use Rattle.std.proofs.lemmas.List.Elements.{Contains-push}
use Rattle.std.proofs.lemmas.Option.{slice_get_cases}
use Rattle.isle_blocks.specs.Inside.Building.Contents.{Marked}
use Rattle.isle_program.proofs.ProgramFacts.Spreading.{IsSpreading, spreading_first, spreading_next, spreading_last, marked_within, no_items}
use Rattle.isle_program.proofs.facts.spreading.spread.Goals as goal

pub loop-number-init : goal.loop-number-init
loop-number-init c =
    let marks = c.args.marks.now.items in
    spreading_first c.args.lists.now marks c.in_ok-left.left.items
    (subst (λ (l : List Bool). (n : ℕ) → Contains c.in_ok-left.left.items n ↔ Marked l n) c.as_slice.ensures.value c.in_ok-left.ensures)

-- the number that is taken has a list
pub mark_listed-requires : goal.mark_listed-requires
mark_listed-requires c =
    let all = c.loop-number.invariant in
    let among = subst (λ (l : List ℕ). Contains l c.in-Some.number) (sym c.in-Some.ensures.items)
    (Contains-push c.pop.new.self.items c.in-Some.number) in
    let within = marked_within c.loop-number.marks.items c.in-Some.number (all.pending c.in-Some.number among) in
    let fits = all.fits in let same = c.requires in omega (arith, within, fits, same)

pub loop-number-preserved : goal.loop-number-preserved
loop-number-preserved c =
    let lists = c.args.lists.now in let marks = c.args.marks.now.items in let now = c.loop-number.marks.items in let x = c.in-Some.number in
    let left = c.pop.new.self.items in
    let all = c.loop-number.invariant in
    let before : IsSpreading lists marks now (left ++ x ∷ []) = subst (IsSpreading lists marks now) c.in-Some.ensures.items all in
    let within = marked_within now x (before.pending x (Contains-push left x)) in
    let fits = all.fits in let same = c.requires in
    elim ((slice_get_cases lists x).1) [
      | inl (own, inside, at, is) ↦
          spreading_next lists marks now c.mark_listed.new.marks.items x own left c.mark_listed.new.left.items at before
          (c.in_ok-mark_listed.ensures own at)
      | inr (past, none) ↦ absurd (omega (arith, within, fits, same, past))
    ]

pub loop-number-smaller : goal.loop-number-smaller
loop-number-smaller c =
    let lists = c.args.lists.now in let x = c.in-Some.number in
    let all = c.loop-number.invariant in
    let among = subst (λ (l : List ℕ). Contains l x) (sym c.in-Some.ensures.items) (Contains-push c.pop.new.self.items x) in
    let inside = marked_within c.loop-number.marks.items x (all.pending x among) in
    let within : x < length lists = (let fits = all.fits in let same = c.requires in omega (arith, inside, fits, same)) in
    let fewer : length c.loop-number.left.items ≡ length c.pop.new.self.items + 1 =
    ap (λ (l : List ℕ). length l) c.in-Some.ensures.items ∙ length_push c.pop.new.self.items x in
    elim ((slice_get_cases lists x).1) [
      | inl (own, low, at, is) ↦ let same = (c.in_ok-mark_listed.ensures own at).in_all in omega (arith, same, fewer)
      | inr (past, none) ↦ absurd (omega (arith, within, past))
    ]

pub returns : goal.returns
returns c =
    let empty : c.loop-number.left.items ≡ [] = no_items c.loop-number.left.items (sym c.loop-number.left.ok.0 ∙ c.in_default.ensures.cases.0) in
    spreading_last c.args.lists.now c.args.marks.now.items c.loop-number.marks.items c.requires
    (subst (IsSpreading c.args.lists.now c.args.marks.now.items c.loop-number.marks.items) empty c.loop-number.invariant)
