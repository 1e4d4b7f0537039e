use Rattle.std.proofs.Common.{◌≡◌, ◌<◌, ◌≤◌, List, [], ◌∷◌, refl, IfSome, length, ap, subst, ◌∙◌, sym}
use Rattle.std.proofs.lemmas.List.{drop_all}
use Rattle.std.proofs.lemmas.Bool.Decides.{Decides-eqb}
use Rattle.isle_values.specs.Values.Nodes.{value_in}
use Rattle.isle_values.specs.Values.Tokens.{tokens_of, IsSpellable}
use Rattle.isle_values.specs.Inside.Values.Reading.{GoesOn}
use Rattle.isle_values.proofs.GroundValues.Laying.{laid_out, value_laid}
use Rattle.isle_values.proofs.GroundValues.Reading.{read_whole, refused_end}
use Rattle.isle_values.proofs.values.reading.read_front.Goals as goal

nothing : {X : Type 0} (l : List X) → length l ≡ 0 → l ≡ []
nothing [] e = refl
nothing (x ∷ l) e = absurd cc

pub invariant_of-result : goal.invariant_of-result
invariant_of-result c =
    let opened = c.read_step.new.opened in let nodes = c.read_step.new.nodes.items in let tokens = c.args.tokens.now in
    let (further, within, goes_on) = subst (λ r. IfSome r (λ next. (c.loop-at.at < next) × (next ≤ length tokens)
    × GoesOn tokens next nodes opened.items))
    c.in-Some.is c.in_ok-next.ensures.some in
    let none = nothing opened.items (sym opened.ok.0 ∙ (Decides-eqb opened.len 0).0 (sym c.if-is_empty.ensures)) in
    let (v, read) = read_whole tokens c.in-Some.next nodes opened.items goes_on none in
    laid_out nodes v read.laid

pub returns-then-is_empty-clause-some : goal.returns-then-is_empty-clause-some
returns-then-is_empty-clause-some c =
    let opened = c.read_step.new.opened in let nodes = c.read_step.new.nodes.items in let tokens = c.args.tokens.now in
    let (further, within, goes_on) = subst (λ r. IfSome r (λ next. (c.loop-at.at < next) × (next ≤ length tokens)
    × GoesOn tokens next nodes opened.items))
    c.in-Some.is c.in_ok-next.ensures.some in
    let none = nothing opened.items (sym opened.ok.0 ∙ (Decides-eqb opened.len 0).0 (sym c.if-is_empty.ensures)) in
    let (v, read) = read_whole tokens c.in-Some.next nodes opened.items goes_on none in
    let is : value_in nodes ≡ v = ap value_in read.laid ∙ value_laid v in
    (within, (subst IsSpellable (sym is) read.spellable, read.spelt ∙ ap tokens_of (sym is)))

pub returns-clause-none : goal.returns-clause-none
returns-clause-none c =
    let (levels, r) = c.loop-at.invariant in let tokens = c.args.tokens.now in
    refused_end tokens c.loop-at.at levels c.loop-at.nodes.items c.loop-at.opened.items r (drop_all c.loop-at.at tokens c.loop-at-test.false)
