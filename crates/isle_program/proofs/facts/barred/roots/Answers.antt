use Rattle.std.proofs.Common.{◌≡◌, ◌<◌, ◌+◌, ℕ, Bool, List, false, length, get_or, refl, sym, ap, ◌∙◌, subst, arith}
use Rattle.std.specs.Prelude.{◌==◌, ◌||◌, All}
use Rattle.std.specs.List.{list_any}
use Rattle.std.proofs.lemmas.List.{length-replicate}
use Rattle.isle_rules.specs.declared.rules.Rule.{Rule}
use Rattle.isle_program.proofs.ProgramFacts.MarkedTerms.{AreMarkedBefore, marked_first, marked_set, marked_last, rule_at, no_mark}
use Rattle.isle_program.proofs.facts.barred.roots.Goals as goal

pub loop-rule-init : goal.loop-rule-init
loop-rule-init c = marked_first c.rules-rule-items.result.now (λ (n : ℕ) (rule : Rule). rule.root_term.0 == n) c.in_ok-marks.marks.items

pub loop-rule-preserved : goal.loop-rule-preserved
loop-rule-preserved c =
    let rules = c.rules-rule-items.result.now in let i = c.loop-rule.rule-index in let rule = c.rule-item.result in
    let first = c.in_ok-marks.marks.items in let now = c.loop-rule.marks.items in
    let test = λ (n : ℕ) (r : Rule). r.root_term.0 == n in
    let many : length first ≡ length c.args.termenv.now.terms =
    ap (λ (l : List Bool). length l) (c.in_ok-marks.ensures.items_if_clones_equal (λ y q. q)) ∙ length-replicate
    (length c.terms.result.now) false ∙ ap (λ l. length l) c.terms.ensures in
    let rooted : All (λ (r : Rule). r.root_term.0 < length c.args.termenv.now.terms) rules =
    subst (λ (l : List Rule). All (λ (r : Rule). r.root_term.0 < length c.args.termenv.now.terms) l) (sym c.rules-rule-items.ensures) c.requires in
    let inside : rule.root_term.0 < length first =
    (let low = rule_at (λ (r : Rule). r.root_term.0 < length c.args.termenv.now.terms) rules i rule c.loop-rule-test.true c.rule-item.is rooted in
    omega (arith, low, many)) in
    subst (λ (l : List Bool). AreMarkedBefore rules test first (i + 1) l) (sym c.set_mark.ensures)
    (marked_set rules test first i rule now c.loop-rule-test.true c.rule-item.is inside (λ n. refl) c.loop-rule.invariant)

pub returns : goal.returns
returns c = λ n.
    let rules = c.rules-rule-items.result.now in let i = c.loop-rule.rule-index in
    let test = λ (n : ℕ) (r : Rule). r.root_term.0 == n in
    let done : i ≡ length rules = (let past = c.loop-rule-test.false in let end = c.loop-rule.auto.rule-index-end in omega (arith, past, end)) in
    marked_last rules test c.in_ok-marks.marks.items i c.loop-rule.marks.items done c.loop-rule.invariant n
    ∙ ap (λ (l : List Bool). get_or l n false || list_any (test n) rules) (c.in_ok-marks.ensures.items_if_clones_equal (λ y q. q))
    ∙ ap (λ b. b || list_any (test n) rules) (no_mark (length c.terms.result.now) n)
    ∙ ap (list_any (test n)) c.rules-rule-items.ensures
