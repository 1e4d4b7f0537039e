use Rattle.std.proofs.Common.{◌≡◌, ◌<◌, ◌+◌, ℕ, Bool, List, false, length, map, get_or, sym, ap, ◌∙◌, subst, arith}
use Rattle.std.specs.Prelude.{◌==◌, ◌&&◌, ◌||◌, All}
use Rattle.std.specs.List.{list_any}
use Rattle.std.proofs.Math.Bool.{and-true, and-false}
use Rattle.std.proofs.lemmas.List.{length-map}
use Rattle.isle_rules.specs.declared.rules.Rule.{Rule}
use Rattle.isle_rules.specs.declared.terms.Term.{Term}
use Rattle.isle_rules.specs.Shown.TermTables.{is_multi_kind, is_multi_in}
use Rattle.isle_program.specs.Facts.Reach.{is_hindering_rule}
use Rattle.isle_program.proofs.ProgramFacts.MarkedTerms.{AreMarkedBefore, marked_first, marked_set, marked_same, marked_last, rule_at, multi_marks}
use Rattle.isle_program.proofs.facts.barred.hindered_terms.Goals as goal
use Rattle.isle_program.proofs.facts.barred.hindered_terms.Goals.{then-hinders, else-hinders}

pub loop-rule-init : goal.loop-rule-init
loop-rule-init c = marked_first c.rules-rule-items.result.now
    (λ (n : ℕ) (rule : Rule). (rule.root_term.0 == n) && is_hindering_rule c.args.tyenv.now c.args.termenv.now rule) c.in_ok-marks.marks.items

pub loop-rule-preserved : goal.loop-rule-preserved
loop-rule-preserved c =
    let rules = c.rules-rule-items.result.now in let i = c.loop-rule.rule-index in let rule = c.rule-item.result in
    let first = c.in_ok-marks.marks.items in let now = c.loop-rule.marks.items in
    let hindering = is_hindering_rule c.args.tyenv.now c.args.termenv.now in
    let test = λ (n : ℕ) (r : Rule). (r.root_term.0 == n) && hindering r in
    let many : length first ≡ length c.args.termenv.now.terms =
    ap (λ (l : List Bool). length l) c.in_ok-marks.ensures ∙ length-map c.terms.result.now (λ (term : Term). is_multi_kind term.kind) ∙ ap
    (λ l. length l) c.terms.ensures in
    let rooted : All (λ (r : Rule). r.root_term.0 < length c.args.termenv.now.terms) rules =
    subst (λ (l : List Rule). All (λ (r : Rule). r.root_term.0 < length c.args.termenv.now.terms) l) (sym c.rules-rule-items.ensures) c.requires in
    let inside : rule.root_term.0 < length first =
    (let low = rule_at (λ (r : Rule). r.root_term.0 < length c.args.termenv.now.terms) rules i rule c.loop-rule-test.true c.rule-item.is rooted in
    omega (arith, low, many)) in
    let next = λ (l : List Bool). AreMarkedBefore rules test first (i + 1) l in
    elim c.if-hinders.branch [
      | then-hinders w ↦
          subst (λ v. next v.items) (sym w.marks-is)
          (subst next (sym w.set_mark.ensures)
          (marked_set rules test first i rule now c.loop-rule-test.true c.rule-item.is inside
          (λ n. ap (λ b. (rule.root_term.0 == n) && b) (sym c.hinders.ensures ∙ w.if-hinders.true) ∙ and-true (rule.root_term.0 == n))
          c.loop-rule.invariant))
      | else-hinders w ↦
          subst (λ v. next v.items) (sym w.marks-is)
          (marked_same rules test first i rule now c.loop-rule-test.true c.rule-item.is
          (λ n. ap (λ b. (rule.root_term.0 == n) && b) (sym c.hinders.ensures ∙ w.if-hinders.false) ∙ and-false (rule.root_term.0 == n))
          c.loop-rule.invariant)
    ]

pub returns-clause-fits : goal.returns-clause-fits
returns-clause-fits c = c.loop-rule.invariant.fits ∙ ap (λ (l : List Bool). length l) c.in_ok-marks.ensures
    ∙ length-map c.terms.result.now (λ (term : Term). is_multi_kind term.kind) ∙ ap (λ l. length l) c.terms.ensures

pub returns-clause-marks : goal.returns-clause-marks
returns-clause-marks c = λ n.
    let rules = c.rules-rule-items.result.now in let i = c.loop-rule.rule-index in let env = c.args.termenv.now in
    let test = λ (n : ℕ) (r : Rule). (r.root_term.0 == n) && is_hindering_rule c.args.tyenv.now env r in
    let done : i ≡ length rules = (let past = c.loop-rule-test.false in let end = c.loop-rule.auto.rule-index-end in omega (arith, past, end)) in
    marked_last rules test c.in_ok-marks.marks.items i c.loop-rule.marks.items done c.loop-rule.invariant n
    ∙ ap (λ (l : List Bool). get_or l n false || list_any (test n) rules)
    (c.in_ok-marks.ensures ∙ ap (map (λ (term : Term). is_multi_kind term.kind)) c.terms.ensures)
    ∙ ap (λ b. b || list_any (test n) rules) (multi_marks env n)
    ∙ ap (λ (l : List Rule). is_multi_in env n || list_any (test n) l) c.rules-rule-items.ensures
