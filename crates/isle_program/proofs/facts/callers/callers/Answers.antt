use Rattle.std.proofs.Common.{◌≡◌, ◌+◌, ◌++◌, ◌∷◌, [], ℕ, List, length, take, sym, ap, ◌∙◌, subst, add-one, arith}
use Rattle.std.proofs.Math.Seq.{take-suc, take-length}
use Rattle.isle_rules.specs.declared.rules.Rule.{Rule}
use Rattle.isle_program.specs.Inside.Facts.Callers.{AreCallers}
use Rattle.isle_program.proofs.ProgramFacts.Callers.{callers_none, callers_next}
use Rattle.isle_program.proofs.facts.callers.callers.Goals as goal

pub loop-rule-init : goal.loop-rule-init
loop-rule-init c = λ names.
    let fits = c.in_ok-lists.ensures.fits ∙ ap (λ l. length l) c.terms.ensures in
    callers_none names (length c.args.termenv.now.terms) c.in_ok-lists.lists.items fits c.in_ok-lists.ensures.empty

pub loop-rule-preserved : goal.loop-rule-preserved
loop-rule-preserved c = λ names.
    let rules = c.rules-rule-items.result.now in let i = c.loop-rule.rule-index in let rule = c.rule-item.result in
    let next : take (i + 1) rules ≡ take i rules ++ rule ∷ [] =
    (let e = take-suc rules i rule c.loop-rule-test.true in rw add-one (e ∙ ap (λ (r : Rule). take i rules ++ r ∷ []) (sym c.rule-item.is))) in
    subst (λ (l : List Rule). AreCallers names (length c.args.termenv.now.terms) l c.list_caller.new.lists.items) (sym next)
    (callers_next names (length c.args.termenv.now.terms) (take i rules) rule c.loop-rule.lists.items c.list_caller.new.lists.items
    (c.loop-rule.invariant names) (c.in_ok-list_caller.ensures names))

pub returns : goal.returns
returns c = λ names.
    let rules = c.rules-rule-items.result.now in let i = c.loop-rule.rule-index in
    let done : i ≡ length rules = (let past = c.loop-rule-test.false in let end = c.loop-rule.auto.rule-index-end in omega (arith, past, end)) in
    subst (λ (l : List Rule). AreCallers names (length c.args.termenv.now.terms) l c.loop-rule.lists.items)
    (ap (λ (k : ℕ). take k rules) done ∙ take-length rules ∙ c.rules-rule-items.ensures) (c.loop-rule.invariant names)
