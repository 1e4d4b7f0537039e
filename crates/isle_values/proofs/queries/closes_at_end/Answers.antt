use Rattle.std.proofs.Common.{◌≡◌, ◌+◌, ℕ, zero, suc, drop, length, sym, ◌∙◌, ap, subst, arith, eq-eqb}
use Rattle.std.proofs.lemmas.Bool.{eqb-true}
use Rattle.isle_values.specs.Values.Lists.{Closes, opened_after}
use Rattle.isle_values.proofs.GroundValues.ClosedLists.{next_step, few_opened, none_open}
use Rattle.isle_values.proofs.queries.closes_at_end.Goals as goal

pub returns-then-opened-eq0 : goal.returns-then-opened-eq0
returns-then-opened-eq0 c =
    let (d, is, few, so_far) = c.loop-i.invariant in
    let tokens = c.args.tokens.now in let i = c.loop-i.i in let token = c.index-tokens-i.result in
    let step = next_step tokens i d token c.loop-i-test.true c.index-tokens-i.is so_far in
    let now : opened_after token (suc d) ≡ 0 = ap (opened_after token) (sym is) ∙ sym c.opened_after-opened.ensures ∙ c.if-opened-eq0.true in
    let empty = none_open tokens i c.loop-i-test.true in (
      λ t. step.1 (subst (λ n. Closes n (drop (i + 1) tokens)) (sym now) (empty.1 (eqb-true (i + 1) (length tokens) t))),
      λ closes. eq-eqb (i + 1) (length tokens) (empty.0 (subst (λ n. Closes n (drop (i + 1) tokens)) now (step.0 closes))),
    )

-- a number that isn't zero
before : (n : ℕ) → (n ≡ 0 → ⊥) → (m : ℕ) × (n ≡ suc m)
before zero not = absurd (not (let e : 0 ≡ 0 = omega arith in e))
before (suc n) not = (n, omega arith)

pub loop-i-preserved : goal.loop-i-preserved
loop-i-preserved c =
    let (d, is, few, so_far) = c.loop-i.invariant in
    let tokens = c.args.tokens.now in let i = c.loop-i.i in let token = c.index-tokens-i.result in
    let step = next_step tokens i d token c.loop-i-test.true c.index-tokens-i.is so_far in
    let now : c.opened_after-opened.result ≡ opened_after token (suc d) = c.opened_after-opened.ensures ∙ ap (opened_after token) is in
    let (m, next) = before c.opened_after-opened.result c.if-opened-eq0.false in
    let bound = few_opened token c.loop-i.opened (i + 1) few in
    let same : opened_after token (suc d) ≡ suc m = sym now ∙ next in (
      m,
      next,
      omega (arith, bound, c.opened_after-opened.ensures),
      (λ h. subst (λ n. Closes n (drop (i + 1) tokens)) same (step.0 h), λ h. step.1 (subst (λ n. Closes n (drop (i + 1) tokens)) (sym same) h)),
    )
