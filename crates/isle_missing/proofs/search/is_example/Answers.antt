use Rattle.std.proofs.Common.{◌≡◌, sym, ◌∙◌, true, Bool, IfOk, IsTrue, Result, Ok, Err}
use Rattle.isle_missing.specs.Inside.Facts.{are_refuted}
use Rattle.isle_missing.proofs.Steps.{refuted_misses}
use Rattle.isle_missing.proofs.Tables.{can_be}
use Rattle.isle_missing.proofs.search.is_example.Goals as goal

mapped : {E : Type 0} (r : Result Bool E) (P Q : Type 0) → (P → Q) → IfOk r (λ b. IsTrue b → P) → IfOk r (λ b. IsTrue b → Q)
mapped (Ok b) P Q f h = λ t. f (h t)
mapped (Err e) P Q f h = tt

pub returns-then-are_refuted : goal.returns-then-are_refuted
returns-then-are_refuted c =
    let refuted : are_refuted c.args.facts.now c.args.rules.now ≡ true = sym c.are_refuted.ensures ∙ c.if-are_refuted.true in
    mapped c.are_possible.result _ _
    (λ possible. (can_be c.args.sites.now c.args.rules.now c.args.facts.now possible, refuted_misses c.args.facts.now c.args.rules.now refuted))
    c.are_possible.ensures
