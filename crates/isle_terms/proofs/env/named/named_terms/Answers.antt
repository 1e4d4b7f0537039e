use Rattle.std.proofs.Common.{rules, sym, arith}
use Rattle.isle_terms.specs.contracts.env.named.fn.named_terms.terms as closure
use Rattle.isle_terms.specs.Inside.Collecting.ExtractorChecks.{name_at}
use Rattle.isle_terms.proofs.Collections.GatheredTerms.{gathered}
use Rattle.isle_terms.proofs.env.named.named_terms.Goals as goal

pub returns : goal.returns
returns c =
    let made = gathered _ (λ q. (closure.captures q).seen.refused) (λ q. (closure.captures q).seen.terms.items)
    (λ q. q.0.ghost_name) name_at (λ p x q call. search rules) _ _ _ c.terms.ensures.handed in
    let kept = sym made.1 in
    grind (arith, made.0, kept)
