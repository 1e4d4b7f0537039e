use Rattle.std.proofs.Common.{◌≡◌, ◌<◌, ◌↔◌, inl, inr, ℕ, Bool, List, false, length, get_or, sym, ap, subst, ◌∙◌, arith}
use Rattle.std.specs.Prelude.{All}
use Rattle.std.specs.List.{AllZip}
use Rattle.std.proofs.lemmas.Bool.{cases_lt}
use Rattle.std.proofs.lemmas.Result.{err_from_is_err_and}
use Rattle.std.proofs.Math.ListN.{replicate}
use Rattle.std.proofs.lemmas.List.{length-replicate}
use Rattle.isle_rules.specs.declared.rules.Rule.{Rule}
use Rattle.isle_rules.specs.TypedRules.{TypedRule}
use Rattle.isle_rules.specs.Shown.RulesShown.{IsShownRule}
use Rattle.isle_blocks.specs.Inside.Building.Contents.{Marked}
use Rattle.isle_blocks.specs.DefinedSets.{facts_by, rules_by}
use Rattle.isle_blocks.specs.RuleFaults.{IsUnreachableAt}
use Rattle.isle_blocks.proofs.Closure.Loops.{get_or-replicate}
use Rattle.isle_blocks.proofs.Sets.DefinedSets.{zip_map}
use Rattle.isle_blocks.proofs.Sets.GatheredRules.{root_within, term_within}
use Rattle.isle_blocks.proofs.Sets.SetsOfTerms.{all_places, sets_all, lost_all}
use Rattle.isle_blocks.proofs.RuleFaults.SizeFaults.{none_within}
use Rattle.isle_blocks.proofs.term_sets.build.Goals as goal

-- no mark is set yet
none_marked : (marks : List Bool) (n : ℕ) → marks ≡ replicate n false → (i : ℕ) → Marked marks i → ⊥
none_marked marks n fresh i marked =
    let unset = ap (λ (l : List Bool). get_or l i false) fresh ∙ get_or-replicate n i in absurd cc

pub places_by_term-requires : goal.places_by_term-requires
places_by_term-requires c =
    let env = c.args.termenv.now in
    let within = all_places (λ (rule : Rule). rule.root_term.0 < length env.terms) env.rules (term_within env c.requires.defined) in
    record {
      rooted = subst (λ (rules : List Rule). All (λ (rule : Rule). rule.root_term.0 < length c.terms.result.now) rules) (sym c.rules.ensures)
          (subst (λ (n : ℕ). All (λ (rule : Rule). rule.root_term.0 < n) env.rules) (sym (ap (λ terms. length terms) c.terms.ensures)) within);
    }

pub unreachable_errors-requires : goal.unreachable_errors-requires
unreachable_errors-requires c =
    ap (λ (l : List Bool). length l) c.as_slice-2.ensures.value ∙ (c.in_ok-sets.ensures.lost c.requires.defined).fits
    ∙ ap (λ (l : List Bool). length l) (c.in_ok-lost.ensures.items_if_clones_equal (λ y q. q)) ∙ length-replicate (length c.rules-2.result.now) false
    ∙ ap (λ (l : List Rule). length l) (c.rules-2.ensures ∙ sym c.rules-3.ensures)

pub returns-clause-sets : goal.returns-clause-sets
returns-clause-sets c = λ d.
    let limit = length c.as_slice.result.now in
    let all : limit ≡ length c.args.termenv.now.terms =
    ap (λ l. length l) c.as_slice.ensures.value ∙ c.in_ok-places.ensures.fits ∙ ap (λ terms. length terms) c.terms.ensures in
    sets_all c.args.termenv.now d limit all c.in_ok-sets.sets.items (c.in_ok-sets.ensures.sets d)

pub returns-clause-unreachable : goal.returns-clause-unreachable
returns-clause-unreachable c = λ d.
    let env = c.args.termenv.now in
    let limit = length c.as_slice.result.now in
    let all : limit ≡ length env.terms =
    ap (λ l. length l) c.as_slice.ensures.value ∙ c.in_ok-places.ensures.fits ∙ ap (λ terms. length terms) c.terms.ensures in
    c.in_ok-unreachable.ensures (facts_by env d) (rules_by env d)
    (subst (λ (rules : List Rule). AllZip (λ made rule. rule.pos ≡ made.pos) (rules_by env d) rules) (sym c.rules-3.ensures)
    (zip_map (IsShownRule d.tyenv.names) (λ (made : TypedRule) (rule : Rule). rule.pos ≡ made.pos) (λ made rule shown. shown.pos) (rules_by env d)
    env.rules d.shows.rules))
    (subst (λ (marks : List Bool). (i : ℕ) → Marked marks i ↔ IsUnreachableAt (facts_by env d) (rules_by env d) i) (sym c.as_slice-2.ensures.value)
    (lost_all env d limit all c.in_ok-lost.lost.items c.rule_sets.new.lost.items
    (none_marked c.in_ok-lost.lost.items (length c.rules-2.result.now) (c.in_ok-lost.ensures.items_if_clones_equal (λ y q. q)))
    (c.in_ok-sets.ensures.lost d)))

pub returns-clause-within : goal.returns-clause-within
returns-clause-within c = λ d term.
    let env = c.args.termenv.now in
    let limit = length c.as_slice.result.now in
    let all : limit ≡ length env.terms =
    ap (λ l. length l) c.as_slice.ensures.value ∙ c.in_ok-places.ensures.fits ∙ ap (λ terms. length terms) c.terms.ensures in
    elim (cases_lt term limit) [
      | inl less ↦ c.in_ok-sets.ensures.within d term less
      | inr past ↦ none_within (facts_by env d) (rules_by env d) term (λ has.
          let within = root_within env d has.place has.rule has.at in let root = has.of_term in omega arith)
    ]

pub returns-in_err-sets-clause-full : goal.returns-in_err-sets-clause-full
returns-in_err-sets-clause-full c =
    let p = err_from_is_err_and c.from_residual-in_err-sets.result c.from_residual-in_err-sets.ensures.1 in
    rw (p.1, p.2) c.in_err-sets.ensures.full
