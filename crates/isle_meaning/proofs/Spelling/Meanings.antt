-- Positions of rules decide nothing of what calls mean.
use Rattle.std.proofs.Common.{◌≡◌, inl, inr, ℕ, zero, suc, List, [], map, Bool, true, false, Option, Some, None, slice_get, sym, ◌∙◌, ap, subst}
use Rattle.std.specs.Prelude.{◌≤ℤ◌}
use Rattle.isle_ast.specs.Trees.WithoutPos.{no_pos}
use Rattle.isle_types.proofs.Zipped.{mapped_at}
use Rattle.isle_rules.specs.TypedRules.{TypedRule}
use Rattle.isle_meaning.specs.Values.{Value, Values}
use Rattle.isle_meaning.specs.Words.{word_of, steps_of}
use Rattle.isle_meaning.specs.Answers.{Completion}
use Rattle.isle_meaning.specs.Matching.{MatchesWith, Matches}
use Rattle.isle_meaning.specs.RightSides.{RightOf}
use Rattle.isle_meaning.specs.Scopes.{Covers}
use Rattle.isle_meaning.specs.Worlds.{CheckedProgram, Answers, Event}
use Rattle.isle_meaning.specs.Calls.{Agrees, MakesIf, Makes, Told, Means, IsRuleAt}
use Rattle.isle_meaning.specs.Laws.Order.{with_rules}
use Rattle.isle_meaning.specs.Laws.Spelling.{typed_rule_without_pos, AlikeProgramsMeanTheSame}
use Rattle.isle_meaning.proofs.Chains.Deeper.{right_more}
use Rattle.isle_meaning.proofs.Spelling.Bare.{there_bare}

-- a rule at the place of another differs in its position alone
module _ (rules others : List TypedRule) (same : map typed_rule_without_pos rules ≡ map typed_rule_without_pos others) where
  pub like : (i : ℕ) (rule : TypedRule) → slice_get others i ≡ Some rule
      → (own : TypedRule) × (slice_get rules i ≡ Some own) × (typed_rule_without_pos own ≡ typed_rule_without_pos rule)
  like i rule at =
      mapped_at typed_rule_without_pos rules i (typed_rule_without_pos rule)
      (ap (λ (l : List TypedRule). slice_get l i) same ∙ there_bare typed_rule_without_pos others i rule at)

-- a typed rule without its position and its name
abbrev pub nameless : TypedRule → TypedRule
nameless rule = record rule { pos = no_pos; name = None }

-- each of these rules is one of the others, but for positions and names
abbrev pub AreLike : List TypedRule → List TypedRule → Type 0
AreLike rules others = (i : ℕ) (rule : TypedRule) → slice_get rules i ≡ Some rule
    → (j : ℕ) × (own : TypedRule) × (slice_get others j ≡ Some own) × (nameless rule ≡ nameless own)

module _ (p : CheckedProgram) (rules : List TypedRule) (there : AreLike p.rules rules) (back : AreLike rules p.rules) (w : Answers) where
  -- a rule of the one has its like in the other
  moved : (t i : ℕ) (rule : TypedRule) → IsRuleAt p t i rule
      → (j : ℕ) × (own : TypedRule) × IsRuleAt (with_rules p rules) t j own × (nameless rule ≡ nameless own)
  moved t i rule at =
      let (j, own, here, is) = there i rule at.listed in
      (j, own, record { listed = here; of_term = ap (λ (r : TypedRule). r.root) (sym is) ∙ at.of_term }, is)

  found : (t i : ℕ) (rule : TypedRule) → IsRuleAt (with_rules p rules) t i rule
      → (j : ℕ) × (own : TypedRule) × IsRuleAt p t j own × (nameless rule ≡ nameless own)
  found t i rule at =
      let (j, own, here, is) = back i rule at.listed in
      (j, own, record { listed = here; of_term = ap (λ (r : TypedRule). r.root) (sym is) ∙ at.of_term }, is)

  module _ (below above : ℕ → Values → List Event → Option Value → Type 0)
      (rises : (t : ℕ) (vs : Values) (trace : List Event) (x : Option Value) → below t vs trace x → above t vs trace x) where
    -- an impure call does the same
    makes_moved : (k : Bool) (t : ℕ) (vs : Values) (effects : List Event) (b : Option Value) → MakesIf p below k t vs effects b
        → MakesIf (with_rules p rules) above k t vs effects b
    makes_moved true t vs effects b h = rises t vs effects b h
    makes_moved false t vs effects b h = record {
      args = h.args;
      typed = h.typed;
      stand = h.stand;
      answer = h.answer;
      alone = h.alone;
      allowed = h.allowed;
      gives_it = h.gives_it;
    }

    -- what agrees with the one agrees with the other
    agrees_moved : (c : Completion) → Agrees (with_rules p rules) w above c → Agrees p w below c
    agrees_moved c h = record {
      outside = h.outside;
      outputs = h.outputs;
      inside = λ t vs b i y m. h.inside t vs b i y (rises t vs [] b m);
      allowed = h.allowed;
      typed = record { construct = h.typed.construct; extract = h.typed.extract };
    }

    -- so is what is told under one completion
    told_moved : (c : Completion) (t : ℕ) (args : Values) (trace : List Event) (x : Option Value) → Told p below c t args trace x
        → Told (with_rules p rules) above c t args trace x
    told_moved c t args trace x (inl g) =
        let (place, own, at, is) = moved t g.place g.chosen g.at in inl (record {
          place = place;
          chosen = own;
          at = at;
          variables = g.variables;
          matches = subst (λ (r : TypedRule). MatchesWith p.terms c args r g.variables) is g.matches;
          greatest = λ i other stands m.
              let (j, like_other, here, as') = found t i other stands in
              subst (λ (r : TypedRule). r.priority ≤ℤ own.priority) (sym as')
              (subst (λ (r : TypedRule). like_other.priority ≤ℤ r.priority) is
              (g.greatest j like_other here (subst (λ (r : TypedRule). Matches p.terms c args r) as' m)));
          right = subst (λ (r : TypedRule). RightOf p.terms c (Makes (with_rules p rules) above) g.variables r trace x) is
              (right_more (Makes p below) (Makes (with_rules p rules) above)
              (λ u vs effects b. makes_moved (p.has_rules u) u vs effects b) c (g.variables) []
              (steps_of p.terms g.chosen.right) (word_of p.terms g.chosen.right) trace x (g.right));
        })
    told_moved c t args trace x (inr g) = inr (record {
      none = λ i rule stands m.
          let (j, own, here, as') = found t i rule stands in
          g.none j own here (subst (λ (r : TypedRule). Matches p.terms c args r) as' m);
      partial = g.partial;
      failure = g.failure;
    })

  pub likewise : (n t : ℕ) (args : Values) (trace : List Event) (x : Option Value) → Means p w n t args trace x
      → Means (with_rules p rules) w n t args trace x
  likewise zero t args trace x h = absurd h
  likewise (suc n) t args trace x h =
      let rises : (u : ℕ) (vs : Values) (s : List Event) (b : Option Value) → Means p w n u vs s b → Means (with_rules p rules) w n u vs s b =
      λ u vs s b. likewise n u vs s b in (
        h.0,
        λ c agrees covers. told_moved (Means p w n) (Means (with_rules p rules) w n) rises c t args trace x
            (h.1 c (agrees_moved (Means p w n) (Means (with_rules p rules) w n) rises c agrees)
            (λ i rule at.
            let (j, own, here, is) = moved t i rule at in
            subst (λ (r : TypedRule). Covers p.terms c args r) (sym is) (covers j own here))),
      )

-- Where the rules of two programs are each other's, but for positions and names, and all else is one, a call means the same.
pub like_means : (one other : CheckedProgram) → one.terms ≡ other.terms → one.values ≡ other.values → one.has_rules ≡ other.has_rules
    → AreLike one.rules other.rules → AreLike other.rules one.rules → (w : Answers) (n t : ℕ) (args : Values) (trace : List Event)
    (answer : Option Value) → Means one w n t args trace answer → Means other w n t args trace answer
like_means one other terms values has_rules there back w n t args trace answer h =
    let is : with_rules one other.rules ≡ other =
    (λ i. record { terms = terms i; values = values i; has_rules = has_rules i; rules = other.rules }) in
    subst (λ (p : CheckedProgram). Means p w n t args trace answer) is (likewise one other.rules there back w n t args trace answer h)

-- rules that differ in positions alone are each other's
likes : (rules others : List TypedRule) → map typed_rule_without_pos rules ≡ map typed_rule_without_pos others → AreLike others rules
likes rules others same i rule at =
    let (own, there, is) = like rules others same i rule at in
    (i, own, there, ap nameless (sym is))

-- In programs that differ in their rules' positions alone a call means the same.
pub alike_means : AlikeProgramsMeanTheSame
alike_means one other alike =
    like_means one other alike.terms alike.values alike.has_rules (likes other.rules one.rules (sym alike.rules))
    (likes one.rules other.rules alike.rules)
