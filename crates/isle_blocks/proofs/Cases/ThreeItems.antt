-- Worked case: (rule (m (e x)) x), where the multi extractor `e` gives 4, 4 and 9. The bag is 4, 4 and 9.
use Rattle.std.proofs.Common.{◌≡◌, ◌≢◌, inl, inr, ℕ, zero, suc, pos, true, false, List, [], ◌∷◌, Some, slice_get, refl, ap, sym, subst}
use Rattle.std.proofs.Common.{◌∙◌}
use Rattle.std.specs.List.{AllZip}
use Rattle.std.proofs.lemmas.Option.{same_Some, none-some}
use Rattle.isle_types.specs.declared.ids.Sym.{Sym}
use Rattle.isle_rules.specs.TypedRules.{TypedRule, typed_bind, typed_term, typed_wildcard, no_typed, more_typed, built_var}
use Rattle.isle_meaning.specs.Got.{fails, gives}
use Rattle.isle_meaning.specs.Values.{Value, Values, int_value, no_values, more_values, nth_of}
use Rattle.isle_meaning.specs.Facts.{TermFacts, declared_shape}
use Rattle.isle_meaning.specs.Answers.{Completion}
use Rattle.isle_meaning.specs.Held.{Held, held_value, outputs_of}
use Rattle.isle_meaning.specs.Sites.{Site, argument, extractor_call}
use Rattle.isle_blocks.specs.declared.ids.BindingId.{BindingId}
use Rattle.isle_blocks.specs.declared.binding.Binding.TheVariants as sites
use Rattle.isle_blocks.specs.declared.constraint.Constraint.{Constraint}
use Rattle.isle_blocks.specs.declared.rule.Rule.{Rule}
use Rattle.isle_blocks.specs.RuleFaults.{own_result}
use Rattle.isle_blocks.specs.RuleSets.{RulesOverSites}
use Rattle.isle_blocks.specs.Trees.Functions.{functions_model, HasItem}
use Rattle.isle_blocks.specs.Trees.RuleBags.{Way, Match, held_at, HasMultiCall, IsMatch, AreOne, IsBag, IsReturnAt}
use Rattle.isle_blocks.specs.Trees.View.{rules_of}
use Rattle.isle_blocks.proofs.Trees.Bags.Placed.{apart_pairs}
use Rattle.isle_trees.specs.Bag.{Picks, pick, Model, Round, gave, walk_all}
use Rattle.isle_trees.specs.Rules.{Elem}
use Rattle.isle_trees.specs.Tree.{Steps, done, loop, give}
use Rattle.isle_trees.proofs.Basics.{contains_elem, elem_contains}

-- the terms are `multi`, and of one argument
abbrev facts : TermFacts
facts = record {
  shape = λ t. declared_shape;
  pure = λ t. true;
  partial = λ t. false;
  multi = λ t. true;
  infallible = λ t. false;
  inputs = λ t. 1 ∷ [];
  type_of = λ t. 1;
  variant_fields = λ ty k. [];
  struct_fields = λ ty. [];
  constant_type = λ n. 1;
}

-- an integer, alone
abbrev one : ℕ → Values
one n = more_values (int_value (pos n)) no_values

-- what `e` gives
abbrev items : List Values
items = one 4 ∷ one 4 ∷ one 9 ∷ []

-- of any value
abbrev answers : Completion
answers = record { construct = λ t vs. fails; extract = λ t v. fails; constructs = λ t vs. gives []; extracts = λ t v. gives items; place = λ s. 0 }

-- the rule
abbrev rule : TypedRule → TypedRule
rule base = record base {
  root = 0;
  args = more_typed (typed_term 1 1 (more_typed (typed_bind 1 0 (typed_wildcard 1)) no_typed)) no_typed;
  iflets = [];
  right = built_var 1 0;
}

-- the call of `e`
abbrev call : Site
call = extractor_call 1 (argument 0)

-- the way that takes the item at a place, and the rule's match then
abbrev way_to : ℕ → Way
way_to k s = k

abbrev at_place : ℕ → Match
at_place k = record { rule = 0; way = way_to k }

-- the three matches
abbrev bag : List Match
bag = at_place 0 ∷ at_place 1 ∷ at_place 2 ∷ []

module _ (base : TypedRule) (v : Value) where
  -- the rule has one multi call
  the_call : (s : Site) → HasMultiCall facts (rule base) s → s ≡ call
  the_call s (inl (inl e)) = absurd cc
  the_call s (inl (inr (inl e))) = absurd cc
  the_call s (inl (inr (inr (inl e)))) = cc
  the_call s (inl (inr (inr (inr z)))) = absurd z
  the_call s (inr e) = cc

  used : HasMultiCall facts (rule base) call
  used = inl (inr (inr (inl refl)))

  -- and no other stands beside it
  the_rule : (k : ℕ) (r : TypedRule) → slice_get (rule base ∷ []) k ≡ Some r → (k ≡ 0) × (rule base ≡ r)
  the_rule zero r e = (refl, same_Some (rule base) r e)
  the_rule (suc k) r e = absurd (none-some r e)

  -- a match
  abbrev IsOne : Match → Type 0
  IsOne m = IsMatch facts answers (more_values v no_values) (rule base ∷ []) 0 m

  -- the item at a place is taken
  taken : (k : ℕ) (vs : Values) → nth_of items k ≡ gives vs → IsOne (at_place k)
  taken k vs e = record {
    rule = rule base;
    is = record { listed = refl; of_term = refl };
    takes = λ s is. (
      outputs_of vs,
      subst (λ (z : Site). HasItem (held_at facts answers (more_values v no_values) (rule base) (way_to k) z) k (outputs_of vs))
          (sym (the_call s is)) (items, vs, refl, e, refl),
    );
    holds = λ d m proper. absurd m;
  }

  -- each of the bag is a match
  in_bag : (m : Match) → Elem m bag → IsOne m
  in_bag m (inl e) = subst IsOne (sym e) (taken 0 (one 4) refl)
  in_bag m (inr (inl e)) = subst IsOne (sym e) (taken 1 (one 4) refl)
  in_bag m (inr (inr (inl e))) = subst IsOne (sym e) (taken 2 (one 9) refl)
  in_bag m (inr (inr (inr z))) = absurd z

  -- three places have items
  is_place : (k : ℕ) (vs : Values) → nth_of items k ≡ gives vs → Elem (at_place k) bag
  is_place zero vs e = inl refl
  is_place (suc zero) vs e = inr (inl refl)
  is_place (suc (suc zero)) vs e = inr (inr (inl refl))
  is_place (suc (suc (suc k))) vs e = absurd cc

  -- each match is of the bag
  of_bag : (m : Match) → IsOne m → Elem (at_place (m.way call)) bag × AreOne facts (rule base ∷ []) m (at_place (m.way call))
  of_bag m is =
      let its = is.is in
      let (first, same) = the_rule m.rule is.rule its.listed in
      let (x, (l, vs, list, there, item)) = is.takes call (subst (λ (z : TypedRule). HasMultiCall facts z call) same used) in
      let all : items ≡ l = cc in (
        is_place (m.way call) vs (ap (λ (z : List Values). nth_of z (m.way call)) all ∙ there),
        (
          first,
          λ r at s has.
              ap m.way (the_call s (subst (λ (z : TypedRule). HasMultiCall facts z s) (sym ((the_rule m.rule r at).1)) has)),
        ),
      )

  -- other places are other matches
  apart : (j k : ℕ) (m : Match) → j ≢ k → m ≡ at_place k → AreOne facts (rule base ∷ []) (at_place j) m → ⊥
  apart j k m n e same = n (same.1 (rule base) refl call used ∙ ap (λ (z : Match). z.way call) e)

  -- It is the bag.
  is_bag : IsBag facts answers (more_values v no_values) (rule base ∷ []) 0 bag
  is_bag = record {
    sound = λ m inside. in_bag m (contains_elem m bag inside);
    full = λ m is. let (inside, same) = of_bag m is in (at_place (m.way call), elem_contains (at_place (m.way call)) bag inside, same);
    once = apart_pairs (AreOne facts (rule base ∷ [])) bag (
      (λ m i. elim i [
        | inl e ↦ apart 0 1 m (λ q. cc) e
        | inr j ↦ elim j [ inl e ↦ apart 0 2 m (λ q. cc) e | inr z ↦ absurd z ]
      ]),
      ((λ m i. elim i [ inl e ↦ apart 1 2 m (λ q. cc) e | inr z ↦ absurd z ]), ((λ m i. absurd i), tt)),
    );
  }

  -- its results are 4, 4 and 9
  gives_first : held_at facts answers (more_values v no_values) (rule base) (way_to 0) (own_result facts (rule base)) ≡ gives
      (held_value (int_value (pos 4)))
  gives_first = refl

  gives_second : held_at facts answers (more_values v no_values) (rule base) (way_to 1) (own_result facts (rule base)) ≡ gives
      (held_value (int_value (pos 4)))
  gives_second = refl

  gives_third : held_at facts answers (more_values v no_values) (rule base) (way_to 2) (own_result facts (rule base)) ≡ gives
      (held_value (int_value (pos 9)))
  gives_third = refl

  -- a site by its number
  abbrev id : ℕ → BindingId
  id n = record { 0 = n }

  module _ (name : Sym → List ℕ) (own : Rule) (start : Picks Held) where
    -- the rule over the argument, the call and one item of it
    abbrev set : RulesOverSites
    set = record {
      rules = record own { constraints = []; equals = []; iterators = id 1 ∷ []; impure = []; result = id 2 } ∷ [];
      sites = sites.Argument (record { 0 = 0 }) ∷ sites.Extractor (record { 0 = 1 }) (id 0) ∷ sites.Iterator (id 1) ∷ [];
    }

    -- what the sites are
    abbrev model : Model Held
    model = functions_model name set facts answers (more_values v no_values)

    -- for each item the rule returns
    abbrev tree : Steps Constraint
    tree = loop (1 ∷ []) 2 (give [] 0 done) done

    -- an item is taken
    abbrev taking_item : ℕ → Picks Held
    taking_item n = pick start 1 (held_value (int_value (pos n)))

    -- the walk's rounds
    abbrev rounds : List (Round Held)
    rounds = gave 0 (taking_item 4) ∷ gave 0 (taking_item 4) ∷ gave 0 (taking_item 9) ∷ []

    walk_is : walk_all (rules_of name set) model tree start ≡ rounds
    walk_is = refl

    -- a return gives the rule's result
    returned : (k : ℕ) (picks : Picks Held)
        → model.values picks 2 ≡ held_at facts answers (more_values v no_values) (rule base) (way_to k) (own_result facts (rule base))
        → IsReturnAt facts answers (more_values v no_values) (rule base ∷ []) (0 ∷ []) (rules_of name set) model (gave 0 picks) (at_place k)
    returned k picks e = (
      refl,
      λ r at. subst (λ (z : TypedRule). model.values picks 2 ≡ held_at facts answers (more_values v no_values) z (way_to k) (own_result facts z))
          ((the_rule 0 r at).1) e,
    )

    -- They are those of the bag.
    are_returns : AllZip (IsReturnAt facts answers (more_values v no_values) (rule base ∷ []) (0 ∷ []) (rules_of name set) model) rounds bag
    are_returns = (returned 0 (taking_item 4) refl, (returned 1 (taking_item 4) refl, (returned 2 (taking_item 9) refl, tt)))
