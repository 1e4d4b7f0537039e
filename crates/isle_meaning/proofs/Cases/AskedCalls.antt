-- Worked cases: which calls a call asks, at which site of which rule.
use Rattle.std.proofs.Common.{arith, ◌≡◌, ◌≢◌, ◌⊎◌, ℕ, zero, suc, pos, [], ◌∷◌, inl, inr, Bool, true, false, refl, sym, ◌∙◌, ap, subst, None, Some}
use Rattle.std.proofs.Common.{length, slice_get}
use Rattle.std.specs.Prelude.{if◌then◌else◌, ◌==◌, not, ◌≤ℤ◌}
use Rattle.std.specs.Int.{w128}
use Rattle.std.proofs.lemmas.Int.{fits_signed_from_abs}
use Rattle.std.proofs.lemmas.Option.{none-some, same_Some}
use Rattle.isle_rules.specs.Values.{ValueTree, ValueTrees, bool_tree, int_tree, no_trees}
use Rattle.isle_rules.specs.Values.{more_trees, big_tree, const_tree, opaque_tree}
use Rattle.isle_rules.specs.Values.{data_tree}
use Rattle.isle_rules.specs.TypedRules.{typed_bind, typed_term, typed_wildcard, no_typed, more_typed, built_var, built_term, no_built}
use Rattle.isle_rules.specs.TypedRules.{more_built, TypedExpr, TypedRule}
use Rattle.isle_meaning.specs.Facts.{declared_shape}
use Rattle.isle_meaning.specs.Got.{Got, unknown, fails, gives}
use Rattle.isle_meaning.specs.Values.{Value, Values, bool_value, no_values, more_values, count, more, ask}
use Rattle.isle_meaning.specs.ValueTypes.{ValueFacts, truth_kind, IsOfType, AreOfTypes}
use Rattle.isle_meaning.specs.GroundValues.{value_of, values_of, AreValuesOf}
use Rattle.isle_meaning.specs.Answers.{Completion}
use Rattle.isle_meaning.specs.Demands.{demands_of}
use Rattle.isle_meaning.specs.Sites.{Site, argument, extractor_call, constructor_call, no_sites, more_sites}
use Rattle.isle_meaning.specs.Subtrees.{IsSubtree}
use Rattle.isle_meaning.specs.Held.{plain, constructed, extracted, values}
use Rattle.isle_meaning.specs.Scopes.{Covers}
use Rattle.isle_meaning.specs.Words.{set}
use Rattle.isle_meaning.specs.Worlds.{CheckedProgram, Answers}
use Rattle.isle_meaning.specs.Calls.{Agrees, CoversAll, Means}
use Rattle.isle_meaning.specs.Asking.{Asked, asks_value, asks_outputs, IsSiteOfRule, IsCallOn, AsksToChoose, IsWrittenCall, IsNeededCall}
use Rattle.isle_meaning.specs.Asking.{ChosenAsks, AsksToFinish, no_link}
use Rattle.isle_meaning.specs.Asking.{to_finish, EndsAt, ill_typed}
use Rattle.isle_meaning.proofs.Cases.CalledTerms.{number, on, silent, one_type, rule_of, x}

-- ---- (decl e (u8 u8) u8) (extern extractor infallible e e) (decl partial f (u8) u8) (rule (f (e x y)) x), where e is 0 and f is 1

abbrev pub with_opener : CheckedProgram
with_opener = record {
  terms = record {
    shape = λ t. declared_shape;
    pure = λ t. false;
    partial = λ t. t == 1;
    multi = λ t. false;
    infallible = λ t. t == 0;
    inputs = λ t. if t == 0 then 1 ∷ 1 ∷ [] else (1 ∷ []);
    type_of = λ t. 1;
    variant_fields = λ ty place. [];
    struct_fields = λ ty. [];
    constant_type = λ name. 0;
  };
  values = one_type;
  has_rules = λ t. t == 1;
  rules = rule_of 1 (pos 0) (typed_term 1 0 (more_typed x (more_typed (typed_bind 1 1 (typed_wildcard 1)) no_typed))) [] (built_var 1 0) ∷ [];
}

abbrev opens : TypedRule
opens = rule_of 1 (pos 0) (typed_term 1 0 (more_typed x (more_typed (typed_bind 1 1 (typed_wildcard 1)) no_typed))) [] (built_var 1 0)

-- its rule demands nothing
demands_nothing : demands_of with_opener.terms opens ≡ []
demands_nothing = refl

-- none has a greater priority
opens_alone : (i : ℕ) (rule : TypedRule) → slice_get with_opener.rules i ≡ Some rule → rule.priority ≤ℤ pos 0
opens_alone zero rule at = subst (λ (r : TypedRule). r.priority ≤ℤ pos 0) (same_Some _ rule at) (omega arith)
opens_alone (suc i) rule at = absurd (none-some rule at)

-- what e gives, where it is answered
record Opened (g : Got Values) : Type 0 where
  one : Value
  other : Value
  both : g ≡ gives (more_values one (more_values other no_values))

opened : (c : Completion) → Agrees with_opener silent (Means with_opener silent 0) c → CoversAll with_opener c 1 (on 4)
    → Opened (c.extract 0 (number 4))
opened c agrees covers = by (c.extract 0 (number 4)) refl
  where
    two : (vs : Values) → count vs ≡ 2 → Opened (gives vs)
    two no_values n = absurd (omega (arith, n))
    two (more_values v no_values) n = absurd (omega (arith, n))
    two (more_values v (more_values u no_values)) n = record { one = v; other = u; both = refl }
    two (more_values v (more_values u (more_values z vs))) n = absurd (omega (arith, n))

    by : (g : Got Values) → c.extract 0 (number 4) ≡ g → Opened (c.extract 0 (number 4))
    by unknown e = absurd ((covers 0 opens (record { listed = refl; of_term = refl })).0.0.0.1 (number 4) refl (ap (extracted true) e))
    by fails e = absurd (let wrong : true ≡ false = agrees.allowed.fallible 0 (number 4) e in cc)
    by (gives vs) e = subst Opened (sym e) (two vs (agrees.allowed.outputs 0 (number 4) vs e))

-- (f 4) asks e for its result alone, which is a variable that e gives
asks_behind_variable : AsksToFinish with_opener silent (IsNeededCall with_opener.terms) 0 1 (on 4) [] (asks_outputs 0 (number 4))
asks_behind_variable = record {
  place = 0;
  rule = opens;
  at = record { listed = refl; of_term = refl };
  call = extractor_call 0 (argument 0);
  fixed = λ c agrees covers. let its = opened c agrees covers in record {
    matches = (
      set (λ k. its.one) 1 (its.other),
      (
        ((more_values (its.one) (more_values (its.other) no_values), its.both, ((refl, tt), ((refl, tt), tt))), tt),
        tt,
      ),
    );
    greatest = λ i other at m. opens_alone i other (at.listed);
    asks = (refl, inl (inr (inl refl)), (refl, λ k. refl));
  };
}

-- so a run that asks what is needed ends at e, which may not fail but is answered none, whatever it asks before a choice
ends_behind_variable : (chooses : ℕ → ℕ → Values → Asked → Type 0)
    → EndsAt with_opener silent (record { chooses = chooses; finishes = AsksToFinish with_opener silent (IsNeededCall with_opener.terms) }) 1
    (asks_value 1 (on 4)) [] (ill_typed (asks_outputs 0 (number 4)))
ends_behind_variable chooses = record {
  left = 0;
  chain = to_finish [] [] refl asks_behind_variable no_link;
  tree = int_tree (pos 4);
  typed = fits_signed_from_abs w128 (pos 4) (omega arith);
  stands = refl;
  wrong = λ allowed. let wrong : true ≡ false = allowed in cc;
}

-- a completion in which e gives 1 and 1
abbrev ones : Values
ones = more_values (number 1) (more_values (number 1) no_values)

abbrev where_e_gives_ones : Completion
where_e_gives_ones = record {
  construct = λ t vs. unknown;
  extract = λ t v. if t == 0 then gives ones else unknown;
  constructs = λ t vs. unknown;
  extracts = λ t v. unknown;
  place = λ s. 0;
}

where_e_gives_ones_agrees : Agrees with_opener silent (Means with_opener silent 0) where_e_gives_ones
where_e_gives_ones_agrees = record {
  outside = λ t trees outside typed allowed known. absurd (known refl);
  outputs = λ t tree typed allowed known. free (t == 0) allowed known;
  inside = λ t vs b has typed means known. absurd means;
  allowed = record {
    partial = λ t vs e. absurd cc;
    fallible = λ t v e. absurd (never (t == 0) e);
    outputs = λ t v vs e. many (t == 0) vs e;
  };
  typed = record { construct = λ t vs v e. absurd cc; extract = λ t v vs e. of_types (t == 0) vs e };
}
  where
    free : (b : Bool) → b ≡ false → (if b then gives ones else unknown) ≢ unknown → (if b then gives ones else unknown) ≡ fails
    free true e known = absurd cc
    free false e known = absurd (known refl)

    never : (b : Bool) → (if b then gives ones else unknown) ≡ fails → ⊥
    never true e = cc
    never false e = cc

    many : (b : Bool) (vs : Values) → (if b then gives ones else unknown) ≡ gives vs
        → count vs ≡ length {A = ℕ} (if b then 1 ∷ 1 ∷ [] else (1 ∷ []))
    many true vs e = let q : vs ≡ ones = cc in ap count q
    many false vs e = absurd cc

    of_types : (b : Bool) (vs : Values) → (if b then gives ones else unknown) ≡ gives vs
        → AreValuesOf one_type vs (if b then 1 ∷ 1 ∷ [] else (1 ∷ []))
    of_types true vs e = record {
      trees = more_trees (int_tree (pos 1)) (more_trees (int_tree (pos 1)) no_trees);
      typed = (fits_signed_from_abs w128 (pos 1) (omega arith), (fits_signed_from_abs w128 (pos 1) (omega arith), tt));
      stand = (let q : ones ≡ vs = cc in q);
    }
    of_types false vs e = absurd cc

where_e_gives_ones_covers : CoversAll with_opener where_e_gives_ones 1 (on 4)
where_e_gives_ones_covers zero rule at = subst (Covers with_opener.terms where_e_gives_ones (on 4)) (same_Some _ rule (at.listed))
    ((((tt, λ v e k. cc), (tt, (tt, tt))), tt), tt)
where_e_gives_ones_covers (suc i) rule at = absurd (none-some rule (at.listed))

-- the rule is chosen there, and writes e's call
abbrev Writes : Site → TypedRule → Type 0
Writes call rule = ChosenAsks with_opener (Means with_opener silent 0) (IsWrittenCall with_opener.terms rule) where_e_gives_ones 1 (on 4) rule [] call
    (asks_outputs 0 (number 4))

-- but no call is written in its right side
writes_none : AsksToFinish with_opener silent (IsWrittenCall with_opener.terms) 0 1 (on 4) [] (asks_outputs 0 (number 4)) → ⊥
writes_none h = by (h.place) (h.rule) (h.at.listed)
    (h.fixed where_e_gives_ones where_e_gives_ones_agrees where_e_gives_ones_covers)
  where
    by : (i : ℕ) (rule : TypedRule) → slice_get with_opener.rules i ≡ Some rule → Writes (h.call) rule → ⊥
    by zero rule at chosen =
        let its : Writes (h.call) opens = subst (Writes (h.call)) (sym (same_Some _ rule at)) chosen in
        elim (its.asks.1) [ inl e ↦ e | inr e ↦ e ]
    by (suc i) rule at chosen = none-some rule at

-- ---- (decl pure g (bool) bool) .. (rule (g x) x) (rule (f x) (if-let _ (k (g x))) (if-let _ (k (not (g x)))) x), where g is 0, f is 1,
-- not is 2 and k is 3

abbrev truths : ValueFacts
truths = record { kind = λ ty. truth_kind; constant = λ name. None; data_named = λ name. None; shape_named = λ name. None }

abbrev called : ℕ → TypedExpr → TypedExpr
called t e = built_term 1 t (more_built e no_built)

abbrev pub both_ways : TypedRule
both_ways = rule_of 1 (pos 0) x (record { pattern = typed_wildcard 1; value = called 3 (called 0 (built_var 1 0)) }
    ∷ record { pattern = typed_wildcard 1; value = called 3 (called 2 (called 0 (built_var 1 0))) } ∷ []) (built_var 1 0)

abbrev pub wavering : CheckedProgram
wavering = record {
  terms = record {
    shape = λ t. declared_shape;
    pure = λ t. true;
    partial = λ t. false;
    multi = λ t. false;
    infallible = λ t. false;
    inputs = λ t. 1 ∷ [];
    type_of = λ t. 1;
    variant_fields = λ ty place. [];
    struct_fields = λ ty. [];
    constant_type = λ name. 0;
  };
  values = truths;
  has_rules = λ t. if t == 0 then true else (t == 1);
  rules = rule_of 0 (pos 0) x [] (built_var 1 0) ∷ both_ways ∷ [];
}

-- the truth of an argument, turned
abbrev turned_tree : ValueTrees → Bool
turned_tree (more_trees (bool_tree b) no_trees) = not b
turned_tree trees = false

abbrev turned : Values → Bool
turned (more_values (bool_value b) no_values) = not b
turned vs = false

-- a world in which not turns, and k is true
abbrev pub turning : Answers
turning = record {
  construct = λ t trees. Some (bool_tree (if t == 2 then turned_tree trees else true));
  extract = λ t v. None;
}

abbrev pub truth : Bool → Values
truth b = more_values (bool_value b) no_values

-- a completion in which g is answered this
abbrev answers : Bool → ℕ → Values → Bool
answers b t vs = if t == 0 then b else (if t == 2 then turned vs else true)

abbrev where_g_is : Bool → Completion
where_g_is b = record {
  construct = λ t vs. gives (bool_value (answers b t vs));
  extract = λ t v. unknown;
  constructs = λ t vs. unknown;
  extracts = λ t v. unknown;
  place = λ s. 0;
}

-- both turn alike
turn_alike : (trees : ValueTrees) → AreOfTypes truths trees (1 ∷ []) → turned (values_of truths trees) ≡ turned_tree trees
turn_alike no_trees typed = absurd typed
turn_alike (more_trees v (more_trees u vs)) typed = absurd (typed.1)
turn_alike (more_trees (bool_tree b) no_trees) typed = refl
turn_alike (more_trees (int_tree n) no_trees) typed = absurd (typed.0)
turn_alike (more_trees (big_tree n) no_trees) typed = absurd (let e = typed.0.0 in cc)
turn_alike (more_trees (const_tree name) no_trees) typed = absurd (let e = typed.0.0 in cc)
turn_alike (more_trees (opaque_tree n) no_trees) typed = absurd (let e = typed.0.0 in cc)
turn_alike (more_trees (data_tree name fields) no_trees) typed = absurd (let e = typed.0.1 in cc)

-- each such completion agrees
where_g_is_agrees : (b : Bool) → Agrees wavering turning (Means wavering turning 0) (where_g_is b)
where_g_is_agrees b = record {
  outside = λ t trees no_rules typed allowed known. by (t == 0) (t == 1) (t == 2) no_rules trees typed;
  outputs = λ t tree typed allowed known. absurd (known refl);
  inside = λ t vs a has typed means known. absurd means;
  allowed = record { partial = λ t vs e. absurd cc; fallible = λ t v e. absurd cc; outputs = λ t v vs e. absurd cc };
  typed = record {
    construct = λ t vs v e. record {
      tree = bool_tree (answers b t vs);
      typed = refl;
      stands =
          (let same : bool_value (answers b t vs) ≡ v = cc in same);
    };
    extract = λ t v vs e. absurd cc;
  };
}
  where
    by : (zeroth first second : Bool) → (if zeroth then true else first) ≡ false → (trees : ValueTrees) → AreOfTypes truths trees (1 ∷ [])
        → gives (bool_value (if zeroth then b else (if second then turned (values_of truths trees) else true)))
        ≡ gives (bool_value (if second then turned_tree trees else true))
    by true first second no_rules trees typed = absurd cc
    by false first true no_rules trees typed = ap (λ (x : Bool). gives (bool_value x)) (turn_alike trees typed)
    by false first false no_rules trees typed = refl

-- and covers the rule
where_g_is_covers : (b : Bool) → Covers wavering.terms (where_g_is b) (truth true) both_ways
where_g_is_covers b = (
  (tt, tt),
  (
    ((((tt, tt), λ vs e k. cc), tt), λ vs e k. cc),
    tt,
    (((((((tt, tt), λ vs e k. cc), tt), λ vs e k. cc), tt), λ vs e k. cc), tt, tt),
  ),
)

-- so there is one that agrees and covers the call
premises_met : (c : Completion) × Agrees wavering turning (Means wavering turning 0) c × CoversAll wavering c 1 (truth true)
premises_met = (where_g_is true, where_g_is_agrees true, λ i rule at. by i rule (at.listed) (at.of_term))
  where
    by : (i : ℕ) (rule : TypedRule) → slice_get wavering.rules i ≡ Some rule → rule.root ≡ 1
        → Covers wavering.terms (where_g_is true) (truth true) rule
    by zero rule at root =
        let same : 0 ≡ 1 = ap (λ (r : TypedRule). r.root) (same_Some _ rule at) ∙ root in absurd (omega (arith, same))
    by (suc zero) rule at root = subst (Covers wavering.terms (where_g_is true) (truth true)) (same_Some _ rule at) (where_g_is_covers true)
    by (suc (suc i)) rule at root = absurd (none-some rule at)

abbrev q : Asked
q = asks_value 3 (truth true)

-- the sites of (g x), (not (g x)) and the two calls of k
abbrev g_site : Site
g_site = constructor_call 0 (more_sites (argument 0) no_sites) 0

abbrev not_site : Site
not_site = constructor_call 2 (more_sites g_site no_sites) 0

abbrev first_site : Site
first_site = constructor_call 3 (more_sites g_site no_sites) 0

abbrev second_site : Site
second_site = constructor_call 3 (more_sites not_site no_sites) 0

-- under each completion one of the two calls of k is on true
one_is_on_true : (c : Completion) → Agrees wavering turning (Means wavering turning 0) c → Covers wavering.terms c (truth true) both_ways
    → IsCallOn wavering.terms c (truth true) first_site q ⊎ IsCallOn wavering.terms c (truth true) second_site q
one_is_on_true c agrees covers = by (c.construct 0 (truth true)) refl
  where
    -- what g is answered, the arguments of what stands on it are
    on_g : (b : Bool) → c.construct 0 (truth true) ≡ gives (bool_value b)
        → values wavering.terms c (truth true) [] (more_sites g_site no_sites) ≡ gives (truth b)
    on_g b e = ap (λ (g : Got Value). more (plain (constructed false g)) (gives no_values)) e

    turn : c.construct 0 (truth true) ≡ gives (bool_value false) → c.construct 2 (truth false) ≡ gives (bool_value true)
    turn e = agrees.outside 2 (more_trees (bool_tree false) no_trees) refl (refl, tt) refl
        (λ open_call. covers.1.2.0.0.0.1 (truth false) (on_g false e) (ap (constructed false) open_call))

    on_not : c.construct 0 (truth true) ≡ gives (bool_value false)
        → values wavering.terms c (truth true) [] (more_sites not_site no_sites) ≡ gives (truth true)
    on_not e =
        ap (λ (gs : Got Values). more (plain (ask (λ vs. constructed false (c.construct 2 vs)) gs)) (gives no_values)) (on_g false e)
        ∙ ap (λ (g : Got Value). more (plain (constructed false g)) (gives no_values)) (turn e)

    split : (b : Bool) → c.construct 0 (truth true) ≡ gives (bool_value b)
        → IsCallOn wavering.terms c (truth true) first_site q ⊎ IsCallOn wavering.terms c (truth true) second_site q
    split true e = inl (refl, on_g true e)
    split false e = inr (refl, on_not e)

    of_tree : (v : Value) (tree : ValueTree) → IsOfType truths tree 1 → value_of truths tree ≡ v → c.construct 0 (truth true) ≡ gives v
        → IsCallOn wavering.terms c (truth true) first_site q ⊎ IsCallOn wavering.terms c (truth true) second_site q
    of_tree v (bool_tree b) typed stands e = split b (e ∙ ap (λ (z : Value). gives z) (sym stands))
    of_tree v (int_tree n) typed stands e = absurd typed
    of_tree v (big_tree n) typed stands e = absurd (let wrong = typed.0 in cc)
    of_tree v (const_tree name) typed stands e = absurd (let wrong = typed.0 in cc)
    of_tree v (opaque_tree n) typed stands e = absurd (let wrong = typed.0 in cc)
    of_tree v (data_tree name fields) typed stands e = absurd (let wrong = typed.1 in cc)

    by : (g : Got Value) → c.construct 0 (truth true) ≡ g
        → IsCallOn wavering.terms c (truth true) first_site q ⊎ IsCallOn wavering.terms c (truth true) second_site q
    by unknown e = absurd (covers.1.0.0.0.1 (truth true) refl (ap (constructed false) e))
    by fails e = absurd (let wrong : false ≡ true = agrees.allowed.partial 0 (truth true) e in cc)
    by (gives v) e = let typed = agrees.typed.construct 0 (truth true) v e in of_tree v typed.tree typed.typed typed.stands e

-- none of its sites is such a call under each completion
none_is_fixed : (site call : Site) → IsSiteOfRule wavering.terms both_ways site → IsSubtree call site
    → ((b : Bool) → IsCallOn wavering.terms (where_g_is b) (truth true) call q) → ⊥
none_is_fixed site call (inl (inl its)) within fixed = its
none_is_fixed site call (inl (inr its)) within fixed = its
none_is_fixed site call (inr (inl its)) within fixed = elim (subst (IsSubtree call) its within) [
  | inl e ↦ (let on = (subst (λ (s : Site). IsCallOn wavering.terms (where_g_is false) (truth true) s q) e (fixed false)).1 in cc)
  | inr (inl (inl e)) ↦ (let on = (subst (λ (s : Site). IsCallOn wavering.terms (where_g_is false) (truth true) s q) e (fixed false)).0 in
      omega (arith, on))
  | inr (inl (inr (inl e))) ↦ subst (λ (s : Site). IsCallOn wavering.terms (where_g_is false) (truth true) s q) e (fixed false)
  | inr (inl (inr (inr e))) ↦ e
  | inr (inr e) ↦ e
]
none_is_fixed site call (inr (inr (inl its))) within fixed = its
none_is_fixed site call (inr (inr (inr (inl its)))) within fixed = elim (subst (IsSubtree call) its within) [
  | inl e ↦ (let on = (subst (λ (s : Site). IsCallOn wavering.terms (where_g_is true) (truth true) s q) e (fixed true)).1 in cc)
  | inr (inl (inl e)) ↦ (let on = (subst (λ (s : Site). IsCallOn wavering.terms (where_g_is false) (truth true) s q) e (fixed false)).0 in
      omega (arith, on))
  | inr (inl (inr (inl (inl e)))) ↦ (let on = (subst (λ (s : Site). IsCallOn wavering.terms (where_g_is false) (truth true) s q) e (fixed false)).0 in
      omega (arith, on))
  | inr (inl (inr (inl (inr (inl e))))) ↦ subst (λ (s : Site). IsCallOn wavering.terms (where_g_is false) (truth true) s q) e (fixed false)
  | inr (inl (inr (inl (inr (inr e))))) ↦ e
  | inr (inl (inr (inr e))) ↦ e
  | inr (inr e) ↦ e
]
none_is_fixed site call (inr (inr (inr (inr (inl its))))) within fixed = its
none_is_fixed site call (inr (inr (inr (inr (inr its))))) within fixed = its

-- so (f true) doesn't ask (k true) before its rule is chosen
asks_no_fixed_call : AsksToChoose wavering turning 0 1 (truth true) q → ⊥
asks_no_fixed_call h = by (h.place) (h.rule) (h.at.listed) (h.at.of_term) (h.its) (h.fixed)
  where
    by : (i : ℕ) (rule : TypedRule) → slice_get wavering.rules i ≡ Some rule → rule.root ≡ 1 → IsSiteOfRule wavering.terms rule (h.site)
        → ((c : Completion) → Agrees wavering turning (Means wavering turning 0) c → Covers wavering.terms c (truth true) rule
        → IsCallOn wavering.terms c (truth true) (h.call) q) → ⊥
    by zero rule at root its fixed =
        let same : 0 ≡ 1 = ap (λ (r : TypedRule). r.root) (same_Some _ rule at) ∙ root in absurd (omega (arith, same))
    by (suc zero) rule at root its fixed =
        let same : both_ways ≡ rule = same_Some _ rule at in
        none_is_fixed (h.site) (h.call) (subst (λ (r : TypedRule). IsSiteOfRule wavering.terms r (h.site)) (sym same) its) (h.within)
        (λ b. fixed (where_g_is b) (where_g_is_agrees b)
        (subst (Covers wavering.terms (where_g_is b) (truth true)) same (where_g_is_covers b)))
    by (suc (suc i)) rule at root its fixed = absurd (none-some rule at)
