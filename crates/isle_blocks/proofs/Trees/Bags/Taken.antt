-- A rule of a `multi` term in a way to take items: what its sites hold, whether it matches, and what it gives.
use Rattle.std.proofs.Common.{◌≡◌, ◌⊎◌, ◌↔◌, inl, inr, ℕ, zero, suc, ◌<◌, true, List, [], ◌∷◌, length, map, Option, Some, slice_get}
use Rattle.std.proofs.Common.{refl, ap, sym, subst, ◌∙◌, arith, Contains}
use Rattle.std.specs.Prelude.{if◌then◌else◌}
use Rattle.std.proofs.lemmas.Option.{same_Some, none-some}
use Rattle.isle_types.specs.declared.ids.Sym.{Sym}
use Rattle.isle_rules.specs.declared.rules.Rule as source
use Rattle.isle_rules.specs.TypedRules.{TypedRule}
use Rattle.isle_meaning.specs.Got.{Got, unknown, fails, gives}
use Rattle.isle_meaning.specs.Values.{Value, Values, count, ask, nth_of}
use Rattle.isle_meaning.specs.Facts.{TermFacts}
use Rattle.isle_meaning.specs.Answers.{Completion}
use Rattle.isle_meaning.specs.AboutSites.Functions.{AreFiniteFunctions, AreAsFunctions}
use Rattle.isle_meaning.specs.AboutSites.Parts.{parts_of, IsOneOf}
use Rattle.isle_meaning.specs.Held.{Held, held_value, held_outputs, held_none, held_some, held_answers, outputs_of, item_of, value}
use Rattle.isle_meaning.specs.Holds as holds
use Rattle.isle_meaning.specs.Demands.{Demand}
use Rattle.isle_meaning.specs.Derived.{Derived}
use Rattle.isle_meaning.specs.Demands.{DemandOf}
use Rattle.isle_meaning.specs.Needs.{needs_of, IsNeeded}
use Rattle.isle_meaning.specs.Numbered.{Row, At, AtAll}
use Rattle.isle_meaning.specs.Sites.{Site, iterator, Sites, no_sites, more_sites}
use Rattle.isle_meaning.proofs.Sites.Owned.{IsOwn, AreOwn, own_itself, own_part, right_own}
use Rattle.isle_meaning.proofs.Sites.Parts.{OfSubtrees, of_whole}
use Rattle.isle_blocks.specs.declared.ids.BindingId.{BindingId}
use Rattle.isle_blocks.specs.declared.constraint.Constraint.{Constraint}
use Rattle.isle_blocks.specs.declared.rule.Rule.{Rule}
use Rattle.isle_blocks.specs.DefinedSets.{IsMadeAt}
use Rattle.isle_blocks.specs.RuleFaults.{own_result}
use Rattle.isle_blocks.specs.RuleSets.{RulesOverSites}
use Rattle.isle_blocks.specs.Rows.{rows_of, numbers_of}
use Rattle.isle_blocks.specs.Trees.Bags.{IsAskedSite}
use Rattle.isle_blocks.specs.Trees.ElaboratedSets.{IsElaboratedSet, IsMultiTerm}
use Rattle.isle_blocks.specs.Trees.Functions.{items_of, functions_of, lists_of, functions_model, HasItem, TakesItsPlaces}
use Rattle.isle_blocks.specs.Trees.RuleBags.{Way, taking, HasMultiCall}
use Rattle.isle_blocks.specs.Trees.SiteTrees.{tree_of}
use Rattle.isle_blocks.specs.Trees.View.{id_of, has_loop, read_or, rules_of}
use Rattle.isle_blocks.proofs.Closure.Trees.{one_number}
use Rattle.isle_blocks.proofs.ClosedRules.{same_id}
use Rattle.isle_blocks.proofs.Trees.Elaborated.{well_made, loop_site}
use Rattle.isle_blocks.proofs.Trees.Reading.{found_loop, loop_found, numbered, number_in}
use Rattle.isle_blocks.proofs.Trees.Standing.{parts_stand, tree_one}
use Rattle.isle_blocks.proofs.Trees.Bags.AnyPlaces.{same_values, same_many}
use Rattle.isle_blocks.proofs.Trees.Bags.AtPlaces.{value_held, items_held, matches_at_places}
use Rattle.isle_blocks.proofs.Trees.Bags.Functional.{are_functions}
use Rattle.isle_blocks.proofs.Trees.Bags.Many.{ascending, multi_own}
use Rattle.isle_blocks.proofs.Trees.Bags.Placed.{placed, placed_items, placed_full}
use Rattle.isle_blocks.proofs.Trees.Bags.Ways.{many_below}
use Rattle.isle_trees.specs.Answers.{Answers}
use Rattle.isle_trees.specs.Bag.{Picks, Model}
use Rattle.isle_trees.specs.Rules.{Rules, Elem, Matches}
use Rattle.isle_trees.proofs.Basics.{true_or}
use Rattle.isle_trees.proofs.Whole.{whole_calls}

-- what stands in a list's items is an item of the list
in_list : (l : List Values) (n : ℕ) (x : Held) → slice_get (map outputs_of l) n ≡ Some x → (vs : Values) × (nth_of l n ≡ gives vs)
    × (x ≡ outputs_of vs)
in_list [] n x e = absurd (none-some x e)
in_list (vs ∷ l) zero x e = (vs, refl, sym (same_Some (outputs_of vs) x e))
in_list (vs ∷ l) (suc n) x e = in_list l n x e

of_list : (l : List Values) (n : ℕ) (vs : Values) → nth_of l n ≡ gives vs → slice_get (map outputs_of l) n ≡ Some (outputs_of vs)
of_list [] n vs e = absurd cc
of_list (us ∷ l) zero vs e = let p : us ≡ vs = cc in ap (λ (z : Values). Some (outputs_of z)) p
of_list (us ∷ l) (suc n) vs e = of_list l n vs e

-- an item that is listed is held
item_held : (g : Got Held) (n : ℕ) (x : Held) → slice_get (items_of g) n ≡ Some x → HasItem g n x
item_held unknown n x e = absurd (none-some x e)
item_held fails n x e = absurd (none-some x e)
item_held (gives (held_value v)) n x e = absurd (none-some x e)
item_held (gives (held_outputs vs)) n x e = absurd (none-some x e)
item_held (gives held_none) n x e = absurd (none-some x e)
item_held (gives (held_some h)) n x e = absurd (none-some x e)
item_held (gives (held_answers l)) n x e = let (vs, there, same) = in_list l n x e in (l, vs, refl, there, same)

-- and one that is held is listed
item_listed : (g : Got Held) (n : ℕ) (x : Held) → HasItem g n x → slice_get (items_of g) n ≡ Some x
item_listed g n x (l, vs, list, there, same) = ap (λ (z : Got Held). slice_get (items_of z) n) list ∙ of_list l n vs there ∙ ap Some (sym same)

-- Calls are functions whatever items are taken.
pub taking_functions : (facts : TermFacts) (c : Completion) → AreFiniteFunctions facts c → (way : Way) → AreFiniteFunctions facts (taking c way)
taking_functions facts c functions way =
    let lists = functions.lists in let allowed = functions.allowed in record {
      lists = record { extracts = lists.extracts; constructs = lists.constructs };
      construct = functions.construct;
      extract = functions.extract;
      allowed = record { partial = allowed.partial; fallible = allowed.fallible; outputs = allowed.outputs };
    }

-- what is given, or another
abbrev given_or : Held → Got Held → Held
given_or d unknown = d
given_or d fails = d
given_or d (gives x) = x

-- one of some sites has one of their numbers
one_at : (table : List Row) (ss : Sites) (ks : List ℕ) (u : Site) → AtAll table ss ks → IsOneOf ss u → (q : ℕ) × Elem q ks × At table u q
one_at table no_sites ks u h m = absurd m
one_at table (more_sites s ss) [] u h m = absurd h
one_at table (more_sites s ss) (k ∷ ks) u h (inl e) = (k, inl refl, subst (λ (z : Site). At table z k) (sym e) (h.0))
one_at table (more_sites s ss) (k ∷ ks) u h (inr m) = let (q, i, at) = one_at table ss ks u (h.1) m in (q, inr i, at)

module _ (name : Sym → List ℕ) (facts : TermFacts) (sources : List source.Rule) (rules : List TypedRule) (term : ℕ) (set : RulesOverSites)
    (h : IsElaboratedSet name facts sources rules term set) where
  -- the entries of the set's sites
  abbrev rows : List Row
  rows = rows_of name set.sites

  -- the set as trees see it
  abbrev R : Rules Constraint Held
  R = rules_of name set

  module _ (i : ℕ) (r : Rule) (at : slice_get set.rules i ≡ Some r) (place : ℕ) (m : IsMadeAt name facts sources rules term set.sites place r) where
    -- A multi call has its number among the rule's loops.
    pub loop_number : (s : Site) → HasMultiCall facts m.reached.rule s → (k : ℕ) × At rows s k × Elem k (R.loops i)
    loop_number s used =
        let calls = m.calls in
        let (id, inside, here) = calls.all s used in
        (id.0, here, rw at (number_in (λ (id : BindingId). id.0) r.iterators id inside))

    -- And each of these is one's.
    pub loop_at : (k : ℕ) → Elem k (R.loops i) → (s : Site) × At rows s k × HasMultiCall facts m.reached.rule s
    loop_at k inside =
        let inside' : Elem k (numbers_of r.iterators) =
        subst (λ (o : Option Rule). Elem k (read_or [] (λ (z : Rule). numbers_of z.iterators) o)) at inside in
        let (id, stands, e) = numbered (λ (id : BindingId). id.0) r.iterators k inside' in
        let found = loop_found r k (subst (Contains r.iterators) (same_id id (id_of k) e) stands) in
        let (s, here, used, list) = loop_site name facts sources rules term set h place r m k found in (s, here, used)

  module _ (multi : IsMultiTerm facts rules term) (c : Completion) (args : Values) (way : Way) (done : List (Option Value))
      (functions : AreFiniteFunctions facts c) (takes : count args ≡ length h.types) (i : ℕ) (r : Rule) (at : slice_get set.rules i ≡ Some r)
      (place : ℕ) (m : IsMadeAt name facts sources rules term set.sites place r)
      (fine : (s : Site) → IsAskedSite facts m.reached.rule s ⊎ (s ≡ own_result facts m.reached.rule)
      → AreAsFunctions facts (taking c way) args done s) where
    -- the typed rule
    abbrev rule : TypedRule
    rule = m.reached.rule

    -- what follows from what it demands, and what it needs
    abbrev D : Demand → Type 0
    D = Derived (DemandOf facts rule)

    abbrev N : Site → Type 0
    N = IsNeeded (needs_of facts rule)

    -- what sites hold
    abbrev val : Site → Got Held
    val = value facts (taking c way) args done

    -- what they are where items are taken
    abbrev M : Model Held
    M = functions_model name set facts c args

    -- calls are functions whatever items are taken
    functions_there : AreFiniteFunctions facts (taking c way)
    functions_there = taking_functions facts c functions way

    -- a multi call lists the same where the items of lesser ones are the same
    below : (p g : Picks Held) (s : ℕ) → ((u : ℕ) → u < s → p u ≡ g u) → M.many p s ≡ M.many g s
    below =
        let well = well_made name facts sources rules term set h in
        many_below R M well
        (whole_calls R (functions_of name set facts c args) (lists_of name set facts c args) (λ q. true) well
        (are_functions name facts sources rules term set h c args))

    -- what each multi call is made of is the rule's own
    call_own : (s : Site) → HasMultiCall facts rule s → AreOwn D N s
    call_own s used = multi_own name facts sources rules term set h multi i r at place m s used

    -- and so is its result
    result_own : AreOwn D N (own_result facts rule)
    result_own = (right_own facts rule (multi.whole place rule m.reached.at m.reached.of_term)).0 (facts.partial rule.root)

    -- where a multi call takes its places, it lists its items
    lists_at : (g : Picks Held) (s : Site) (k : ℕ) → HasMultiCall facts rule s → At rows s k
        → TakesItsPlaces name set facts (taking c way) args done g s → M.many g k ≡ items_of (val s)
    lists_at g s k used here places =
        sym (same_many facts c args way name set g k)
        ∙ items_held name facts sources rules term set h (taking c way) args done functions_there takes g s k here (places, fine s (inl (inr used)))

    module _ (g : Picks Held) (items : (s : Site) (k : ℕ) → HasMultiCall facts rule s → At rows s k → HasItem (val s) (way s) (g k)) where
      -- what is the rule's own takes its places
      own_takes : (s : Site) → AreOwn D N s → TakesItsPlaces name set facts (taking c way) args done g s
      own_takes s own u k inside here = items u k (inl (own (iterator u) inside)) here

      -- A multi call lists its items.
      pub lists_there : (s : Site) (k : ℕ) → HasMultiCall facts rule s → At rows s k → M.many g k ≡ items_of (val s)
      lists_there s k used here = lists_at g s k used here (own_takes s (call_own s used))

      -- The rule matches exactly where what it demands holds.
      pub matches_there : Matches R (M.values g) i ↔ ((d : Demand) → DemandOf facts rule d → holds.IsProper d → holds.Holds val d)
      matches_there =
          subst (λ (v : Answers Held). Matches R v i ↔ ((d : Demand) → DemandOf facts rule d → holds.IsProper d → holds.Holds val d))
          (same_values facts c args way name set g)
          (matches_at_places name facts sources rules term set h (taking c way) args done functions_there takes g multi i r at place m items
          (λ s asked. fine s (inl asked)))

      -- Its result is what it gives.
      pub result_there : M.values g (R.result i) ≡ val (own_result facts rule)
      result_there =
          let is : R.result i ≡ r.result.0 = rw at refl in
          ap (M.values g) is ∙ sym (ap (λ (v : Answers Held). v r.result.0) (same_values facts c args way name set g))
          ∙ value_held name facts sources rules term set h (taking c way) args done functions_there takes g (own_result facts rule) r.result.0 m.value
          (own_takes (own_result facts rule) result_own, fine (own_result facts rule) (inr refl))

    module _ (p : Picks Held) (q : Picks ℕ) (x : Picks Held × Picks ℕ) (inside : Elem x (placed M (R.loops i) p q))
        (is : (s : Site) (k : ℕ) → At rows s k → way s ≡ x.1 k) where
      -- where a multi call takes its places, the item at its own is taken
      item_at : (s : Site) (k : ℕ) → HasMultiCall facts rule s → At rows s k
          → TakesItsPlaces name set facts (taking c way) args done (x.0) s → HasItem (val s) (way s) (x.0 k)
      item_at s k used here places =
          let (j, at_j, among) = loop_number i r at place m s used in
          let one : j ≡ k = one_number name set.sites h.injective h.is.table s j k at_j here in
          let slot = placed_items M below (R.loops i) p q x (ascending name facts sources rules term set h i) inside k
          (subst (λ (z : ℕ). Elem z (R.loops i)) one among) in
          item_held (val s) (way s) (x.0 k)
          (ap (λ (l : List Held). slice_get l (way s)) (sym (lists_at (x.0) s k used here places)) ∙ ap (slice_get (M.many (x.0) k))
          (is s k here) ∙ slot)

      -- an item of a multi call's has its call's taken
      abbrev IsTaken : Site → Type 0
      IsTaken v = (u : Site) → v ≡ iterator u → (k : ℕ) → At rows u k → HasItem (val u) (way u) (x.0 k)

      -- so in all that is the rule's own
      all_taken : (n : ℕ) (s : Site) (k : ℕ) → k < n → At rows s k → AreOwn D N s → OfSubtrees IsTaken s
      all_taken zero s k l here own = absurd (omega arith)
      all_taken (suc n) s k l here own =
          let well = well_made name facts sources rules term set h in
          let parts : (u : Site) → IsOneOf (parts_of s) u → OfSubtrees IsTaken u = λ u among.
          let (j, stands, at_j) = one_at rows (parts_of s) (R.parts k) u (parts_stand name set.sites s k here) among in
          let low : j < k = well.lower k j stands in
          all_taken n u j (omega arith) at_j (own_part D N s u own among) in
          of_whole IsTaken s (λ u e j at_j.
          let taken = parts u (subst (λ (z : Site). IsOneOf (parts_of z) u) (sym e) (inl refl)) in
          item_at u j (inl (subst (IsOwn D N) e (own_itself D N s own))) at_j (λ v b within at_b. taken (iterator v) within v refl b at_b)) parts

      -- Of each multi call the item at its place is taken.
      pub items_there : (s : Site) (k : ℕ) → HasMultiCall facts rule s → At rows s k → HasItem (val s) (way s) (x.0 k)
      items_there s k used here =
          item_at s k used here (λ v b within at_b. all_taken (suc k) s k (omega arith) here (call_own s used) (iterator v) within v refl b at_b)

    module _ (p : Picks Held) (there : (s : Site) → HasMultiCall facts rule s → (x : Held) × HasItem (val s) (way s) x) where
      -- the items at their places
      abbrev chosen : Picks Held
      chosen k = if has_loop k r then given_or (p k) (val (iterator (tree_of name set.sites k))) else p k

      -- a number among the loops is found
      among_found : (k : ℕ) → Elem k (R.loops i) → has_loop k r ≡ true
      among_found k inside =
          let inside' : Elem k (numbers_of r.iterators) =
          subst (λ (o : Option Rule). Elem k (read_or [] (λ (z : Rule). numbers_of z.iterators) o)) at inside in
          let (id, stands, e) = numbered (λ (id : BindingId). id.0) r.iterators k inside' in
          loop_found r k (subst (Contains r.iterators) (same_id id (id_of k) e) stands)

      -- they are
      chosen_items : (s : Site) (k : ℕ) → HasMultiCall facts rule s → At rows s k → HasItem (val s) (way s) (chosen k)
      chosen_items s k used here =
          let (x, (l, vs, list, stands, same)) = there s used in
          let (j, at_j, among) = loop_number i r at place m s used in
          let one : j ≡ k = one_number name set.sites h.injective h.is.table s j k at_j here in
          let found : has_loop k r ≡ true = among_found k (subst (λ (z : ℕ). Elem z (R.loops i)) one among) in
          let tree : tree_of name set.sites k ≡ s = tree_one name set.sites h.is.table s k here in
          let first : val (iterator s) ≡ item_of (way s) (held_answers l) = ap (ask (item_of (way s))) list in
          let second : item_of (way s) (held_answers l) ≡ gives (outputs_of vs) = ap (ask (λ (us : Values). gives (outputs_of us))) stands in
          let given : val (iterator (tree_of name set.sites k)) ≡ gives x =
          ap (λ (z : Site). val (iterator z)) tree ∙ first ∙ second ∙ ap (λ (z : Held). gives z) (sym same) in
          let is : chosen k ≡ x = rw found (ap (given_or (p k)) given) in
          subst (HasItem (val s) (way s)) (sym is) (l, vs, list, stands, same)

      -- nothing else is chosen
      chosen_else : (u : ℕ) → (Elem u (R.loops i) → ⊥) → p u ≡ chosen u
      chosen_else u n = elim (true_or (has_loop u r)) [
        | inl e ↦ absurd (n (rw at (number_in (λ (id : BindingId). id.0) r.iterators (id_of u) (found_loop r u e))))
        | inr e ↦ rw e refl
      ]

      -- So it is one of the ways.
      pub is_placed : (q : Picks ℕ) → (x : Picks Held × Picks ℕ) × Elem x (placed M (R.loops i) p q)
          × ((s : Site) (k : ℕ) → HasMultiCall facts rule s → At rows s k → way s ≡ x.1 k)
          × ((s : Site) (k : ℕ) → HasMultiCall facts rule s → At rows s k → HasItem (val s) (way s) (x.0 k))
      is_placed q =
          let (x, inside, places, all) = placed_full M below (R.loops i) p chosen q (λ k. way (tree_of name set.sites k))
          (ascending name facts sources rules term set h i) chosen_else (λ k among.
          let (s, here, used) = loop_at i r at place m k among in
          let tree : tree_of name set.sites k ≡ s = tree_one name set.sites h.is.table s k here in
          ap (λ (l : List Held). slice_get l (way (tree_of name set.sites k))) (lists_there chosen chosen_items s k used here)
          ∙ ap (λ (z : Site). slice_get (items_of (val s)) (way z)) tree
          ∙ item_listed (val s) (way s) (chosen k) (chosen_items s k used here)) in (
            x,
            inside,
            λ s k used here.
                let (j, at_j, among) = loop_number i r at place m s used in
                let one : j ≡ k = one_number name set.sites h.injective h.is.table s j k at_j here in
                let tree : tree_of name set.sites k ≡ s = tree_one name set.sites h.is.table s k here in
                ap way (sym tree) ∙ places k (subst (λ (z : ℕ). Elem z (R.loops i)) one among),
            λ s k used here. subst (HasItem (val s) (way s)) (sym (all k)) (chosen_items s k used here),
          )
