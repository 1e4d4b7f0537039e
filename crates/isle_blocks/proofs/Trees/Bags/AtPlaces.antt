-- Where of each multi call the item at its place is taken, sites are what they hold.
use Rattle.std.proofs.Common.{◌≡◌, ◌≢◌, ◌⊎◌, ◌↔◌, inl, inr, ℕ, zero, suc, ◌<◌, true, List, [], ◌∷◌, length, Option, Some, None, slice_get, refl, ap, sym}
use Rattle.std.proofs.Common.{subst, ◌∙◌, arith}
use Rattle.std.proofs.lemmas.Option.{same_Some, slice_get_cases}
use Rattle.isle_types.specs.declared.ids.Sym.{Sym}
use Rattle.isle_rules.specs.declared.rules.Rule as source
use Rattle.isle_rules.specs.TypedRules.{TypedRule}
use Rattle.isle_meaning.specs.Got.{Got, unknown, fails, gives}
use Rattle.isle_meaning.specs.Values.{Value, Values, count, ask}
use Rattle.isle_meaning.specs.Facts.{TermFacts}
use Rattle.isle_meaning.specs.Answers.{Completion}
use Rattle.isle_meaning.specs.AboutSites.Functions.{AreFiniteFunctions, as_pure, AreAsFunctions}
use Rattle.isle_meaning.specs.Held.{Held, held_answers, outputs_of, item_of, value}
use Rattle.isle_meaning.specs.Holds as holds
use Rattle.isle_meaning.specs.Demands.{Demand, constrained, equal}
use Rattle.isle_meaning.specs.Demands.{DemandOf}
use Rattle.isle_meaning.specs.AboutSites.Making.{made_of_parts, HoldEach}
use Rattle.isle_meaning.specs.Numbered.{Row, At, AtAll}
use Rattle.isle_meaning.specs.AboutSites.Parts.{parts_of, IsOneOf}
use Rattle.isle_meaning.specs.Sites.{Site, constructor_call, iterator, Sites, no_sites, more_sites}
use Rattle.isle_meaning.specs.Subtrees.{IsSubtree}
use Rattle.isle_meaning.proofs.Chains.Subtrees.{whole as itself, deeper}
use Rattle.isle_meaning.proofs.Sites.Agreeing.{strict}
use Rattle.isle_meaning.proofs.Sites.HeldKinds.{any_whole, IsWhole}
use Rattle.isle_meaning.proofs.Sites.Made.{held_made}
use Rattle.isle_meaning.proofs.Sites.Owned.{derived_own}
use Rattle.isle_meaning.proofs.Sites.Parts.{part_within}
use Rattle.isle_meaning.proofs.Matching.Basics.{value_respects}
use Rattle.isle_meaning.proofs.Sites.Functional.{pure_parts, pure_kind, made_purely, held_purely, site_known}
use Rattle.isle_blocks.specs.declared.binding.Binding.{Binding}
use Rattle.isle_blocks.specs.declared.binding.Binding.TheVariants as sites
use Rattle.isle_blocks.specs.declared.constraint.Constraint.{Constraint}
use Rattle.isle_blocks.specs.declared.rule.Rule.{Rule}
use Rattle.isle_blocks.specs.AddedRules.{IsMultiCall}
use Rattle.isle_blocks.specs.RuleSets.{RulesOverSites}
use Rattle.isle_blocks.specs.Rows.{rows_of}
use Rattle.isle_blocks.specs.DefinedSets.{IsMadeAt}
use Rattle.isle_blocks.specs.Trees.Bags.{IsAskedSite, SitesHoldTheirValues, RulesMatchAtPlaces}
use Rattle.isle_blocks.specs.Trees.ElaboratedSets.{IsElaboratedSet, IsMultiTerm}
use Rattle.isle_blocks.specs.Trees.Functions.{settled, items_of, functions_of, lists_of, functions_model, HasItem, TakesItsPlaces}
use Rattle.isle_blocks.specs.Trees.SiteTrees.{tree_from, tree_of}
use Rattle.isle_blocks.specs.Trees.View.{made_by, rules_of}
use Rattle.isle_blocks.proofs.Closure.Trees.{at_below}
use Rattle.isle_blocks.proofs.Trees.Chosen.{zip_left}
use Rattle.isle_blocks.proofs.Trees.Elaborated.{well_made, site_kinded}
use Rattle.isle_blocks.proofs.Trees.Bags.Many.{multi_own}
use Rattle.isle_blocks.proofs.Trees.Bags.MatchedByNumbers.{matches_by_numbers}
use Rattle.isle_blocks.proofs.Trees.Standing.{parts_stand, part_at, tree_is, tree_one}
use Rattle.isle_trees.specs.Answers.{HasValue}
use Rattle.isle_trees.specs.Bag.{Picks}
use Rattle.isle_trees.specs.Calls.{taken, made_from, site_value, value_of, listed}
use Rattle.isle_trees.specs.Machine.{Makes, gather, read_or}
use Rattle.isle_trees.specs.Rules.{Source, Rules, Elem, Matches}

-- what is known, and fails only where a test makes it, is settled
settles : (o : Option (Source Constraint)) (g : Got Held) → g ≢ unknown → (o ≡ None → g ≢ fails) → settled o g ≡ g
settles o (gives x) n f = kept o
  where
    kept : (o : Option (Source Constraint)) → settled o (gives x) ≡ gives x
    kept None = refl
    kept (Some m) = refl
settles None unknown n f = absurd (n refl)
settles None fails n f = absurd (f refl refl)
settles (Some m) unknown n f = absurd (n refl)
settles (Some m) fails n f = refl

-- what has no value and is known fails
no_value : (g : Got Held) → g ≢ unknown → (HasValue g → ⊥) → g ≡ fails
no_value unknown n f = absurd (n refl)
no_value fails n f = refl
no_value (gives x) n f = absurd (f (x, refl))

-- what has no value has no items
no_items : (g : Got Held) → (HasValue g → ⊥) → items_of g ≡ []
no_items unknown f = refl
no_items fails f = refl
no_items (gives x) f = absurd (f (x, refl))

module _ (facts : TermFacts) (c : Completion) (args : Values) (done : List (Option Value)) where
  -- sites that hold these each hold something
  hold_valued : (ss : Sites) (xs : List Held) → HoldEach facts c args done ss xs → (u : Site) → IsOneOf ss u → HasValue (value facts c args done u)
  hold_valued no_sites xs h u m = absurd m
  hold_valued (more_sites s ss) [] h u m = absurd h
  hold_valued (more_sites s ss) (x ∷ xs) h u (inl e) = (x, ap (λ (z : Site). value facts c args done z) e ∙ h.0)
  hold_valued (more_sites s ss) (x ∷ xs) h u (inr m) = hold_valued ss xs (h.1) u m

  -- one of them without a value
  abbrev Lacks : Sites → Type 0
  Lacks ss = (u : Site) × IsOneOf ss u × (HasValue (value facts c args done u) → ⊥)

  -- parts are gathered, or one has no value
  abbrev Gathered : (ℕ → Got Held) → Sites → List ℕ → Type 0
  Gathered f ss ks =
      ((xs : List Held) × (gather f ks ≡ Some xs) × HoldEach facts c args done ss xs) ⊎ ((gather f ks ≡ None) × Lacks ss)

  -- one more part
  gather_more : (f : ℕ → Got Held) (s : Site) (ss : Sites) (k : ℕ) (ks : List ℕ) (g : Got Held) → f k ≡ g → value facts c args done s ≡ g
      → Gathered f ss ks → Gathered f (more_sites s ss) (k ∷ ks)
  gather_more f s ss k ks unknown e q r = inr (rw e refl, (s, inl refl, λ h. (let z = sym q ∙ h.1 in cc)))
  gather_more f s ss k ks fails e q r = inr (rw e refl, (s, inl refl, λ h. (let z = sym q ∙ h.1 in cc)))
  gather_more f s ss k ks (gives x) e q (inl (xs, g, h)) = inl (x ∷ xs, rw (e, g) refl, (q, h))
  gather_more f s ss k ks (gives x) e q (inr (g, (u, m, n))) = inr (rw (e, g) refl, (u, inr m, n))

  -- parts that are what they hold are gathered
  gathered : (f : ℕ → Got Held) (rows : List Row) (ss : Sites) (ks : List ℕ) → AtAll rows ss ks
      → ((u : Site) (k : ℕ) → IsOneOf ss u → Elem k ks → At rows u k → f k ≡ value facts c args done u) → Gathered f ss ks
  gathered f rows no_sites [] h e = inl ([], refl, tt)
  gathered f rows no_sites (k ∷ ks) h e = absurd h
  gathered f rows (more_sites s ss) [] h e = absurd h
  gathered f rows (more_sites s ss) (k ∷ ks) h e =
      gather_more f s ss k ks (value facts c args done s) (e s k (inl refl) (inl refl) (h.0)) refl
      (gathered f rows ss ks (h.1) (λ u j m n at. e u j (inr m) (inr n) at))

module _ (name : Sym → List ℕ) (facts : TermFacts) (sources : List source.Rule) (rules : List TypedRule) (term : ℕ) (set : RulesOverSites)
    (h : IsElaboratedSet name facts sources rules term set) (c : Completion) (args : Values) (done : List (Option Value))
    (functions : AreFiniteFunctions facts c) (takes : count args ≡ length h.types) (p : Picks Held) where
  -- the entries of the set's sites
  abbrev rows : List Row
  rows = rows_of name set.sites

  -- the set as trees see it
  abbrev R : Rules Constraint Held
  R = rules_of name set

  -- what makes a site
  abbrev makes : Makes Held
  makes = functions_of name set facts c args

  -- a number's tree
  abbrev tree : ℕ → Site
  tree = tree_of name set.sites

  -- what a site holds
  abbrev val : Site → Got Held
  val = value facts c args done

  -- the items at their places are taken
  abbrev Takes : Site → Type 0
  Takes s = TakesItsPlaces name set facts c args done p s × AreAsFunctions facts c args done s

  -- a site whose parts have values, and that no test makes, doesn't fail
  entry_whole : (b : Binding) → made_by set.rules b ≡ None → IsWhole facts h.types c args done functions.allowed
      (as_pure (tree_from name tree (Some b)))
  entry_whole (sites.ConstBool v t) e = tt
  entry_whole (sites.ConstInt v t) e = tt
  entry_whole (sites.ConstPrim v) e = tt
  entry_whole (sites.Argument i) e = tt
  entry_whole (sites.Extractor t a) e = tt
  entry_whole (sites.Constructor t ps i) e = λ n q z. absurd cc
  entry_whole (sites.Iterator a) e = absurd cc
  entry_whole (sites.MakeVariant t v fs) e = tt
  entry_whole (sites.MatchVariant a v i) e = absurd cc
  entry_whole (sites.MakeStruct t fs) e = tt
  entry_whole (sites.ExtractStruct a i) e = absurd cc
  entry_whole (sites.MakeSome a) e = tt
  entry_whole (sites.MatchSome a) e = absurd cc
  entry_whole (sites.MatchTuple a i) e = tt

  -- a site has no value where a part lacks one
  lacking : (s : Site) → Lacks facts c args done (parts_of s) → HasValue (val s) → ⊥
  lacking s (u, m, n) v = n (strict facts c args done s u m v)

  -- what is made of what its parts hold is what it holds
  made_held : (s : Site) (k : ℕ) (xs : List Held) → At rows s k → AreAsFunctions facts c args done s → HoldEach facts c args done (parts_of s) xs
      → made_of_parts facts c args [] (as_pure (tree k)) xs ≡ val s
  made_held s k xs here t hold =
      let is : tree k ≡ s = tree_one name set.sites h.is.table s k here in
      let hold' : HoldEach facts c args done (parts_of (as_pure s)) xs =
      subst (λ (ss : Sites). HoldEach facts c args done ss xs) (sym (pure_parts s)) hold in
      ap (λ (z : Site). made_of_parts facts c args [] (as_pure z) xs) is ∙ made_purely facts c args [] done s xs
      ∙ sym (held_made facts c args done (as_pure s) xs hold') ∙ sym (held_purely facts c functions args done s t)

  -- one that no test makes, whose parts have values, doesn't fail
  whole_held : (s : Site) (k : ℕ) (b : Binding) (xs : List Held) → slice_get set.sites k ≡ Some b → At rows s k
      → AreAsFunctions facts c args done s → HoldEach facts c args done (parts_of s) xs → made_by set.rules b ≡ None → val s ≢ fails
  whole_held s k b xs at here t hold free e =
      let entry : s ≡ tree_from name tree (Some b) =
      sym (tree_one name set.sites h.is.table s k here) ∙ tree_is name set.sites h.is.table k b at in
      any_whole facts h.types c args done functions.allowed true functions.lists takes (as_pure s)
      (pure_kind facts h.types s (site_kinded name facts sources rules term set h s k here))
      (subst (λ (z : Site). IsWhole facts h.types c args done functions.allowed (as_pure z)) (sym entry) (entry_whole b free))
      (λ u m. hold_valued facts c args done (parts_of s) xs hold u (subst (λ (ss : Sites). IsOneOf ss u) (pure_parts s) m))
      (sym (held_purely facts c functions args done s t) ∙ e)

  -- where no item is taken a site is what is made of what its parts hold
  made_site : (f : ℕ → Got Held) (s : Site) (k : ℕ) (b : Binding) → slice_get set.sites k ≡ Some b → At rows s k
      → AreAsFunctions facts c args done s
      → Gathered facts c args done f (parts_of s) (R.parts k) → made_from makes k (gather f (R.parts k)) ≡ val s
  made_site f s k b at here t (inl (xs, g, hold)) =
      let stays : settled (R.made k) (val s) ≡ val s = settles (R.made k) (val s) (site_known facts c functions args done s t) (λ none.
      let free : made_by set.rules b ≡ None = sym (let z : R.made k ≡ made_by set.rules b = rw at refl in z) ∙ none in
      whole_held s k b xs at here t hold free) in
      ap (made_from makes k) g ∙ ap (settled (R.made k)) (made_held s k xs here t hold) ∙ stays
  made_site f s k b at here t (inr (g, lacks)) =
      ap (made_from makes k) g ∙ sym (no_value (val s) (site_known facts c functions args done s t) (lacking s lacks))

  -- the item that is taken is what the site holds
  item_held : (s u : Site) (k : ℕ) → s ≡ iterator u → At rows u k → Takes s → gives (p k) ≡ val s
  item_held s u k e at t =
      let (l, vs, list, there, same) = t.0 u k (subst (IsSubtree (iterator u)) (sym e) (itself (iterator u))) at in
      let one : val (iterator u) ≡ item_of (c.place u) (held_answers l) = ap (ask (item_of (c.place u))) list in
      let two : item_of (c.place u) (held_answers l) ≡ gives (outputs_of vs) =
      ap (ask (λ (vs : Values). gives (outputs_of vs))) there in
      ap (λ (z : Held). gives z) same ∙ sym (ap val e ∙ one ∙ two)

  -- by its entry
  entry_held : (f : ℕ → Got Held) (s : Site) (k : ℕ) (b : Binding) → slice_get set.sites k ≡ Some b → At rows s k → Takes s
      → Gathered facts c args done f (parts_of s) (R.parts k)
      → read_or (taken p (made_by set.rules b)) (made_from makes k (gather f (R.parts k))) ≡ val s
  entry_held f s k (sites.Iterator a) at here t g =
      let below = part_at name set.sites h.is.table k (sites.Iterator a) a at (0, omega arith, refl) in
      let e : s ≡ iterator (tree a.0) =
      sym (tree_one name set.sites h.is.table s k here) ∙ tree_is name set.sites h.is.table k (sites.Iterator a) at in
      item_held s (tree a.0) a.0 e below t
  entry_held f s k (sites.ConstBool v u) at here t g = made_site f s k (sites.ConstBool v u) at here (t.1) g
  entry_held f s k (sites.ConstInt v u) at here t g = made_site f s k (sites.ConstInt v u) at here (t.1) g
  entry_held f s k (sites.ConstPrim v) at here t g = made_site f s k (sites.ConstPrim v) at here (t.1) g
  entry_held f s k (sites.Argument i) at here t g = made_site f s k (sites.Argument i) at here (t.1) g
  entry_held f s k (sites.Extractor u a) at here t g = made_site f s k (sites.Extractor u a) at here (t.1) g
  entry_held f s k (sites.Constructor u ps i) at here t g = made_site f s k (sites.Constructor u ps i) at here (t.1) g
  entry_held f s k (sites.MakeVariant u v fs) at here t g = made_site f s k (sites.MakeVariant u v fs) at here (t.1) g
  entry_held f s k (sites.MatchVariant a v i) at here t g = made_site f s k (sites.MatchVariant a v i) at here (t.1) g
  entry_held f s k (sites.MakeStruct u fs) at here t g = made_site f s k (sites.MakeStruct u fs) at here (t.1) g
  entry_held f s k (sites.ExtractStruct a i) at here t g = made_site f s k (sites.ExtractStruct a i) at here (t.1) g
  entry_held f s k (sites.MakeSome a) at here t g = made_site f s k (sites.MakeSome a) at here (t.1) g
  entry_held f s k (sites.MatchSome a) at here t g = made_site f s k (sites.MatchSome a) at here (t.1) g
  entry_held f s k (sites.MatchTuple a i) at here t g = made_site f s k (sites.MatchTuple a i) at here (t.1) g

  -- parts take their places
  part_takes : (s u : Site) → IsOneOf (parts_of s) u → Takes s → Takes u
  part_takes s u m t = (
    λ w k inside at. t.0 w k (deeper (iterator w) u s inside (part_within s u m)) at,
    λ f ss i vs inside. t.1 f ss i vs (deeper (constructor_call f ss (suc i)) u s inside (part_within s u m)),
  )

  -- with enough fuel a site is what it holds
  site_held : (n k : ℕ) (s : Site) → k < n → At rows s k → Takes s → site_value R makes p n k ≡ val s
  site_held zero k s l here t = absurd (omega arith)
  site_held (suc n) k s l here t =
      let well = well_made name facts sources rules term set h in
      let all : Gathered facts c args done (site_value R makes p n) (parts_of s) (R.parts k) =
      gathered facts c args done (site_value R makes p n) rows (parts_of s) (R.parts k) (parts_stand name set.sites s k here)
      (λ u q m inside at. (let low : q < k = well.lower k q inside in site_held n q u (omega arith) at (part_takes s u m t))) in
      let low = at_below name set.sites s k here in
      elim (slice_get_cases set.sites k).1 [
        | inl (b, q, at, g) ↦
            let made : R.made k ≡ made_by set.rules b = rw at refl in
            ap (λ (o : Option (Source Constraint)). read_or (taken p o) (made_from makes k (gather (site_value R makes p n) (R.parts k)))) made
            ∙ entry_held (site_value R makes p n) s k b at here t all
        | inr (q, e) ↦ absurd (omega arith)
      ]

  -- A site is what it holds.
  pub value_held : (s : Site) (k : ℕ) → At rows s k → Takes s → value_of R makes p k ≡ val s
  value_held s k here t = site_held (suc k) k s (omega arith) here t

  -- its parts are gathered
  all_held : (s : Site) (k : ℕ) → At rows s k → Takes s → Gathered facts c args done (value_of R makes p) (parts_of s) (R.parts k)
  all_held s k here t =
      gathered facts c args done (value_of R makes p) rows (parts_of s) (R.parts k) (parts_stand name set.sites s k here)
      (λ u q m inside at. value_held u q at (part_takes s u m t))

  -- A multi call lists the items that it holds.
  pub items_held : (s : Site) (k : ℕ) → At rows s k → Takes s
      → listed (lists_of name set facts c args) k (gather (value_of R makes p) (R.parts k)) ≡ items_of (val s)
  items_held s k here t = elim (all_held s k here t) [
    | inl (xs, g, hold) ↦ ap (listed (lists_of name set facts c args) k) g ∙ ap items_of (made_held s k xs here (t.1) hold)
    | inr (g, lacks) ↦ ap (listed (lists_of name set facts c args) k) g ∙ sym (no_items (val s) (lacking s lacks))
  ]

  module _ (multi : IsMultiTerm facts rules term) (i : ℕ) (r : Rule) (at : slice_get set.rules i ≡ Some r) (place : ℕ)
      (m : IsMadeAt name facts sources rules term set.sites place r)
      (items : (s : Site) (k : ℕ) → IsMultiCall facts (facts.partial m.reached.rule.root) m.reached.rule s → At (rows_of name set.sites) s k
      → HasItem (value facts c args done s) (c.place s) (p k))
      (fine : (s : Site) → IsAskedSite facts m.reached.rule s → AreAsFunctions facts c args done s) where
    -- what the rule asks takes its places
    asked_takes : (s : Site) → IsAskedSite facts m.reached.rule s → TakesItsPlaces name set facts c args done p s
    asked_takes s (inl (constrained t d, e, same)) u k inside at_u =
        let own = derived_own facts m.reached.rule (constrained t d) e in
        items u k (inl (own (iterator u) (subst (IsSubtree (iterator u)) same inside))) at_u
    asked_takes s (inl (equal t w, e, inl same)) u k inside at_u =
        let own = derived_own facts m.reached.rule (equal t w) e in
        items u k (inl (own.0 (iterator u) (subst (IsSubtree (iterator u)) same inside))) at_u
    asked_takes s (inl (equal t w, e, inr same)) u k inside at_u =
        let own = derived_own facts m.reached.rule (equal t w) e in
        items u k (inl (own.1 (iterator u) (subst (IsSubtree (iterator u)) same inside))) at_u
    asked_takes s (inr used) u k inside at_u =
        let own = multi_own name facts sources rules term set h multi i r at place m s used in
        items u k (inl (own (iterator u) inside)) at_u

    -- A rule matches where what it demands holds.
    pub matches_at_places : Matches R (value_of R makes p) i
        ↔ ((d : Demand) → DemandOf facts m.reached.rule d → holds.IsProper d → holds.Holds (value facts c args done) d)
    matches_at_places =
        let law = matches_by_numbers name facts sources rules term set h (value_of R makes p) (value facts c args done) i r at place m
        (λ s k here asked. sym (value_held s k here (asked_takes s asked, fine s asked))) (value_respects facts c args done) in (
          λ w. (law.0 w).0,
          λ all. law.1 (
            all,
            λ s used.
                let calls = m.calls in
                let (id, inside, at_id) = calls.all s used in
                let (l, vs, list, there, same) = items s id.0 used at_id in (held_answers l, list),
          ),
        )

pub sites_hold_their_values : SitesHoldTheirValues
sites_hold_their_values name facts sources rules term set h c args done functions takes p s k here t fine = (
  value_held name facts sources rules term set h c args done functions takes p s k here (t, fine),
  items_held name facts sources rules term set h c args done functions takes p s k here (t, fine),
)

pub rules_match_at_places : RulesMatchAtPlaces
rules_match_at_places name facts sources rules term set h multi c args done functions takes p i place rule at_place at_rule items fine =
    let (r, at, m) = zip_left (IsMadeAt name facts sources rules term set.sites) h.is.places set.rules i place h.is.made at_place in
    let same : m.reached.rule ≡ rule = same_Some m.reached.rule rule (sym m.reached.at ∙ at_rule) in
    subst (λ (z : TypedRule). Matches (rules_of name set) ((functions_model name set facts c args).values p) i
    ↔ ((d : Demand) → DemandOf facts z d → holds.IsProper d → holds.Holds (value facts c args done) d)) same
    (matches_at_places name facts sources rules term set h c args done functions takes p multi i r at place m
    (λ s k used here. items s k (subst (λ (z : TypedRule). IsMultiCall facts (facts.partial z.root) z s) same used) here)
    (λ s asked. fine s (subst (λ (z : TypedRule). IsAskedSite facts z s) same asked)))
