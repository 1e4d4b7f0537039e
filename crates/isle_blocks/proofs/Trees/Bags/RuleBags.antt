-- The walk of a `multi` term's tree answers the bag of the term's rules.
use Rattle.std.proofs.Common.{◌≡◌, ◌⊎◌, inl, inr, ℕ, ◌<◌, Bool, true, List, [], ◌∷◌, ◌++◌, length, Option, map, Some, slice_get}
use Rattle.std.proofs.Common.{get_or, refl, ap, sym, subst, ◌∙◌, arith}
use Rattle.std.specs.List.{AllZip, filter, flat_map}
use Rattle.std.proofs.lemmas.List.{map-append}
use Rattle.std.proofs.lemmas.Option.{same_Some, slice_get_within, get_or_from_slice_get}
use Rattle.isle_types.specs.declared.ids.Sym.{Sym}
use Rattle.isle_rules.specs.declared.rules.Rule as source
use Rattle.isle_rules.specs.TypedRules.{TypedRule}
use Rattle.isle_meaning.specs.Values.{Value, Values, count}
use Rattle.isle_meaning.specs.Facts.{TermFacts}
use Rattle.isle_meaning.specs.Answers.{Completion}
use Rattle.isle_meaning.specs.AboutSites.Functions.{AreFiniteFunctions, AreAsFunctions}
use Rattle.isle_meaning.specs.AboutSites.ImpureCalls.{IfLetsArePure}
use Rattle.isle_meaning.specs.Demands.{Demand}
use Rattle.isle_meaning.specs.Held.{Held}
use Rattle.isle_meaning.specs.Holds.{Holds, IsProper}
use Rattle.isle_meaning.specs.Demands.{DemandOf}
use Rattle.isle_meaning.specs.Numbered.{At}
use Rattle.isle_meaning.specs.Sites.{Site}
use Rattle.isle_meaning.proofs.Matching.Basics.{value_respects}
use Rattle.isle_blocks.specs.declared.constraint.Constraint.{Constraint}
use Rattle.isle_blocks.specs.declared.rule.Rule.{Rule}
use Rattle.isle_blocks.specs.DefinedSets.{IsMadeAt, facts_by, name_of, rules_by}
use Rattle.isle_blocks.specs.RuleFaults.{own_result}
use Rattle.isle_blocks.specs.RuleSets.{RulesOverSites}
use Rattle.isle_blocks.specs.Rows.{rows_of}
use Rattle.isle_blocks.specs.Trees.Bags.{IsAskedSite, bag_of}
use Rattle.isle_blocks.specs.Trees.Choices.{HavePriorities, IsRuleOf}
use Rattle.isle_blocks.specs.Trees.Deciding.{matches_here}
use Rattle.isle_blocks.specs.Trees.ElaboratedSets.{IsElaboratedSet, IsMultiTerm}
use Rattle.isle_blocks.specs.Trees.Functions.{HasItem, functions_model}
use Rattle.isle_blocks.specs.Trees.Promises.{IsBuilt}
use Rattle.isle_blocks.specs.Trees.RuleBags.{Way, Match, taking, impure_answers, held_at, HasMultiCall, IsMatch, AreOne, IsBag, IsReturnAt}
use Rattle.isle_blocks.specs.Trees.RuleBags.{MakesItsBag}
use Rattle.isle_blocks.specs.Trees.Shown.{BlockShown}
use Rattle.isle_blocks.specs.Trees.View.{rules_of}
use Rattle.isle_blocks.proofs.Building.Naming.{name_by_injective}
use Rattle.isle_blocks.proofs.Sets.GatheredRules.{zipped_back}
use Rattle.isle_blocks.proofs.Trees.Chosen.{get_there, zip_left}
use Rattle.isle_blocks.proofs.Trees.Defined.{definitions_have_priorities}
use Rattle.isle_blocks.proofs.Trees.Bags.Decided.{decided, matching_rules_are_listed}
use Rattle.isle_blocks.proofs.Trees.Bags.DefinedMany.{fit, built_multi_terms, built_iflets_pure}
use Rattle.isle_blocks.proofs.Trees.Bags.Functional.{below_ascends, walks_make_bags}
use Rattle.isle_blocks.proofs.Trees.Bags.ImpureAnswers.{answered_as_functions}
use Rattle.isle_blocks.proofs.Trees.Bags.Many.{ascending}
use Rattle.isle_blocks.proofs.Trees.Bags.Placed.{AreApart, Agree, placed, placed_ways, placed_apart, in_flat, in_map, from_map, zip_map, apart_flat}
use Rattle.isle_blocks.proofs.Trees.Bags.Placed.{apart_map, apart_filter, apart_pairs}
use Rattle.isle_blocks.proofs.Trees.Bags.SameSites.{number_below, number_is}
use Rattle.isle_blocks.proofs.Trees.Bags.Taken.{taking_functions, loop_at, loop_number, matches_there, result_there, items_there, is_placed}
use Rattle.isle_trees.specs.Bag.{IsSameBag, Model, Picks, Round, gave, answers, walk_all}
use Rattle.isle_trees.specs.Builds.{Builds}
use Rattle.isle_trees.specs.Rules.{Rules, Elem}
use Rattle.isle_trees.specs.Scopes.{nothing_known}
use Rattle.isle_trees.specs.Rules.{below}
use Rattle.isle_trees.specs.Tree.{Steps}
use Rattle.isle_trees.proofs.Basics.{true_or, from_filter, to_filter, elem_contains, contains_elem}
use Rattle.isle_trees.proofs.Building.Lists.{below_less, elem_below}
use Rattle.isle_trees.proofs.Sums.{elem_flat}

-- a rule's number, the items taken, and their places
abbrev Entry : Type 0
Entry = ℕ × (Picks Held × Picks ℕ)

-- of one rule, the items alone
entries_gave : (i : ℕ) (d : Picks Held → Bool) (xs : List (Picks Held × Picks ℕ))
    → map (λ (e : Entry). gave (e.0) (e.1.0)) (map (λ (x : Picks Held × Picks ℕ). (i, x)) (filter (λ (x : Picks Held × Picks ℕ). d (x.0)) xs))
    ≡ map (gave i) (filter d (map (λ (x : Picks Held × Picks ℕ). x.0) xs))
entries_gave i d [] = refl
entries_gave i d (x ∷ xs) = elim (true_or (d (x.0))) [
  | inl e ↦ rw e (ap (λ (l : List (Round Held)). gave i (x.0) ∷ l) (entries_gave i d xs))
  | inr e ↦ rw e (entries_gave i d xs)
]

-- what is of each of joined lists
map_flat : {A B C : Type 0} (f : B → C) (g : A → List B) (e : A → List C) (xs : List A) → ((x : A) → map f (g x) ≡ e x)
    → map f (flat_map g xs) ≡ flat_map e xs
map_flat f g e [] h = refl
map_flat f g e (x ∷ xs) h =
    map-append f (g x) (flat_map g xs) ∙ ap (λ l. l ++ map f (flat_map g xs)) (h x) ∙ ap (λ l. e x ++ l) (map_flat f g e xs h)

-- the if-lets of a term's rules make no impure calls
abbrev IfLetsOfTermArePure : TermFacts → List TypedRule → ℕ → Type 0
IfLetsOfTermArePure facts rules term = (place : ℕ) (rule : TypedRule) → IsRuleOf rules term place rule → IfLetsArePure facts rule.iflets

module _ (name : Sym → List ℕ) (facts : TermFacts) (sources : List source.Rule) (rules : List TypedRule) (term : ℕ) (set : RulesOverSites)
    (h : IsElaboratedSet name facts sources rules term set) (multi : IsMultiTerm facts rules term) (pure : IfLetsOfTermArePure facts rules term)
    (c : Completion) (args : Values) (functions : AreFiniteFunctions facts c) (takes : count args ≡ length h.types) (p : Picks Held) where
  -- the set as trees see it
  abbrev R : Rules Constraint Held
  R = rules_of name set

  -- what its sites are where items are taken
  abbrev M : Model Held
  M = functions_model name set facts c args

  -- whether a rule matches then
  abbrev tells : Picks Held → ℕ → Bool
  tells g i = matches_here name set (M.values g) i

  -- the number of a site
  abbrev number_of : Site → ℕ
  number_of s = number_below name set.sites (length set.sites) s

  -- the place of a rule of the set
  abbrev place_at : ℕ → ℕ
  place_at i = get_or h.is.places i 0

  -- the ways that a rule has
  abbrev ways_of : ℕ → List (Picks Held × Picks ℕ)
  ways_of i = placed M (R.loops i) p (λ k. 0)

  -- those in which it matches
  abbrev chosen_of : ℕ → List (Picks Held × Picks ℕ)
  chosen_of i = filter (λ (x : Picks Held × Picks ℕ). tells (x.0) i) (ways_of i)

  abbrev entries_of : ℕ → List Entry
  entries_of i = map (λ (x : Picks Held × Picks ℕ). (i, x)) (chosen_of i)

  -- of each rule
  abbrev entries : List Entry
  entries = flat_map entries_of (below (length set.rules))

  -- what the walk answers, and the match that this is
  abbrev round_of : Entry → Round Held
  round_of e = gave (e.0) (e.1.0)

  abbrev way_of : Entry → Way
  way_of e s = e.1.1 (number_of s)

  abbrev match_of : Entry → Match
  match_of e = record { rule = place_at (e.0); way = way_of e }

  -- what a rule is made of
  abbrev Made : ℕ → Rule → Type 0
  Made place r = IsMadeAt name facts sources rules term set.sites place r

  -- each rule of the set, with its place
  made_here : (i : ℕ) → i < length set.rules → (r : Rule) × (slice_get set.rules i ≡ Some r) × (slice_get h.is.places i ≡ Some (place_at i))
      × Made (place_at i) r
  made_here i l =
      let (r, at) = get_there set.rules i l in
      let (q, at_place, m) = zipped_back Made h.is.places set.rules h.is.made i r at in
      let same : q ≡ place_at i = sym (get_or_from_slice_get h.is.places i q 0 at_place) in
      (r, at, at_place ∙ ap Some same, subst (λ (z : ℕ). Made z r) same m)

  -- it is one of the term
  is_rule : (place : ℕ) (r : Rule) (m : Made place r) → IsRuleOf rules term place m.reached.rule
  is_rule place r m = record { listed = m.reached.at; of_term = m.reached.of_term }

  -- what the impure calls of a rule are answered in a way
  abbrev done_in : TypedRule → Way → List (Option Value)
  done_in rule way = impure_answers facts (taking c way) args rule

  -- items are taken in any way of functions
  functions_taking : (way : Way) → AreFiniteFunctions facts (taking c way)
  functions_taking way = taking_functions facts c functions way

  -- impure calls are answered as functions answer them
  fine : (place : ℕ) (r : Rule) (m : Made place r) (way : Way) (s : Site) → IsAskedSite facts m.reached.rule s ⊎ (s ≡ own_result facts m.reached.rule)
      → AreAsFunctions facts (taking c way) args (done_in m.reached.rule way) s
  fine place r m way s asked =
      answered_as_functions facts m.reached.rule (pure place m.reached.rule (is_rule place r m)) (taking c way) (functions_taking way) args s asked

  -- what an entry is
  entry_is : (e : Entry) → Elem e entries
      → (e.0 < length set.rules) × Elem (e.1) (ways_of (e.0)) × (tells (e.1.0) (e.0) ≡ true)
  entry_is e m =
      let (i, low, inside) = elem_flat entries_of e (below (length set.rules)) m in
      let (x, chosen, same) = from_map (λ (x : Picks Held × Picks ℕ). (i, x)) e (chosen_of i) inside in
      let (within, told) = from_filter (λ (x : Picks Held × Picks ℕ). tells (x.0) i) (ways_of i) x chosen in
      subst (λ (z : Entry). (z.0 < length set.rules) × Elem (z.1) (ways_of (z.0)) × (tells (z.1.0) (z.0) ≡ true)) (sym same)
      (below_less i (length set.rules) low, within, told)

  -- its way takes the places of its numbers
  its_places : (e : Entry) (s : Site) (k : ℕ) → At (rows_of name set.sites) s k → e.1.1 (number_of s) ≡ e.1.1 k
  its_places e s k here = ap (e.1.1) (number_is name set.sites h.injective h.is.table s k here)

  -- an entry is a match
  is_match : (e : Entry) → Elem e entries → IsMatch facts c args rules term (match_of e)
  is_match e inside =
      let (low, within, told) = entry_is e inside in
      let (r, at, at_place, m) = made_here (e.0) low in
      let fine' = fine (place_at (e.0)) r m (way_of e) in
      let items = items_there name facts sources rules term set h multi c args (way_of e) (done_in m.reached.rule (way_of e)) functions takes
      (e.0) r at (place_at (e.0)) m
      fine' p (λ k. 0) (e.1) within (its_places e) in
      record {
        rule = m.reached.rule;
        is = is_rule (place_at (e.0)) r m;
        takes = λ s used.
            let (k, here, among) = loop_number name facts sources rules term set h (e.0) r at (place_at (e.0)) m s used in
            (e.1.0 k, items s k used here);
        holds = (matches_there name facts sources rules term set h multi c args (way_of e) (done_in m.reached.rule (way_of e)) functions takes
            (e.0) r at (place_at (e.0)) m
            fine' (e.1.0) items).0 ((decided name facts sources rules term set h (M.values (e.1.0)) (e.0)).0 told);
      }

  -- what the walk answers is its
  is_return : (e : Entry) → Elem e entries → IsReturnAt facts c args rules h.is.places R M (round_of e) (match_of e)
  is_return e inside =
      let (low, within, told) = entry_is e inside in
      let (r, at, at_place, m) = made_here (e.0) low in
      let fine' = fine (place_at (e.0)) r m (way_of e) in
      let items = items_there name facts sources rules term set h multi c args (way_of e) (done_in m.reached.rule (way_of e)) functions takes
      (e.0) r at (place_at (e.0)) m
      fine' p (λ k. 0) (e.1) within (its_places e) in
      let gives = result_there name facts sources rules term set h multi c args (way_of e) (done_in m.reached.rule (way_of e)) functions takes
      (e.0) r at (place_at (e.0)) m
      fine' (e.1.0) items in (
        at_place,
        λ rule listed. subst (λ (z : TypedRule). M.values (e.1.0) (R.result (e.0)) ≡ held_at facts c args z (way_of e) (own_result facts z))
            (same_Some m.reached.rule rule (sym m.reached.at ∙ listed)) gives,
      )

  -- a match of a rule of the set is an entry
  entry_from : (n : Match) (i : ℕ) (r : Rule) (at : slice_get set.rules i ≡ Some r) (at_place : slice_get h.is.places i ≡ Some n.rule)
      (m : Made n.rule r) (is : IsMatch facts c args rules term n) → (e : Entry) × Elem e entries × AreOne facts rules n (match_of e)
  entry_from n i r at at_place m is =
      let rule = m.reached.rule in
      let listed = is.is in
      let same : is.rule ≡ rule = same_Some is.rule rule (sym listed.listed ∙ m.reached.at) in
      let fine' = fine n.rule r m n.way in
      let there = subst (λ (z : TypedRule). (s : Site) → HasMultiCall facts z s
      → (x : Held) × HasItem (held_at facts c args z n.way s) (n.way s) x) same is.takes in
      let (x, inside, places, items) = is_placed name facts sources rules term set h multi c args n.way (done_in rule n.way) functions
      takes i r at n.rule m fine' p there (λ k. 0) in
      let holds = subst (λ (z : TypedRule). (d : Demand) → DemandOf facts z d → IsProper d → Holds (held_at facts c args z n.way) d) same is.holds in
      let matches = (matches_there name facts sources rules term set h multi c args n.way (done_in rule n.way) functions
      takes i r at n.rule m fine' (x.0) items).1 holds in
      let told = (decided name facts sources rules term set h (M.values (x.0)) i).1 matches in
      let low = slice_get_within set.rules i r at in (
        (i, x),
        in_flat entries_of i (i, x) (below (length set.rules)) (elem_below i (length set.rules) low)
            (in_map (λ (x : Picks Held × Picks ℕ). (i, x)) x (chosen_of i)
            (to_filter (λ (x : Picks Held × Picks ℕ). tells (x.0) i) (ways_of i) x inside told)),
        (
          sym (get_or_from_slice_get h.is.places i n.rule 0 at_place),
          λ other at_other s used.
              let one : other ≡ rule = same_Some other rule (sym at_other ∙ m.reached.at) in
              let used' = subst (λ (z : TypedRule). HasMultiCall facts z s) one used in
              let (k, here, among) = loop_number name facts sources rules term set h i r at n.rule m s used' in
              places s k used' here ∙ sym (its_places (i, x) s k here),
        ),
      )

  -- each match is one
  is_full : (n : Match) → IsMatch facts c args rules term n → (e : Entry) × Elem e entries × AreOne facts rules n (match_of e)
  is_full n is =
      let listed = is.is in
      let (i, at_place) = matching_rules_are_listed name facts sources rules term set h (held_at facts c args is.rule n.way)
      (value_respects facts (taking c n.way) args (done_in is.rule n.way)) n.rule is.rule listed.listed listed.of_term is.holds in
      let (r, at, m) = zip_left Made h.is.places set.rules i n.rule h.is.made at_place in
      entry_from n i r at at_place m is

  -- two entries' matches are one
  abbrev AreSame : Entry → Entry → Type 0
  AreSame e f = AreOne facts rules (match_of e) (match_of f)

  -- of one rule where they agree on its places
  same_agree : (i : ℕ) → i < length set.rules → (x y : Picks Held × Picks ℕ) → AreSame (i, x) (i, y) → Agree (R.loops i) x y
  same_agree i low x y same k among =
      let (r, at, at_place, m) = made_here i low in
      let (s, here, used) = loop_at name facts sources rules term set h i r at (place_at i) m k among in
      sym (its_places (i, x) s k here) ∙ same.1 m.reached.rule m.reached.at s used ∙ its_places (i, y) s k here

  -- places of lesser rules are less
  places_apart : (i j : ℕ) → i < j → j < length set.rules → place_at i ≡ place_at j → ⊥
  places_apart i j l low e =
      let (r, at, at_place, m) = made_here j low in
      let within = slice_get_within h.is.places j (place_at j) at_place in
      let is = h.is in
      let listed = is.listed in
      let less : place_at i < place_at j = listed.ascending i j 0 l within in omega arith

  -- an entry of a rule has its number
  of_number : (i : ℕ) (e : Entry) → Elem e (entries_of i) → e.0 ≡ i
  of_number i e inside =
      let (x, chosen, same) = from_map (λ (x : Picks Held × Picks ℕ). (i, x)) e (chosen_of i) inside in ap (λ (z : Entry). z.0) same

  -- no two entries are one
  are_apart : AreApart AreSame entries
  are_apart =
      apart_flat AreSame entries_of (below (length set.rules)) (below_ascends (length set.rules))
      (λ i low. apart_map AreSame (Agree (R.loops i)) (λ (x : Picks Held × Picks ℕ). (i, x)) (chosen_of i)
      (λ x y a b same. same_agree i (below_less i (length set.rules) low) x y same)
      (apart_filter (Agree (R.loops i)) (λ (x : Picks Held × Picks ℕ). tells (x.0) i) (ways_of i)
      (placed_apart M (R.loops i) p (λ k. 0) (ascending name facts sources rules term set h i))))
      (λ i j a b l low high here there same.
      let one = of_number i a here in let two = of_number j b there in
      places_apart i j l (below_less j (length set.rules) high) (ap place_at (sym one) ∙ same.0 ∙ ap place_at two))

  -- The entries are the bag.
  pub is_bag : IsBag facts c args rules term (map match_of entries)
  is_bag = record {
    sound = λ n inside.
        let (e, stands, same) = from_map match_of n entries (contains_elem n (map match_of entries) inside) in
        subst (IsMatch facts c args rules term) (sym same) (is_match e stands);
    full = λ n is.
        let (e, stands, one) = is_full n is in
        (match_of e, elem_contains (match_of e) (map match_of entries) (in_map match_of e entries stands), one);
    once = apart_pairs (AreOne facts rules) (map match_of entries)
        (apart_map (AreOne facts rules) AreSame match_of entries (λ x y a b same. same) are_apart);
  }

  -- The walk answers it.
  pub rounds_are : map round_of entries ≡ bag_of name set M p
  rounds_are =
      map_flat round_of entries_of (answers R M tells p) (below (length set.rules)) (λ i.
      entries_gave i (λ g. tells g i) (ways_of i)
      ∙ ap (λ (l : List (Picks Held)). map (gave i) (filter (λ g. tells g i) l)) (placed_ways M (R.loops i) p (λ k. 0)))

  pub makes_bag : HavePriorities sources rules → (T : Steps Constraint) → Builds R (below (length set.rules)) nothing_known T
      → (rounds : List (Round Held)) × (bag : List Match) × IsSameBag (walk_all R M T p) rounds
      × AllZip (IsReturnAt facts c args rules h.is.places R M) rounds bag × IsBag facts c args rules term bag
  makes_bag priorities T builds = (
    map round_of entries,
    map match_of entries,
    subst (IsSameBag (walk_all R M T p)) (sym rounds_are) (walks_make_bags name facts sources rules term set h multi priorities c args T builds p),
    zip_map (IsReturnAt facts c args rules h.is.places R M) round_of match_of entries is_return,
    is_bag,
  )

-- A tree that is built makes its bag.
pub built_bag : (set : RulesOverSites) (block : BlockShown) → IsBuilt set block → MakesItsBag set block
built_bag set block built env d term is multi opens c args functions takes items =
    makes_bag (name_of env d) (facts_by env d) env.rules (rules_by env d) term set
    (record { injective = name_by_injective d.tyenv.names d.once; types = (facts_by env d).inputs term; fit = fit env d term; is = is })
    (built_multi_terms env d term multi (λ i rule at root. opens i rule (record { listed = at; of_term = root })))
    (λ place rule its. built_iflets_pure env d place rule its.listed) c args functions takes items (definitions_have_priorities env d) block.tree
    (built (name_of env d))
