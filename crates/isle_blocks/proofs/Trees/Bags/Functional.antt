-- Calls that are functions into finite lists are as the bag asks, and the walk of a `multi` term's tree answers the bag of its rules.
use Rattle.std.proofs.Common.{◌≡◌, ◌≢◌, inl, inr, ℕ, zero, suc, ◌<◌, true, List, [], ◌∷◌, ◌++◌, length, Option, Some, None, slice_get, refl, ap}
use Rattle.std.proofs.Common.{sym, subst, ◌∙◌, arith}
use Rattle.std.proofs.lemmas.Option.{same_Some}
use Rattle.isle_types.specs.declared.ids.Sym.{Sym}
use Rattle.isle_rules.specs.declared.rules.Rule as source
use Rattle.isle_rules.specs.TypedRules.{TypedRule}
use Rattle.isle_meaning.specs.Got.{Got, unknown, fails, gives}
use Rattle.isle_meaning.specs.Values.{Values, nth, ask}
use Rattle.isle_meaning.specs.Facts.{TermFacts}
use Rattle.isle_meaning.specs.Answers.{Completion}
use Rattle.isle_meaning.specs.Held.{Held, held_value, held, plain_of, variant_field, struct_field, content_of}
use Rattle.isle_meaning.specs.AboutSites.Functions.{as_pure}
use Rattle.isle_meaning.specs.AboutSites.Making.{made_of_parts}
use Rattle.isle_meaning.specs.Sites.{Site}
use Rattle.isle_meaning.proofs.Matching.Basics.{field_at, struct_at}
use Rattle.isle_blocks.specs.declared.binding.Binding.{Binding}
use Rattle.isle_blocks.specs.declared.binding.Binding.TheVariants as sites
use Rattle.isle_blocks.specs.declared.constraint.Constraint.{Constraint}
use Rattle.isle_blocks.specs.declared.constraint.Constraint.TheVariants as tests
use Rattle.isle_blocks.specs.RuleSets.{RulesOverSites}
use Rattle.isle_blocks.specs.Trees.Bags.{FunctionsAreFunctions, WalksMakeBags}
use Rattle.isle_blocks.specs.Trees.Compare.{meets}
use Rattle.isle_blocks.specs.Trees.ElaboratedSets.{IsElaboratedSet}
use Rattle.isle_blocks.specs.Trees.Functions.{settled, functions_of, lists_of, functions_model}
use Rattle.isle_blocks.specs.Trees.SiteTrees.{tree_of}
use Rattle.isle_blocks.specs.Trees.View.{made_by, opening, rules_of}
use Rattle.isle_blocks.specs.Trees.Deciding.{matches_here}
use Rattle.isle_blocks.proofs.Trees.Bags.Decided.{decided}
use Rattle.isle_blocks.proofs.Trees.Elaborated.{well_made}
use Rattle.isle_blocks.proofs.Trees.Exact.{passed_meets}
use Rattle.isle_blocks.proofs.Trees.Listed.{opening_opens}
use Rattle.isle_blocks.proofs.Trees.Bags.Many.{is_many}
use Rattle.isle_blocks.proofs.Trees.Reading.{read_some}
use Rattle.isle_blocks.proofs.Trees.Respected.{variant_there, struct_there}
use Rattle.isle_blocks.proofs.Trees.Standing.{tree_is}
use Rattle.isle_trees.specs.Answers.{HasValue}
use Rattle.isle_trees.specs.Bag.{IsAscending}
use Rattle.isle_trees.specs.Calls.{AreFunctions}
use Rattle.isle_trees.specs.Rules.{has, Source, Elem}
use Rattle.isle_trees.specs.Rules.{below}
use Rattle.isle_trees.proofs.Asking.{elem_append}
use Rattle.isle_trees.proofs.Whole.{whole_bag, whole_calls}

-- what is settled is known
settled_known : (o : Option (Source Constraint)) (g : Got Held) → settled o g ≢ unknown
settled_known None unknown e = cc
settled_known None fails e = cc
settled_known None (gives h) e = cc
settled_known (Some m) unknown e = cc
settled_known (Some m) fails e = cc
settled_known (Some m) (gives h) e = cc

-- what no test makes doesn't fail
settled_whole : (o : Option (Source Constraint)) (g : Got Held) → o ≡ None → settled o g ≢ fails
settled_whole None unknown n e = cc
settled_whole None fails n e = cc
settled_whole None (gives h) n e = cc
settled_whole (Some m) g n e = absurd cc

-- What is given stays.
pub settled_gives : (o : Option (Source Constraint)) (g : Got Held) → HasValue g → HasValue (settled o g)
settled_gives o unknown h = absurd (let e = h.1 in cc)
settled_gives o fails h = absurd (let e = h.1 in cc)
settled_gives None (gives y) h = (y, refl)
settled_gives (Some m) (gives y) h = (y, refl)

-- what is wanted of a source is a test
wanted : (m : Source Constraint) (s : ℕ) (d c : Constraint) → record { site = s; want = has d } ≡ m → m.want ≡ has c → d ≡ c
wanted m s d c e w = let p : has d ≡ has c = ap (λ (x : Source Constraint). x.want) e ∙ w in cc

-- the numbers below one are less
below_less : (n i : ℕ) → Elem i (below n) → i < n
below_less zero i m = absurd m
below_less (suc n) i m = elim (elem_append i (below n) (n ∷ []) m) [
  | inl old ↦ let l = below_less n i old in omega arith
  | inr new ↦ elim new [ inl e ↦ omega arith | inr z ↦ absurd z ]
]

-- a number behind lesser ones ascends
ascends_more : (xs : List ℕ) (n : ℕ) → IsAscending xs → ((x : ℕ) → Elem x xs → x < n) → IsAscending (xs ++ n ∷ [])
ascends_more [] n up low = (λ y m. absurd m, tt)
ascends_more (x ∷ xs) n up low = (
  λ y m. elim (elem_append y xs (n ∷ []) m) [
    | inl old ↦ up.0 y old
    | inr new ↦ elim new [ inl e ↦ subst (λ (z : ℕ). x < z) (sym e) (low x (inl refl)) | inr z ↦ absurd z ]
  ],
  ascends_more xs n (up.1) (λ y m. low y (inr m)),
)

-- The numbers below one ascend.
pub below_ascends : (n : ℕ) → IsAscending (below n)
below_ascends zero = tt
below_ascends (suc n) = ascends_more (below n) n (below_ascends n) (λ x m. below_less n x m)

module _ (name : Sym → List ℕ) (facts : TermFacts) (sources : List source.Rule) (rules : List TypedRule) (term : ℕ) (set : RulesOverSites)
    (h : IsElaboratedSet name facts sources rules term set) (c : Completion) (args : Values) where
  -- a number's tree
  abbrev tree : ℕ → Site
  tree = tree_of name set.sites

  -- what a site is, where its only part holds this
  abbrev made_of_one : Site → Held → Got Held
  made_of_one s x = made_of_parts facts c args [] (as_pure s) (x ∷ [])

  -- a field is there where its test passes
  field_made : (s : ℕ) (b : Binding) (m : Source Constraint) (d : Constraint) (x : Held) → slice_get set.sites s ≡ Some b
      → made_by set.rules b ≡ Some m → m.want ≡ has d → meets name d x ≡ true → HasValue (made_of_one (tree s) x)
  field_made s (sites.MatchVariant a v i) m d x at is w p =
      let e = wanted m a.0 (opening set.rules (Some v.0) a.0 i.0) d (same_Some _ m is) w in
      let o = opening_opens set.rules (Some v.0) a.0 i.0 in
      let p' = subst (λ (z : Constraint). meets name z x ≡ true) (sym e) p in
      let (ty, vs, y, q, n) = variant_there name v.0 i.0 (opening set.rules (Some v.0) a.0 i.0) x o (passed_meets name _ x p') in
      let one : ask (variant_field v.0 i.0) (plain_of x) ≡ held (nth vs i.0) =
      field_at (gives x) ty v.0 i.0 vs (ap (λ (z : Held). gives z) q) in
      (held_value y, ap (λ (z : Site). made_of_one z x) (tree_is name set.sites h.is.table s (sites.MatchVariant a v i) at) ∙ one ∙ ap held n)
  field_made s (sites.ExtractStruct a i) m d x at is w p =
      let e = wanted m a.0 (opening set.rules None a.0 i.0) d (same_Some _ m is) w in
      let o = opening_opens set.rules None a.0 i.0 in
      let p' = subst (λ (z : Constraint). meets name z x ≡ true) (sym e) p in
      let (ty, vs, y, q, n) = struct_there name i.0 (opening set.rules None a.0 i.0) x o (passed_meets name _ x p') in
      let one : ask (struct_field i.0) (plain_of x) ≡ held (nth vs i.0) = struct_at (gives x) ty i.0 vs (ap (λ (z : Held). gives z) q) in
      (held_value y, ap (λ (z : Site). made_of_one z x) (tree_is name set.sites h.is.table s (sites.ExtractStruct a i) at) ∙ one ∙ ap held n)
  field_made s (sites.MatchSome a) m d x at is w p =
      let e = wanted m a.0 tests.Some d (same_Some _ m is) w in
      let (y, q) = passed_meets name tests.Some x (subst (λ (z : Constraint). meets name z x ≡ true) (sym e) p) in
      (y, ap (λ (z : Site). made_of_one z x) (tree_is name set.sites h.is.table s (sites.MatchSome a) at) ∙ ap content_of q)
  field_made s (sites.Iterator a) m d x at is w p =
      absurd (let e = ap (λ (z : Source Constraint). z.want) (same_Some _ m is) ∙ w in cc)
  field_made s b m d x at is w p = absurd cc

  -- Calls that are functions are as the bag asks.
  pub are_functions : AreFunctions (rules_of name set) (functions_of name set facts c args) (lists_of name set facts c args) (λ p. true)
  are_functions = record {
    answers = λ s xs. settled_known ((rules_of name set).made s) _;
    whole = λ s xs n. settled_whole ((rules_of name set).made s) _ n;
    field = λ s m d x e w p.
        let (b, at, is) = read_some (made_by set.rules) (slice_get set.sites s) m e in
        settled_gives ((rules_of name set).made s) _ (field_made s b m d x at is w p);
    fit = λ p s xs x ok m. refl;
  }

pub functions_are_functions : FunctionsAreFunctions
functions_are_functions name facts sources rules term set h c args = are_functions name facts sources rules term set h c args

pub walks_make_bags : WalksMakeBags
walks_make_bags name facts sources rules term set h multi priorities c args T builds p =
    let R = rules_of name set in
    let well = well_made name facts sources rules term set h in
    let makes = functions_of name set facts c args in let lists = lists_of name set facts c args in
    let M = functions_model name set facts c args in
    whole_bag R (below (length set.rules)) T M (λ q i. matches_here name set (M.values q) i) p well
    (is_many name facts sources rules term set h multi priorities) (below_ascends (length set.rules)) builds
    (whole_calls R makes lists (λ q. true) well (are_functions name facts sources rules term set h c args))
    (record {
      sound = λ q i e. (decided name facts sources rules term set h (M.values q) i).0 e;
      full = λ q i w. (decided name facts sources rules term set h (M.values q) i).1 w;
    }) refl
