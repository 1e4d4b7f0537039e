-- What sites are where items are taken doesn't depend on the places in a completion.
use Rattle.std.proofs.Common.{◌≡◌, inl, inr, ℕ, zero, suc, List, [], ◌∷◌, Option, Some, None, slice_get, refl, ap, sym, ◌∙◌}
use Rattle.isle_types.specs.declared.ids.Sym.{Sym}
use Rattle.isle_meaning.specs.Got.{Got, unknown, fails, gives}
use Rattle.isle_meaning.specs.Values.{Values, no_values, more_values, ask, nth_of}
use Rattle.isle_meaning.specs.Facts.{TermFacts}
use Rattle.isle_meaning.specs.Answers.{Completion}
use Rattle.isle_meaning.specs.AboutSites.Functions.{as_pure}
use Rattle.isle_meaning.specs.AboutSites.Making.{made_of_parts, of_first}
use Rattle.isle_meaning.specs.Held.{Held, held_value, held_outputs, held_none, held_some, held_answers, outputs_of, item_of}
use Rattle.isle_meaning.specs.Sites.{Site, bool_site, int_site, prim_site, argument, extractor_call, constructor_call, iterator}
use Rattle.isle_meaning.specs.Sites.{make_variant, match_variant, make_struct, extract_struct, make_some, match_some, match_tuple}
use Rattle.isle_blocks.specs.declared.binding.Binding.{Binding}
use Rattle.isle_blocks.specs.declared.binding.Binding.TheVariants as sites
use Rattle.isle_blocks.specs.declared.constraint.Constraint.{Constraint}
use Rattle.isle_blocks.specs.RuleSets.{RulesOverSites}
use Rattle.isle_blocks.specs.Trees.Functions.{settled, items_of, functions_of, lists_of, functions_model}
use Rattle.isle_blocks.specs.Trees.RuleBags.{Way, taking}
use Rattle.isle_blocks.specs.Trees.SiteTrees.{tree_from, tree_to, tree_of}
use Rattle.isle_blocks.specs.Trees.View.{made_by, rules_of}
use Rattle.isle_trees.specs.Answers.{Answers}
use Rattle.isle_trees.specs.Bag.{Picks}
use Rattle.isle_trees.specs.Calls.{taken, made_from, site_value, value_of, listed}
use Rattle.isle_trees.specs.Machine.{Makes, gather, read_or}
use Rattle.isle_trees.specs.Rules.{Source, Rules}
use Rattle.isle_trees.proofs.Basics.{none_or}

-- an item has no items
no_inner : (vs : Values) → items_of (gives (outputs_of vs)) ≡ []
no_inner no_values = refl
no_inner (more_values x no_values) = refl
no_inner (more_values x (more_values y ys)) = refl

-- whether or not it is there
nor_given : (g : Got Values) → items_of (ask (λ vs. gives (outputs_of vs)) g) ≡ []
nor_given unknown = refl
nor_given fails = refl
nor_given (gives vs) = no_inner vs

-- whatever it is taken of
nor_taken : (n : ℕ) (h : Held) → items_of (item_of n h) ≡ []
nor_taken n (held_value v) = refl
nor_taken n (held_outputs vs) = refl
nor_taken n held_none = refl
nor_taken n (held_some h) = refl
nor_taken n (held_answers l) = nor_given (nth_of l n)

-- also of a first part
nor_first : (n : ℕ) (hs : List Held) → items_of (of_first (item_of n) hs) ≡ []
nor_first n [] = refl
nor_first n (h ∷ hs) = nor_taken n h

module _ (facts : TermFacts) (c : Completion) (args : Values) (way : Way) where
  -- what is made of parts, with other places
  abbrev there : Site → List Held → Got Held
  there t hs = made_of_parts facts (taking c way) args [] (as_pure t) hs

  abbrev here : Site → List Held → Got Held
  here t hs = made_of_parts facts c args [] (as_pure t) hs

  -- what isn't an item is the same
  same_made : (t : Site) (hs : List Held) → ((u : Site) → t ≡ iterator u → ⊥) → there t hs ≡ here t hs
  same_made (bool_site b ty) hs n = refl
  same_made (int_site k ty) hs n = refl
  same_made (prim_site k) hs n = refl
  same_made (argument i) hs n = refl
  same_made (extractor_call t s) hs n = refl
  same_made (constructor_call t ss i) hs n = refl
  same_made (iterator s) hs n = absurd (n s refl)
  same_made (make_variant ty k ss) hs n = refl
  same_made (match_variant s k i) hs n = refl
  same_made (make_struct ty ss) hs n = refl
  same_made (extract_struct s i) hs n = refl
  same_made (make_some s) hs n = refl
  same_made (match_some s) hs n = refl
  same_made (match_tuple s i) hs n = refl

  -- and has the same items
  same_items : (t : Site) (hs : List Held) → items_of (there t hs) ≡ items_of (here t hs)
  same_items (bool_site b ty) hs = refl
  same_items (int_site k ty) hs = refl
  same_items (prim_site k) hs = refl
  same_items (argument i) hs = refl
  same_items (extractor_call t s) hs = refl
  same_items (constructor_call t ss i) hs = refl
  same_items (iterator s) hs = nor_first (way s) hs ∙ sym (nor_first (c.place s) hs)
  same_items (make_variant ty k ss) hs = refl
  same_items (match_variant s k i) hs = refl
  same_items (make_struct ty ss) hs = refl
  same_items (extract_struct s i) hs = refl
  same_items (make_some s) hs = refl
  same_items (match_some s) hs = refl
  same_items (match_tuple s i) hs = refl

  module _ (name : Sym → List ℕ) (set : RulesOverSites) where
    -- the set as trees see it
    abbrev R : Rules Constraint Held
    R = rules_of name set

    -- what makes a site
    abbrev others : Makes Held
    others = functions_of name set facts (taking c way) args

    abbrev makes : Makes Held
    makes = functions_of name set facts c args

    -- what a site that is no item is made
    made_same : (k : ℕ) (o : Option (List Held)) → ((u : Site) → tree_of name set.sites k ≡ iterator u → ⊥)
        → made_from others k o ≡ made_from makes k o
    made_same k None n = refl
    made_same k (Some hs) n = ap (settled (R.made k)) (same_made (tree_of name set.sites k) hs n)

    -- by its entry
    entry_same : (p : Picks Held) (k : ℕ) (b : Binding) (o : Option (List Held)) → slice_get set.sites k ≡ Some b
        → read_or (taken p (made_by set.rules b)) (made_from others k o) ≡ read_or (taken p (made_by set.rules b)) (made_from makes k o)
    entry_same p k (sites.Iterator a) o at = refl
    entry_same p k b o at =
        ap (read_or (taken p (made_by set.rules b)))
        (made_same k o (λ u q. let z = sym (ap (tree_from name (tree_to name set.sites k)) at) ∙ q in cc))

    -- or without one
    read_same : (p : Picks Held) (k : ℕ) (o : Option (List Held))
        → read_or (taken p (R.made k)) (made_from others k o) ≡ read_or (taken p (R.made k)) (made_from makes k o)
    read_same p k o = elim (none_or (slice_get set.sites k)) [
      | inl none ↦
          ap (read_or (taken p (R.made k)))
          (made_same k o (λ u q. let z = sym (ap (tree_from name (tree_to name set.sites k)) none) ∙ q in cc))
      | inr some ↦
          let (b, at) = some in
          let made : R.made k ≡ made_by set.rules b = rw at refl in
          ap (λ (m : Option (Source Constraint)). read_or (taken p m) (made_from others k o)) made ∙ entry_same p k b o at
          ∙ sym (ap (λ (m : Option (Source Constraint)). read_or (taken p m) (made_from makes k o)) made)
    ]

    -- a site is the same, with any fuel
    site_same : (p : Picks Held) (n k : ℕ) → site_value R others p n k ≡ site_value R makes p n k
    site_same p zero k = refl
    site_same p (suc n) k =
        let below : ◌≡◌ {A = ℕ → Got Held} (site_value R others p n) (site_value R makes p n) = λ i. λ j. site_same p n j i in
        ap (λ (f : ℕ → Got Held). read_or (taken p (R.made k)) (made_from others k (gather f (R.parts k)))) below
        ∙ read_same p k (gather (site_value R makes p n) (R.parts k))

    -- Sites are the same.
    pub same_values : (p : Picks Held)
        → ◌≡◌ {A = Answers Held} ((functions_model name set facts (taking c way) args).values p) ((functions_model name set facts c args).values p)
    same_values p = λ i. λ k. site_same p (suc k) k i

    -- what is listed of gathered parts is the same
    list_same : (k : ℕ) (o : Option (List Held)) → listed (lists_of name set facts (taking c way) args) k o ≡ listed
        (lists_of name set facts c args) k o
    list_same k None = refl
    list_same k (Some hs) = same_items (tree_of name set.sites k) hs

    -- Multi calls list the same items.
    pub same_many : (p : Picks Held) (k : ℕ)
        → (functions_model name set facts (taking c way) args).many p k ≡ (functions_model name set facts c args).many p k
    same_many p k =
        ap (λ (f : Answers Held). listed (lists_of name set facts (taking c way) args) k (gather f (R.parts k))) (same_values p)
        ∙ list_same k (gather (value_of R makes p) (R.parts k))
