-- Values that are laid out from the last to the first.
use Rattle.std.proofs.Common.{◌≡◌, ◌+◌, ◌-◌, ◌<◌, ◌≤◌, ◌++◌, ℕ, zero, suc, min, List, [], ◌∷◌, inl, inr, length, take, drop, reverse}
use Rattle.std.proofs.Common.{get_or, refl, sym, ◌∙◌, ap, subst, arith, append_assoc}
use Rattle.std.proofs.lemmas.List.{append-nil, reverse-append, length-reverse, length-drop, take-append-drop, drop_at, drop_all}
use Rattle.std.proofs.lemmas.List.{take_all, get_or-reverse, get_or_past}
use Rattle.std.proofs.lemmas.Bool.{cases_lt}
use Rattle.isle_rules.specs.Values.{ValueTree, ValueTrees, bool_tree, int_tree, big_tree, const_tree, opaque_tree, data_tree}
use Rattle.isle_rules.specs.Values.{no_trees, more_trees}
use Rattle.isle_values.specs.declared.values.Node.{Node}
use Rattle.isle_values.specs.declared.values.Node.TheVariants.{Bool, Int, Big, Const, Opaque, Data}
use Rattle.isle_values.specs.Values.Nodes.{count_of, sizes_of, nodes_of, nodes_all, first_values, later_values, put, values_in}
use Rattle.isle_values.specs.Values.Laying.{sizes_behind, AreLaid, IsLeaf}
use Rattle.isle_values.proofs.GroundValues.Printing.{sized_all}

-- a list from its end is its last item before the others from theirs
pub reverse_pushed : {X : Type 0} (xs : List X) (x : X) → reverse (xs ++ x ∷ []) ≡ x ∷ reverse xs
reverse_pushed xs x = reverse-append xs (x ∷ [])

-- as many counts as values
many_behind : (vs : ValueTrees) → length (sizes_behind vs) ≡ count_of vs
many_behind no_trees = refl
many_behind (more_trees v vs) = ap suc (many_behind vs)

-- the counts of the later values
later_behind : (k : ℕ) (vs : ValueTrees) → drop k (sizes_behind vs) ≡ sizes_behind (later_values k vs)
later_behind zero vs = refl
later_behind (suc k) no_trees = refl
later_behind (suc k) (more_trees v vs) = later_behind k vs

-- the count at a place is that of the nodes of the values behind it
behind_at : (k : ℕ) (vs : ValueTrees) (d : ℕ) → k < count_of vs → get_or (sizes_behind vs) k d ≡ sizes_of (later_values (suc k) vs)
behind_at k no_trees d low = absurd (omega arith)
behind_at zero (more_trees v vs) d low = refl
behind_at (suc k) (more_trees v vs) d low = behind_at k vs d (omega arith)

-- the first values and the later ones have all nodes
split_nodes : (k : ℕ) (vs : ValueTrees) → nodes_all (first_values k vs) ++ nodes_all (later_values k vs) ≡ nodes_all vs
split_nodes zero vs = refl
split_nodes (suc k) no_trees = refl
split_nodes (suc k) (more_trees v vs) =
    append_assoc (nodes_of v) (nodes_all (first_values k vs)) (nodes_all (later_values k vs)) ∙ ap (λ l. nodes_of v ++ l) (split_nodes k vs)

split_sizes : (k : ℕ) (vs : ValueTrees) → sizes_of (first_values k vs) + sizes_of (later_values k vs) ≡ sizes_of vs
split_sizes zero vs = omega arith
split_sizes (suc k) no_trees = refl
split_sizes (suc k) (more_trees v vs) = omega (arith, split_sizes k vs)

-- so many of the values, where there are
first_many : (k : ℕ) (vs : ValueTrees) → k ≤ count_of vs → count_of (first_values k vs) ≡ k
first_many zero vs low = refl
first_many (suc k) no_trees low = absurd (omega arith)
first_many (suc k) (more_trees v vs) low = ap suc (first_many k vs (omega arith))

-- where there are fewer, all of them
first_few : (n k : ℕ) (vs : ValueTrees) → count_of vs ≤ n → count_of vs ≤ k → first_values n vs ≡ first_values k vs
first_few zero zero vs low less = refl
first_few zero (suc k) no_trees low less = refl
first_few zero (suc k) (more_trees v vs) low less = absurd (omega arith)
first_few (suc n) zero no_trees low less = refl
first_few (suc n) zero (more_trees v vs) low less = absurd (omega arith)
first_few (suc n) (suc k) no_trees low less = refl
first_few (suc n) (suc k) (more_trees v vs) low less = ap (more_trees v) (first_few n k vs (omega arith) (omega arith))

later_few : (n k : ℕ) (vs : ValueTrees) → count_of vs ≤ n → count_of vs ≤ k → later_values n vs ≡ later_values k vs
later_few zero zero vs low less = refl
later_few zero (suc k) no_trees low less = refl
later_few zero (suc k) (more_trees v vs) low less = absurd (omega arith)
later_few (suc n) zero no_trees low less = refl
later_few (suc n) zero (more_trees v vs) low less = absurd (omega arith)
later_few (suc n) (suc k) no_trees low less = refl
later_few (suc n) (suc k) (more_trees v vs) low less = later_few n k vs (omega arith) (omega arith)

-- so many of them, or all
pub first_min : (k n : ℕ) (vs : ValueTrees) → n ≡ count_of vs → first_values (min k n) vs ≡ first_values k vs
first_min k n vs many = elim (cases_lt k n) [
  | inl below ↦ ap (λ j. first_values j vs) (let e : min k n ≡ k = omega arith in e)
  | inr past ↦ first_few (min k n) k vs (omega (arith, many)) (omega (arith, many))
]

pub later_min : (k n : ℕ) (vs : ValueTrees) → n ≡ count_of vs → later_values (min k n) vs ≡ later_values k vs
later_min k n vs many = elim (cases_lt k n) [
  | inl below ↦ ap (λ j. later_values j vs) (let e : min k n ≡ k = omega arith in e)
  | inr past ↦ later_few (min k n) k vs (omega (arith, many)) (omega (arith, many))
]

-- the first items from the end
reverse_take : {X : Type 0} (xs : List X) (k : ℕ) → k ≤ length xs → reverse (take k xs) ≡ drop (length xs - k) (reverse xs)
reverse_take xs k low =
    let parts = sym (ap reverse (take-append-drop k xs)) ∙ reverse-append (take k xs) (drop k xs) in
    let many : length (reverse (drop k xs)) ≡ length xs - k = length-reverse (drop k xs) ∙ length-drop k xs in
    sym (ap (drop (length xs - k)) parts ∙ drop_at (reverse (drop k xs)) (reverse (take k xs)) (length xs - k) many)

-- the nodes of one value
only_one : (nodes : List Node) (vs : ValueTrees) → count_of vs ≡ 1 → nodes ≡ nodes_all vs
    → (v : ValueTree) × (vs ≡ more_trees v no_trees) × (nodes ≡ nodes_of v)
only_one nodes no_trees e laid = absurd (omega (arith, e))
only_one nodes (more_trees v no_trees) e laid = (v, refl, laid ∙ append-nil (nodes_of v))
only_one nodes (more_trees v (more_trees w vs)) e laid = absurd (omega (arith, e))

module _ (nodes : List Node) (behind : List ℕ) (are : AreLaid nodes behind) where
  -- the values that are laid out
  abbrev laid_values : ValueTrees
  laid_values = values_in (reverse nodes)

  -- all their nodes
  pub all_nodes : length nodes ≡ sizes_of laid_values
  all_nodes = sym (length-reverse nodes) ∙ ap length are.laid ∙ sized_all laid_values

  pub all_counts : length behind ≡ count_of laid_values
  all_counts = sym (length-reverse behind) ∙ ap length are.counted ∙ many_behind laid_values

  -- a value of one node before them
  node_laid : (node : Node) (v : ValueTree) → nodes_of v ≡ node ∷ [] → put node laid_values ≡ more_trees v laid_values
      → AreLaid (nodes ++ node ∷ []) (behind ++ length nodes ∷ [])
  node_laid node v one is =
      let values : values_in (reverse (nodes ++ node ∷ [])) ≡ more_trees v laid_values = ap values_in (reverse_pushed nodes node) ∙ is in
      record {
        laid = reverse_pushed nodes node ∙ ap (λ l. node ∷ l) are.laid ∙ ap (λ l. l ++ nodes_all laid_values) (sym one)
            ∙ ap nodes_all (sym values);
        counted = reverse_pushed behind (length nodes) ∙ (λ i. all_nodes i ∷ are.counted i) ∙ ap sizes_behind (sym values);
      }

  -- so is a leaf
  pub leaf_laid : (node : Node) → IsLeaf node → AreLaid (nodes ++ node ∷ []) (behind ++ length nodes ∷ [])
  leaf_laid (Bool b) leaf = node_laid (Bool b) (bool_tree b) refl refl
  leaf_laid (Int n) leaf = node_laid (Int n) (int_tree n) refl refl
  leaf_laid (Big n) leaf = node_laid (Big n) (big_tree n) refl refl
  leaf_laid (Const name) leaf = node_laid (Const name) (const_tree name) refl refl
  leaf_laid (Opaque n) leaf = node_laid (Opaque n) (opaque_tree n) refl refl
  leaf_laid (Data name fields below) leaf = absurd leaf

  -- how many nodes stand behind the first values, so many
  pub nodes_behind : (fields : ℕ) → fields ≤ length behind
      → get_or behind (length behind - fields) (length nodes) ≡ sizes_of (later_values fields laid_values)
  nodes_behind zero low = get_or_past behind (length behind - zero) (length nodes) (omega arith) ∙ all_nodes
  nodes_behind (suc fields) low =
      let d = length nodes in
      let back = get_or-reverse behind fields d (omega arith) in
      let place : length behind - 1 - fields ≡ length behind - suc fields = omega arith in
      ap (λ k. get_or behind k d) (sym place) ∙ sym back ∙ ap (λ l. get_or l fields d) are.counted
      ∙ behind_at fields laid_values d (omega (arith, all_counts))

  -- data of the first of them
  pub data_laid : (name : List ℕ) (fields after : ℕ) → fields ≤ length behind → after ≡ sizes_of (later_values fields laid_values)
      → AreLaid (nodes ++ Data name fields (length nodes - after) ∷ []) (take (length behind - fields) behind ++ after ∷ [])
  data_laid name fields after low is =
      let many : count_of (first_values fields laid_values) ≡ fields = first_many fields laid_values (omega (arith, all_counts)) in
      let size : length nodes - after ≡ sizes_of (first_values fields laid_values) =
      omega (arith, all_nodes, split_sizes fields laid_values, is) in
      let turned = reverse_pushed nodes (Data name fields (length nodes - after)) in
      let values = ap values_in turned in
      let kept : length behind - (length behind - fields) ≡ fields = omega arith in
      let counts : reverse (take (length behind - fields) behind) ≡ sizes_behind (later_values fields laid_values) =
      reverse_take behind (length behind - fields) (omega arith) ∙ ap (λ k. drop k (reverse behind)) kept ∙ ap (drop fields) are.counted
      ∙ later_behind fields laid_values in
      record {
        laid = turned ∙ (λ i. Data name fields (size i) ∷ are.laid i)
            ∙ ap (λ n. Data name n (sizes_of (first_values fields laid_values)) ∷ nodes_all laid_values) (sym many)
            ∙ ap (λ l. Data name (count_of (first_values fields laid_values)) (sizes_of (first_values fields laid_values)) ∷ l)
            (sym (split_nodes fields laid_values))
            ∙ ap nodes_all (sym values);
        counted = reverse_pushed (take (length behind - fields) behind) after ∙ (λ i. is i ∷ counts i) ∙ ap sizes_behind (sym values);
      }

  -- so many of them, or all, as data
  module _ (fields few kept all after : ℕ) (less : few ≡ min fields (length behind)) (others : kept ≡ length behind - few)
      (many : all ≡ length nodes)
      (behind_is : after ≡ get_or behind kept all) where
    few_within : few ≤ length behind
    few_within = omega (arith, less)

    pub after_is : after ≡ sizes_of (later_values few laid_values)
    after_is = behind_is ∙ (λ i. get_or behind (others i) (many i)) ∙ nodes_behind few few_within

    pub after_within : after ≤ all
    after_within = omega (arith, after_is, many, all_nodes, split_sizes few laid_values)

    pub put_laid : (name : List ℕ) (new : List Node) (counts : List ℕ) → new ≡ nodes ++ Data name few (all - after) ∷ []
        → counts ≡ take kept behind ++ after ∷ [] → AreLaid new counts
    put_laid name new counts is also =
        let is' = is ∙ ap (λ n. nodes ++ Data name few (n - after) ∷ []) many in
        let also' = also ∙ ap (λ n. take n behind ++ after ∷ []) others in
        subst (λ l. AreLaid l counts) (sym is')
        (subst (AreLaid (nodes ++ Data name few (length nodes - after) ∷ [])) (sym also') (data_laid name few after few_within after_is))

    pub put_values : (name : List ℕ) (new : List Node) → new ≡ nodes ++ Data name few (all - after) ∷ []
        → values_in (reverse new) ≡ more_trees (data_tree name (first_values fields laid_values)) (later_values fields laid_values)
    put_values name new is =
        let first : first_values few laid_values ≡ first_values fields laid_values =
        ap (λ k. first_values k laid_values) less ∙ first_min fields (length behind) laid_values all_counts in
        let later : later_values few laid_values ≡ later_values fields laid_values =
        ap (λ k. later_values k laid_values) less ∙ later_min fields (length behind) laid_values all_counts in
        ap (λ l. values_in (reverse l)) is ∙ ap values_in (reverse_pushed nodes (Data name few (all - after)))
        ∙ (λ i. more_trees (data_tree name (first i)) (later i))

  -- exactly one
  pub one_laid : length behind ≡ 1 → (v : ValueTree) × (laid_values ≡ more_trees v no_trees) × (reverse nodes ≡ nodes_of v)
  one_laid one = only_one (reverse nodes) laid_values (sym all_counts ∙ one) are.laid

-- items that are turned round in place
pub turned : {X : Type 0} (items new : List X) (n : ℕ) → new ≡ reverse items → n ≡ length items
    → take n (new ++ drop (length new) items) ≡ reverse items
turned items new n is many =
    let long : length new ≡ length items = ap length is ∙ length-reverse items in
    ap (λ l. take n (new ++ l)) (drop_all (length new) items (omega arith)) ∙ ap (take n) (append-nil new)
    ∙ take_all n new (omega arith) ∙ is
