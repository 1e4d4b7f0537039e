-- Values put into a store node by node.
use Rattle.std.proofs.Common.{◌≡◌, ◌+◌, ◌-◌, ◌<◌, ◌≤◌, ◌++◌, ℕ, zero, suc, List, [], ◌∷◌, Option, Some, None, slice_get, length, take}
use Rattle.std.proofs.Common.{drop, reverse, get_or, sym, ◌∙◌, ap, subst, arith}
use Rattle.std.proofs.lemmas.List.{append-nil, length-drop, drop_more, take_more, take_all, drop_all}
use Rattle.isle_rules.specs.Values.{ValueTree, ValueTrees, no_trees, more_trees, value_list}
use Rattle.isle_meaning.specs.Facts.{TermShape, variant_shape, struct_shape, declared_shape}
use Rattle.isle_meaning.specs.Values.{Values, no_values, more_values}
use Rattle.isle_meaning.specs.ValueTypes.{ValueFacts}
use Rattle.isle_meaning.specs.GroundValues.{value_of, values_of, data_of_shape, type_of_data}
use Rattle.isle_values.specs.declared.values.Node.{Node}
use Rattle.isle_values.specs.declared.values.Node.TheVariants.{Bool, Int, Big, Const, Opaque, Data}
use Rattle.isle_calls.specs.declared.store.Stored.{Stored}
use Rattle.isle_values.specs.Values.Nodes.{first_values, later_values, put, nodes_of, values_in}
use Rattle.isle_calls.specs.Stores.Values.{Stands, StandEach, Extends}
use Rattle.isle_calls.specs.Inside.Stores.Sharing.{stored_data, stored_node, numbers_left}
use Rattle.isle_values.proofs.GroundValues.Laying.{values_before}
use Rattle.isle_values.proofs.GroundValues.LaidValues.{reverse_pushed}
use Rattle.isle_calls.proofs.Stores.Values.{stand_longer}

module _ (facts : ValueFacts) (stored : List Stored) where
  -- the first of some numbers stand for the first values
  first_stand : (k : ℕ) (vs : ValueTrees) (ns : List ℕ) → StandEach stored (values_of facts vs) ns
      → StandEach stored (values_of facts (first_values k vs)) (take k ns)
  first_stand zero vs ns each = tt
  first_stand (suc k) no_trees [] each = tt
  first_stand (suc k) no_trees (n ∷ ns) each = absurd each
  first_stand (suc k) (more_trees v vs) [] each = absurd each
  first_stand (suc k) (more_trees v vs) (n ∷ ns) each = (each.0, first_stand k vs ns each.1)

  -- the later ones for the later values
  later_stand : (k : ℕ) (vs : ValueTrees) (ns : List ℕ) → StandEach stored (values_of facts vs) ns
      → StandEach stored (values_of facts (later_values k vs)) (drop k ns)
  later_stand zero vs ns each = each
  later_stand (suc k) no_trees [] each = tt
  later_stand (suc k) no_trees (n ∷ ns) each = absurd each
  later_stand (suc k) (more_trees v vs) [] each = absurd each
  later_stand (suc k) (more_trees v vs) (n ∷ ns) each = later_stand k vs ns each.1

  -- the number of data stands for it
  data_stands : (shape : Option TermShape) (ty n : ℕ) (vs : Values) (fields : List ℕ)
      → slice_get stored n ≡ Some (stored_data shape ty fields)
      → StandEach stored vs fields → Stands stored (data_of_shape shape ty vs) n
  data_stands None ty n vs fields is each = (fields, is, each)
  data_stands (Some (variant_shape k)) ty n vs fields is each = (fields, is, each)
  data_stands (Some struct_shape) ty n vs fields is each = (fields, is, each)
  data_stands (Some declared_shape) ty n vs fields is each = (fields, is, each)

  -- a node before the values that its fields are among
  node_stands : (node : Node) (vs : ValueTrees) (ns : List ℕ) (n : ℕ) → slice_get stored n ≡ Some (stored_node facts node ns)
      → StandEach stored (values_of facts vs) ns → StandEach stored (values_of facts (put node vs)) (n ∷ numbers_left node ns)
  node_stands (Bool b) vs ns n is each = (is, each)
  node_stands (Int i) vs ns n is each = (is, each)
  node_stands (Big i) vs ns n is each = (is, each)
  node_stands (Const name) vs ns n is each = (is, each)
  node_stands (Opaque o) vs ns n is each = (is, each)
  node_stands (Data name fields nodes) vs ns n is each = (
    data_stands (facts.shape_named name) (type_of_data (facts.data_named name)) n (values_of facts (first_values fields vs))
        (take fields ns) is
        (first_stand fields vs ns each),
    later_stand fields vs ns each,
  )

  -- one number more, at the end
  pub more_stand : (vs : List ValueTree) (ns : List ℕ) (v : ValueTree) (n : ℕ) → StandEach stored (values_of facts (value_list vs)) ns
      → Stands stored (value_of facts v) n → StandEach stored (values_of facts (value_list (vs ++ v ∷ []))) (ns ++ n ∷ [])
  more_stand [] [] v n each is = (is, tt)
  more_stand [] (m ∷ ns) v n each is = absurd each
  more_stand (w ∷ vs) [] v n each is = absurd each
  more_stand (w ∷ vs) (m ∷ ns) v n each is = (each.0, more_stand vs ns v n each.1 is)

-- a node that is put in
pub put_stands : (facts : ValueFacts) {old new : List Stored} → Extends old new
    → (node : Node) (stored : Stored) (done left now : List ℕ) (n : ℕ)
    → slice_get new n ≡ Some stored → stored ≡ stored_node facts node (reverse done) → reverse left ≡ numbers_left node (reverse done)
    → now ≡ left ++ n ∷ [] → (vs : ValueTrees) → StandEach old (values_of facts vs) (reverse done)
    → StandEach new (values_of facts (put node vs)) (reverse now)
put_stands facts {new = new} extends node stored done left now n at is rest pushed vs each =
    let here = node_stands facts new node vs (reverse done) n (at ∙ ap Some is)
    (stand_longer extends (values_of facts vs) (reverse done) each) in
    let numbers : reverse now ≡ n ∷ numbers_left node (reverse done) = ap reverse pushed ∙ reverse_pushed left n ∙ ap (λ l. n ∷ l) rest in
    subst (StandEach new (values_of facts (put node vs))) (sym numbers) here

-- the next node from the end
pub next_from_end : {X : Type 0} (xs : List X) (i : ℕ) (x : X) → i < length xs → x ≡ get_or xs (length xs - 1 - i) x
    → drop (length xs - (i + 1)) xs ≡ x ∷ drop (length xs - i) xs
next_from_end xs i x low is =
    let first : length xs - (i + 1) ≡ length xs - 1 - i = omega arith in
    let rest : length xs - 1 - i + 1 ≡ length xs - i = omega arith in
    ap (λ n. drop n xs) first ∙ drop_more xs (length xs - 1 - i) x (omega arith) ∙ ap (λ y. y ∷ drop (length xs - 1 - i + 1) xs) (sym is)
    ∙ ap (λ n. x ∷ drop n xs) rest

-- the numbers of a value's nodes: the last stands for the value
pub last_stands : (facts : ValueFacts) (stored : List Stored) (v : ValueTree) (nodes : List Node) (done : List ℕ) → nodes ≡ nodes_of v
    → StandEach stored (values_of facts (values_in nodes)) (reverse done)
    → StandEach stored (more_values (value_of facts v) no_values) (reverse done)
last_stands facts stored v nodes done is each =
    let all : values_in nodes ≡ more_trees v no_trees = ap values_in (is ∙ sym (append-nil (nodes_of v))) ∙ values_before v [] in
    subst (λ vs. StandEach stored (values_of facts vs) (reverse done)) all each

-- the next of some items, with those before it
pub next_taken : {X : Type 0} (xs : List X) (i : ℕ) (x : X) (rest : List X) → drop i xs ≡ x ∷ rest
    → (take (i + 1) xs ≡ take i xs ++ x ∷ []) × (drop (i + 1) xs ≡ rest)
next_taken xs i x rest e =
    let within : i < length xs = omega (arith, length-drop i xs, ap length e) in
    let more = drop_more xs i x within in
    let same : get_or xs i x ≡ x = cc in
    let after : drop (i + 1) xs ≡ rest = cc in
    (take_more xs i x within ∙ ap (λ y. take i xs ++ y ∷ []) same, after)

-- where nothing is left, more of the items are the same
pub nothing_taken : {X : Type 0} (xs : List X) (i n : ℕ) → i ≤ n → drop i xs ≡ [] → (take i xs ≡ take n xs) × (drop n xs ≡ [])
nothing_taken xs i n low e =
    let within : length xs ≤ i = omega (arith, length-drop i xs, ap length e) in
    (take_all i xs within ∙ sym (take_all n xs (omega arith)), drop_all n xs (omega arith))
