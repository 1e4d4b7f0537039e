-- The steps in which the value of a number is printed.
use Rattle.std.proofs.Common.{◌≡◌, ◌++◌, ℕ, zero, suc, List, [], ◌∷◌, Some, slice_get}
use Rattle.std.proofs.Common.{length, map, reverse, unwrap_or, refl, sym, ◌∙◌, ap, subst, append_assoc}
use Rattle.std.proofs.lemmas.List.{reverse-append}
use Rattle.std.proofs.lemmas.Option.{none-some}
use Rattle.isle_types.specs.declared.ids.TypeId.{TypeId}
use Rattle.isle_types.specs.TypeTables.{TypeTables}
use Rattle.isle_types.specs.TypeEnvs.{type_at}
use Rattle.isle_rules.specs.Values.{ValueTree, ValueTrees, data_tree, no_trees, more_trees, value_list}
use Rattle.isle_meaning.specs.Values.{Value, Values, no_values, more_values}
use Rattle.isle_meaning.specs.ValueTypes.{ValueFacts, IsOfType, AreOfTypes}
use Rattle.isle_meaning.specs.GroundValues.{value_of, values_of}
use Rattle.isle_calls.specs.declared.store.Stored.{Stored}
use Rattle.isle_calls.specs.declared.store.printing.Step.{Step}
use Rattle.isle_calls.specs.declared.store.printing.Step.TheVariants.{Number, Data}
use Rattle.isle_values.specs.Values.Nodes.{count_of, joined, first_values, later_values, put, nodes_of, value_in}
use Rattle.isle_values.specs.declared.values.Node.{Node}
use Rattle.isle_values.specs.declared.values.Node.TheVariants.{Bool as BoolNode, Int as IntNode, Big as BigNode, Const as ConstNode}
use Rattle.isle_values.specs.declared.values.Node.TheVariants.{Opaque as OpaqueNode, Data as DataNode}
use Rattle.isle_program.specs.Programs.{number_of}
use Rattle.isle_calls.specs.Stores.Values.{Stands, StandEach}
use Rattle.isle_values.specs.Values.Laying.{IsLeaf}
use Rattle.isle_calls.specs.Inside.Stores.Printing.{printed, printed_all, Leads, field_steps}
use Rattle.isle_values.proofs.GroundValues.Laying.{first_joined, later_joined, value_laid}
use Rattle.isle_calls.proofs.Stores.Values.{stands_one}

-- a leaf is put before values as the value of its node
pub leaf_put : (node : Node) (v : ValueTree) (laid : ValueTrees) → IsLeaf node → nodes_of v ≡ node ∷ [] → put node laid ≡ more_trees v laid
leaf_put (BoolNode b) v laid leaf one = ap (λ w. more_trees w laid) (sym (ap value_in one) ∙ value_laid v)
leaf_put (IntNode n) v laid leaf one = ap (λ w. more_trees w laid) (sym (ap value_in one) ∙ value_laid v)
leaf_put (BigNode n) v laid leaf one = ap (λ w. more_trees w laid) (sym (ap value_in one) ∙ value_laid v)
leaf_put (ConstNode name) v laid leaf one = ap (λ w. more_trees w laid) (sym (ap value_in one) ∙ value_laid v)
leaf_put (OpaqueNode n) v laid leaf one = ap (λ w. more_trees w laid) (sym (ap value_in one) ∙ value_laid v)
leaf_put (DataNode name fields nodes) v laid leaf one = absurd leaf

module _ (facts : ValueFacts) (env : TypeTables) where
  -- as many trees as numbers
  many_printed : (stored : List Stored) (vs : Values) (fields types : List ℕ) → StandEach stored vs fields
      → count_of (printed_all facts env vs types) ≡ length fields
  many_printed stored no_values [] types each = refl
  many_printed stored no_values (n ∷ ns) types each = absurd each
  many_printed stored (more_values v vs) [] types each = absurd each
  many_printed stored (more_values v vs) (n ∷ ns) [] each = ap suc (many_printed stored vs ns [] each.1)
  many_printed stored (more_values v vs) (n ∷ ns) (ty ∷ types) each = ap suc (many_printed stored vs ns types each.1)

  -- the fields' steps, the last field's first, lay out the fields
  fields_lead : (stored : List Stored) (vs : Values) (fields types : List ℕ) (rest : List Step) (laid made : ValueTrees)
      → StandEach stored vs fields
      → Leads facts env stored rest (joined (printed_all facts env vs types) laid) made
      → Leads facts env stored (reverse (field_steps fields types) ++ rest) laid made
  fields_lead stored no_values [] types rest laid made each leads = leads
  fields_lead stored no_values (n ∷ ns) types rest laid made each leads = absurd each
  fields_lead stored (more_values v vs) [] types rest laid made each leads = absurd each
  fields_lead stored (more_values v vs) (n ∷ ns) [] rest laid made each leads =
      let steps = ap (λ l. l ++ rest) (reverse-append (Number n (type_at 0) ∷ []) (field_steps ns []))
      ∙ append_assoc (reverse (field_steps ns [])) (Number n (type_at 0) ∷ []) rest in
      subst (λ l. Leads facts env stored l laid made) (sym steps)
      (fields_lead stored vs ns [] (Number n (type_at 0) ∷ rest) laid made each.1 (v, each.0, leads))
  fields_lead stored (more_values v vs) (n ∷ ns) (ty ∷ types) rest laid made each leads =
      let steps = ap (λ l. l ++ rest) (reverse-append (Number n (type_at ty) ∷ []) (field_steps ns types))
      ∙ append_assoc (reverse (field_steps ns types)) (Number n (type_at ty) ∷ []) rest in
      subst (λ l. Leads facts env stored l laid made) (sym steps)
      (fields_lead stored vs ns types (Number n (type_at ty) ∷ rest) laid made each.1 (v, each.0, leads))

  -- the steps of data lead to what the data itself leads to
  pub data_leads : (stored : List Stored) (vs : Values) (fields types name : List ℕ) (old new : List Step) (laid made : ValueTrees)
      → StandEach stored vs fields → new ≡ old ++ Data name (length fields) ∷ field_steps fields types
      → Leads facts env stored (reverse old) (more_trees (data_tree name (printed_all facts env vs types)) laid) made
      → Leads facts env stored (reverse new) laid made
  data_leads stored vs fields types name old new laid made each is leads =
      let steps = field_steps fields types in
      let trees = printed_all facts env vs types in
      let data_step = Data name (length fields) in
      let many : count_of trees ≡ length fields = many_printed stored vs fields types each in
      let first = ap (λ k. first_values k (joined trees laid)) (sym many) ∙ first_joined trees laid in
      let later = ap (λ k. later_values k (joined trees laid)) (sym many) ∙ later_joined trees laid in
      let here : Leads facts env stored (data_step ∷ reverse old) (joined trees laid) made =
      subst (λ ws. Leads facts env stored (reverse old) ws made) (sym (λ i. more_trees (data_tree name (first i)) (later i))) leads in
      let turned : reverse new ≡ reverse steps ++ data_step ∷ reverse old =
      ap reverse is ∙ reverse-append old (data_step ∷ steps) ∙ ap (λ l. l ++ reverse old) (reverse-append (data_step ∷ []) steps)
      ∙ append_assoc (reverse steps) (data_step ∷ []) (reverse old) in
      subst (λ l. Leads facts env stored l laid made) (sym turned)
      (fields_lead stored vs fields types (data_step ∷ reverse old) laid made each here)

  -- a leaf that is laid out leads to what its step leads to
  pub leaf_leads : (stored : List Stored) (v w : Value) (n ty : ℕ) (steps : List Step) (laid new made : ValueTrees) → Stands stored v n
      → Stands stored w n → new ≡ more_trees (printed facts env w ty) laid
      → Leads facts env stored steps (more_trees (printed facts env v ty) laid) made → Leads facts env stored steps new made
  leaf_leads stored v w n ty steps laid new made is also put leads =
      let same : v ≡ w = stands_one stored v w n is also in
      subst (λ ws. Leads facts env stored steps ws made) (ap (λ x. more_trees (printed facts env x ty) laid) same ∙ sym put) leads

  -- the next value of values of types
  pub next_typed : (stored : List Stored) (trees : List ValueTree) (types : List TypeId) (numbers : List ℕ) (i n : ℕ)
      → AreOfTypes facts (value_list trees) (map number_of types) → StandEach stored (values_of facts (value_list trees)) numbers
      → slice_get numbers i ≡ Some n → (t : ValueTree) × (slice_get trees i ≡ Some t)
      × IsOfType facts t (unwrap_or (slice_get types i) (type_at 0)).0 × Stands stored (value_of facts t) n
  next_typed stored [] [] [] i n typed each at = absurd (none-some _ at)
  next_typed stored [] [] (m ∷ ns) i n typed each at = absurd each
  next_typed stored [] (ty ∷ types) ns i n typed each at = absurd typed
  next_typed stored (t ∷ trees) [] ns i n typed each at = absurd typed
  next_typed stored (t ∷ trees) (ty ∷ types) [] i n typed each at = absurd each
  next_typed stored (t ∷ trees) (ty ∷ types) (m ∷ ns) zero n typed each at =
      let same : m ≡ n = cc in (t, refl, typed.0, subst (Stands stored (value_of facts t)) same each.0)
  next_typed stored (t ∷ trees) (ty ∷ types) (m ∷ ns) (suc i) n typed each at = next_typed stored trees types ns i n typed.1 each.1 at

  -- as many numbers as values
  pub as_many : (stored : List Stored) (trees : List ValueTree) (numbers : List ℕ)
      → StandEach stored (values_of facts (value_list trees)) numbers
      → length trees ≡ length numbers
  as_many stored [] [] each = refl
  as_many stored [] (n ∷ ns) each = absurd each
  as_many stored (t ∷ trees) [] each = absurd each
  as_many stored (t ∷ trees) (n ∷ ns) each = ap suc (as_many stored trees ns each.1)

-- the trees as a list
pub trees_listed : (trees : ValueTrees) → (list : List ValueTree) × (value_list list ≡ trees)
trees_listed no_trees = ([], refl)
trees_listed (more_trees t ts) = let (list, is) = trees_listed ts in (t ∷ list, ap (more_trees t) is)

-- the step of a field
pub step_at : (fields : List ℕ) (types : List TypeId) (i n : ℕ) → slice_get fields i ≡ Some n
    → slice_get (field_steps fields (map number_of types)) i ≡ Some (Number n (unwrap_or (slice_get types i) (type_at 0)))
step_at [] types i n at = absurd (none-some _ at)
step_at (m ∷ ns) [] zero n at = let same : m ≡ n = cc in ap (λ k. Some (Number k (type_at 0))) same
step_at (m ∷ ns) [] (suc i) n at = step_at ns [] i n at
step_at (m ∷ ns) (ty ∷ types) zero n at = let same : m ≡ n = cc in ap (λ k. Some (Number k ty)) same
step_at (m ∷ ns) (ty ∷ types) (suc i) n at = step_at ns types i n at

-- as many steps as fields
pub many_steps : (fields types : List ℕ) → length (field_steps fields types) ≡ length fields
many_steps [] types = refl
many_steps (n ∷ ns) [] = ap suc (many_steps ns [])
many_steps (n ∷ ns) (ty ∷ types) = ap suc (many_steps ns types)
