-- A value is settled at a type, and found to be of it, node by node.
use Rattle.std.proofs.Common.{◌≡◌, ◌<◌, ◌≤◌, ◌+◌, ◌++◌, ◌↔◌, ℕ, suc, List, [], ◌∷◌, Some, length, set, get_or, refl, sym, ◌∙◌, ap, subst, arith, append_assoc}
use Rattle.std.proofs.Math.Seq.{get_or-append_seam, set-append_seam}
use Rattle.std.proofs.lemmas.List.{append-nil, length-append}
use Rattle.isle_rules.specs.Values.{ValueTree, ValueTrees, bool_tree, int_tree, big_tree, const_tree, opaque_tree, data_tree, no_trees, more_trees}
use Rattle.isle_meaning.specs.ValueTypes.{TypeKind, ValueFacts, IsOfType, AreOfTypes, truth_kind, integer_kind, primitive_kind, data_kind, no_kind}
use Rattle.isle_values.specs.declared.values.Node.{Node}
use Rattle.isle_values.specs.declared.values.Node.TheVariants.{Data}
use Rattle.isle_values.specs.Values.Nodes.{count_of, size_of, sizes_of, joined, nodes_of, nodes_all}
use Rattle.isle_values.specs.Values.Settled.{settled_number, settled, settled_all, field_types}
use Rattle.isle_values.specs.Values.TypedNodes.{NodeFits}
use Rattle.isle_values.specs.Inside.Values.SettledNodes.{number_node, settled_node, field_count, types_below, FitsWithFields}
use Rattle.isle_values.proofs.GroundValues.Printing.{sized, some_size}
use Rattle.isle_values.proofs.GroundValues.TypedNodes.{root_of}

-- the fields of a value
abbrev fields_in : ValueTree → ValueTrees
fields_in (bool_tree b) = no_trees
fields_in (int_tree n) = no_trees
fields_in (big_tree n) = no_trees
fields_in (const_tree name) = no_trees
fields_in (opaque_tree n) = no_trees
fields_in (data_tree name vs) = vs

number_root : (n : ℕ) (kind : TypeKind) → root_of (settled_number n kind) ≡ number_node n kind
number_root n truth_kind = refl
number_root n (integer_kind int) = refl
number_root n primitive_kind = refl
number_root n data_kind = refl
number_root n no_kind = refl

number_fields : (n : ℕ) (kind : TypeKind) → fields_in (settled_number n kind) ≡ no_trees
number_fields n truth_kind = refl
number_fields n (integer_kind int) = refl
number_fields n primitive_kind = refl
number_fields n data_kind = refl
number_fields n no_kind = refl

number_size : (n : ℕ) (kind : TypeKind) → size_of (settled_number n kind) ≡ 1
number_size n truth_kind = refl
number_size n (integer_kind int) = refl
number_size n primitive_kind = refl
number_size n data_kind = refl
number_size n no_kind = refl

-- the nodes of a value are its own and those of its fields
nodes_rooted : (v : ValueTree) → nodes_of v ≡ root_of v ∷ nodes_all (fields_in v)
nodes_rooted (bool_tree b) = refl
nodes_rooted (int_tree n) = refl
nodes_rooted (big_tree n) = refl
nodes_rooted (const_tree name) = refl
nodes_rooted (opaque_tree n) = refl
nodes_rooted (data_tree name vs) = refl

fields_counted : (v : ValueTree) → field_count (root_of v) ≡ count_of (fields_in v)
fields_counted (bool_tree b) = refl
fields_counted (int_tree n) = refl
fields_counted (big_tree n) = refl
fields_counted (const_tree name) = refl
fields_counted (opaque_tree n) = refl
fields_counted (data_tree name vs) = refl

pub joined_nodes : (vs ws : ValueTrees) → nodes_all (joined vs ws) ≡ nodes_all vs ++ nodes_all ws
joined_nodes no_trees ws = refl
joined_nodes (more_trees v vs) ws =
    ap (λ l. nodes_of v ++ l) (joined_nodes vs ws) ∙ sym (append_assoc (nodes_of v) (nodes_all vs) (nodes_all ws))

joined_count : (vs ws : ValueTrees) → count_of (joined vs ws) ≡ count_of vs + count_of ws
joined_count no_trees ws = omega arith
joined_count (more_trees v vs) ws = let rest = joined_count vs ws in omega (arith, rest)

module _ (facts : ValueFacts) where
  -- what is settled has as many values and nodes as before
  pub settled_count : (vs : ValueTrees) (types : List ℕ) → count_of (settled_all facts vs types) ≡ count_of vs
  settled_count no_trees types = refl
  settled_count (more_trees v vs) [] = refl
  settled_count (more_trees v vs) (ty ∷ types) = ap suc (settled_count vs types)

  mutual
    settled_size : (v : ValueTree) (ty : ℕ) → size_of (settled facts v ty) ≡ size_of v
    settled_size (bool_tree b) ty = refl
    settled_size (int_tree n) ty = refl
    settled_size (big_tree n) ty = number_size n (facts.kind ty)
    settled_size (const_tree name) ty = refl
    settled_size (opaque_tree n) ty = refl
    settled_size (data_tree name vs) ty = ap suc (settled_sizes vs (field_types (facts.data_named name)))

    settled_sizes : (vs : ValueTrees) (types : List ℕ) → sizes_of (settled_all facts vs types) ≡ sizes_of vs
    settled_sizes no_trees types = refl
    settled_sizes (more_trees v vs) [] = refl
    settled_sizes (more_trees v vs) (ty ∷ types) = let first = settled_size v ty in let rest = settled_sizes vs types in λ i. first i + rest i

  settled_root : (v : ValueTree) (ty : ℕ) → root_of (settled facts v ty) ≡ settled_node (root_of v) (facts.kind ty)
  settled_root (bool_tree b) ty = refl
  settled_root (int_tree n) ty = refl
  settled_root (big_tree n) ty = number_root n (facts.kind ty)
  settled_root (const_tree name) ty = refl
  settled_root (opaque_tree n) ty = refl
  settled_root (data_tree name vs) ty =
      let types = field_types (facts.data_named name) in
      let count = settled_count vs types in let size = settled_sizes vs types in λ i. Data name (count i) (size i)

  -- the fields are settled at their types
  settled_fields : (v : ValueTree) (ty : ℕ) → fields_in (settled facts v ty) ≡ settled_all facts (fields_in v)
      (types_below facts (settled_node (root_of v) (facts.kind ty)))
  settled_fields (bool_tree b) ty = refl
  settled_fields (int_tree n) ty = refl
  settled_fields (big_tree n) ty = number_fields n (facts.kind ty)
  settled_fields (const_tree name) ty = refl
  settled_fields (opaque_tree n) ty = refl
  settled_fields (data_tree name vs) ty = refl

  settled_field_count : (v : ValueTree) (ty : ℕ) → field_count (settled_node (root_of v) (facts.kind ty)) ≡ count_of (fields_in v)
  settled_field_count v ty =
      ap field_count (sym (settled_root v ty)) ∙ fields_counted (settled facts v ty) ∙ ap count_of (settled_fields v ty)
      ∙ settled_count (fields_in v) (types_below facts (settled_node (root_of v) (facts.kind ty)))

  settled_joined : (fs vs : ValueTrees) (types others : List ℕ) → count_of fs ≡ length types
      → settled_all facts (joined fs vs) (types ++ others) ≡ joined (settled_all facts fs types) (settled_all facts vs others)
  settled_joined no_trees vs [] others same = refl
  settled_joined no_trees vs (ty ∷ types) others same = absurd (omega (arith, same))
  settled_joined (more_trees f fs) vs [] others same = absurd (omega (arith, same))
  settled_joined (more_trees f fs) vs (ty ∷ types) others same =
      ap (more_trees (settled facts f ty)) (settled_joined fs vs types others (omega (arith, same)))

  joined_typed : (fs vs : ValueTrees) (types others : List ℕ) → count_of fs ≡ length types
      → AreOfTypes facts (joined fs vs) (types ++ others) ↔ (AreOfTypes facts fs types × AreOfTypes facts vs others)
  joined_typed no_trees vs [] others same = (λ h. (tt, h), λ h. h.1)
  joined_typed no_trees vs (ty ∷ types) others same = absurd (omega (arith, same))
  joined_typed (more_trees f fs) vs [] others same = absurd (omega (arith, same))
  joined_typed (more_trees f fs) vs (ty ∷ types) others same =
      let rest = joined_typed fs vs types others (omega (arith, same)) in (
        λ h. let (these, those) = rest.0 h.1 in ((h.0, these), those),
        λ h. (h.0.0, rest.1 (h.0.1, h.1)),
      )

  made_types : (name : List ℕ) (ty : ℕ) (types : List ℕ) → facts.data_named name ≡ Some (ty, types) → field_types (facts.data_named name) ≡ types
  made_types name ty types is = ap field_types is

  -- a value is of a type where its node fits and its fields are of their types
  typed_root : (w : ValueTree) (ty : ℕ) → NodeFits facts (root_of w) ty → AreOfTypes facts (fields_in w) (types_below facts (root_of w))
      → IsOfType facts w ty
  typed_root (bool_tree b) ty fits of = fits
  typed_root (int_tree n) ty fits of = fits
  typed_root (big_tree n) ty fits of = fits
  typed_root (const_tree name) ty fits of = fits
  typed_root (opaque_tree n) ty fits of = fits
  typed_root (data_tree name vs) ty (types, is) of = (types, is, subst (AreOfTypes facts vs) (made_types name ty types is) of)

  many_typed : (vs : ValueTrees) (types : List ℕ) → AreOfTypes facts vs types → length types ≡ count_of vs
  many_typed no_trees [] of = refl
  many_typed no_trees (ty ∷ types) of = absurd of
  many_typed (more_trees v vs) [] of = absurd of
  many_typed (more_trees v vs) (ty ∷ types) of = ap suc (many_typed vs types of.1)

  root_typed : (w : ValueTree) (ty : ℕ) → IsOfType facts w ty → NodeFits facts (root_of w) ty
      × AreOfTypes facts (fields_in w) (types_below facts (root_of w))
  root_typed (bool_tree b) ty is = (is, tt)
  root_typed (int_tree n) ty is = (is, tt)
  root_typed (big_tree n) ty is = (is, tt)
  root_typed (const_tree name) ty is = (is, tt)
  root_typed (opaque_tree n) ty is = (is, tt)
  root_typed (data_tree name vs) ty (types, is, of) = ((types, is), subst (AreOfTypes facts vs) (sym (made_types name ty types is)) of)

  module _ (v : ValueTree) (ty : ℕ) where
    abbrev Node_there : Node
    Node_there = settled_node (root_of v) (facts.kind ty)

    abbrev Types_there : List ℕ
    Types_there = types_below facts Node_there

    -- a value that is settled is of a type exactly where its node fits and its fields, settled, are of their types
    settled_typed : NodeFits facts Node_there ty → IsOfType facts (settled facts v ty) ty ↔ AreOfTypes facts
        (settled_all facts (fields_in v) Types_there) Types_there
    settled_typed fits =
        let root = settled_root v ty in let fields = settled_fields v ty in (
          λ is. subst (λ n. AreOfTypes facts (settled_all facts (fields_in v) Types_there) (types_below facts n)) root
              (subst (λ vs. AreOfTypes facts vs (types_below facts (root_of (settled facts v ty)))) fields (root_typed (settled facts v ty) ty is).1),
          λ of. typed_root (settled facts v ty) ty (subst (λ n. NodeFits facts n ty) (sym root) fits)
              (subst (λ vs. AreOfTypes facts vs (types_below facts (root_of (settled facts v ty)))) (sym fields)
              (subst (λ n. AreOfTypes facts (settled_all facts (fields_in v) Types_there) (types_below facts n)) (sym root) of)),
        )

    settled_fits : IsOfType facts (settled facts v ty) ty → FitsWithFields facts Node_there ty
    settled_fits is =
        let root = settled_root v ty in
        let (fits, of) = root_typed (settled facts v ty) ty is in
        let there : NodeFits facts Node_there ty = subst (λ n. NodeFits facts n ty) root fits in (
          there,
          many_typed (settled_all facts (fields_in v) Types_there) Types_there ((settled_typed there).0 is)
              ∙ settled_count (fields_in v) Types_there ∙ sym (settled_field_count v ty),
        )

    settled_nodes : nodes_of (settled facts v ty) ≡ Node_there ∷ nodes_all (settled_all facts (fields_in v) Types_there)
    settled_nodes =
        let root = settled_root v ty in let fields = settled_fields v ty in
        nodes_rooted (settled facts v ty) ∙ (λ i. root i ∷ nodes_all (fields i))

  -- Nodes before a place are those of the whole, and those from it on are those of values that are left. Settled at the types that
  -- are expected, these complete it, and the whole is of its type exactly where they are of theirs.
  pub record IsSettling (whole : ValueTree) (ty : ℕ) (nodes : List Node) (at : ℕ) (types : List ℕ) : Type 0 where
    pub left : ValueTrees
    pub done : List Node
    pub laid : nodes ≡ done ++ nodes_all left
    pub place : length done ≡ at
    pub completes : nodes_of whole ≡ done ++ nodes_all (settled_all facts left types)
    pub typed : IsOfType facts whole ty ↔ AreOfTypes facts (settled_all facts left types) types
    pub as_many : count_of left ≡ length types

  pub begun : (v : ValueTree) (ty : ℕ) (nodes : List Node) → nodes ≡ nodes_of v → IsSettling (settled facts v ty) ty nodes 0 (ty ∷ [])
  begun v ty nodes is = record {
    left = more_trees v no_trees;
    done = [];
    laid = is ∙ sym (append-nil (nodes_of v));
    place = refl;
    completes = sym (append-nil (nodes_of (settled facts v ty)));
    typed = (λ h. (h, tt), λ h. h.0);
    as_many = refl;
  }

  -- at the end the whole is settled
  ended_by : (whole : ValueTree) (ty : ℕ) (nodes done : List Node) (left : ValueTrees) (types : List ℕ) → nodes ≡ done ++ nodes_all left
      → nodes_of whole ≡ done ++ nodes_all (settled_all facts left types) → IsOfType facts whole ty ↔ AreOfTypes facts
      (settled_all facts left types) types
      → count_of left ≡ length types → length (nodes_all left) ≡ 0 → (nodes ≡ nodes_of whole) × IsOfType facts whole ty
  ended_by whole ty nodes done no_trees [] laid completes typed many none = (laid ∙ sym completes, typed.1 tt)
  ended_by whole ty nodes done no_trees (next ∷ types) laid completes typed many none = absurd (omega (arith, many))
  ended_by whole ty nodes done (more_trees v vs) types laid completes typed many none =
      absurd (let some = some_size v in let size = sized v in let both = length-append (nodes_of v) (nodes_all vs) in
      omega (arith, some, size, both, none))

  pub ended : (whole : ValueTree) (ty : ℕ) (nodes : List Node) (at : ℕ) (types : List ℕ) → IsSettling whole ty nodes at types → length nodes ≤ at
      → (nodes ≡ nodes_of whole) × IsOfType facts whole ty
  ended whole ty nodes at types s end = ended_by whole ty nodes s.done s.left types s.laid s.completes s.typed s.as_many
      (let all = ap length s.laid in let both = length-append s.done (nodes_all s.left) in let place = s.place in
      omega (arith, all, both, place, end))

  -- where nodes are left a type is expected
  unexpected_by : (nodes done : List Node) (left : ValueTrees) → nodes ≡ done ++ nodes_all left → count_of left ≡ 0 → length nodes ≡ length done
  unexpected_by nodes done no_trees laid none = ap length (laid ∙ append-nil done)
  unexpected_by nodes done (more_trees v vs) laid none = absurd (omega (arith, none))

  pub unexpected : (whole : ValueTree) (ty : ℕ) (nodes : List Node) (at : ℕ) → IsSettling whole ty nodes at [] → at < length nodes → ⊥
  unexpected whole ty nodes at s within =
      let all = unexpected_by nodes s.done s.left s.laid s.as_many in let place = s.place in omega (arith, all, place, within)

  -- the node at a place is the first of the values that are left
  node_there : (nodes done : List Node) (at : ℕ) (node : Node) (v : ValueTree) (vs : ValueTrees) → nodes ≡ done ++ nodes_all (more_trees v vs)
      → length done ≡ at
      → node ≡ get_or nodes at node → node ≡ root_of v
  node_there nodes done at node v vs laid place is =
      let here : nodes ≡ done ++ root_of v ∷ (nodes_all (fields_in v) ++ nodes_all vs) = laid ∙ ap (λ l. done ++ (l ++ nodes_all vs))
      (nodes_rooted v) in
      is ∙ ap (λ l. get_or l at node) here ∙ ap (λ n. get_or (done ++ root_of v ∷ (nodes_all (fields_in v) ++ nodes_all vs)) n node) (sym place)
      ∙ get_or-append_seam done (root_of v) (nodes_all (fields_in v) ++ nodes_all vs) node

  refused_by : (whole : ValueTree) (ty : ℕ) (nodes done : List Node) (at : ℕ) (left : ValueTrees) (next : ℕ) (types : List ℕ) (node : Node)
      → nodes ≡ done ++ nodes_all left → length done ≡ at
      → IsOfType facts whole ty ↔ AreOfTypes facts (settled_all facts left (next ∷ types)) (next ∷ types) → node ≡ get_or nodes at node
      → (FitsWithFields facts (settled_node node (facts.kind next)) next → ⊥) → IsOfType facts whole ty → ⊥
  refused_by whole ty nodes done at no_trees next types node laid place typed is never of = typed.0 of
  refused_by whole ty nodes done at (more_trees v vs) next types node laid place typed is never of =
      never (subst (λ n. FitsWithFields facts (settled_node n (facts.kind next)) next) (sym (node_there nodes done at node v vs laid place is))
      (settled_fits v next (typed.0 of).0))

  -- a node that doesn't fit refutes the whole
  pub refused : (whole : ValueTree) (ty : ℕ) (nodes : List Node) (at next : ℕ) (types : List ℕ) (node : Node)
      → IsSettling whole ty nodes at (next ∷ types)
      → node ≡ get_or nodes at node → (FitsWithFields facts (settled_node node (facts.kind next)) next → ⊥) → IsOfType facts whole ty → ⊥
  refused whole ty nodes at next types node s is never of = refused_by whole ty nodes s.done at s.left next
      types node s.laid s.place s.typed is never of

  module _ (whole : ValueTree) (ty : ℕ) (nodes done : List Node) (at next : ℕ) (types : List ℕ) (v : ValueTree) (vs : ValueTrees) where
    abbrev There : Node
    There = settled_node (root_of v) (facts.kind next)

    abbrev Below : List ℕ
    Below = types_below facts There

    stepped_at : nodes ≡ done ++ nodes_all (more_trees v vs) → length done ≡ at
        → nodes_of whole ≡ done ++ nodes_all (settled_all facts (more_trees v vs) (next ∷ types))
        → IsOfType facts whole ty ↔ AreOfTypes facts (settled_all facts (more_trees v vs) (next ∷ types)) (next ∷ types)
        → count_of (more_trees v vs) ≡ length (next ∷ types) → FitsWithFields facts There next
        → IsSettling whole ty (set nodes at There) (at + 1) (Below ++ types)
    stepped_at laid place completes typed many fits =
        let fs = fields_in v in
        let count : count_of fs ≡ length Below = sym (settled_field_count v next) ∙ sym fits.1 in
        let joins = settled_joined fs vs Below types count in
        let split = joined_typed (settled_all facts fs Below) (settled_all facts vs types) Below types (settled_count fs Below ∙ count) in
        let by = settled_typed v next fits.0 in
        record {
          left = joined fs vs;
          done = done ++ There ∷ [];
          laid = ap (λ l. set l at There) (laid ∙ ap (λ l. done ++ (l ++ nodes_all vs)) (nodes_rooted v))
              ∙ ap (λ n. set (done ++ root_of v ∷ (nodes_all fs ++ nodes_all vs)) n There) (sym place)
              ∙ set-append_seam done (root_of v) (nodes_all fs ++ nodes_all vs) There
              ∙ sym (append_assoc done (There ∷ []) (nodes_all fs ++ nodes_all vs))
              ∙ ap (λ l. (done ++ There ∷ []) ++ l) (sym (joined_nodes fs vs));
          place = length-append done (There ∷ []) ∙ ap (λ n. n + 1) place;
          completes = completes ∙ ap (λ l. done ++ (l ++ nodes_all (settled_all facts vs types))) (settled_nodes v next)
              ∙ sym (append_assoc done (There ∷ []) (nodes_all (settled_all facts fs Below) ++ nodes_all (settled_all facts vs types)))
              ∙ ap (λ l. (done ++ There ∷ []) ++ l) (sym (joined_nodes (settled_all facts fs Below) (settled_all facts vs types)))
              ∙ ap (λ l. (done ++ There ∷ []) ++ nodes_all l) (sym joins);
          typed = (
            λ of. let h = typed.0 of in subst (λ l. AreOfTypes facts l (Below ++ types)) (sym joins) (split.1 (by.0 h.0, h.1)),
            λ h. let both = split.0 (subst (λ l. AreOfTypes facts l (Below ++ types)) joins h) in typed.1 (by.1 both.0, both.1),
          );
          as_many = joined_count fs vs ∙ (let rest : count_of vs ≡ length types = omega (arith, many) in
              let all = length-append Below types in omega (arith, count, rest, all));
        }

  stepped_by : (whole : ValueTree) (ty : ℕ) (nodes done : List Node) (at next : ℕ) (types : List ℕ) (left : ValueTrees) (node : Node)
      → nodes ≡ done ++ nodes_all left → length done ≡ at → nodes_of whole ≡ done ++ nodes_all (settled_all facts left (next ∷ types))
      → IsOfType facts whole ty ↔ AreOfTypes facts (settled_all facts left (next ∷ types)) (next ∷ types) → count_of left ≡ length (next ∷ types)
      → node ≡ get_or nodes at node → FitsWithFields facts (settled_node node (facts.kind next)) next
      → IsSettling whole ty (set nodes at (settled_node node (facts.kind next))) (at + 1)
      (types_below facts (settled_node node (facts.kind next)) ++ types)
  stepped_by whole ty nodes done at next types no_trees node laid place completes typed many is fits = absurd (omega (arith, many))
  stepped_by whole ty nodes done at next types (more_trees v vs) node laid place completes typed many is fits =
      let root = node_there nodes done at node v vs laid place is in
      subst (λ n. IsSettling whole ty (set nodes at (settled_node n (facts.kind next))) (at + 1)
      (types_below facts (settled_node n (facts.kind next)) ++ types)) (sym root)
      (stepped_at whole ty nodes done at next types v vs laid place completes typed many
      (subst (λ n. FitsWithFields facts (settled_node n (facts.kind next)) next) root fits))

  -- a node that fits is settled, and its fields are expected next
  pub stepped : (whole : ValueTree) (ty : ℕ) (nodes : List Node) (at next : ℕ) (types : List ℕ) (node : Node)
      → IsSettling whole ty nodes at (next ∷ types)
      → node ≡ get_or nodes at node → FitsWithFields facts (settled_node node (facts.kind next)) next
      → IsSettling whole ty (set nodes at (settled_node node (facts.kind next))) (at + 1)
      (types_below facts (settled_node node (facts.kind next)) ++ types)
  stepped whole ty nodes at next types node s is fits =
      stepped_by whole ty nodes s.done at next types s.left node s.laid s.place s.completes s.typed s.as_many is fits
