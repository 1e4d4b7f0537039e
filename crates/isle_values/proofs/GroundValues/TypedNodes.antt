-- A value is of a type where each of its nodes fits.
use Rattle.std.proofs.Common.{◌≡◌, ◌<◌, ◌≤◌, ◌+◌, ◌++◌, ◌↔◌, ◌⊎◌, inl, inr, ℕ, zero, suc, List, [], ◌∷◌, Some, None, length, map, drop, get_or, slice_get, refl, sym, ◌∙◌, ap, subst, arith, append_assoc}
use Rattle.std.proofs.lemmas.Bool.{cases_lt}
use Rattle.std.proofs.lemmas.List.{append-nil}
use Rattle.std.proofs.lemmas.Option.{same_Some, slice_get_within}
use Rattle.isle_rules.specs.Values.{ValueTree, ValueTrees, bool_tree, int_tree, big_tree, const_tree, opaque_tree, data_tree, no_trees, more_trees}
use Rattle.isle_meaning.specs.ValueTypes.{ValueFacts, IsOfType, AreOfTypes}
use Rattle.isle_values.specs.declared.values.Node.{Node}
use Rattle.isle_values.specs.declared.values.Node.TheVariants.{Bool, Int, Big, Const, Opaque, Data}
use Rattle.isle_values.specs.Values.Nodes.{count_of, size_of, sizes_of, nodes_of, nodes_all, nodes_below}
use Rattle.isle_values.specs.Values.TypedNodes.{NodeFits, NodesFit, FieldsFit, AllFieldsFit}
use Rattle.isle_types.specs.declared.ids.TypeId.{TypeId}
use Rattle.isle_program.specs.Programs.{number_of}
use Rattle.isle_values.proofs.GroundValues.Printing.{sized}

-- the first node of a value
abbrev pub root_of : ValueTree → Node
root_of (bool_tree b) = Bool b
root_of (int_tree n) = Int n
root_of (big_tree n) = Big n
root_of (const_tree name) = Const name
root_of (opaque_tree n) = Opaque n
root_of (data_tree name fs) = Data name (count_of fs) (sizes_of fs)

-- the nodes behind it
abbrev pub behind : ValueTree → List Node
behind (bool_tree b) = []
behind (int_tree n) = []
behind (big_tree n) = []
behind (const_tree name) = []
behind (opaque_tree n) = []
behind (data_tree name fs) = nodes_all fs

pub rooted : (v : ValueTree) → nodes_of v ≡ root_of v ∷ behind v
rooted (bool_tree b) = refl
rooted (int_tree n) = refl
rooted (big_tree n) = refl
rooted (const_tree name) = refl
rooted (opaque_tree n) = refl
rooted (data_tree name fs) = refl

below_root : (v : ValueTree) → suc (nodes_below (root_of v)) ≡ size_of v
below_root (bool_tree b) = refl
below_root (int_tree n) = refl
below_root (big_tree n) = refl
below_root (const_tree name) = refl
below_root (opaque_tree n) = refl
below_root (data_tree name fs) = refl

module _ (facts : ValueFacts) where
  -- the first nodes of values fit these types, one each
  abbrev RootsFit : ValueTrees → List ℕ → Type 0
  RootsFit no_trees [] = Unit {0}
  RootsFit no_trees (ty ∷ types) = ⊥
  RootsFit (more_trees v vs) [] = ⊥
  RootsFit (more_trees v vs) (ty ∷ types) = NodeFits facts (root_of v) ty × RootsFit vs types

  -- the fields of all data in a value fit
  abbrev mutual
    IsSound : ValueTree → Type 0
    IsSound (bool_tree b) = Unit {0}
    IsSound (int_tree n) = Unit {0}
    IsSound (big_tree n) = Unit {0}
    IsSound (const_tree name) = Unit {0}
    IsSound (opaque_tree n) = Unit {0}
    IsSound (data_tree name fs) = ((ty : ℕ) × (types : List ℕ) × (facts.data_named name ≡ Some (ty, types)) × RootsFit fs types) × AreSound fs

    AreSound : ValueTrees → Type 0
    AreSound no_trees = Unit {0}
    AreSound (more_trees v vs) = IsSound v × AreSound vs

  one_type : {name : List ℕ} {a b : ℕ} {these those : List ℕ} → facts.data_named name ≡ Some (a, these)
      → facts.data_named name ≡ Some (b, those) → (a ≡ b) × (these ≡ those)
  one_type {a = a} {b = b} {these = these} {those = those} e f =
      let same = same_Some (a, these) (b, those) (sym e ∙ f) in (ap (λ (p : ℕ × List ℕ). p.0) same, ap (λ (p : ℕ × List ℕ). p.1) same)

  mutual
    of_type : (v : ValueTree) (ty : ℕ) → NodeFits facts (root_of v) ty → IsSound v → IsOfType facts v ty
    of_type (bool_tree b) ty fits sound = fits
    of_type (int_tree n) ty fits sound = fits
    of_type (big_tree n) ty fits sound = fits
    of_type (const_tree name) ty fits sound = fits
    of_type (opaque_tree n) ty fits sound = fits
    of_type (data_tree name fs) ty (types, is) ((other, others, also, roots), sound) =
        (types, is, of_types fs types (subst (RootsFit fs) (one_type also is).1 roots) sound)

    of_types : (vs : ValueTrees) (types : List ℕ) → RootsFit vs types → AreSound vs → AreOfTypes facts vs types
    of_types no_trees [] roots sound = tt
    of_types no_trees (ty ∷ types) roots sound = roots
    of_types (more_trees v vs) [] roots sound = roots
    of_types (more_trees v vs) (ty ∷ types) roots sound = (of_type v ty roots.0 sound.0, of_types vs types roots.1 sound.1)

  mutual
    fitting : (v : ValueTree) (ty : ℕ) → IsOfType facts v ty → NodeFits facts (root_of v) ty × IsSound v
    fitting (bool_tree b) ty is = (is, tt)
    fitting (int_tree n) ty is = (is, tt)
    fitting (big_tree n) ty is = (is, tt)
    fitting (const_tree name) ty is = (is, tt)
    fitting (opaque_tree n) ty is = (is, tt)
    fitting (data_tree name fs) ty (types, is, of) = let (roots, sound) = all_fitting fs types of in ((types, is), ((ty, types, is, roots), sound))

    all_fitting : (vs : ValueTrees) (types : List ℕ) → AreOfTypes facts vs types → RootsFit vs types × AreSound vs
    all_fitting no_trees [] of = (tt, tt)
    all_fitting no_trees (ty ∷ types) of = absurd of
    all_fitting (more_trees v vs) [] of = absurd of
    all_fitting (more_trees v vs) (ty ∷ types) of =
        let (fits, sound) = fitting v ty of.0 in let (roots, others) = all_fitting vs types of.1 in ((fits, roots), (sound, others))

  -- behind the end no node fits, wherever that is
  pub same_fit : (nodes : List Node) (a b : ℕ) (types : List ℕ) → (a ≡ b) ⊎ ((length nodes ≤ a) × (length nodes ≤ b))
      → NodesFit facts nodes a types → NodesFit facts nodes b types
  same_fit nodes a b types (inl same) fit = subst (λ k. NodesFit facts nodes k types) same fit
  same_fit nodes a b [] (inr past) fit = tt
  same_fit nodes a b (ty ∷ types) (inr (past, also)) (node, is, fits, rest) =
      absurd (let within = slice_get_within nodes a node is in omega (arith, past, within))

  -- the fields of data fit exactly where they are as many as its types and fit these
  pub fields_by : (nodes : List Node) (after : ℕ) (name : List ℕ) (fields below ty : ℕ) (types : List ℕ) → facts.data_named name ≡ Some (ty, types)
      → ((length types ≡ fields) × NodesFit facts nodes after types) ↔ FieldsFit facts nodes after (Data name fields below)
  fields_by nodes after name fields below ty types is = (
    λ (count, fit). (ty, types, is, count, fit),
    λ (other, others, also, count, fit).
        let same = (one_type also is).1 in (ap length (sym same) ∙ count, subst (NodesFit facts nodes after) same fit),
  )

  pub fields_of_none : (nodes : List Node) (after : ℕ) (name : List ℕ) (fields below : ℕ) → facts.data_named name ≡ None
      → FieldsFit facts nodes after (Data name fields below) → ⊥
  fields_of_none nodes after name fields below none (ty, types, is, count, fit) = let both : None ≡ Some (ty, types) = sym none ∙ is in absurd cc

  -- the node at a place
  at_place : (nodes : List Node) (at : ℕ) (node : Node) (rest : List Node) → drop at nodes ≡ node ∷ rest → slice_get nodes at ≡ Some node
  at_place [] zero node rest e = absurd cc
  at_place [] (suc at) node rest e = absurd cc
  at_place (n ∷ nodes) zero node rest e = let same : n ≡ node = cc in ap Some same
  at_place (n ∷ nodes) (suc at) node rest e = at_place nodes at node rest e

  -- what stands behind so many nodes
  further : (nodes front : List Node) (at : ℕ) (rest : List Node) → drop at nodes ≡ front ++ rest → drop (at + length front) nodes ≡ rest
  further nodes [] at rest e = ap (λ n. drop n nodes) (let s : at + 0 ≡ at = omega arith in s) ∙ e
  further [] (f ∷ front) zero rest e = absurd cc
  further [] (f ∷ front) (suc at) rest e = absurd cc
  further (n ∷ nodes) (f ∷ front) zero rest e =
      ap (λ k. drop k (n ∷ nodes)) (let s : 0 + length (f ∷ front) ≡ suc (0 + length front) = omega arith in s)
      ∙ further nodes front 0 rest (let same : nodes ≡ front ++ rest = cc in same)
  further (n ∷ nodes) (f ∷ front) (suc at) rest e =
      ap (λ k. drop k (n ∷ nodes)) (let s : suc at + length (f ∷ front) ≡ suc (at + length (f ∷ front)) = omega arith in s)
      ∙ further nodes (f ∷ front) at rest e

  module _ (nodes : List Node) where
    -- the nodes of the fields fit exactly where the fields' first nodes do
    roots_fit : (vs : ValueTrees) (at : ℕ) (rest : List Node) (types : List ℕ) → drop at nodes ≡ nodes_all vs ++ rest → length types ≡ count_of vs
        → NodesFit facts nodes at types → RootsFit vs types
    roots_fit no_trees at rest [] e same fit = tt
    roots_fit no_trees at rest (ty ∷ types) e same fit = absurd (omega (arith, same))
    roots_fit (more_trees v vs) at rest [] e same fit = absurd (omega (arith, same))
    roots_fit (more_trees v vs) at rest (ty ∷ types) e same (node, is, fits, others) =
        let here : drop at nodes ≡ root_of v ∷ (behind v ++ (nodes_all vs ++ rest)) =
        e ∙ append_assoc (nodes_of v) (nodes_all vs) rest ∙ ap (λ l. l ++ (nodes_all vs ++ rest)) (rooted v) in
        let one : node ≡ root_of v = same_Some node (root_of v) (sym is ∙ at_place nodes at (root_of v) (behind v ++ (nodes_all vs ++ rest)) here) in
        let past : at + 1 + nodes_below node ≡ at + length (nodes_of v) =
        (let b = below_root v in let s = sized v in let n = ap nodes_below one in omega (arith, b, s, n)) in
        let next = ap (λ k. drop k nodes) past ∙ further nodes (nodes_of v) at (nodes_all vs ++ rest)
        (e ∙ append_assoc (nodes_of v) (nodes_all vs) rest) in
        (subst (λ n. NodeFits facts n ty) one fits, roots_fit vs (at + 1 + nodes_below node) rest types next (omega (arith, same)) others)

    fit_roots : (vs : ValueTrees) (at : ℕ) (rest : List Node) (types : List ℕ) → drop at nodes ≡ nodes_all vs ++ rest
        → RootsFit vs types → (length types ≡ count_of vs) × NodesFit facts nodes at types
    fit_roots no_trees at rest [] e roots = (refl, tt)
    fit_roots no_trees at rest (ty ∷ types) e roots = absurd roots
    fit_roots (more_trees v vs) at rest [] e roots = absurd roots
    fit_roots (more_trees v vs) at rest (ty ∷ types) e roots =
        let here : drop at nodes ≡ root_of v ∷ (behind v ++ (nodes_all vs ++ rest)) =
        e ∙ append_assoc (nodes_of v) (nodes_all vs) rest ∙ ap (λ l. l ++ (nodes_all vs ++ rest)) (rooted v) in
        let past : at + 1 + nodes_below (root_of v) ≡ at + length (nodes_of v) =
        (let b = below_root v in let s = sized v in omega (arith, b, s)) in
        let next = ap (λ k. drop k nodes) past ∙ further nodes (nodes_of v) at (nodes_all vs ++ rest)
        (e ∙ append_assoc (nodes_of v) (nodes_all vs) rest) in
        let (count, others) = fit_roots vs (at + 1 + nodes_below (root_of v)) rest types next roots.1 in
        (ap suc count, (root_of v, at_place nodes at (root_of v) (behind v ++ (nodes_all vs ++ rest)) here, roots.0, others))

    -- all nodes from a place to another have fields that fit
    abbrev AllFit : ℕ → ℕ → Type 0
    AllFit from to = (at : ℕ) (node : Node) → from ≤ at → at < to → slice_get nodes at ≡ Some node → FieldsFit facts nodes (at + 1) node

    all_part : (from to mid last : ℕ) → from ≤ mid → last ≤ to → AllFit from to → AllFit mid last
    all_part from to mid last low high fit at node le lt is = fit at node (omega (arith, low, le)) (omega (arith, high, lt)) is

    mutual
      sound_of : (v : ValueTree) (at : ℕ) (rest : List Node) → drop at nodes ≡ nodes_of v ++ rest → AllFit at (at + size_of v) → IsSound v
      sound_of (bool_tree b) at rest e fit = tt
      sound_of (int_tree n) at rest e fit = tt
      sound_of (big_tree n) at rest e fit = tt
      sound_of (const_tree name) at rest e fit = tt
      sound_of (opaque_tree n) at rest e fit = tt
      sound_of (data_tree name fs) at rest e fit =
          let node : Node = Data name (count_of fs) (sizes_of fs) in
          let (ty, types, is, count, fits) = fit at node (omega arith) (omega arith) (at_place nodes at node (nodes_all fs ++ rest) e) in
          let next : drop (at + 1) nodes ≡ nodes_all fs ++ rest = further nodes (node ∷ []) at (nodes_all fs ++ rest) e in (
            (ty, types, is, roots_fit fs (at + 1) rest types next count fits),
            sounds_of fs (at + 1) rest next (all_part at (at + size_of (data_tree name fs)) (at + 1) (at + 1 + sizes_of fs)
                (omega arith) (omega arith) fit),
          )

      sounds_of : (vs : ValueTrees) (at : ℕ) (rest : List Node) → drop at nodes ≡ nodes_all vs ++ rest → AllFit at (at + sizes_of vs) → AreSound vs
      sounds_of no_trees at rest e fit = tt
      sounds_of (more_trees v vs) at rest e fit =
          let whole = at + (size_of v + sizes_of vs) in
          let s = sized v in
          let here = e ∙ append_assoc (nodes_of v) (nodes_all vs) rest in
          let next : drop (at + size_of v) nodes ≡ nodes_all vs ++ rest =
          ap (λ k. drop (at + k) nodes) (sym s) ∙ further nodes (nodes_of v) at (nodes_all vs ++ rest) here in (
            sound_of v at (nodes_all vs ++ rest) here (all_part at whole at (at + size_of v) (omega arith) (omega arith) fit),
            sounds_of vs (at + size_of v) rest next (all_part at whole (at + size_of v) (at + size_of v + sizes_of vs)
                (omega arith) (omega arith) fit),
          )

    leaf_fit : (at : ℕ) (leaf : Node) (rest : List Node) → drop at nodes ≡ leaf ∷ rest → FieldsFit facts nodes (at + 1) leaf → AllFit at (at + 1)
    leaf_fit at leaf rest e fits k other le lt is =
        let same : at ≡ k = omega (arith, le, lt) in
        let one : leaf ≡ other = same_Some leaf other (sym (at_place nodes at leaf rest e) ∙ ap (slice_get nodes) same ∙ is) in
        subst (λ j. FieldsFit facts nodes (j + 1) other) same (subst (FieldsFit facts nodes (at + 1)) one fits)

    mutual
      fit_of : (v : ValueTree) (at : ℕ) (rest : List Node) → drop at nodes ≡ nodes_of v ++ rest → IsSound v → AllFit at (at + size_of v)
      fit_of (data_tree name fs) at rest e ((ty, types, is, roots), sound) =
          let node : Node = Data name (count_of fs) (sizes_of fs) in
          let next : drop (at + 1) nodes ≡ nodes_all fs ++ rest = further nodes (node ∷ []) at (nodes_all fs ++ rest) e in
          λ k other le lt is_k. elim (cases_lt at k) [
            | inl more ↦ fits_of fs (at + 1) rest next sound k other (omega (arith, more)) (omega (arith, lt)) is_k
            | inr less ↦
                let same : at ≡ k = omega (arith, le, less) in
                let one : node ≡ other = same_Some node other
                (sym (at_place nodes at node (nodes_all fs ++ rest) e) ∙ ap (slice_get nodes) same ∙ is_k) in
                let (count, fits) = fit_roots fs (at + 1) rest types next roots in
                subst (λ j. FieldsFit facts nodes (j + 1) other) same (subst (FieldsFit facts nodes (at + 1)) one (ty, types, is, count, fits))
          ]
      fit_of (bool_tree b) at rest e sound = leaf_fit at (Bool b) rest e tt
      fit_of (int_tree n) at rest e sound = leaf_fit at (Int n) rest e tt
      fit_of (big_tree n) at rest e sound = leaf_fit at (Big n) rest e tt
      fit_of (const_tree name) at rest e sound = leaf_fit at (Const name) rest e tt
      fit_of (opaque_tree n) at rest e sound = leaf_fit at (Opaque n) rest e tt

      fits_of : (vs : ValueTrees) (at : ℕ) (rest : List Node) → drop at nodes ≡ nodes_all vs ++ rest → AreSound vs → AllFit at (at + sizes_of vs)
      fits_of no_trees at rest e sound k other le lt is = absurd (omega (arith, le, lt))
      fits_of (more_trees v vs) at rest e sound k other le lt is =
          let s = sized v in
          let here = e ∙ append_assoc (nodes_of v) (nodes_all vs) rest in
          let next : drop (at + size_of v) nodes ≡ nodes_all vs ++ rest =
          ap (λ k. drop (at + k) nodes) (sym s) ∙ further nodes (nodes_of v) at (nodes_all vs ++ rest) here in
          elim (cases_lt k (at + size_of v)) [
            | inl less ↦ fit_of v at (nodes_all vs ++ rest) here sound.0 k other le less is
            | inr more ↦ fits_of vs (at + size_of v) rest next sound.1 k other more (omega (arith, lt)) is
          ]

  -- a value is of a type exactly where its first node and the fields of each of its nodes fit
  pub typed_nodes : (v : ValueTree) (nodes : List Node) (ty : ℕ) → nodes ≡ nodes_of v
      → (NodeFits facts (root_of v) ty × AllFieldsFit facts nodes) ↔ IsOfType facts v ty
  typed_nodes v nodes ty is =
      let e : drop 0 nodes ≡ nodes_of v ++ [] = is ∙ sym (append-nil (nodes_of v)) in
      let count : 0 + size_of v ≡ length nodes = (let l = ap length is in let s = sized v in omega (arith, l, s)) in (
        λ (fits, all). of_type v ty fits (sound_of nodes v 0 [] e (λ at node le lt get. all at node get)),
        λ of. let (fits, sound) = fitting v ty of in (
          fits,
          λ at node get. fit_of nodes v 0 [] e sound at node (omega arith)
              (subst (λ n. at < n) (sym count) (slice_get_within nodes at node get)) get,
        ),
      )

-- the type that comes next
pub next_type : (types : List TypeId) (i : ℕ) (d : TypeId) → i < length types
    → drop i (map number_of types) ≡ (get_or types i d).0 ∷ drop (i + 1) (map number_of types)
next_type [] i d low = absurd (omega (arith, low))
next_type (ty ∷ types) zero d low = ap (λ k. ty.0 ∷ drop k (ty.0 ∷ map number_of types)) (let e : 1 ≡ 0 + 1 = omega arith in e)
next_type (ty ∷ types) (suc i) d low =
    next_type types i d (omega (arith, low)) ∙ ap (λ k. (get_or types i d).0 ∷ drop k (ty.0 ∷ map number_of types))
    (let e : suc (i + 1) ≡ suc i + 1 = omega arith in e)
