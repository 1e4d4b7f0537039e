-- What is printed of a value, node by node.
use Rattle.std.proofs.Common.{◌≡◌, ◌<◌, ◌≤◌, ◌+◌, ◌++◌, ◌⊎◌, inl, inr, ℕ, zero, suc, List, [], ◌∷◌, length, drop, refl, sym, ◌∙◌, ap, subst, arith, append_assoc}
use Rattle.std.specs.Prelude.{codes}
use Rattle.std.proofs.lemmas.List.{append-nil, length-append, length-drop}
use Rattle.isle_rules.specs.Values.{ValueTree, ValueTrees, bool_tree, int_tree, big_tree, const_tree, opaque_tree, data_tree, no_trees, more_trees}
use Rattle.isle_values.specs.declared.values.Node.{Node}
use Rattle.isle_values.specs.declared.values.Node.TheVariants.{Bool, Int, Big, Const, Opaque, Data}
use Rattle.isle_values.specs.Values.Nodes.{size_of, sizes_of, count_of, nodes_of, nodes_all, nodes_below}
use Rattle.isle_values.specs.Values.Text.{value_text, fields_text, node_text, end_of, Closes, none_ends, one_ends}

-- what is still to be written: values at each level, the innermost first
abbrev pub rest_nodes : List ValueTrees → List Node
rest_nodes [] = []
rest_nodes (vs ∷ outer) = nodes_all vs ++ rest_nodes outer

abbrev pub rest_text : List ValueTrees → List ℕ
rest_text [] = []
rest_text (vs ∷ outer) = fields_text vs ++ (codes ")" ++ rest_text outer)

-- the places where the data of each level ends, the innermost last
pub data AreOpen : ℕ → List ValueTrees → List ℕ → Type 0 where
  nothing_open : {at : ℕ} → AreOpen at [] []
  level_open : {at : ℕ} (vs : ValueTrees) {outer : List ValueTrees} {ends : List ℕ} → AreOpen (at + sizes_of vs) outer ends
      → AreOpen at (vs ∷ outer) (ends ++ (at + sizes_of vs) ∷ [])

-- what is written so far, at a place behind the first node
pub record IsWriting (nodes : List Node) (whole : List ℕ) (at : ℕ) (levels : List ValueTrees) (ends text : List ℕ) : Type 0 where
  pub rest : drop at nodes ≡ rest_nodes levels
  pub ends_at : AreOpen at levels ends
  pub spelt : text ++ rest_text levels ≡ whole

-- the innermost level has a value left
abbrev pub HasNext : List ValueTrees → Type 0
HasNext levels = (levels ≡ []) ⊎ ((v : ValueTree) × (vs : ValueTrees) × (outer : List ValueTrees) × (levels ≡ more_trees v vs ∷ outer))

-- each value has a node
pub some_size : (v : ValueTree) → 0 < size_of v
some_size (bool_tree b) = omega arith
some_size (int_tree n) = omega arith
some_size (big_tree n) = omega arith
some_size (const_tree name) = omega arith
some_size (opaque_tree n) = omega arith
some_size (data_tree name vs) = omega arith

pub no_last : {X : Type 0} (xs : List X) (x : X) → xs ++ x ∷ [] ≡ [] → ⊥
no_last [] x e = absurd cc
no_last (y ∷ xs) x e = absurd cc

pub same_last : {X : Type 0} (xs ys : List X) (x y : X) → xs ++ x ∷ [] ≡ ys ++ y ∷ [] → (xs ≡ ys) × (x ≡ y)
same_last [] [] x y e = (refl, let same : x ≡ y = cc in same)
same_last [] (z ∷ ys) x y e = absurd (no_last ys y (sym (let rest : [] ≡ ys ++ y ∷ [] = cc in rest)))
same_last (z ∷ xs) [] x y e = absurd (no_last xs x (let rest : xs ++ x ∷ [] ≡ [] = cc in rest))
same_last (w ∷ xs) (z ∷ ys) x y e =
    let (same, last) = same_last xs ys x y (let rest : xs ++ x ∷ [] ≡ ys ++ y ∷ [] = cc in rest) in
    let first : w ≡ z = cc in
    (λ i. first i ∷ same i, last)

-- the innermost open data ends at the last place
pub record IsInnermost (at : ℕ) (vs : ValueTrees) (outer : List ValueTrees) (ends : List ℕ) : Type 0 where
  pub others : List ℕ
  pub before : AreOpen (at + sizes_of vs) outer others
  pub ends_are : ends ≡ others ++ (at + sizes_of vs) ∷ []

innermost : {at : ℕ} (vs : ValueTrees) (outer : List ValueTrees) {ends : List ℕ} → AreOpen at (vs ∷ outer) ends → IsInnermost at vs outer ends
innermost {at = at} vs outer (level_open _ {ends = others} below) = record { others = others; before = below; ends_are = refl }

-- no level is open where no data is
none_open : {at : ℕ} {levels : List ValueTrees} {ends : List ℕ} → AreOpen at levels ends → ends ≡ [] → levels ≡ []
none_open nothing_open e = refl
none_open {at = at} (level_open vs {ends = others} below) e = absurd (no_last others (at + sizes_of vs) e)

open_none : {at : ℕ} {levels : List ValueTrees} {ends : List ℕ} → AreOpen at levels ends → levels ≡ [] → ends ≡ []
open_none nothing_open e = refl
open_none (level_open vs below) e = absurd cc

-- data that ends here is closed
pub closed : (nodes : List Node) (whole : List ℕ) (at : ℕ) {ends rest text_closed : List ℕ} → Closes at ends rest text_closed
    → (levels : List ValueTrees) (text : List ℕ)
    → IsWriting nodes whole at levels ends text → (left : List ValueTrees) × IsWriting nodes whole at left rest (text ++ text_closed) × HasNext left
closed nodes whole at (none_ends {ends = ends} never) [] text w =
    ([], subst (λ t. IsWriting nodes whole at [] ends t) (sym (append-nil text)) w, inl refl)
closed nodes whole at (none_ends {ends = ends} never) (no_trees ∷ outer) text w =
    let inner = innermost no_trees outer w.ends_at in
    absurd (never inner.others (inner.ends_are ∙ ap (λ n. inner.others ++ n ∷ []) (let e : at + 0 ≡ at = omega arith in e)))
closed nodes whole at (none_ends {ends = ends} never) (more_trees v vs ∷ outer) text w = (
  more_trees v vs ∷ outer,
  subst (λ t. IsWriting nodes whole at (more_trees v vs ∷ outer) ends t) (sym (append-nil text)) w,
  inr (v, vs, outer, refl),
)
closed nodes whole at (one_ends {ends = ends} {closed = more} closes) [] text w = absurd (no_last ends at (open_none w.ends_at refl))
closed nodes whole at (one_ends {ends = ends} {rest = rest} {closed = more} closes) (no_trees ∷ outer) text w =
    let inner = innermost no_trees outer w.ends_at in
    let (same, last) = same_last ends inner.others at (at + 0) inner.ends_are in
    let here : AreOpen at outer ends =
    subst (λ n. AreOpen n outer ends) (let e : at + 0 ≡ at = omega arith in e) (subst (λ l. AreOpen (at + 0) outer l) (sym same) inner.before) in
    let (left, writing, next) = closed nodes whole at closes outer (text ++ codes ")")
    (record { rest = w.rest; ends_at = here; spelt = append_assoc text (codes ")") (rest_text outer) ∙ w.spelt }) in
    (left, subst (λ t. IsWriting nodes whole at left rest t) (append_assoc text (codes ")") more) writing, next)
closed nodes whole at (one_ends {ends = ends} closes) (more_trees v vs ∷ outer) text w =
    let inner = innermost (more_trees v vs) outer w.ends_at in
    let (same, last) = same_last ends inner.others at (at + (size_of v + sizes_of vs)) inner.ends_are in
    absurd (let some = some_size v in omega (arith, last, some))

next_rest : (nodes : List Node) (at : ℕ) (node : Node) (rest : List Node) → drop at nodes ≡ node ∷ rest → drop (suc at) nodes ≡ rest
next_rest [] zero node rest e = absurd cc
next_rest [] (suc at) node rest e = absurd cc
next_rest (n ∷ nodes) zero node rest e = let same : nodes ≡ rest = cc in same
next_rest (n ∷ nodes) (suc at) node rest e = next_rest nodes at node rest e

-- texts one behind the other
leaf_behind : (a s b c r : List ℕ) → ((a ++ s) ++ b) ++ (c ++ r) ≡ a ++ ((s ++ (b ++ c)) ++ r)
leaf_behind a s b c r = simp append_assoc refl

data_behind : (a s o n f p v r : List ℕ) → ((a ++ s) ++ (o ++ n)) ++ (f ++ (p ++ (v ++ r))) ≡ a ++ ((s ++ ((o ++ (n ++ (f ++ p))) ++ v)) ++ r)
data_behind a s o n f p v r = simp append_assoc refl

module _ (nodes : List Node) (whole : List ℕ) (at : ℕ) (vs : ValueTrees) (outer : List ValueTrees) (ends text : List ℕ) where
  -- a leaf is written behind a space
  leaf : (v : ValueTree) (node : Node) → nodes_of v ≡ node ∷ [] → value_text v ≡ node_text node → end_of (suc at) node ≡ [] → size_of v ≡ 1
      → IsWriting nodes whole at (more_trees v vs ∷ outer) ends text
      → IsWriting nodes whole (suc at) (vs ∷ outer) (ends ++ end_of (suc at) node) ((text ++ codes " ") ++ node_text node)
  leaf v node is text_is ends_not one w =
      let inner = innermost (more_trees v vs) outer w.ends_at in
      let next : at + (size_of v + sizes_of vs) ≡ suc at + sizes_of vs = omega (arith, one) in
      let ends_are : ends ++ end_of (suc at) node ≡ inner.others ++ (suc at + sizes_of vs) ∷ [] =
      ap (λ l. ends ++ l) ends_not ∙ append-nil ends ∙ inner.ends_are ∙ ap (λ n. inner.others ++ n ∷ []) next in
      record {
        rest = next_rest nodes at node (nodes_all vs ++ rest_nodes outer) (w.rest ∙ ap (λ l. (l ++ nodes_all vs) ++ rest_nodes outer) is);
        ends_at = subst (λ l. AreOpen (suc at) (vs ∷ outer) l) (sym ends_are)
            (level_open vs (subst (λ n. AreOpen n outer inner.others) next inner.before));
        spelt = leaf_behind text (codes " ") (node_text node) (fields_text vs) (codes ")" ++ rest_text outer)
            ∙ ap (λ t. text ++ ((codes " " ++ (t ++ fields_text vs)) ++ (codes ")" ++ rest_text outer))) (sym text_is) ∙ w.spelt;
      }

  -- the name of data is written behind a space, and its fields are still to be written
  begun : (name : List ℕ) (fs : ValueTrees) → IsWriting nodes whole at (more_trees (data_tree name fs) vs ∷ outer) ends text
      → IsWriting nodes whole (suc at) (fs ∷ vs ∷ outer) (ends ++ (suc at + sizes_of fs) ∷ []) ((text ++ codes " ") ++ (codes "(" ++ name))
  begun name fs w =
      let inner = innermost (more_trees (data_tree name fs) vs) outer w.ends_at in
      let next : at + (suc (sizes_of fs) + sizes_of vs) ≡ (suc at + sizes_of fs) + sizes_of vs = omega arith in
      let below : AreOpen (suc at + sizes_of fs) (vs ∷ outer) ends =
      subst (λ l. AreOpen (suc at + sizes_of fs) (vs ∷ outer) l) (sym (inner.ends_are ∙ ap (λ n. inner.others ++ n ∷ []) next))
      (level_open vs (subst (λ n. AreOpen n outer inner.others) next inner.before)) in
      record {
        rest = next_rest nodes at (Data name (count_of fs) (sizes_of fs)) (nodes_all fs ++ (nodes_all vs ++ rest_nodes outer))
            (w.rest ∙ ap (λ l. Data name (count_of fs) (sizes_of fs) ∷ l) (append_assoc (nodes_all fs) (nodes_all vs) (rest_nodes outer)));
        ends_at = level_open fs below;
        spelt = data_behind text (codes " ") (codes "(") name (fields_text fs) (codes ")") (fields_text vs) (codes ")" ++ rest_text outer) ∙ w.spelt;
      }

  head_is : (v : ValueTree) (node other : Node) (rest more : List Node) → drop at nodes ≡ node ∷ rest → drop at nodes ≡ other ∷ more → other ≡ node
  head_is v node other rest more e f = let both : other ∷ more ≡ node ∷ rest = sym f ∙ e in let same : other ≡ node = cc in same

  -- the next value begins
  pub written : (v : ValueTree) (node : Node) (rest : List Node) → drop at nodes ≡ node ∷ rest
      → IsWriting nodes whole at (more_trees v vs ∷ outer) ends text
      → (levels : List ValueTrees) × IsWriting nodes whole (suc at) levels (ends ++ end_of (suc at) node) ((text ++ codes " ") ++ node_text node)
  written (bool_tree b) node rest e w =
      subst (λ n. (levels : List ValueTrees) × IsWriting nodes whole (suc at) levels (ends ++ end_of (suc at) n) ((text ++ codes " ") ++ node_text n))
      (head_is (bool_tree b) node (Bool b) rest (nodes_all vs ++ rest_nodes outer) e w.rest)
      (vs ∷ outer, leaf (bool_tree b) (Bool b) refl refl refl refl w)
  written (int_tree n) node rest e w =
      subst (λ n. (levels : List ValueTrees) × IsWriting nodes whole (suc at) levels (ends ++ end_of (suc at) n) ((text ++ codes " ") ++ node_text n))
      (head_is (int_tree n) node (Int n) rest (nodes_all vs ++ rest_nodes outer) e w.rest)
      (vs ∷ outer, leaf (int_tree n) (Int n) refl refl refl refl w)
  written (big_tree n) node rest e w =
      subst (λ n. (levels : List ValueTrees) × IsWriting nodes whole (suc at) levels (ends ++ end_of (suc at) n) ((text ++ codes " ") ++ node_text n))
      (head_is (big_tree n) node (Big n) rest (nodes_all vs ++ rest_nodes outer) e w.rest)
      (vs ∷ outer, leaf (big_tree n) (Big n) refl refl refl refl w)
  written (const_tree name) node rest e w =
      subst (λ n. (levels : List ValueTrees) × IsWriting nodes whole (suc at) levels (ends ++ end_of (suc at) n) ((text ++ codes " ") ++ node_text n))
      (head_is (const_tree name) node (Const name) rest (nodes_all vs ++ rest_nodes outer) e w.rest)
      (vs ∷ outer, leaf (const_tree name) (Const name) refl refl refl refl w)
  written (opaque_tree n) node rest e w =
      subst (λ n. (levels : List ValueTrees) × IsWriting nodes whole (suc at) levels (ends ++ end_of (suc at) n) ((text ++ codes " ") ++ node_text n))
      (head_is (opaque_tree n) node (Opaque n) rest (nodes_all vs ++ rest_nodes outer) e w.rest)
      (vs ∷ outer, leaf (opaque_tree n) (Opaque n) refl refl refl refl w)
  written (data_tree name fs) node rest e w =
      subst (λ n. (levels : List ValueTrees) × IsWriting nodes whole (suc at) levels (ends ++ end_of (suc at) n) ((text ++ codes " ") ++ node_text n))
      (head_is (data_tree name fs) node (Data name (count_of fs) (sizes_of fs)) rest ((nodes_all fs ++ nodes_all vs) ++ rest_nodes outer) e w.rest)
      (fs ∷ vs ∷ outer, begun name fs w)

-- how many nodes there are
mutual
  pub sized : (v : ValueTree) → length (nodes_of v) ≡ size_of v
  sized (bool_tree b) = refl
  sized (int_tree n) = refl
  sized (big_tree n) = refl
  sized (const_tree name) = refl
  sized (opaque_tree n) = refl
  sized (data_tree name vs) = ap suc (sized_all vs)

  pub sized_all : (vs : ValueTrees) → length (nodes_all vs) ≡ sizes_of vs
  sized_all no_trees = refl
  sized_all (more_trees v vs) = let p = sized v in let q = sized_all vs in let l = length-append (nodes_of v) (nodes_all vs) in omega (arith, p, q, l)

below_of : (v : ValueTree) (node : Node) (rest more : List Node) → nodes_of v ++ more ≡ node ∷ rest → suc (nodes_below node) ≡ size_of v
below_of (bool_tree b) node rest more e = let same : Bool b ≡ node = cc in ap (λ n. suc (nodes_below n)) (sym same)
below_of (int_tree i) node rest more e = let same : Int i ≡ node = cc in ap (λ n. suc (nodes_below n)) (sym same)
below_of (big_tree i) node rest more e = let same : Big i ≡ node = cc in ap (λ n. suc (nodes_below n)) (sym same)
below_of (const_tree name) node rest more e = let same : Const name ≡ node = cc in ap (λ n. suc (nodes_below n)) (sym same)
below_of (opaque_tree i) node rest more e = let same : Opaque i ≡ node = cc in ap (λ n. suc (nodes_below n)) (sym same)
below_of (data_tree name vs) node rest more e =
    let same : Data name (count_of vs) (sizes_of vs) ≡ node = cc in ap (λ n. suc (nodes_below n)) (sym same)

-- what is written of a value: nothing yet, or up to a node
pub data IsPrinted (v : ValueTree) (nodes : List Node) : ℕ → List ℕ → List ℕ → Type 0 where
  begins : {ends text : List ℕ} → nodes ≡ nodes_of v → ends ≡ [] → text ≡ [] → IsPrinted v nodes 0 ends text
  goes_on : {at : ℕ} {ends text : List ℕ} (levels : List ValueTrees) → 0 < at → IsWriting nodes (value_text v) at levels ends text → HasNext levels
      → IsPrinted v nodes at ends text

-- some value begins at each node
pub record BeginsAt (nodes : List Node) (at : ℕ) : Type 0 where
  pub value : ValueTree
  pub more : List Node
  pub nodes_are : drop at nodes ≡ nodes_of value ++ more

begins_at : (v : ValueTree) (nodes : List Node) {at : ℕ} {ends text : List ℕ} → IsPrinted v nodes at ends text → at < length nodes → BeginsAt nodes at
begins_at v nodes (begins is no_ends no_text) within = record { value = v; more = []; nodes_are = is ∙ sym (append-nil (nodes_of v)) }
begins_at v nodes {at = at} (goes_on levels later w (inl none)) within =
    absurd (let len = length-drop at nodes in
    let zero_left : length (drop at nodes) ≡ 0 = ap length (w.rest ∙ ap rest_nodes none) in omega (arith, len, within, zero_left))
begins_at v nodes (goes_on levels later w (inr (next, vs, outer, is))) within = record {
  value = next;
  more = nodes_all vs ++ rest_nodes outer;
  nodes_are = w.rest ∙ ap rest_nodes is ∙ append_assoc (nodes_of next) (nodes_all vs) (rest_nodes outer);
}

-- what belongs to a node is there
pub below_within : (v : ValueTree) (nodes : List Node) {at : ℕ} {ends text : List ℕ} → IsPrinted v nodes at ends text
    → (node : Node) (rest : List Node)
    → at < length nodes → drop at nodes ≡ node ∷ rest → at + 1 + nodes_below node ≤ length nodes
below_within v nodes {at = at} so_far node rest within e =
    let b = begins_at v nodes so_far within in
    let below = below_of b.value node rest b.more (sym b.nodes_are ∙ e) in
    let size = sized b.value in
    let len = length-drop at nodes in
    let many : length (drop at nodes) ≡ length (nodes_of b.value) + length b.more = ap length b.nodes_are ∙ length-append (nodes_of b.value) b.more in
    omega (arith, below, size, len, many, within)

-- the first node
rooted : (v : ValueTree) (node : Node) (rest : List Node) → nodes_of v ≡ node ∷ rest
    → (levels : List ValueTrees) × IsWriting (nodes_of v) (value_text v) 1 levels ([] ++ end_of 1 node) ([] ++ node_text node)
rooted (bool_tree b) node rest e =
    subst (λ n. (levels : List ValueTrees) × IsWriting (Bool b ∷ []) (value_text (bool_tree b)) 1 levels ([] ++ end_of 1 n) ([] ++ node_text n))
    (let same : Bool b ≡ node = cc in same) ([], record { rest = refl; ends_at = nothing_open; spelt = append-nil (node_text (Bool b)) })
rooted (int_tree i) node rest e =
    subst (λ n. (levels : List ValueTrees) × IsWriting (Int i ∷ []) (value_text (int_tree i)) 1 levels ([] ++ end_of 1 n) ([] ++ node_text n))
    (let same : Int i ≡ node = cc in same) ([], record { rest = refl; ends_at = nothing_open; spelt = append-nil (node_text (Int i)) })
rooted (big_tree i) node rest e =
    subst (λ n. (levels : List ValueTrees) × IsWriting (Big i ∷ []) (value_text (big_tree i)) 1 levels ([] ++ end_of 1 n) ([] ++ node_text n))
    (let same : Big i ≡ node = cc in same) ([], record { rest = refl; ends_at = nothing_open; spelt = append-nil (node_text (Big i)) })
rooted (const_tree name) node rest e =
    subst (λ n. (levels : List ValueTrees) × IsWriting (Const name ∷ []) (value_text (const_tree name)) 1 levels
    ([] ++ end_of 1 n) ([] ++ node_text n))
    (let same : Const name ≡ node = cc in same) ([], record { rest = refl; ends_at = nothing_open; spelt = append-nil (node_text (Const name)) })
rooted (opaque_tree i) node rest e =
    subst (λ n. (levels : List ValueTrees) × IsWriting (Opaque i ∷ []) (value_text (opaque_tree i)) 1 levels ([] ++ end_of 1 n) ([] ++ node_text n))
    (let same : Opaque i ≡ node = cc in same) ([], record { rest = refl; ends_at = nothing_open; spelt = append-nil (node_text (Opaque i)) })
rooted (data_tree name vs) node rest e =
    subst (λ n. (levels : List ValueTrees) × IsWriting (nodes_of (data_tree name vs)) (value_text (data_tree name vs)) 1 levels
    ([] ++ end_of 1 n) ([] ++ node_text n))
    (let same : Data name (count_of vs) (sizes_of vs) ≡ node = cc in same) (
      vs ∷ [],
      record {
        rest = sym (append-nil (nodes_all vs));
        ends_at = level_open vs nothing_open;
        spelt = append_assoc (codes "(") name (fields_text vs ++ (codes ")" ++ [])) ∙ ap (λ l. codes "(" ++ (name ++ (fields_text vs ++ l)))
            (append-nil (codes ")"));
      },
    )

-- a node is written, behind a space but for the first, and what ends behind it is closed
pub next_printed : (v : ValueTree) (nodes : List Node) {at : ℕ} {ends text : List ℕ} → IsPrinted v nodes at ends text → (spaced : List ℕ)
    → (0 < at → spaced ≡ text ++ codes " ") → (at ≡ 0 → spaced ≡ text) → (node : Node) (rest : List Node) → drop at nodes ≡ node ∷ rest
    → {left closed_text : List ℕ} → Closes (suc at) (ends ++ end_of (suc at) node) left closed_text
    → IsPrinted v nodes (suc at) left ((spaced ++ node_text node) ++ closed_text)
next_printed v nodes {ends = ends} {text = text} (begins is no_ends no_text) spaced later first node rest
    e {left = left} {closed_text = closed_text} closes =
    let (levels, w) = rooted v node rest (sym is ∙ e) in
    let same_text : spaced ≡ [] = first refl ∙ no_text in
    let at_node : IsWriting nodes (value_text v) 1 levels (ends ++ end_of 1 node) (spaced ++ node_text node) =
    subst (λ l. IsWriting l (value_text v) 1 levels (ends ++ end_of 1 node) (spaced ++ node_text node)) (sym is)
    (subst (λ l. IsWriting (nodes_of v) (value_text v) 1 levels (l ++ end_of 1 node) (spaced ++ node_text node)) (sym no_ends)
    (subst (λ l. IsWriting (nodes_of v) (value_text v) 1 levels ([] ++ end_of 1 node) (l ++ node_text node)) (sym same_text) w)) in
    let (after, writing, next) = closed nodes (value_text v) 1 closes levels (spaced ++ node_text node) at_node in
    goes_on after (omega arith) writing next
next_printed v nodes {at = at} {text = text} (goes_on levels behind w (inl none)) spaced later first node rest e closes =
    absurd (let same : [] ≡ node ∷ rest = sym (ap rest_nodes none) ∙ sym w.rest ∙ e in let never : ⊥ = cc in never)
next_printed v nodes {at = at} {ends = ends} {text = text} (goes_on levels behind w (inr (v', vs, outer, is)))
    spaced later first node rest e {left = left} {closed_text = closed_text} closes =
    let (more, w') = written nodes (value_text v) at vs outer ends text v' node rest e
    (subst (λ l. IsWriting nodes (value_text v) at l ends text) is w) in
    let here = subst (λ l. IsWriting nodes (value_text v) (suc at) more (ends ++ end_of (suc at) node) (l ++ node_text node))
    (sym (later behind)) w' in
    let (after, writing, next) = closed nodes (value_text v) (suc at) closes more (spaced ++ node_text node) here in
    goes_on after (omega arith) writing next

-- nothing is left: the whole text is written
pub all_printed : (v : ValueTree) (nodes : List Node) {at : ℕ} {ends text : List ℕ} → IsPrinted v nodes at ends text
    → length nodes ≤ at → text ≡ value_text v
all_printed v nodes (begins is no_ends no_text) le =
    absurd (let some = some_size v in let size = sized v in let len = ap length is in omega (arith, some, size, len, le))
all_printed v nodes {at = at} {text = text} (goes_on levels behind w (inl none)) le =
    sym (append-nil text) ∙ sym (ap (λ l. text ++ rest_text l) none) ∙ w.spelt
all_printed v nodes {at = at} (goes_on levels behind w (inr (v', vs, outer, is))) le =
    absurd (let some = some_size v' in let size = sized v' in let len = length-drop at nodes in
    let many : length (drop at nodes) ≡ length (nodes_of v') + length (nodes_all vs ++ rest_nodes outer) =
    ap length (w.rest ∙ ap rest_nodes is ∙ append_assoc (nodes_of v') (nodes_all vs) (rest_nodes outer)) ∙ length-append
    (nodes_of v') (nodes_all vs ++ rest_nodes outer) in
    omega (arith, some, size, len, many, le))
