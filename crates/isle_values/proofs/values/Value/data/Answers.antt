use Rattle.std.proofs.Common.{◌≡◌, ◌++◌, ◌∷◌, [], List, ℕ, length, suc, refl, ◌∙◌, ap}
use Rattle.isle_rules.specs.Values.{ValueTree, data_tree, value_list}
use Rattle.isle_values.specs.declared.values.Node.{Node}
use Rattle.isle_values.specs.declared.values.Node.TheVariants.{Data}
use Rattle.isle_values.specs.Values.Nodes.{count_of, sizes_of, nodes_of, nodes_all, value_in}
use Rattle.isle_values.proofs.GroundValues.Laying.{value_laid, laid_out}
use Rattle.isle_values.proofs.GroundValues.Printing.{sized_all}
use Rattle.isle_values.proofs.values.Value.data.Goals as goal

many : (vs : List ValueTree) → length vs ≡ count_of (value_list vs)
many [] = refl
many (v ∷ vs) = ap suc (many vs)

-- the node of data before the nodes of its fields
laid : (nodes first below : List Node) (name : List ℕ) (fields : List ValueTree) (count size : ℕ) → nodes ≡ first ++ below
    → first ≡ Data name count size ∷ []
    → below ≡ nodes_all (value_list fields) → count ≡ length fields → size ≡ length below → nodes ≡ nodes_of (data_tree name (value_list fields))
laid nodes first below name fields count size is head are many_are long =
    let number : count ≡ count_of (value_list fields) = many_are ∙ many fields in
    let all : size ≡ sizes_of (value_list fields) = long ∙ ap length are ∙ sized_all (value_list fields) in
    is ∙ ap (λ l. l ++ below) head ∙ (λ i. Data name (number i) (all i) ∷ are i)

pub invariant_of-result : goal.invariant_of-result
invariant_of-result c =
    laid_out c.append.new.self.items (data_tree c.args.name.now (value_list c.args.fields.items))
    (laid c.append.new.self.items c.in_ok-nodes.nodes.items c.in_ok-below.below.items c.args.name.now c.args.fields.items
    c.len-count.result c.len.result
    c.in_ok-append.ensures.items (c.in_ok-nodes.ensures.items ∙ ap (λ n. Data n c.len-count.result c.len.result ∷ []) c.in_ok-from_str.ensures)
    c.in_ok-below.ensures (c.len-count.ensures ∙ c.args.fields.ok.0) (c.len.ensures ∙ c.in_ok-below.below.ok.0))

pub returns : goal.returns
returns c =
    let v = data_tree c.args.name.now (value_list c.args.fields.items) in
    ap value_in (laid c.append.new.self.items c.in_ok-nodes.nodes.items c.in_ok-below.below.items c.args.name.now
    c.args.fields.items c.len-count.result c.len.result
    c.in_ok-append.ensures.items (c.in_ok-nodes.ensures.items ∙ ap (λ n. Data n c.len-count.result c.len.result ∷ []) c.in_ok-from_str.ensures)
    c.in_ok-below.ensures (c.len-count.ensures ∙ c.args.fields.ok.0) (c.len.ensures ∙ c.in_ok-below.below.ok.0)) ∙ value_laid v
