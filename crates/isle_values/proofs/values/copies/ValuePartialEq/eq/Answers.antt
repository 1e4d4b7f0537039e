use Rattle.std.proofs.Common.{◌≡◌, List, Bool, sym, ◌∙◌, ap}
use Rattle.std.specs.Bool.{Decides}
use Rattle.std.proofs.lemmas.Bool.Decides.{Decides-at}
use Rattle.isle_ast.specs.Trees.Equality.{same_coded, same_coded-decides}
use Rattle.isle_rules.specs.Values.{ValueTree}
use Rattle.isle_values.specs.declared.values.Node.{Node}
use Rattle.isle_values.specs.Values.Nodes.{nodes_of, value_in}
use Rattle.isle_values.specs.Values.Code.{value_tree_code}
use Rattle.isle_values.proofs.GroundValues.EqualNodes.{through, one_answer, nodes-decide}
use Rattle.isle_values.proofs.values.copies.ValuePartialEq.eq.Goals as goal

-- the values are the same exactly where their nodes are
decides : (a b : ValueTree) (ns ms : List Node) (r : Bool) → Decides r (ns ≡ ms) → value_in ns ≡ a → value_in ms ≡ b → ns ≡ nodes_of (value_in ns)
    → ms ≡ nodes_of (value_in ms) → Decides r (a ≡ b)
decides a b ns ms r d is also laid too =
    through d (λ e. sym is ∙ ap value_in e ∙ also) (λ e. laid ∙ ap nodes_of (is ∙ e ∙ sym also) ∙ sym too)

pub returns-clause-same : goal.returns-clause-same
returns-clause-same c =
    decides c.args.self.now c.args.other.now c.self.inside.nodes.items c.other.inside.nodes.items c.eq.result
    (Decides-at c.eq.result _ c.eq.ensures (nodes-decide c.self.inside.nodes.items c.other.inside.nodes.items))
    c.self.view_is c.other.view_is c.self.invariant c.other.invariant

pub returns-clause-answer : goal.returns-clause-answer
returns-clause-answer c =
    let same = decides c.args.self.now c.args.other.now c.self.inside.nodes.items c.other.inside.nodes.items c.eq.result
    (Decides-at c.eq.result _ c.eq.ensures (nodes-decide c.self.inside.nodes.items c.other.inside.nodes.items))
    c.self.view_is c.other.view_is c.self.invariant c.other.invariant in
    one_answer c.eq.result (same_coded value_tree_code c.args.self.now c.args.other.now) same
    (same_coded-decides value_tree_code c.args.self.now c.args.other.now)
