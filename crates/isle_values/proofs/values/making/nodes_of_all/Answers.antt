use Rattle.std.proofs.Common.{◌≡◌, ◌++◌, List, [], ◌∷◌, sym, ◌∙◌, ap, append_assoc}
use Rattle.std.proofs.lemmas.List.{append-nil, map-id}
use Rattle.isle_types.proofs.Reading.{no_items}
use Rattle.isle_rules.specs.Values.{ValueTree, value_list}
use Rattle.isle_values.specs.Values.Nodes.{nodes_of, nodes_all}
use Rattle.std.proofs.lemmas.Iterator.Adapters.{YieldsList-from_vec}
use Rattle.std.proofs.lemmas.Iterator.Consumers.{YieldsList-end}
use Rattle.isle_values.proofs.values.making.nodes_of_all.Goals as goal

-- the nodes of a value behind others
pushed_nodes : (vs : List ValueTree) (v : ValueTree) → nodes_all (value_list (vs ++ v ∷ [])) ≡ nodes_all (value_list vs) ++ nodes_of v
pushed_nodes [] v = append-nil (nodes_of v)
pushed_nodes (w ∷ vs) v = ap (λ l. nodes_of w ++ l) (pushed_nodes vs v) ∙ sym (append_assoc (nodes_of w) (nodes_all (value_list vs)) (nodes_of v))

pub loop-value-preserved : goal.loop-value-preserved
loop-value-preserved c =
    let vs = c.loop-value.yielded in
    c.in_ok-append.ensures.items ∙ ap (λ l. l ++ c.value.inside.nodes.items) c.loop-value.invariant
    ∙ ap (λ l. nodes_all (value_list vs) ++ l) (c.value.invariant ∙ ap nodes_of c.value.view_is) ∙ sym (pushed_nodes vs c.in-Some.value)

pub loop-value-preserved-then-is_empty : goal.loop-value-preserved-then-is_empty
loop-value-preserved-then-is_empty c =
    let vs = c.loop-value.yielded in
    c.value.invariant ∙ ap nodes_of c.value.view_is ∙ ap (λ l. l ++ nodes_of c.in-Some.value)
    (sym (no_items c.loop-value.nodes c.is_empty.result c.is_empty.ensures c.if-is_empty.true) ∙ c.loop-value.invariant) ∙ sym
    (pushed_nodes vs c.in-Some.value)

pub returns : goal.returns
returns c =
    let source = c.into_iter-value-iterator.ensures.into_iter_gives in
    let road = YieldsList-from_vec {s = c.into_iter-value-iterator.result} c.args.values.items source.0 (source.1 ∙ c.args.values.ok.0) in
    let ended = YieldsList-end road c.loop-value.yielded c.loop-value.value-iterator c.loop-value.yielded_by
    c.next.result c.next.new.self c.in-None.is
    c.next.ensures.steps in
    c.loop-value.invariant ∙ ap (λ l. nodes_all (value_list l)) (sym (map-id c.loop-value.yielded) ∙ ended.0)
