use Rattle.std.proofs.Common.{◌-◌, ◌++◌, ◌∷◌, [], min, take, get_or, unwrap_or, ap, ◌∙◌, arith}
use Rattle.isle_rules.specs.Values.{ValueTrees, data_tree, more_trees}
use Rattle.isle_values.specs.declared.values.Node.TheVariants.{Data}
use Rattle.isle_values.specs.Values.Nodes.{first_values, later_values}
use Rattle.isle_values.proofs.GroundValues.LaidValues.{after_within, put_laid, put_values}
use Rattle.isle_values.proofs.values.laying.LaidValues.put_data.Goals as goal

pub overflow_sub-all : goal.overflow_sub-all
overflow_sub-all c =
    let count = c.self.inside.behind.ok.0 in
    after_within c.self.inside.nodes.items c.self.inside.behind.items c.self.invariant c.args.fields c.min-fields.result
    (c.len-2.result - c.min-fields.result)
    c.len-all.result c.unwrap_or-behind.result (c.min-fields.ensures ∙ ap (min c.args.fields) (c.len.ensures ∙ count))
    (ap (λ n. n - c.min-fields.result) (c.len-2.ensures ∙ count)) (c.len-all.ensures ∙ c.self.inside.nodes.ok.0)
    (c.unwrap_or-behind.ensures ∙ ap (λ o. unwrap_or o c.len-all.result) c.copied.ensures
    ∙ c.get.ensures.lookup.4 (omega arith) c.len-all.result
    ∙ ap (λ l. get_or l (c.len-2.result - c.min-fields.result) c.len-all.result) c.deref.ensures.value)

pub invariant_of-self-2 : goal.invariant_of-self-2
invariant_of-self-2 c =
    let count = c.self.inside.behind.ok.0 in
    put_laid c.self.inside.nodes.items c.self.inside.behind.items c.self.invariant c.args.fields c.min-fields.result
    (c.len-2.result - c.min-fields.result)
    c.len-all.result c.unwrap_or-behind.result (c.min-fields.ensures ∙ ap (min c.args.fields) (c.len.ensures ∙ count))
    (ap (λ n. n - c.min-fields.result) (c.len-2.ensures ∙ count)) (c.len-all.ensures ∙ c.self.inside.nodes.ok.0)
    (c.unwrap_or-behind.ensures ∙ ap (λ o. unwrap_or o c.len-all.result) c.copied.ensures
    ∙ c.get.ensures.lookup.4 (omega arith) c.len-all.result
    ∙ ap (λ l. get_or l (c.len-2.result - c.min-fields.result) c.len-all.result) c.deref.ensures.value)
    c.args.name c.push-2.new.self.items c.push.new.self.items
    (c.in_ok-push-2.ensures.items
    ∙ ap (λ l. l ++ Data c.args.name c.min-fields.result (c.len-all.result - c.unwrap_or-behind.result) ∷ []) c.reserve.ensures.items)
    (c.in_ok-push.ensures.items ∙ ap (λ l. l ++ c.unwrap_or-behind.result ∷ [])
    (c.truncate.ensures.items ∙ ap (take (c.len-2.result - c.min-fields.result)) c.reserve-2.ensures.items))

pub returns : goal.returns
returns c =
    let count = c.self.inside.behind.ok.0 in
    put_values c.self.inside.nodes.items c.self.inside.behind.items c.self.invariant c.args.fields c.min-fields.result
    (c.len-2.result - c.min-fields.result)
    c.len-all.result c.unwrap_or-behind.result (c.min-fields.ensures ∙ ap (min c.args.fields) (c.len.ensures ∙ count))
    (ap (λ n. n - c.min-fields.result) (c.len-2.ensures ∙ count)) (c.len-all.ensures ∙ c.self.inside.nodes.ok.0)
    (c.unwrap_or-behind.ensures ∙ ap (λ o. unwrap_or o c.len-all.result) c.copied.ensures
    ∙ c.get.ensures.lookup.4 (omega arith) c.len-all.result
    ∙ ap (λ l. get_or l (c.len-2.result - c.min-fields.result) c.len-all.result) c.deref.ensures.value)
    c.args.name c.push-2.new.self.items
    (c.in_ok-push-2.ensures.items
    ∙ ap (λ l. l ++ Data c.args.name c.min-fields.result (c.len-all.result - c.unwrap_or-behind.result) ∷ []) c.reserve.ensures.items)
    ∙ ap (λ (vs : ValueTrees). more_trees (data_tree c.args.name (first_values c.args.fields vs)) (later_values c.args.fields vs))
    c.self.view_is
