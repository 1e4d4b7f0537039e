use Rattle.std.proofs.Common.{◌≡◌, ◌-◌, ◌∷◌, [], ℕ, List, length, drop, reverse, refl, sym, ap, subst, ◌∙◌, arith}
use Rattle.isle_rules.specs.Values.{ValueTree}
use Rattle.isle_meaning.specs.Values.{no_values, more_values}
use Rattle.isle_meaning.specs.ValueTypes.{ValueFacts}
use Rattle.isle_meaning.specs.GroundValues.{value_of, values_of}
use Rattle.isle_calls.specs.declared.store.Stored.{Stored}
use Rattle.isle_values.specs.declared.values.Node.{Node}
use Rattle.isle_values.specs.Values.Nodes.{nodes_of, values_in}
use Rattle.isle_program.specs.Programs.{value_facts}
use Rattle.isle_calls.specs.Stores.Values.{StandEach}
use Rattle.isle_calls.proofs.Stores.Values.{extends_again}
use Rattle.isle_values.proofs.GroundValues.LaidValues.{reverse_pushed}
use Rattle.isle_calls.proofs.Stores.Sharing.{next_from_end, last_stands}
use Rattle.isle_calls.proofs.store.Store.share.Goals as goal

-- all nodes are put in
all_stand : (facts : ValueFacts) (stored : List Stored) (v : ValueTree) (nodes : List Node) (i : ℕ) (done : List ℕ) → nodes ≡ nodes_of v
    → length nodes - i ≡ 0 → StandEach stored (values_of facts (values_in (drop (length nodes - i) nodes))) (reverse done)
    → StandEach stored (more_values (value_of facts v) no_values) (reverse done)
all_stand facts stored v nodes i done is ended each =
    last_stands facts stored v nodes done is
    (subst (λ n. StandEach stored (values_of facts (values_in (drop n nodes))) (reverse done)) ended each)

nothing : (l : List ℕ) → length l ≡ 0 → l ≡ []
nothing [] e = refl
nothing (x ∷ l) e = absurd cc

pub loop-i-preserved : goal.loop-i-preserved
loop-i-preserved c =
    let facts = value_facts c.args.program.now in
    let nodes = c.nodes-nodes.result.now in
    let old = values_in (drop (length nodes - c.loop-i.i) nodes) in
    let next = next_from_end nodes c.loop-i.i c.index-nodes-nodes.result c.loop-i-test.true c.index-nodes-nodes.is in
    let each = c.in_ok-share_node.ensures.stand old c.loop-i.invariant.1 in (
      extends_again c.loop-i.invariant.0 c.share_node.ensures.kept,
      subst (λ l. StandEach c.share_node.new.self (values_of facts (values_in l)) (reverse c.share_node.new.done.items)) (sym next) each,
    )

pub unreachable-requires : goal.unreachable-requires
unreachable-requires c =
    let facts = value_facts c.args.program.now in
    let ended : length c.nodes-nodes.result.now - c.loop-i.i ≡ 0 = omega arith in
    let none : c.loop-i.done.items ≡ [] = nothing c.loop-i.done.items (sym c.loop-i.done.ok.0 ∙ c.in-None.ensures.cases.0) in
    let each = all_stand facts c.loop-i.self c.args.value.now c.nodes-nodes.result.now c.loop-i.i c.loop-i.done.items
    c.nodes-nodes.ensures ended
    c.loop-i.invariant.1 in
    subst (λ l. StandEach c.loop-i.self (more_values (value_of facts c.args.value.now) no_values) (reverse l)) none each

pub returns-clause-number : goal.returns-clause-number
returns-clause-number c =
    let facts = value_facts c.args.program.now in
    let ended : length c.nodes-nodes.result.now - c.loop-i.i ≡ 0 = omega arith in
    let each = all_stand facts c.loop-i.self c.args.value.now c.nodes-nodes.result.now c.loop-i.i c.loop-i.done.items
    c.nodes-nodes.ensures ended
    c.loop-i.invariant.1 in
    let last = ap reverse c.in-Some.ensures.items ∙ reverse_pushed c.pop.new.self.items c.in-Some.number in
    (subst (StandEach c.loop-i.self (more_values (value_of facts c.args.value.now) no_values)) last each).0
