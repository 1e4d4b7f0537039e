use Rattle.std.proofs.Common.{◌≡◌, ℕ, ◌<◌, ◌≤◌, ◌+◌, ◌++◌, List, [], ◌∷◌, length, map, reverse, set, refl, sym, ◌∙◌, ap, subst, arith}
use Rattle.std.specs.Prelude.{IsTrue}
use Rattle.std.proofs.lemmas.List.{reverse-append, get_or-set_same, length-set}
use Rattle.isle_types.specs.declared.ids.TypeId.{TypeId}
use Rattle.isle_rules.specs.Values.{ValueTree}
use Rattle.isle_meaning.specs.ValueTypes.{ValueFacts, IsOfType}
use Rattle.isle_values.specs.declared.values.Node.{Node}
use Rattle.isle_values.specs.Values.Nodes.{nodes_of, value_in}
use Rattle.isle_program.specs.Programs.{value_facts, number_of}
use Rattle.isle_values.specs.Values.Settled.{settled}
use Rattle.isle_values.specs.Inside.Values.SettledNodes.{settled_node, types_below, FitsWithFields}
use Rattle.isle_values.proofs.GroundValues.Laying.{laid_out, value_laid}
use Rattle.isle_values.proofs.GroundValues.Settling.{IsSettling, begun, ended, unexpected, refused, stepped}
use Rattle.isle_values.proofs.values.Value.settle.Goals as goal

-- the type that is expected next
next_first : (types rest : List TypeId) (next : TypeId) → types ≡ rest ++ next ∷ []
    → map number_of (reverse types) ≡ next.0 ∷ map number_of (reverse rest)
next_first types rest next is = ap (λ l. map number_of (reverse l)) is ∙ ap (map number_of) (reverse-append rest (next ∷ []))

pub loop-at-init : goal.loop-at-init
loop-at-init c = record {
  settling = subst (λ l. IsSettling (value_facts c.args.program.now) (settled (value_facts c.args.program.now) c.args.self c.args.ty.0) c.args.ty.0
      c.self.inside.nodes.items 0 (map number_of (reverse l))) (sym c.in_ok-expected.ensures.items)
      (begun (value_facts c.args.program.now) c.args.self c.args.ty.0 c.self.inside.nodes.items (c.self.invariant ∙ ap nodes_of c.self.view_is));
  as_long = refl;
}

nothing : {X : Type 0} (l : List X) → length l ≡ 0 → l ≡ []
nothing [] e = refl
nothing (x ∷ l) e = absurd cc

pub returns-in_default-clause-none : goal.returns-in_default-clause-none
returns-in_default-clause-none c =
    let facts = value_facts c.args.program.now in let whole = settled facts c.args.self c.args.ty.0 in let nodes = c.loop-at.nodes.items in
    let none : c.loop-at.expected.items ≡ [] = nothing c.loop-at.expected.items (sym c.loop-at.expected.ok.0 ∙ c.in_default.ensures.cases.0) in
    let within : c.loop-at.at < length nodes = (let low = c.loop-at-test.true in let same = c.loop-at.invariant.as_long in
    let len = c.len-at-end.ensures in
    let ok = c.self.inside.nodes.ok.0 in omega (arith, low, same, len, ok)) in
    absurd (unexpected facts whole c.args.ty.0 nodes c.loop-at.at
    (subst (λ l. IsSettling facts whole c.args.ty.0 nodes c.loop-at.at (map number_of (reverse l))) none c.loop-at.invariant.settling) within)

-- where a type is expected next
expecting : (facts : ValueFacts) (whole : ValueTree) (ty : ℕ) (nodes : List Node) (at : ℕ) (types rest : List TypeId) (next : TypeId)
    → types ≡ rest ++ next ∷ []
    → IsSettling facts whole ty nodes at (map number_of (reverse types)) → IsSettling facts whole ty nodes at (next.0 ∷ map number_of (reverse rest))
expecting facts whole ty nodes at types rest next is s = subst (IsSettling facts whole ty nodes at) (next_first types rest next is) s

pub returns-then-not-branch-clause-none : goal.returns-then-not-branch-clause-none
returns-then-not-branch-clause-none c =
    let facts = value_facts c.args.program.now in let whole = settled facts c.args.self c.args.ty.0 in let nodes = c.loop-at.nodes.items in
    let at = c.loop-at.at in let node = c.index_mut.result.now in let next = c.in-Some.next in
    let within : at < length nodes = (let low = c.loop-at-test.true in let same = c.loop-at.invariant.as_long in let len = c.len-at-end.ensures in
    let ok = c.self.inside.nodes.ok.0 in omega (arith, low, same, len, ok)) in
    let now : c.index.result.now ≡ settled_node node (facts.kind next.0) =
    c.index.ensures ∙ get_or-set_same nodes at c.settle_node.new.node c.index.result.now within ∙ c.settle_node.ensures in
    refused facts whole c.args.ty.0 nodes at next.0 (map number_of (reverse c.pop.new.self.items)) node
    (expecting facts whole c.args.ty.0 nodes at c.loop-at.expected.items c.pop.new.self.items next c.in-Some.ensures.items
    c.loop-at.invariant.settling)
    c.index_mut.ensures.value
    (λ fits. let yes = c.in_ok-expect_fields.ensures.fits.1 (subst (λ n. FitsWithFields facts n next.0) (sym now) fits) in
    let not = c.if-not-branch.true in absurd cc)

pub loop-at-preserved : goal.loop-at-preserved
loop-at-preserved c =
    let facts = value_facts c.args.program.now in let whole = settled facts c.args.self c.args.ty.0 in let nodes = c.loop-at.nodes.items in
    let at = c.loop-at.at in let node = c.index_mut.result.now in let next = c.in-Some.next in
    let within : at < length nodes = (let low = c.loop-at-test.true in let same = c.loop-at.invariant.as_long in let len = c.len-at-end.ensures in
    let ok = c.self.inside.nodes.ok.0 in omega (arith, low, same, len, ok)) in
    let now : c.index.result.now ≡ settled_node node (facts.kind next.0) =
    c.index.ensures ∙ get_or-set_same nodes at c.settle_node.new.node c.index.result.now within ∙ c.settle_node.ensures in
    let yes : IsTrue c.in_ok-expect_fields.field-0 = (let not = c.if-not-branch.false in cc) in
    let fits : FitsWithFields facts (settled_node node (facts.kind next.0)) next.0 =
    subst (λ n. FitsWithFields facts n next.0) now (c.in_ok-expect_fields.ensures.fits.0 yes) in
    let step = stepped facts whole c.args.ty.0 nodes at next.0 (map number_of (reverse c.pop.new.self.items)) node
    (expecting facts whole c.args.ty.0 nodes at c.loop-at.expected.items c.pop.new.self.items next c.in-Some.ensures.items
    c.loop-at.invariant.settling)
    c.index_mut.ensures.value fits in
    let types = c.in_ok-expect_fields.ensures.next yes ∙ ap (λ n. types_below facts n ++ map number_of (reverse c.pop.new.self.items)) now in
    record {
      settling = subst (λ n. IsSettling facts whole c.args.ty.0 (set nodes at n) (at + 1)
          (map number_of (reverse c.expect_fields.new.expected.items)))
          (sym c.settle_node.ensures)
          (subst (IsSettling facts whole c.args.ty.0 (set nodes at (settled_node node (facts.kind next.0))) (at + 1)) (sym types) step);
      as_long = length-set nodes at c.settle_node.new.node ∙ c.loop-at.invariant.as_long;
    }

pub invariant_of-result : goal.invariant_of-result
invariant_of-result c =
    let facts = value_facts c.args.program.now in let whole = settled facts c.args.self c.args.ty.0 in let nodes = c.loop-at.nodes.items in
    let end : length nodes ≤ c.loop-at.at = (let past = c.loop-at-test.false in let same = c.loop-at.invariant.as_long in
    let len = c.len-at-end.ensures in
    let ok = c.self.inside.nodes.ok.0 in omega (arith, past, same, len, ok)) in
    let (is, of) = ended facts whole c.args.ty.0 nodes c.loop-at.at (map number_of (reverse c.loop-at.expected.items))
    c.loop-at.invariant.settling end in
    laid_out nodes whole is

pub returns-clause-some : goal.returns-clause-some
returns-clause-some c =
    let facts = value_facts c.args.program.now in let whole = settled facts c.args.self c.args.ty.0 in let nodes = c.loop-at.nodes.items in
    let end : length nodes ≤ c.loop-at.at = (let past = c.loop-at-test.false in let same = c.loop-at.invariant.as_long in
    let len = c.len-at-end.ensures in
    let ok = c.self.inside.nodes.ok.0 in omega (arith, past, same, len, ok)) in
    let (is, of) = ended facts whole c.args.ty.0 nodes c.loop-at.at (map number_of (reverse c.loop-at.expected.items))
    c.loop-at.invariant.settling end in
    let value : value_in nodes ≡ whole = ap value_in is ∙ value_laid whole in
    (value, subst (λ v. IsOfType facts v c.args.ty.0) (sym value) of)
