use Rattle.std.proofs.Common.{◌≡◌, ℕ, List, [], ap, sym, subst, ◌∙◌, length}
use Rattle.isle_trees.specs.Builds.{Builds}
use Rattle.isle_trees.specs.Rules.{Elem}
use Rattle.isle_trees.specs.Scopes.{Scope, nothing_known}
use Rattle.isle_trees.specs.Search.{AreDistinct}
use Rattle.isle_trees.specs.Rules.{below}
use Rattle.isle_trees.proofs.Building.Lists.{ascending_distinct, below_ascends, below_less}
use Rattle.isle_trees.proofs.Building.Reorder.{same_builds, same_elem}
use Rattle.isle_blocks.specs.declared.constraint.Constraint.{Constraint}
use Rattle.isle_blocks.specs.Rows.{numbers_of}
use Rattle.isle_blocks.specs.Inside.Trees.Builder.{IsFit, rules_in, scope_of, users_at}
use Rattle.isle_blocks.specs.Trees.Nodes.{first_steps, read}
use Rattle.isle_blocks.proofs.Trees.Marking.Ready.{ready_all}
use Rattle.isle_blocks.proofs.serializer.nodes_of.Goals as goal

pub in_order-requires : goal.in_order-requires
in_order-requires c =
    let n = length c.args.set.now.rules in
    let e : c.in_ok-numbers.field-0.items ≡ below n = c.in_ok-numbers.ensures ∙ ap (λ (l : ℕ). below l) (ap length c.rules.ensures) in
    subst AreDistinct (sym e) (ascending_distinct (below n) (below_ascends n))

pub available-requires-clause-fit : goal.available-requires-clause-fit
available-requires-clause-fit c =
    subst (λ (n : ℕ). IsFit c.args.set.now n c.in_ok-known.known) c.site_count-sites.ensures.count (c.in_ok-known.ensures.fit c.args.set.now)

pub lay_out-requires-clause-fit : goal.lay_out-requires-clause-fit
lay_out-requires-clause-fit c =
    subst (λ (n : ℕ). IsFit c.args.set.now n c.in_ok-known.known) c.site_count-sites.ensures.count (c.in_ok-known.ensures.fit c.args.set.now)

pub all_ready-requires-clause-fit : goal.all_ready-requires-clause-fit
all_ready-requires-clause-fit c =
    subst (λ (n : ℕ). IsFit c.args.set.now n c.in_ok-known.known) c.site_count-sites.ensures.count (c.in_ok-known.ensures.fit c.args.set.now)

pub lay_out-requires-clause-ready : goal.lay_out-requires-clause-ready
lay_out-requires-clause-ready c =
    let set = c.args.set.now in
    let users = users_at c.in_ok-index.index in
    let sc = scope_of set c.in_ok-known.known in
    ready_all (rules_in set) (length set.sites) users c.in_ok-left.left.items sc
    c.in_ok-marks.marks (numbers_of c.in_ok-ready.ready.items) c.in_ok-index.ensures.is.used c.in_ok-marks.ensures.size
    c.in_ok-ready.ensures

pub lay_out-requires-clause-rules : goal.lay_out-requires-clause-rules
lay_out-requires-clause-rules c i m =
    let n = length c.args.set.now.rules in
    let e : c.in_ok-numbers.field-0.items ≡ below n = c.in_ok-numbers.ensures ∙ ap (λ (l : ℕ). below l) (ap length c.rules.ensures) in
    let old : Elem i c.in_ok-numbers.field-0.items = same_elem c.in_ok-left.left.items c.in_ok-numbers.field-0.items i
    (λ f. sym (c.in_ok-left.ensures.same f)) m in
    below_less i n (subst (λ (l : List ℕ). Elem i l) e old)

pub returns-clause-builds : goal.returns-clause-builds
returns-clause-builds c =
    let set = c.args.set.now in
    let R = rules_in set in
    let T = first_steps (read c.in_ok-nodes.nodes.items []) in
    let n = length set.rules in
    let e : c.in_ok-numbers.field-0.items ≡ below n = c.in_ok-numbers.ensures ∙ ap (λ (l : ℕ). below l) (ap length c.rules.ensures) in
    let start : Builds R c.in_ok-left.left.items nothing_known T =
    subst (λ (sc : Scope Constraint). Builds R c.in_ok-left.left.items sc T) (c.in_ok-known.ensures.nothing set) c.in_ok-nodes.ensures.builds in
    subst (λ (l : List ℕ). Builds R l nothing_known T) e
    (same_builds R T c.in_ok-left.left.items c.in_ok-numbers.field-0.items nothing_known (λ f. sym (c.in_ok-left.ensures.same f)) start)
