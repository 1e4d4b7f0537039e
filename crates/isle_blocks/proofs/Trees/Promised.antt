-- What is promised of a rule set's tree, from the nodes that are laid out.
use Rattle.std.proofs.Common.{◌≡◌, ◌⊎◌, zero, suc, List, [], ◌∷◌, Option, Some, None, Contains, length, refl, sym, ap, subst, arith, inl, inr}
use Rattle.std.specs.List.{cons_option}
use Rattle.std.proofs.lemmas.Option.{same_Some}
use Rattle.isle_trees.specs.Tree.{Steps}
use Rattle.isle_trees.specs.Builds.{Builds}
use Rattle.isle_trees.specs.Scopes.{nothing_known}
use Rattle.isle_trees.proofs.Whole.{weighed_buildable, whole_ascends, whole_asked, whole_steps}
use Rattle.isle_trees.proofs.Building.Lists.{below_less, elem_below}
use Rattle.isle_blocks.specs.declared.ids.BindingId.{BindingId}
use Rattle.isle_blocks.specs.declared.constraint.Constraint.{Constraint}
use Rattle.isle_blocks.specs.declared.serializer.node.Node.{Node}
use Rattle.isle_blocks.specs.declared.serializer.node.Node.TheVariants as nodes
use Rattle.isle_blocks.specs.DefinedSets.{facts_by, name_of, rules_by}
use Rattle.isle_blocks.specs.RuleSets.{RulesOverSites}
use Rattle.isle_blocks.specs.Inside.Trees.Builder.{IsSerializable, rules_in}
use Rattle.isle_blocks.specs.Trees.Nodes.{first_steps, read}
use Rattle.isle_blocks.specs.Trees.View.{rules_of}
use Rattle.isle_blocks.specs.Trees.Promises.{all_rules, BindsWhatIsAsked, ChoosesAsRules, HasArmsInOrder, IsBuilt, IsCheckedSet, IsReturnOf, IsShort, ReturnsItsRules}
use Rattle.isle_blocks.specs.Trees.Shown.{block_of, BlockShown, Returned, return_of, returns_of}
use Rattle.isle_blocks.specs.Inside.Trees.Work.{AreOfRules, IsOfRule}
use Rattle.isle_blocks.proofs.Building.Naming.{name_by_injective}
use Rattle.isle_blocks.proofs.Trees.Buildable.{is_buildable}
use Rattle.isle_blocks.proofs.Trees.Chosen.{walks_choose}
use Rattle.isle_blocks.proofs.Trees.Defined.{definitions_have_priorities}
use Rattle.isle_blocks.proofs.Trees.Named.{named_buildable, named_builds}

-- A tree can be built of a rule set that `check` gives.
pub checked_buildable : (set : RulesOverSites) → IsCheckedSet set → IsSerializable set
checked_buildable set h =
    let d = h.defined in
    named_buildable (name_of h.env d) (λ s. []) set (length set.sites) _
    (is_buildable (name_of h.env d) (facts_by h.env d) h.env.rules (rules_by h.env d) h.term.0 set (name_by_injective d.tyenv.names d.once) (h.is.1))

-- what a node returns is its rule's
node_returns : (set : RulesOverSites) (n : Node) (r : Returned) → return_of n ≡ Some r → IsOfRule set n → IsReturnOf set r
node_returns set nodes.End r e h = cc
node_returns set nodes.NoArm r e h = cc
node_returns set (nodes.Match binds source) r e h = cc
node_returns set (nodes.Equal binds a b) r e h = cc
node_returns set (nodes.Loop binds result) r e h = cc
node_returns set (nodes.Return binds rule pos result) r e h =
    subst (IsReturnOf set) (same_Some (record { rule = rule; pos = pos; result = result.0 }) r e) (h.0, h.1, h.2, ap (λ (id : BindingId). id.0) h.3)
node_returns set (nodes.Arm constraint bindings) r e h = cc

-- what stands in a list is its first item, or stands behind it
first_or : (o : Option Returned) (xs : List Returned) (r : Returned) → Contains (cons_option o xs) r → (o ≡ Some r) ⊎ Contains xs r
first_or None xs r c = inr c
first_or (Some x) xs r (zero, within, is) = inl (ap Some is)
first_or (Some x) xs r (suc k, within, is) = inr (k, omega arith, is)

-- What nodes return is their rules'.
pub returns_told : (set : RulesOverSites) (ns : List Node) → AreOfRules set ns → (r : Returned) → Contains (returns_of ns) r → IsReturnOf set r
returns_told set [] told r (k, within, is) = absurd (omega arith)
returns_told set (n ∷ ns) told r m = elim (first_or (return_of n) (returns_of ns) r m) [
  | inl e ↦ node_returns set n r e (told n (inl refl))
  | inr c ↦ returns_told set ns (λ x h. told x (inr h)) r c
]

-- What nodes show that were laid out is built under every name.
pub built_from : (set : RulesOverSites) (block : BlockShown) (ns : List Node) → block ≡ block_of ns
    → Builds (rules_in set) (all_rules set) nothing_known (first_steps (read ns [])) → IsBuilt set block
built_from set block ns e b name =
    let P : Steps Constraint → Type 0 = λ t. Builds (rules_in set) (all_rules set) nothing_known t in
    named_builds (λ s. []) name set (all_rules set) nothing_known block.tree (subst P (sym (ap (λ (x : BlockShown). x.tree) e)) b)

pub built_returns : (set : RulesOverSites) (block : BlockShown) (ns : List Node) → block ≡ block_of ns → AreOfRules set ns → ReturnsItsRules set block
built_returns set block ns e told r m =
    returns_told set ns told r (subst (λ (l : List Returned). Contains l r) (ap (λ (x : BlockShown). x.returns) e) m)

-- A tree that is built is short, asks what rules ask, and its arms ascend.
pub built_short : (set : RulesOverSites) (block : BlockShown) → IsSerializable set → IsBuilt set block → IsShort set block
built_short set block good built name held =
    whole_steps (rules_of name set) (all_rules set) block.tree held
    (weighed_buildable (rules_of name set) (length set.sites) (all_rules set)
    (named_buildable (λ s. []) name set (length set.sites) (all_rules set) good))
    (built name)

pub built_asks : (set : RulesOverSites) (block : BlockShown) → IsSerializable set → IsBuilt set block → BindsWhatIsAsked set block
built_asks set block good built name = whole_asked (rules_of name set) (all_rules set) block.tree good.both (built name)

pub built_ascends : (set : RulesOverSites) (block : BlockShown) → IsSerializable set → IsBuilt set block → HasArmsInOrder set block
built_ascends set block good built name = whole_ascends (rules_of name set) (all_rules set) block.tree good.same_self (built name)

-- The walk of a tree that is built chooses as the rules do.
pub built_chooses : (set : RulesOverSites) (block : BlockShown) → IsBuilt set block → ChoosesAsRules set block
built_chooses set block built env d term h c e args both many covers =
    walks_choose (name_of env d) (facts_by env d) env.rules (rules_by env d) term set h (definitions_have_priorities env d) _
    (λ i l. elem_below i (length set.rules) l) (λ i m. below_less i (length set.rules) m) block.tree (built (name_of env d)) c e args both many covers
