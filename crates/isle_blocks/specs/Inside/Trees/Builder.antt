-- What the builder of trees knows, seen as the scopes and tests of the theory.
use Rattle.std.specs.Prelude.{◌≡◌, ◌≢◌, ℕ, ◌<◌, ◌≤◌, ◌&&◌, ◌++◌, Bool, true, false, not, List, [], Option, Some, None, map, length}
use Rattle.std.specs.Prelude.{slice_get, slice_index_or, is_some}
use Rattle.std.specs.List.{flat_map}
use Rattle.std.specs.Global.{Vec}
use Rattle.isle_containers.specs.JoinedSets.{are_joined}
use Rattle.isle_meaning.specs.Held.{Held}
use Rattle.isle_blocks.specs.declared.ids.BindingId.{BindingId}
use Rattle.isle_blocks.specs.declared.binding.Binding.{Binding}
use Rattle.isle_blocks.specs.declared.binding.Binding.TheVariants as sites
use Rattle.isle_blocks.specs.declared.constraint.Constraint.{Constraint}
use Rattle.isle_blocks.specs.declared.constraint.Constraint.TheVariants as tests
use Rattle.isle_blocks.specs.declared.rule.Rule.{Rule}
use Rattle.isle_blocks.specs.declared.serializer.known.Test.{Test as TestOf}
use Rattle.isle_blocks.specs.declared.serializer.known.Test.TheVariants as code
use Rattle.isle_blocks.specs.declared.serializer.known.Key.{Key as KeyOf}
use Rattle.isle_blocks.specs.declared.serializer.known.Ranked.{Ranked as RankedOf}
use Rattle.isle_blocks.specs.declared.serializer.known.Known.{Known}
use Rattle.isle_blocks.specs.declared.serializer.index.Index.{Index}
use Rattle.isle_blocks.specs.ClosedRules.{same_site}
use Rattle.isle_blocks.specs.RuleSets.{RulesOverSites}
use Rattle.isle_blocks.specs.Rows.{numbers_of}
use Rattle.isle_blocks.specs.Inside.Trees.Marking.{AreDependents}
use Rattle.isle_blocks.specs.Trees.View.{rules_of, read_or, has_loop, test_at, opens_field}
use Rattle.isle_trees.specs.Rules.{Rules, Want, Source, Elem}
use Rattle.isle_trees.specs.Scopes.{Scope, Test, on_match, on_equal, on_loop}
use Rattle.isle_trees.specs.Builds.{Key}
use Rattle.isle_trees.specs.Ranking.{Ranked}
use Rattle.isle_trees.specs.Search.{IsIndex, IsBuildable}
use Rattle.isle_trees.specs.Rules.{below}

-- a rule set as the rules of a tree, whatever names constants have
abbrev pub rules_in : RulesOverSites → Rules Constraint Held
rules_in set = rules_of (λ s. []) set

-- what `check` gives, as far as trees are built from it
abbrev pub IsSerializable : RulesOverSites → Type 0
IsSerializable set = IsBuildable (rules_in set) (length set.sites) (below (length set.rules))

-- the code's test, key and ranked test
abbrev pub test_shown : TestOf → Test
test_shown (code.Match s) = on_match s.0
test_shown (code.Equal a b) = on_equal a.0 b.0
test_shown (code.Loop s) = on_loop s.0

abbrev pub key_shown : KeyOf → Key
key_shown k = record { count = k.count; state = k.state; kind = k.kind; first = k.first; second = k.second }

abbrev pub ranked_shown : RankedOf → Ranked
ranked_shown r = record { test = test_shown r.test; key = key_shown r.key }

abbrev pub best_shown : Option RankedOf → Option Ranked
best_shown None = None
best_shown (Some r) = Some (ranked_shown r)

-- what a rule wants of a site, where there is a rule
abbrev pub want_by : RulesOverSites → Option ℕ → ℕ → Option (Want Constraint)
want_by set None s = None
want_by set (Some i) s = (rules_in set).at i s

-- the site's want that a rule of this number has was met; sites of one label are joined; a marked site is bound
abbrev pub scope_of : RulesOverSites → Known → Scope Constraint
scope_of set k = record {
  passed = λ x. want_by set (slice_index_or k.passed x None) x;
  label = λ x. slice_index_or k.labels x x;
  emitted = λ x. slice_index_or k.emitted x false;
}

-- the lists of what is known are as long as the sites, and what is known of a want is one that a rule has
pub record IsFit (set : RulesOverSites) (n : ℕ) (k : Known) : Type 0 where
  pub passed : length k.passed ≡ n
  pub labels : length k.labels ≡ n
  pub emitted : length k.emitted ≡ n
  pub below : (x : ℕ) → x < n → slice_index_or k.labels x x < n
  pub wanted : (x i : ℕ) → slice_index_or k.passed x None ≡ Some i → (w : Want Constraint) × ((rules_in set).at i x ≡ Some w)

-- the items of the list at a place
abbrev pub items_in : {A : Type 0} → Option (Vec A) → List A
items_in None = []
items_in (Some v) = v.items

abbrev pub items_at : {A : Type 0} → List (Vec A) → ℕ → List A
items_at lists i = items_in (slice_get lists i)

-- what an index has of a rule, or of a site
abbrev pub asked_at : Index → ℕ → List ℕ
asked_at index i = numbers_of (items_at index.asked.items i)

abbrev pub dependents_at : Index → ℕ → List ℕ
dependents_at index s = numbers_of (items_at index.dependents.items s)

abbrev pub made_at : Index → ℕ → List ℕ
made_at index s = numbers_of (items_at index.made.items s)

abbrev pub users_at : Index → ℕ → List ℕ
users_at index s = items_at index.users.items s

abbrev pub classes_at : Index → ℕ → List (List BindingId)
classes_at index i = items_at index.classes.items i

abbrev pub opener_at : Index → ℕ → Option ℕ
opener_at index x = slice_index_or index.openers.items x None

-- The rule that opens a site: the first that wants what makes it. Where there is none, no rule does.
pub record AreOpeners (set : RulesOverSites) (n : ℕ) (openers : ℕ → Option ℕ) : Type 0 where
  pub first : (x i : ℕ) (m : Source Constraint) → (rules_in set).made x ≡ Some m → openers x ≡ Some i → (rules_in set).at i m.site ≡ Some m.want
  pub none : (x i : ℕ) (m : Source Constraint) → x < n → (rules_in set).made x ≡ Some m → openers x ≡ None → (rules_in set).at i m.site ≢ Some m.want

-- two sites that a rule joins stand in one of its classes
abbrev pub AreClasses : RulesOverSites → ℕ → List (List BindingId) → Type 0
AreClasses set i classes =
    (a b : BindingId) → (rules_in set).joins i a.0 b.0 ≡ true
    → are_joined same_site classes a b ≡ true

-- a site that stands in one of these classes is one that the rule joins, as far as its number is one of 16 bits
abbrev pub AreMembers : RulesOverSites → ℕ → List (List BindingId) → Type 0
AreMembers set i classes = (x : ℕ) → x < 65536 → Elem x (flat_map numbers_of classes) → (rules_in set).joins i x x ≡ true

-- what is looked up by rule and by site
pub record IsIndexOf (set : RulesOverSites) (n : ℕ) (index : Index) : Type 0 where
  pub is : IsIndex (rules_in set) n (asked_at index) (made_at index) (users_at index)
  pub dependents : AreDependents (rules_in set) n (dependents_at index)
  pub openers : AreOpeners set n (opener_at index)
  pub classes : (i : ℕ) → AreClasses set i (classes_at index i)

-- the site whose test makes this one
abbrev pub source_in : Option Binding → Option ℕ
source_in None = None
source_in (Some (sites.ConstBool val ty)) = None
source_in (Some (sites.ConstInt val ty)) = None
source_in (Some (sites.ConstPrim val)) = None
source_in (Some (sites.Argument index)) = None
source_in (Some (sites.Extractor term parameter)) = None
source_in (Some (sites.Constructor term parameters instance)) = None
source_in (Some (sites.Iterator source)) = Some source.0
source_in (Some (sites.MakeVariant ty variant fields)) = None
source_in (Some (sites.MatchVariant source variant field)) = Some source.0
source_in (Some (sites.MakeStruct ty fields)) = None
source_in (Some (sites.ExtractStruct source field)) = Some source.0
source_in (Some (sites.MakeSome inner)) = None
source_in (Some (sites.MatchSome source)) = Some source.0
source_in (Some (sites.MatchTuple source field)) = None

-- the rule's test of a site opens this one, or its loop does
abbrev pub opens_by : (Constraint → Bool) → Option Constraint → Bool
opens_by p None = false
opens_by p (Some c) = p c

abbrev pub is_some_test : Constraint → Bool
is_some_test (tests.Variant ty variant fields) = false
is_some_test (tests.Struct ty fields) = false
is_some_test (tests.ConstBool val ty) = false
is_some_test (tests.ConstInt val ty) = false
is_some_test (tests.ConstPrim val) = false
is_some_test tests.Some = true

abbrev pub loops_at : ℕ → Rule → Bool
loops_at s rule = not (is_some (test_at s rule)) && has_loop s rule

abbrev pub opens_site : Rule → Binding → Bool
opens_site rule (sites.ConstBool val ty) = false
opens_site rule (sites.ConstInt val ty) = false
opens_site rule (sites.ConstPrim val) = false
opens_site rule (sites.Argument index) = false
opens_site rule (sites.Extractor term parameter) = false
opens_site rule (sites.Constructor term parameters instance) = false
opens_site rule (sites.Iterator source) = loops_at source.0 rule
opens_site rule (sites.MakeVariant ty variant fields) = false
opens_site rule (sites.MatchVariant source variant field) = opens_by (opens_field (Some variant.0) field.0) (test_at source.0 rule)
opens_site rule (sites.MakeStruct ty fields) = false
opens_site rule (sites.ExtractStruct source field) = opens_by (opens_field None field.0) (test_at source.0 rule)
opens_site rule (sites.MakeSome inner) = false
opens_site rule (sites.MatchSome source) = opens_by is_some_test (test_at source.0 rule)
opens_site rule (sites.MatchTuple source field) = false

abbrev pub opens_at : RulesOverSites → ℕ → ℕ → Bool
opens_at set i x = read_or false (λ rule. read_or false (opens_site rule) (slice_get set.sites x)) (slice_get set.rules i)

-- the sites of a rule's tests
abbrev pub tested_in : Rule → List (List BindingId) → List ℕ
tested_in rule classes =
    (map (λ e. e.0.0) rule.constraints ++ numbers_of rule.iterators) ++ flat_map numbers_of classes

-- each list is ascending, though a number may stand twice
abbrev pub IsRising : List ℕ → Type 0
IsRising xs = (k l d : ℕ) → k < l → l < length xs → slice_index_or xs k d ≤ slice_index_or xs l d
