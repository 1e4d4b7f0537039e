-- A rule set as what trees speak of: sites by their numbers, and each rule's wants of them.
use Rattle.std.specs.Prelude.{◌&&◌, ◌==◌, ◌++◌, ℕ, zero, suc, pos, Bool, true, false, List, [], ◌∷◌, map, Option, Some, None, slice_get}
use Rattle.std.specs.Prelude.{if◌then◌else◌, nat_lt, length}
use Rattle.std.specs.List.{list_any}
use Rattle.std.specs.Option.{option_map}
use Rattle.std.specs.BTreeMap.{is_at}
use Rattle.std.specs.Map.{lookup, keys_of}
use Rattle.std.specs.Ordering.{is_le}
use Rattle.isle_containers.specs.JoinedSets.{are_joined}
use Rattle.isle_types.specs.declared.ids.Sym.{Sym}
use Rattle.isle_meaning.specs.Held.{Held}
use Rattle.isle_blocks.specs.declared.ids.BindingId.{BindingId}
use Rattle.isle_blocks.specs.declared.binding.Binding.{Binding}
use Rattle.isle_blocks.specs.declared.binding.Binding.TheVariants as sites
use Rattle.isle_blocks.specs.declared.constraint.Constraint.{Constraint}
use Rattle.isle_blocks.specs.declared.constraint.Constraint.TheVariants as tests
use Rattle.isle_blocks.specs.declared.rule.Rule.{Rule}
use Rattle.isle_blocks.specs.contracts.binding.BindingPartialEq.TheImpl as binding_of
use Rattle.isle_blocks.specs.contracts.constraint.ConstraintPartialEq.TheImpl as constraint_of
use Rattle.isle_blocks.specs.Tables.{sources_of}
use Rattle.isle_blocks.specs.Rows.{numbers_of}
use Rattle.isle_blocks.specs.Constraints.{bindings_made}
use Rattle.isle_blocks.specs.Orders.{constraint_order}
use Rattle.isle_blocks.specs.Rules.{site_cmp}
use Rattle.isle_blocks.specs.ClosedRules.{same_site}
use Rattle.isle_blocks.specs.RuleSets.{RulesOverSites}
use Rattle.isle_trees.specs.Rules.{Tests, Want, has, one_value, Source, Rules}
use Rattle.isle_trees.specs.Scopes.{is_source}
use Rattle.isle_blocks.specs.Trees.Compare.{same_held, meets}

-- the site of a number
abbrev pub id_of : ℕ → BindingId
id_of s = record { 0 = s }

-- whether two sites are the same, as `==` says
abbrev pub same_binding : Binding → Binding → Bool
same_binding = (binding_of.ghosts).eq

-- whether two tests are the same, as `==` says
abbrev pub same_test : Constraint → Constraint → Bool
same_test = (constraint_of.ghosts).eq

-- what is read of something that may not be there
abbrev pub read_or : {A B : Type 0} → B → (A → B) → Option A → B
read_or b f None = b
read_or b f (Some x) = f x

-- the first of the two that is there
abbrev pub or_else : {A : Type 0} → Option A → Option A → Option A
or_else None o = o
or_else (Some x) o = Some x

-- an item that passes, and nothing of another
abbrev pub keep : {A : Type 0} → (A → Bool) → Option A → Option A
keep p None = None
keep p (Some x) = if p x then Some x else None

-- a rule's test of a site
abbrev pub test_at : ℕ → Rule → Option Constraint
test_at s rule = lookup (is_at (site_cmp (id_of s))) rule.constraints

-- whether a rule takes one value of the site, a multi call
abbrev pub has_loop : ℕ → Rule → Bool
has_loop s rule = list_any (same_site (id_of s)) rule.iterators

-- what a rule wants of a site: its test, or one value of a multi call
abbrev pub want_or : Bool → Option Constraint → Option (Want Constraint)
want_or loops (Some c) = Some (has c)
want_or true None = Some one_value
want_or false None = None

-- what a rule wants of the site of a number
abbrev pub want_at : ℕ → Rule → Option (Want Constraint)
want_at s rule = want_or (has_loop s rule) (test_at s rule)

-- whether a rule wants that two sites are equal
abbrev pub rule_joins : ℕ → ℕ → Rule → Bool
rule_joins a b rule = are_joined same_site rule.equals (id_of a) (id_of b)

-- the first number of a site
abbrev pub place_of : Binding → List Binding → Option ℕ
place_of b [] = None
place_of b (x ∷ xs) = if same_binding x b then Some 0 else option_map suc (place_of b xs)

-- the test opens the field: of a variant, or of a struct where no variant is given
abbrev pub opens_field : Option ℕ → ℕ → Constraint → Bool
opens_field (Some k) i (tests.Variant ty variant fields) = (variant.0 == k) && nat_lt i fields.0
opens_field None i (tests.Struct ty fields) = nat_lt i fields.0
opens_field kind i c = false

-- the first test of a site, rule after rule, that opens a field
abbrev pub first_opening : Option ℕ → ℕ → ℕ → List Rule → Option Constraint
first_opening kind i s [] = None
first_opening kind i s (rule ∷ rules) = or_else (keep (opens_field kind i) (test_at s rule)) (first_opening kind i s rules)

-- a test that opens the field, of no rule where none opens it
abbrev pub any_opening : Option ℕ → ℕ → Constraint
any_opening (Some k) i = tests.Variant (record { 0 = 0 }) (record { 0 = k }) (record { 0 = suc i })
any_opening None i = tests.Struct (record { 0 = 0 }) (record { 0 = suc i })

-- a test that opens the field of a site: the first that a rule has, if one does
abbrev pub opening : List Rule → Option ℕ → ℕ → ℕ → Constraint
opening rules kind s i = read_or (any_opening kind i) (λ c. c) (first_opening kind i s rules)

-- the test that makes a site: what a rule wants of its source
abbrev pub made_by : List Rule → Binding → Option (Source Constraint)
made_by rules (sites.ConstBool val ty) = None
made_by rules (sites.ConstInt val ty) = None
made_by rules (sites.ConstPrim val) = None
made_by rules (sites.Argument index) = None
made_by rules (sites.Extractor term parameter) = None
made_by rules (sites.Constructor term parameters instance) = None
made_by rules (sites.Iterator source) = Some (record { site = source.0; want = one_value })
made_by rules (sites.MakeVariant ty variant fields) = None
made_by rules (sites.MatchVariant source variant field) =
    Some (record { site = source.0; want = has (opening rules (Some variant.0) source.0 field.0) })
made_by rules (sites.MakeStruct ty fields) = None
made_by rules (sites.ExtractStruct source field) = Some (record { site = source.0; want = has (opening rules None source.0 field.0) })
made_by rules (sites.MakeSome inner) = None
made_by rules (sites.MatchSome source) = Some (record { site = source.0; want = has tests.Some })
made_by rules (sites.MatchTuple source field) = None

-- not 0, as the instance of an impure call is
abbrev pub is_positive : ℕ → Bool
is_positive zero = false
is_positive (suc n) = true

-- whether a site is an impure call
abbrev pub is_impure : Binding → Bool
is_impure (sites.ConstBool val ty) = false
is_impure (sites.ConstInt val ty) = false
is_impure (sites.ConstPrim val) = false
is_impure (sites.Argument index) = false
is_impure (sites.Extractor term parameter) = false
is_impure (sites.Constructor term parameters instance) = is_positive instance
is_impure (sites.Iterator source) = false
is_impure (sites.MakeVariant ty variant fields) = false
is_impure (sites.MatchVariant source variant field) = false
is_impure (sites.MakeStruct ty fields) = false
is_impure (sites.ExtractStruct source field) = false
is_impure (sites.MakeSome inner) = false
is_impure (sites.MatchSome source) = false
is_impure (sites.MatchTuple source field) = false

-- whether a site is a call of a constructor
abbrev pub is_constructor : Binding → Bool
is_constructor (sites.ConstBool val ty) = false
is_constructor (sites.ConstInt val ty) = false
is_constructor (sites.ConstPrim val) = false
is_constructor (sites.Argument index) = false
is_constructor (sites.Extractor term parameter) = false
is_constructor (sites.Constructor term parameters instance) = true
is_constructor (sites.Iterator source) = false
is_constructor (sites.MakeVariant ty variant fields) = false
is_constructor (sites.MatchVariant source variant field) = false
is_constructor (sites.MakeStruct ty fields) = false
is_constructor (sites.ExtractStruct source field) = false
is_constructor (sites.MakeSome inner) = false
is_constructor (sites.MatchSome source) = false
is_constructor (sites.MatchTuple source field) = false

-- the site of an option that the site is the content of
abbrev pub option_site : Binding → Option ℕ
option_site (sites.ConstBool val ty) = None
option_site (sites.ConstInt val ty) = None
option_site (sites.ConstPrim val) = None
option_site (sites.Argument index) = None
option_site (sites.Extractor term parameter) = None
option_site (sites.Constructor term parameters instance) = None
option_site (sites.Iterator source) = None
option_site (sites.MakeVariant ty variant fields) = None
option_site (sites.MatchVariant source variant field) = None
option_site (sites.MakeStruct ty fields) = None
option_site (sites.ExtractStruct source field) = None
option_site (sites.MakeSome inner) = None
option_site (sites.MatchSome source) = Some source.0
option_site (sites.MatchTuple source field) = None

-- whether there are parts
abbrev pub has_parts : List BindingId → Bool
has_parts [] = false
has_parts (x ∷ xs) = true

-- it is bound where it is first used, and not written again where it is used
abbrev pub is_bound : Binding → Bool
is_bound (sites.ConstBool val ty) = true
is_bound (sites.ConstInt val ty) = false
is_bound (sites.ConstPrim val) = false
is_bound (sites.Argument index) = false
is_bound (sites.Extractor term parameter) = true
is_bound (sites.Constructor term parameters instance) = true
is_bound (sites.Iterator source) = true
is_bound (sites.MakeVariant ty variant fields) = has_parts fields
is_bound (sites.MatchVariant source variant field) = true
is_bound (sites.MakeStruct ty fields) = has_parts fields
is_bound (sites.ExtractStruct source field) = true
is_bound (sites.MakeSome inner) = true
is_bound (sites.MatchSome source) = true
is_bound (sites.MatchTuple source field) = false

-- an impure call before its content, where it has one
abbrev pub with_option : Option ℕ → ℕ → List ℕ
with_option None s = s ∷ []
with_option (Some o) s = o ∷ s ∷ []

-- an impure call of a table before its content, where the site is that content
abbrev pub call_at : List Binding → BindingId → List ℕ
call_at table id = with_option (read_or None option_site (slice_get table id.0)) id.0

-- the impure calls of sites, each before its content
abbrev pub calls_at : List Binding → List BindingId → List ℕ
calls_at table [] = []
calls_at table (id ∷ ids) = call_at table id ++ calls_at table ids

-- the tests of sites, where symbols have these names: their order, and what passes them
abbrev pub tests_by : (Sym → List ℕ) → Tests Constraint Held
tests_by name = record { same = same_test; at_most = λ c d. is_le (constraint_order c d); passes = meets name; alike = same_held }

-- what makes the site of a number
abbrev pub made_at : RulesOverSites → ℕ → Option (Source Constraint)
made_at set s = read_or None (made_by set.rules) (slice_get set.sites s)

-- the number of a field that the test makes
abbrev pub field_of : (Sym → List ℕ) → RulesOverSites → ℕ → Constraint → Binding → Option ℕ
field_of name set s c site = keep (λ x. is_source (tests_by name) s (has c) (made_at set x)) (place_of site set.sites)

-- a rule set as rules over numbered sites, where symbols have these names
abbrev pub rules_of : (Sym → List ℕ) → RulesOverSites → Rules Constraint Held
rules_of name set = record {
  tests = tests_by name;
  at = λ i s. read_or None (want_at s) (slice_get set.rules i);
  joins = λ i a b. read_or false (rule_joins a b) (slice_get set.rules i);
  prio = λ i. read_or (pos 0) (λ rule. rule.prio) (slice_get set.rules i);
  calls = λ i. read_or [] (λ rule. calls_at set.sites rule.impure) (slice_get set.rules i);
  result = λ i. read_or (length set.sites) (λ rule. rule.result.0) (slice_get set.rules i);
  parts = λ s. read_or [] (λ site. numbers_of (sources_of site)) (slice_get set.sites s);
  made = made_at set;
  effect = λ s. read_or false is_impure (slice_get set.sites s);
  content = λ s. read_or false (λ o. read_or false is_constructor (slice_get set.sites o))
      (read_or None option_site (slice_get set.sites s));
  stands = λ s. read_or false is_bound (slice_get set.sites s);
  value = λ s. place_of (sites.Iterator (id_of s)) set.sites;
  fields = λ s c. map (field_of name set s c) (bindings_made c (id_of s));
  demands = λ i. read_or [] (λ rule. numbers_of (keys_of rule.constraints) ++ numbers_of rule.iterators) (slice_get set.rules i);
  classes = λ i. read_or [] (λ rule. map numbers_of rule.equals) (slice_get set.rules i);
  loops = λ i. read_or [] (λ rule. numbers_of rule.iterators) (slice_get set.rules i);
}
