-- A tree that rules build doesn't depend on what constants are called.
use Rattle.std.proofs.Common.{◌≡◌, ℕ, List, [], ◌∷◌, Option, Some, None, Bool, map, refl, subst}
use Rattle.isle_types.specs.declared.ids.Sym.{Sym}
use Rattle.isle_meaning.specs.Held.{Held}
use Rattle.isle_trees.specs.Tree.{Steps}
use Rattle.isle_trees.specs.Rules.{Rules, Source, has}
use Rattle.isle_trees.specs.Scopes.{Scope, is_source}
use Rattle.isle_trees.specs.Builds.{Builds}
use Rattle.isle_trees.specs.Search.{IsBuildable}
use Rattle.isle_trees.specs.Values.{over_values}
use Rattle.isle_trees.proofs.Building.OtherValues.{builds_over}
use Rattle.isle_blocks.specs.declared.constraint.Constraint.{Constraint}
use Rattle.isle_blocks.specs.Constraints.{bindings_made}
use Rattle.isle_blocks.specs.RuleSets.{RulesOverSites}
use Rattle.isle_blocks.specs.Trees.Compare.{meets, same_held}
use Rattle.isle_blocks.specs.Trees.View.{field_of, id_of, keep, made_at, place_of, rules_of, tests_by}

-- whether a test makes a site asks no names
source_named : (name other : Sym → List ℕ) (s : ℕ) (c : Constraint) (o : Option (Source Constraint))
    → is_source (tests_by name) s (has c) o ≡ is_source (tests_by other) s (has c) o
source_named name other s c None = refl
source_named name other s c (Some m) = refl

kept_named : (p q : ℕ → Bool) (o : Option ℕ) → ((x : ℕ) → p x ≡ q x) → keep p o ≡ keep q o
kept_named p q None h = refl
kept_named p q (Some x) h = rw (h x) refl

mapped : {A B : Type 0} (f g : A → B) (xs : List A) → ((x : A) → f x ≡ g x) → map f xs ≡ map g xs
mapped f g [] h = refl
mapped f g (x ∷ xs) h = rw (h x, mapped f g xs h) refl

-- the fields of a test ask none
fields_named : (name other : Sym → List ℕ) (set : RulesOverSites) (s : ℕ) (c : Constraint)
    → (rules_of name set).fields s c ≡ (rules_of other set).fields s c
fields_named name other set s c =
    mapped (field_of name set s c) (field_of other set s c) (bindings_made c (id_of s))
    (λ site. kept_named _ _ (place_of site set.sites) (λ x. source_named name other s c (made_at set x)))

-- A tree is built under all names alike.
pub named_builds : (name other : Sym → List ℕ) (set : RulesOverSites) (left : List ℕ) (sc : Scope Constraint) (T : Steps Constraint)
    → Builds (rules_of name set) left sc T → Builds (rules_of other set) left sc T
named_builds name other set left sc T b =
    let over : Rules Constraint Held = over_values (rules_of name set) (meets other) same_held in
    let P : (ℕ → Constraint → List (Option ℕ)) → Type 0 = λ f. Builds (record over { fields = f }) left sc T in
    subst P (λ i. λ s c. fields_named name other set s c i) (builds_over T (rules_of name set) (meets other) same_held left sc b)

-- and so are the premises
pub named_buildable : (name other : Sym → List ℕ) (set : RulesOverSites) (n : ℕ) (rules : List ℕ) → IsBuildable (rules_of name set) n rules
    → IsBuildable (rules_of other set) n rules
named_buildable name other set n rules b = record {
  same = b.same;
  same_self = b.same_self;
  least_self = b.least_self;
  least_chain = b.least_chain;
  least_both = b.least_both;
  least_either = b.least_either;
  lower = b.lower;
  source = b.source;
  both = b.both;
  listed = b.listed;
  grouped = b.grouped;
  within = b.within;
  rights = b.rights;
  values = b.values;
}
