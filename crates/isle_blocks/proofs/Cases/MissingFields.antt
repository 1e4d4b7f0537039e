-- The rule (f x @ (A.V _ _) x): its second argument is equal to the first, and lacks the fields that the first has.
use Rattle.std.proofs.Common.{◌≡◌, ◌<◌, ◌+◌, ◌*◌, ℕ, zero, suc, pos, true, false, List, [], ◌∷◌, Option, None, Some, slice_get}
use Rattle.std.proofs.Common.{codes, refl, sym, ap, subst, arith}
use Rattle.std.proofs.lemmas.Option.{slice_get_within}
use Rattle.isle_ast.specs.declared.pos.Pos.{Pos}
use Rattle.isle_types.specs.Environment.{NamedType, no_fields, named_fields, enum}
use Rattle.isle_rules.specs.TypedRules.{typed_bind, typed_var, typed_term, typed_wildcard, no_typed, more_typed, built_int, TypedRule}
use Rattle.isle_rules.specs.Signatures.{by_rules, variant_form, declared_form, Declared}
use Rattle.isle_meaning.specs.Facts.{TermFacts, facts_of}
use Rattle.isle_meaning.specs.Sites.{argument, match_variant}
use Rattle.isle_meaning.specs.Needs.{args_needs}
use Rattle.isle_meaning.specs.Demands.{Demand, constrained, equal, variant_constraint, demands_of}
use Rattle.isle_containers.proofs.Lists.{slice_get-kept}
use Rattle.isle_blocks.specs.declared.binding.Binding.{Binding}
use Rattle.isle_blocks.specs.declared.binding.Binding.TheVariants as sites
use Rattle.isle_blocks.specs.declared.constraint.Constraint.{Constraint}
use Rattle.isle_blocks.specs.declared.constraint.Constraint.TheVariants as tests
use Rattle.isle_blocks.specs.Tables.{IsAbsent}
use Rattle.isle_blocks.specs.Inside.ClosureFields.{field_binding, Opens}
use Rattle.isle_blocks.specs.Inside.ClosureStates.{HasOwn, IsMissingField, Grows, Still, Added}

abbrev here : Pos
here = record { file = 0; offset = 0 }

-- (type A (enum (W) (V (one u8) (other u8))))
abbrev type_a : NamedType
type_a = record {
  name = codes "A";
  is_extern = false;
  is_nodebug = false;
  shape = enum (record { name = codes "W"; fields = no_fields; pos = here }
      ∷ record { name = codes "V"; fields = named_fields ((codes "one", 1) ∷ (codes "other", 1) ∷ []); pos = here } ∷ []);
  pos = here;
}

-- (decl f (A A) u8) and the terms of the variants
abbrev declared : Declared
declared = record {
  types = record { types = type_a ∷ []; constants = [] };
  terms = record {
    name = codes "f";
    args = 13 ∷ 13 ∷ [];
    ret = 1;
    form = declared_form (record { pure = false; multi = false; partial = false; rec = false }) (Some by_rules) None;
    pos = here;
  } ∷ record { name = codes "A.W"; args = []; ret = 13; form = variant_form 0; pos = here }
      ∷ record { name = codes "A.V"; args = 1 ∷ 1 ∷ []; ret = 13; form = variant_form 1; pos = here } ∷ [];
  conversions = [];
  expands = true;
}

abbrev pub facts : TermFacts
facts = facts_of declared

-- (rule (f x @ (A.V _ _) x) 0)
abbrev pub rule : TypedRule
rule = record {
  root = 0;
  args = more_typed (typed_bind 13 0 (typed_term 13 2 (more_typed (typed_wildcard 1) (more_typed (typed_wildcard 1) no_typed))))
      (more_typed (typed_var 13 0) no_typed);
  iflets = [];
  right = built_int 1 (pos 0);
  variables = record { name = codes "x"; type = 13 } ∷ [];
  priority = pos 0;
  pos = here;
  name = None;
}

-- what it demands
abbrev pub wanted : List Demand
wanted = constrained (argument 0) (variant_constraint 13 1 2) ∷ equal (argument 1) (argument 0) ∷ []

pub demanded_by_rule : demands_of facts rule ≡ wanted
demanded_by_rule = refl

-- and the sites that its patterns need
pub needed_by_patterns : args_needs facts rule.args 0
    ≡ argument 0 ∷ match_variant (argument 0) 1 0 ∷ match_variant (argument 0) 1 1 ∷ argument 1 ∷ []
needed_by_patterns = refl

-- those in a table
abbrev pub arg : ℕ → Binding
arg i = sites.Argument (record { 0 = i })

abbrev pub v_field : ℕ → ℕ → Binding
v_field source i = field_binding (Some 1) source i

abbrev pub old : List Binding
old = arg 0 ∷ v_field 0 0 ∷ v_field 0 1 ∷ arg 1 ∷ []

abbrev pub grown : List Binding
grown = arg 0 ∷ v_field 0 0 ∷ v_field 0 1 ∷ arg 1 ∷ v_field 3 0 ∷ []

-- with the fields of the second argument
abbrev pub table : List Binding
table = arg 0 ∷ v_field 0 0 ∷ v_field 0 1 ∷ arg 1 ∷ v_field 3 0 ∷ v_field 3 1 ∷ []

abbrev pub test : Constraint
test = tests.Variant (record { 0 = 13 }) (record { 0 = 1 }) (record { 0 = 2 })

-- the first argument's own test; the second is of its class
abbrev pub own : List (Option Constraint)
own = Some test ∷ None ∷ None ∷ None ∷ []

abbrev pub first_classes : List ℕ
first_classes = 0 ∷ 1 ∷ 2 ∷ 0 ∷ []

abbrev pub next_classes : List ℕ
next_classes = 0 ∷ 1 ∷ 2 ∷ 0 ∷ 1 ∷ []

-- each field in the class of its like field
abbrev pub classes : List ℕ
classes = 0 ∷ 1 ∷ 2 ∷ 0 ∷ 1 ∷ 2 ∷ []

-- the place of each site
abbrev pub place_of : Option Binding → ℕ
place_of (Some (sites.Argument index)) = 3 * index.0
place_of (Some (sites.MatchVariant source variant field)) = suc (source.0 + field.0)
place_of _ = 6

pub placed : (k : ℕ) (site : Binding) → slice_get table k ≡ Some site → place_of (Some site) ≡ k
placed zero site e = sym (ap place_of e)
placed (suc zero) site e = sym (ap place_of e)
placed (suc (suc zero)) site e = sym (ap place_of e)
placed (suc (suc (suc zero))) site e = sym (ap place_of e)
placed (suc (suc (suc (suc zero)))) site e = sym (ap place_of e)
placed (suc (suc (suc (suc (suc zero))))) site e = sym (ap place_of e)
placed (suc (suc (suc (suc (suc (suc k)))))) site e = absurd cc

old_lacks : IsAbsent old (v_field 3 0)
old_lacks k e = let at : 4 ≡ k = placed k (v_field 3 0) (slice_get-kept old (v_field 3 0 ∷ v_field 3 1 ∷ []) k (v_field 3 0) e) in
    let within : k < 4 = slice_get_within old k (v_field 3 0) e in omega arith

grown_lacks : IsAbsent grown (v_field 3 1)
grown_lacks k e = let at : 5 ≡ k = placed k (v_field 3 1) (slice_get-kept grown (v_field 3 1 ∷ []) k (v_field 3 1) e) in
    let within : k < 5 = slice_get_within grown k (v_field 3 1) e in omega arith

-- both fields of the second argument are missing
pub first_missing : IsMissingField own old first_classes 3 (Some 1) 0 1
first_missing = record { site_in = omega arith; opened = (test, refl, (refl, omega arith)); missing = old_lacks; like = refl }

pub second_missing : IsMissingField own grown next_classes 3 (Some 1) 1 2
second_missing = record { site_in = omega arith; opened = (test, refl, (refl, omega arith)); missing = grown_lacks; like = refl }

-- and they are added, each in the class of its like field
pub grows : Grows own old first_classes table classes
grows = Added 3 (Some 1) 1 2 (Added 3 (Some 1) 0 1 Still first_missing) second_missing

-- V has no third field
pub no_third : (f : ℕ) → IsMissingField own table classes 3 (Some 1) 2 f → ⊥
no_third f missing = let (c, has, opened) = missing.opened in third c has opened
  where
    third : (c : Constraint) → HasOwn own 0 c → Opens c (Some 1) 2 → ⊥
    third c has opened = let same : c ≡ test = cc in
        let (kind, few) = subst (λ (t : Constraint). Opens t (Some 1) 2) same opened in omega arith

-- and a field that stands isn't missing
pub not_missing : (f : ℕ) → IsMissingField own table classes 3 (Some 1) 1 f → ⊥
not_missing f missing = missing.missing 5 refl
