-- The rule (f (and x (L.Box (L.Box x)))): its argument would be a field of a field of itself, so it never matches.
use Rattle.std.proofs.Common.{◌≡◌, ◌<◌, inl, inr, ℕ, pos, true, false, List, [], ◌∷◌, Option, None, Some, codes, refl, sym, subst, ◌∙◌, arith}
use Rattle.isle_ast.specs.declared.pos.Pos.{Pos}
use Rattle.isle_types.specs.Environment.{NamedType, no_fields, named_fields, enum}
use Rattle.isle_rules.specs.TypedRules.{TypedPattern, typed_bind, typed_var, typed_term, typed_wildcard, typed_and, no_typed, more_typed, built_int}
use Rattle.isle_rules.specs.TypedRules.{TypedRule}
use Rattle.isle_rules.specs.Signatures.{by_rules, variant_form, declared_form, Declared}
use Rattle.isle_meaning.specs.Facts.{TermFacts, facts_of}
use Rattle.isle_meaning.specs.Sites.{Site, argument, match_variant}
use Rattle.isle_meaning.specs.Demands.{Demand, constrained, equal, variant_constraint, demands_of, Among}
use Rattle.isle_meaning.specs.Demands as meaning
use Rattle.isle_meaning.specs.Derived.{Derived, demanded, flipped, chained, shared, like_variant, like_struct, of_variant, directly, further_in}
use Rattle.isle_blocks.specs.declared.binding.Binding.{Binding}
use Rattle.isle_blocks.specs.declared.binding.Binding.TheVariants as sites
use Rattle.isle_blocks.specs.declared.constraint.Constraint.{Constraint}
use Rattle.isle_blocks.specs.declared.constraint.Constraint.TheVariants as tests
use Rattle.isle_blocks.specs.declared.ids.BindingId.{BindingId}
use Rattle.isle_blocks.specs.Inside.ClosureFields.{field_binding}
use Rattle.isle_blocks.specs.Inside.ClosureStates.{IsChildAt, Once, Further, HasLoop, IsRanked}
use Rattle.isle_blocks.specs.Closure.{ClosesTo}
use Rattle.isle_blocks.specs.RuleFaults.{NeverMatches, MayMatch}

abbrev here : Pos
here = record { file = 0; offset = 0 }

-- (type L (enum (Box (inner L)) (End)))
abbrev type_l : NamedType
type_l = record {
  name = codes "L";
  is_extern = false;
  is_nodebug = false;
  shape = enum (record { name = codes "Box"; fields = named_fields ((codes "inner", 13) ∷ []); pos = here }
      ∷ record { name = codes "End"; fields = no_fields; pos = here } ∷ []);
  pos = here;
}

-- (decl f (L) u8) and the terms of the variants
abbrev declared : Declared
declared = record {
  types = record { types = type_l ∷ []; constants = [] };
  terms = record {
    name = codes "f";
    args = 13 ∷ [];
    ret = 1;
    form = declared_form (record { pure = false; multi = false; partial = false; rec = false }) (Some by_rules) None;
    pos = here;
  } ∷ record { name = codes "L.Box"; args = 13 ∷ []; ret = 13; form = variant_form 0; pos = here }
      ∷ record { name = codes "L.End"; args = []; ret = 13; form = variant_form 1; pos = here } ∷ [];
  conversions = [];
  expands = true;
}

abbrev facts : TermFacts
facts = facts_of declared

abbrev rule_of : TypedPattern → TypedRule
rule_of pattern = record {
  root = 0;
  args = more_typed pattern no_typed;
  iflets = [];
  right = built_int 1 (pos 0);
  variables = record { name = codes "x"; type = 13 } ∷ [];
  priority = pos 0;
  pos = here;
  name = None;
}

abbrev box : TypedPattern → TypedPattern
box inner = typed_term 13 1 (more_typed inner no_typed)

-- (rule (f (and x (L.Box (L.Box x)))) 0)
abbrev within_itself : TypedRule
within_itself = rule_of (typed_and 13 (more_typed (typed_bind 13 0 (typed_wildcard 13)) (more_typed (box (box (typed_var 13 0))) no_typed)))

-- (rule (f (L.Box (L.Box x))) 0)
abbrev boxed : TypedRule
boxed = rule_of (box (box (typed_bind 13 0 (typed_wildcard 13))))

abbrev is_box : meaning.Constraint
is_box = variant_constraint 13 0 1

-- the argument, its field and the field of that
abbrev whole : Site
whole = argument 0

abbrev field : Site
field = match_variant whole 0 0

abbrev inner : Site
inner = match_variant field 0 0

-- each of two boxes is demanded, and that the innermost value is the whole one
abbrev wanted : List Demand
wanted = constrained whole is_box ∷ constrained field is_box ∷ equal inner whole ∷ []

pub demanded_within_itself : demands_of facts within_itself ≡ wanted
demanded_within_itself = refl

pub never_matches : NeverMatches facts within_itself
never_matches = inr (record {
  site = whole;
  part = inner;
  inside = further_in (directly (of_variant {ty = 13} {n = 1} (demanded (inl refl)) (omega arith)))
      (of_variant {ty = 13} {n = 1} (demanded (inr (inl refl))) (omega arith));
  same = flipped (demanded (inr (inr (inl refl))));
})

-- without the equality such values are
abbrev boxes : List Demand
boxes = constrained whole is_box ∷ constrained field is_box ∷ []

pub demanded_boxes : demands_of facts boxed ≡ boxes
demanded_boxes = refl

abbrev Says : Demand → Type 0
Says (constrained s c) = c ≡ is_box
Says (equal s u) = ⊥

said : (d : Demand) → Derived (Among boxes) d → Says d
said d (demanded (inl e)) = subst Says (sym e) refl
said d (demanded (inr (inl e))) = subst Says (sym e) refl
said d (demanded (inr (inr none))) = absurd none
said d (flipped {s} {u} h) = said (equal s u) h
said d (chained {s} {u} {w} h g) = said (equal s u) h
said d (shared {s} {u} {c} h g) = absurd (said (equal s u) h)
said d (like_variant {s} {u} h g less) = said (equal s u) h
said d (like_struct {s} {u} h g less) = said (equal s u) h

pub boxed_may_match : MayMatch facts boxed
boxed_may_match (inl x) = x.differ (said (constrained x.site x.one) x.has_one ∙ sym (said (constrained x.site x.other) x.has_other))
boxed_may_match (inr x) = said (equal x.site x.part) x.same

-- by numbers: the three sites, the tests of the first two, and that the third is equal to the first
abbrev id : ℕ → BindingId
id k = record { 0 = k }

abbrev box_field : ℕ → Binding
box_field source = field_binding (Some 0) source 0

abbrev table : List Binding
table = sites.Argument (record { 0 = 0 }) ∷ box_field 0 ∷ box_field 1 ∷ []

abbrev test : Constraint
test = tests.Variant (record { 0 = 13 }) (record { 0 = 0 }) (record { 0 = 1 })

-- they close to nothing
pub closes_to_nothing : ClosesTo table ((id 0, test) ∷ (id 1, test) ∷ []) ((id 2, id 0) ∷ []) table None
closes_to_nothing = (
  λ name injective. inr (record {
    site = whole;
    part = inner;
    inside = further_in (directly (of_variant {ty = 13} {n = 1} (demanded (0, (0, omega arith, refl), refl)) (omega arith)))
        (of_variant {ty = 13} {n = 1} (demanded (1, (1, omega arith, refl), (0, refl, refl))) (omega arith));
    same = flipped (demanded (2, 0, (0, omega arith, refl), (1, refl, (0, refl, refl)), refl));
  }),
  refl,
)

-- in the classes that are merged the first site reaches itself
abbrev own : List (Option Constraint)
own = Some test ∷ Some test ∷ None ∷ []

abbrev classes : List ℕ
classes = 0 ∷ 1 ∷ 0 ∷ []

its_field : IsChildAt table own classes 0 1 1
its_field = record { test = test; kind = Some 0; index = 0; has = refl; opened = (refl, omega arith); field = refl; leads = refl }

field_of_field : IsChildAt table own classes 1 2 0
field_of_field = record { test = test; kind = Some 0; index = 0; has = refl; opened = (refl, omega arith); field = refl; leads = refl }

pub loops : HasLoop table own classes
loops = record { at = 0; inside = omega arith; round = Further 2 (Once 1 its_field) field_of_field }

-- so no ranks fall from each site to its fields
pub not_ranked : IsRanked table own classes → ⊥
not_ranked ranked =
    let one : ranked.rank 1 < ranked.rank 0 = ranked.falls 0 1 1 its_field in
    let other : ranked.rank 0 < ranked.rank 1 = ranked.falls 1 2 0 field_of_field in omega arith
