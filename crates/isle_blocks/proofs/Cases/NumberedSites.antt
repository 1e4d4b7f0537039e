-- The sites of two rules of (decl partial term (u8 u8) u8), in the order in which they are first needed.
use Rattle.std.proofs.Common.{subst, sym, ◌≡◌, ◌≢◌, ◌<◌, ◌≤◌, inl, inr, ℕ, zero, suc, pos, true, false, List, [], ◌∷◌, length, None, Some}
use Rattle.std.proofs.Common.{codes, refl, arith}
use Rattle.std.proofs.lemmas.Option.{slice_get_within}
use Rattle.isle_ast.specs.declared.pos.Pos.{Pos}
use Rattle.isle_rules.specs.TypedRules.{typed_bind, typed_var, typed_int, typed_wildcard, no_typed, more_typed, built_int, TypedRule}
use Rattle.isle_rules.specs.Signatures.{by_rules, declared_form, Declared}
use Rattle.isle_meaning.specs.Facts.{TermFacts, facts_of}
use Rattle.isle_meaning.specs.Sites.{Site, argument, int_site, make_some}
use Rattle.isle_meaning.specs.Numbered.{Row, argument_row, int_row, make_some_row}
use Rattle.isle_meaning.specs.Demands.{Demand, constrained, equal, variant_constraint, struct_constraint}
use Rattle.isle_meaning.specs.Demands as meaning
use Rattle.isle_meaning.specs.Derived.{Derived, demanded, flipped, chained, shared, like_variant, like_struct, FieldOf, of_variant, of_struct}
use Rattle.isle_meaning.specs.Demands.{DemandOf}
use Rattle.isle_blocks.specs.AddedRules.{needs_in_order}
use Rattle.isle_blocks.specs.Building.Standing.{Adds, begin, next, IsFieldRow, NumbersBehind}
use Rattle.isle_blocks.specs.DefinedSets.{AreNumberedInOrder, none_numbered, rule_numbered}
use Rattle.isle_blocks.specs.Tables.{IsAbsent}

abbrev here : Pos
here = record { file = 0; offset = 0 }

-- (decl partial term (u8 u8) u8)
abbrev declared : Declared
declared = record {
  types = record { types = []; constants = [] };
  terms = record {
    name = codes "term";
    args = 1 ∷ 1 ∷ [];
    ret = 1;
    form = declared_form (record { pure = false; multi = false; partial = true; rec = false }) (Some by_rules) None;
    pos = here;
  } ∷ [];
  conversions = [];
  expands = true;
}

abbrev pub facts : TermFacts
facts = facts_of declared

-- (rule (term x @ 2 x) 7)
abbrev pub with_x : TypedRule
with_x = record {
  root = 0;
  args = more_typed (typed_bind 1 0 (typed_int 1 (pos 2))) (more_typed (typed_var 1 0) no_typed);
  iflets = [];
  right = built_int 1 (pos 7);
  variables = record { name = codes "x"; type = 1 } ∷ [];
  priority = pos 0;
  pos = here;
  name = None;
}

-- (rule (term _ _) 8)
abbrev any : TypedRule
any = record {
  root = 0;
  args = more_typed (typed_wildcard 1) (more_typed (typed_wildcard 1) no_typed);
  iflets = [];
  right = built_int 1 (pos 8);
  variables = [];
  priority = pos 0;
  pos = here;
  name = None;
}

-- after the arguments the answer, and as the term may fail, that in an option
abbrev pub after : ℕ → List Site
after answer = argument 1 ∷ int_site (pos answer) 1 ∷ make_some (int_site (pos answer) 1) ∷ []

abbrev pub needed : ℕ → List Site
needed answer = argument 0 ∷ after answer

pub first_needs : needs_in_order facts true with_x ≡ needed 7
first_needs = refl

pub second_needs : needs_in_order facts true any ≡ needed 8
second_needs = refl

abbrev one : List Row
one = argument_row 0 ∷ []

abbrev two : List Row
two = argument_row 0 ∷ argument_row 1 ∷ []

abbrev three : List Row
three = argument_row 0 ∷ argument_row 1 ∷ int_row (pos 7) 1 ∷ []

-- the sites of the first rule
abbrev four : List Row
four = argument_row 0 ∷ argument_row 1 ∷ int_row (pos 7) 1 ∷ make_some_row 2 ∷ []

abbrev five : List Row
five = argument_row 0 ∷ argument_row 1 ∷ int_row (pos 7) 1 ∷ make_some_row 2 ∷ int_row (pos 8) 1 ∷ []

-- and of both
abbrev six : List Row
six = argument_row 0 ∷ argument_row 1 ∷ int_row (pos 7) 1 ∷ make_some_row 2 ∷ int_row (pos 8) 1 ∷ make_some_row 4 ∷ []

-- each entry is another one
abbrev Differ : List Row → Row → Type 0
Differ [] row = Unit {0}
Differ (x ∷ xs) row = (x ≢ row) × Differ xs row

lacks : (xs : List Row) (row : Row) → Differ xs row → IsAbsent xs row
lacks [] row others k e = absurd cc
lacks (x ∷ xs) row (other, others) zero e = other cc
lacks (x ∷ xs) row (other, others) (suc k) e = lacks xs row others k e

two_lack : IsAbsent two (int_row (pos 7) 1)
two_lack = lacks two (int_row (pos 7) 1) (λ e. cc, (λ e. cc, tt))

three_lack : IsAbsent three (make_some_row 2)
three_lack = lacks three (make_some_row 2) (λ e. cc, (λ e. cc, (λ e. cc, tt)))

four_lack : IsAbsent four (int_row (pos 8) 1)
four_lack = lacks four (int_row (pos 8) 1) (λ e. cc, (λ e. cc, (λ e. cc, (λ e. cc, tt))))

five_lack : IsAbsent five (make_some_row 4)
five_lack = lacks five (make_some_row 4) (λ e. cc, (λ e. cc, (λ e. cc, (λ e. cc, (λ e. cc, tt)))))

-- behind the empty table all four sites of the first rule are put
arguments_added : Adds [] (argument 0 ∷ argument 1 ∷ []) two
arguments_added = next two (argument 1) (argument_row 1) 1
    (next one (argument 0) (argument_row 0) 0 begin refl (inr (lacks [] (argument_row 0) tt, refl, refl)))
    refl (inr (lacks one (argument_row 1) (λ e. cc, tt), refl, refl))

first_added : Adds [] (needed 7) four
first_added = next four (make_some (int_site (pos 7) 1)) (make_some_row 2) 3
    (next three (int_site (pos 7) 1) (int_row (pos 7) 1) 2 arguments_added refl (inr (two_lack, refl, refl)))
    (2, refl, refl) (inr (three_lack, refl, refl))

-- behind those the arguments stand already
arguments_stand : Adds four (argument 0 ∷ argument 1 ∷ []) four
arguments_stand = next four (argument 1) (argument_row 1) 1
    (next four (argument 0) (argument_row 0) 0 begin refl (inl (refl, refl))) refl (inl (refl, refl))

second_added : Adds four (needed 8) six
second_added = next six (make_some (int_site (pos 8) 1)) (make_some_row 4) 5
    (next five (int_site (pos 8) 1) (int_row (pos 8) 1) 4 arguments_stand refl (inr (four_lack, refl, refl)))
    (4, refl, refl) (inr (five_lack, refl, refl))

-- neither rule opens a field, so nothing stands behind that
beyond : (rows : List Row) (k site index : ℕ) → length rows ≤ k → IsFieldRow rows k site index → ⊥
beyond rows k site index high (inl (variant, e)) = let within : k < length rows = slice_get_within rows k _ e in omega arith
beyond rows k site index high (inr e) = let within : k < length rows = slice_get_within rows k _ e in omega arith

-- a test that opens no fields
abbrev IsLeaf : meaning.Constraint → Type 0
IsLeaf (variant_constraint ty v n) = ⊥
IsLeaf (struct_constraint ty n) = ⊥
IsLeaf c = Unit {0}

abbrev pub IsPlain : Demand → Type 0
IsPlain (constrained s c) = IsLeaf c
IsPlain (equal s u) = Unit {0}

-- from tests that open no fields none follows that does
plain : (D : Demand → Type 0) → ((d : Demand) → D d → IsPlain d) → (d : Demand) → Derived D d → IsPlain d
plain D all d (demanded h) = all d h
plain D all d (flipped h) = tt
plain D all d (chained h g) = tt
plain D all d (shared {s} {u} {c} h g) = plain D all (constrained s c) g
plain D all d (like_variant h g lt) = tt
plain D all d (like_struct h g lt) = tt

pub no_fields : (D : Demand → Type 0) → ((d : Demand) → D d → IsPlain d) → (s u : Site) → FieldOf D s u → ⊥
no_fields D all s u (of_variant {ty = ty} {k = k} {n = n} h lt) = plain D all (constrained s (variant_constraint ty k n)) h
no_fields D all s u (of_struct {ty = ty} {n = n} h lt) = plain D all (constrained s (struct_constraint ty n)) h

plain_x : (d : Demand) → DemandOf facts with_x d → IsPlain d
plain_x d (inl e) = subst IsPlain (sym e) tt
plain_x d (inr (inl e)) = subst IsPlain (sym e) tt
plain_x d (inr (inr none)) = absurd none

plain_any : (d : Demand) → DemandOf facts any d → IsPlain d
plain_any d none = absurd none

alone : (base : List Row) (needs : List Site) (rows : List Row) (D : Demand → Type 0) → ((s u : Site) → FieldOf D s u → ⊥) → Adds base needs rows
    → NumbersBehind base needs D rows
alone base needs rows D none added = record {
  mid = rows;
  added = added;
  goes_on = λ k row at. at;
  opened = λ k high low. absurd (omega arith);
  all = λ s u f. absurd (none s u f);
  fields = record {
    fields = λ k high low. absurd (omega arith);
    order = λ k l site index later number high less is is_later. absurd (beyond rows k site index high is);
  };
}

-- so the two rules are numbered in order
pub in_order : AreNumberedInOrder facts (with_x ∷ any ∷ []) (0 ∷ 1 ∷ []) six
in_order = rule_numbered 1 any six
    (rule_numbered 0 with_x four none_numbered refl
    (alone [] (needed 7) four (DemandOf facts with_x) (no_fields (DemandOf facts with_x) plain_x) first_added))
    refl (alone four (needed 8) six (DemandOf facts any) (no_fields (DemandOf facts any) plain_any) second_added)
