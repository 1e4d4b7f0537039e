-- Worked case: the lines of a rule that has a name, a test, equal sites, a multi call and impure calls.
use Rattle.std.proofs.Common.{◌≡◌, ◌≤◌, ◌||◌, ◌&&◌, ◌∷◌, [], ℕ, zero, suc, Bool, true, false, List, Some, refl, ap, codes, length, arith, sym, ◌∙◌}
use Rattle.std.specs.Prelude.{negsuc, unwrap_or}
use Rattle.std.specs.List.{All, IsDistinct}
use Rattle.std.specs.List.Sorted.{IsStrictlySortedBy}
use Rattle.isle_types.specs.TypeEnvs.{name_of}
use Rattle.isle_types.specs.TypeTables.{TypeTables, no_tables}
use Rattle.isle_blocks.specs.declared.constraint.Constraint.TheVariants as tests
use Rattle.isle_blocks.specs.declared.ids.BindingId.{BindingId}
use Rattle.isle_blocks.specs.declared.rule.Rule.{Rule}
use Rattle.isle_blocks.specs.ClosedRules.{same_site}
use Rattle.isle_blocks.specs.ListedSets.{ListsEqualSites}
use Rattle.isle_blocks.specs.Rules.{site_cmp}
use Rattle.isle_program.specs.declared.program.Program.{Program}
use Rattle.isle_program.specs.Programs.{types_of}
use Rattle.isle_tell.specs.TreeTexts.Names.{symbol_name}
use Rattle.isle_tell.specs.TreeTexts.Rules.{IsRuleText}
use Rattle.isle_tell.proofs.Cases.Decimals.{zero_text, one_text, two_text, three_text, five_text, seven_text, ten_text}

abbrev id : ℕ → BindingId
id n = record { 0 = n }

-- sites 2 and 0 must be equal
abbrev joined : List (List BindingId)
joined = (id 2 ∷ id 0 ∷ []) ∷ []

abbrev rule : Rule
rule = record {
  id = record { 0 = 10 };
  pos = record { file = 1; offset = 0 };
  constraints = (id 1, tests.Some) ∷ [];
  equals = joined;
  iterators = id 3 ∷ [];
  prio = negsuc 4;
  name = Some (record { 0 = 0 });
  impure = id 5 ∷ id 7 ∷ [];
  result = id 7;
}

-- the lesser of two equal sites stands first
abbrev listed : List (List BindingId)
listed = (id 0 ∷ id 2 ∷ []) ∷ []

either_order : (p q r s : Bool) → ((p || (q || false)) && (r || (s || false))) || false ≡ ((q || (p || false)) && (s || (r || false))) || false
either_order true true true true = refl
either_order true true true false = refl
either_order true true false true = refl
either_order true true false false = refl
either_order true false true true = refl
either_order true false true false = refl
either_order true false false true = refl
either_order true false false false = refl
either_order false true true true = refl
either_order false true true false = refl
either_order false true false true = refl
either_order false true false false = refl
either_order false false r s = refl

at_least_two : All (λ (set : List BindingId). 2 ≤ length set) listed
at_least_two zero d l = omega arith
at_least_two (suc k) d l = absurd (omega arith)

ascend : All (λ (set : List BindingId). IsStrictlySortedBy site_cmp set) listed
unfolding IsStrictlySortedBy
ascend zero d l = ((refl, tt), (tt, tt))
ascend (suc k) d l = absurd (omega arith)

ascending_sites : ListsEqualSites joined listed
unfolding IsDistinct IsStrictlySortedBy
ascending_sites = record {
  joined = λ a b l. either_order (same_site a (id 0)) (same_site a (id 2)) (same_site b (id 0)) (same_site b (id 2));
  only = λ a b both. sym (either_order (same_site a (id 0)) (same_site a (id 2)) (same_site b (id 0)) (same_site b (id 2))) ∙ both;
  disjoint = record { at_least_two = at_least_two; distinct = ((refl, tt), (tt, tt)) };
  ascending = ascend;
  in_order = (tt, tt);
}

-- not otherwise, and none is left out
descending_sites : ListsEqualSites joined joined → ⊥
unfolding IsStrictlySortedBy
descending_sites lists = let wrong = (lists.ascending 0 [] (omega arith)).0.0 in cc

no_sites : ListsEqualSites joined [] → ⊥
no_sites lists = let wrong = lists.joined (id 0) (id 2) (omega arith) in cc

-- and no other sites are, however great their numbers
other_sites : ListsEqualSites joined ((id 65536 ∷ id 65537 ∷ []) ∷ listed) → ⊥
other_sites lists = let wrong = lists.only (id 65536) (id 65537) refl in cc

module _ (program : Program) (has_name : types_of program ≡ record no_tables { names = codes "first" ∷ [] }) where
  named : symbol_name program (record { 0 = 0 }) ≡ codes "first"
  named = ap (λ (t : TypeTables). unwrap_or (name_of t (record { 0 = 0 })) []) has_name

  -- its file isn't there, so its place is empty
  its_lines : IsRuleText program [] rule
      (codes "  rule 10 at  name first prio -5 constraints 3\n    1 is Some\n    equal 0 2\n    iterators 3\n    impure 5 7\n    result 7\n")
  its_lines = record {
    sets = listed;
    listed = ascending_sites;
    is =
        rw (named, ten_text, seven_text, five_text, three_text, two_text, one_text, zero_text);
  }
