-- The errors of the rules (f 5), (f (and 1 2)) and (f _): the second never matches, and the third overlaps the first.
use Rattle.std.proofs.Common.{◌≡◌, ◌<◌, ◌≤◌, ◌<ℤ◌, inl, inr, ℕ, zero, suc, ℤ, pos, Bool, true, false, List, [], ◌∷◌, ◌++◌, Some, slice_get}
use Rattle.std.proofs.Common.{codes, refl, sym, ap, subst, arith}
use Rattle.std.specs.Prelude.{Contains}
use Rattle.std.specs.Ordering.{is_gt}
use Rattle.std.proofs.lemmas.List.Sorted.{IsPermutation-refl}
use lib.Signed.{<ℤ_irrefl}
use Rattle.isle_ast.specs.declared.pos.Pos.{Pos}
use Rattle.isle_ast.specs.declared.error.Error.{Error}
use Rattle.isle_ast.specs.declared.error.Error.TheVariants.{OverlapError}
use Rattle.isle_rules.specs.TypedRules.{TypedPattern, TypedRule, typed_int, typed_wildcard, typed_and, no_typed, more_typed}
use Rattle.isle_meaning.specs.Facts.{TermFacts}
use Rattle.isle_meaning.specs.Sites.{Site, argument, int_site}
use Rattle.isle_meaning.specs.Demands.{Demand, Among, some_of}
use Rattle.isle_meaning.specs.Derived.{Derived, demanded, flipped, chained, shared, like_variant, like_struct, FieldOf, of_variant, of_struct}
use Rattle.isle_meaning.specs.Demands.{DemandOf}
use Rattle.isle_meaning.specs.Needs.{needs, IsNeeded}
use Rattle.isle_meaning.specs.Numbered.{Row, argument_row, int_row, make_some_row}
use Rattle.isle_blocks.specs.declared.faults.Fault.TheVariants.{Overlap}
use Rattle.isle_blocks.specs.declared.report.RulePlace.{RulePlace}
use Rattle.isle_blocks.specs.declared.report.Group.{Group}
use Rattle.isle_blocks.specs.Reports.{place_order, partner_count, IsGreatest, no_pairs, headed, IsReport}
use Rattle.isle_blocks.specs.Closure.{Stands}
use Rattle.isle_blocks.specs.RuleFaults.{NeverMatches, MayMatch, MayMatchAt, AreOverlapping, IsShadowing, one_may_match}
use Rattle.isle_blocks.specs.RuleFaults.{NeedsStand, SitesStand, FitsAlone, AreWithinSize}
use Rattle.isle_blocks.specs.RuleFaults.{TellRivals, AreRuleErrors, of_rules, places_from, unreachable_error}
use Rattle.isle_blocks.proofs.Cases.OverlapReports.{alone_in_turn}
use Rattle.isle_blocks.proofs.Cases.SizesAndErrors.{here, there, rule_at, five, both, five_may_match, both_never_match, told, alone}

-- the byte 11 of that file
abbrev last : Pos
last = record { file = 2; offset = 11 }

-- (rule (f _) 0)
abbrev any : TypedRule
any = rule_at last (typed_wildcard 3)

abbrev rules : List TypedRule
rules = five ∷ both ∷ any ∷ []

-- the one pair of rules that overlap
abbrev pairs : List (ℕ × ℕ)
pairs = (0, 2) ∷ []

-- of these the later heads the earlier
abbrev overlap : Error
overlap = OverlapError (codes "rules are overlapping")
    (record { from = last; to = record { file = 2; offset = 12 } } ∷ record { from = here; to = record { file = 2; offset = 8 } } ∷ [])

-- from nothing nothing follows
pub nothing : (d : Demand) → Derived (Among []) d → ⊥
nothing d (demanded none) = none
nothing d (flipped h) = nothing _ h
nothing d (chained h k) = nothing _ h
nothing d (shared h k) = nothing _ h
nothing d (like_variant h k less) = nothing _ h
nothing d (like_struct h k less) = nothing _ h

module _ (facts : TermFacts) (single : facts.multi 4 ≡ false) where
  any_may_match : MayMatch facts any
  any_may_match (inl conflict) = nothing _ conflict.has_one
  any_may_match (inr endless) = nothing _ endless.same

  first_and_last : AreOverlapping facts rules 0 2
  first_and_last = record {
    rivals = record {
      term = 4;
      first = record { rule = five; at = refl; of_term = refl; may = five_may_match facts };
      second = record { rule = any; at = refl; of_term = refl; may = any_may_match };
      single = single;
    };
    in_order = omega arith;
    overlap = (refl, λ differ. nothing _ differ.has_other);
  }

  -- the second rule is no rival, and there is no fourth
  not_second : (term : ℕ) → MayMatchAt facts rules term 1 → ⊥
  not_second term reached =
      let same : both ≡ reached.rule = let e = reached.at in cc in
      reached.may (subst (λ (rule : TypedRule). NeverMatches facts rule) same (both_never_match facts))

  not_beyond : (term i : ℕ) → MayMatchAt facts rules term (suc (suc (suc i))) → ⊥
  not_beyond term i reached = let e = reached.at in cc

  only_that : (i j : ℕ) → AreOverlapping facts rules i j → Contains pairs (i, j)
  only_that zero zero two = let order : 0 < 0 = two.in_order in absurd (omega arith)
  only_that zero (suc zero) two = absurd (not_second two.rivals.term two.rivals.second)
  only_that zero (suc (suc zero)) two = (0, omega arith, refl)
  only_that zero (suc (suc (suc j))) two = absurd (not_beyond two.rivals.term j two.rivals.second)
  only_that (suc zero) j two = absurd (not_second two.rivals.term two.rivals.first)
  only_that (suc (suc zero)) zero two = let order : 2 < 0 = two.in_order in absurd (omega arith)
  only_that (suc (suc zero)) (suc zero) two = let order : 2 < 1 = two.in_order in absurd (omega arith)
  only_that (suc (suc zero)) (suc (suc zero)) two = let order : 2 < 2 = two.in_order in absurd (omega arith)
  only_that (suc (suc zero)) (suc (suc (suc j))) two = absurd (not_beyond two.rivals.term j two.rivals.second)
  only_that (suc (suc (suc i))) j two = absurd (not_beyond two.rivals.term i two.rivals.first)

  that : (i j : ℕ) → Contains pairs (i, j) → AreOverlapping facts rules i j
  that i j (zero, within, is) = subst (λ (pair : ℕ × ℕ). AreOverlapping facts rules (pair.0) (pair.1)) is first_and_last
  that i j (suc k, within, is) = absurd (omega arith)

  once : (pair : ℕ × ℕ) (i j : ℕ) → slice_get pairs i ≡ Some pair → slice_get pairs j ≡ Some pair → i ≡ j
  once pair zero zero e f = refl
  once pair zero (suc j) e f = absurd cc
  once pair (suc i) j e f = absurd cc

  -- all have priority 0
  priority : (term i : ℕ) (reached : MayMatchAt facts rules term i) → reached.rule.priority ≡ pos 0
  priority term zero reached = let same : reached.rule ≡ five = let e = reached.at in cc in ap (λ (rule : TypedRule). rule.priority) same
  priority term (suc zero) reached = absurd (not_second term reached)
  priority term (suc (suc zero)) reached = let same : reached.rule ≡ any = let e = reached.at in cc in ap (λ (rule : TypedRule). rule.priority) same
  priority term (suc (suc (suc i))) reached = absurd (not_beyond term i reached)

  no_shadow : (i j : ℕ) → IsShadowing facts rules i j → ⊥
  no_shadow i j two =
      let high = priority two.rivals.term i two.rivals.first in
      let low = priority two.rivals.term j two.rivals.second in
      <ℤ_irrefl (subst (λ (p : ℤ). p <ℤ pos 0) low (subst (λ (p : ℤ). two.rivals.second.rule.priority <ℤ p) high two.shadow.above))

  abbrev group : Group
  group = record { fault = Overlap; head = record { pos = last; id = record { 0 = 2 } }; others = here ∷ [] }

  not_later : (known other : RulePlace) → Some known ≡ Some other → is_gt (place_order known group.head) ≡ false
      → is_gt (place_order other group.head) ≡ false
  not_later known other e is =
      let same : known ≡ other = cc in subst (λ (place : RulePlace). is_gt (place_order place group.head) ≡ false) same is

  greatest : IsGreatest (places_from 0 rules) (λ j. partner_count Overlap j pairs) 2
  greatest = record { rule = group.head; at = refl; most = most; last = latest }
    where
      most : (j : ℕ) → j < 3 → partner_count Overlap j pairs ≤ 1
      most zero low = omega arith
      most (suc zero) low = omega arith
      most (suc (suc zero)) low = omega arith
      most (suc (suc (suc j))) low = absurd (omega arith)

      latest : (j : ℕ) (other : RulePlace) → slice_get (places_from 0 rules) j ≡ Some other → partner_count Overlap j pairs ≡ 1
          → is_gt (place_order other group.head) ≡ false
      latest zero other e same = not_later (record { pos = here; id = record { 0 = 0 } }) other e refl
      latest (suc zero) other e same = not_later (record { pos = there; id = record { 0 = 1 } }) other e refl
      latest (suc (suc zero)) other e same = not_later group.head other e refl
      latest (suc (suc (suc j))) other e same = absurd cc

  reported : IsReport (places_from 0 rules) pairs [] (overlap ∷ [])
  reported = record {
    overlapping = group ∷ [];
    shadowing = [];
    sorted = group ∷ [];
    overlapping_are = headed {i = 2} (omega arith) greatest
        (record { fault_is = refl; head_is = refl; moved = IsPermutation-refl (here ∷ []); ascending = λ k d low high. absurd (omega arith) })
        no_pairs;
    shadowing_are = no_pairs;
    moved = IsPermutation-refl (group ∷ []);
    ascending = λ k d low high. absurd (omega arith);
    in_turn = alone_in_turn group;
    errors_are = refl;
  }

  rivals_told : TellRivals facts rules (overlap ∷ [])
  rivals_told = record {
    overlaps = pairs;
    shadows = [];
    overlaps_are = record { all = λ i j. (that i j, only_that i j); once = once };
    shadows_are = record {
      all = λ i j. (λ (k, within, is). absurd (omega arith), λ two. absurd (no_shadow i j two));
      once = λ pair i j e f. absurd cc;
    };
    report = reported;
  }

  -- each of the three needs its argument and the literal, and their result may be the made option of that
  abbrev sites : List Row
  sites = argument_row 0 ∷ int_row (pos 0) 3 ∷ make_some_row 1 ∷ []

  literal_stands : (partial : Bool) → Stands sites (some_of partial (int_site (pos 0) 3))
  literal_stands true = (2, (1, refl, refl))
  literal_stands false = (1, refl)

  both_stand : (s : Site) → IsNeeded (argument 0 ∷ int_site (pos 0) 3 ∷ []) s → Stands sites s
  both_stand s (inl first) = subst (λ (u : Site). Stands sites u) (sym first) (0, refl)
  both_stand s (inr (inl second)) = subst (λ (u : Site). Stands sites u) (sym second) (1, refl)
  both_stand s (inr (inr none)) = absurd none

  sites_of : (pattern : TypedPattern) (at : Pos) → needs facts pattern (argument 0) ≡ [] → NeedsStand facts sites (rule_at at pattern)
  sites_of pattern at nothing_more = record {
    needed = λ s needed.
        both_stand s (subst (λ (more : List Site). IsNeeded (argument 0 ∷ ((more ++ []) ++ (int_site (pos 0) 3 ∷ []))) s) nothing_more needed);
    result = literal_stands (facts.partial 4);
  }

  no_field_of_five : (s u : Site) → FieldOf (DemandOf facts five) s u → ⊥
  no_field_of_five s u (of_variant is less) = let same = alone _ is in absurd cc
  no_field_of_five s u (of_struct is less) = let same = alone _ is in absurd cc

  no_field_of_any : (s u : Site) → FieldOf (DemandOf facts any) s u → ⊥
  no_field_of_any s u (of_variant is less) = nothing _ is
  no_field_of_any s u (of_struct is less) = nothing _ is

  each_stands : (term i : ℕ) (reached : MayMatchAt facts rules term i) → SitesStand facts sites reached.rule
  each_stands term zero reached =
      let same : five ≡ reached.rule = let e = reached.at in cc in
      subst (λ (rule : TypedRule). SitesStand facts sites rule) same
      (record { own = sites_of (typed_int 3 (pos 5)) here refl; fields = λ s u field. absurd (no_field_of_five s u field) })
  each_stands term (suc zero) reached = absurd (not_second term reached)
  each_stands term (suc (suc zero)) reached =
      let same : any ≡ reached.rule = let e = reached.at in cc in
      subst (λ (rule : TypedRule). SitesStand facts sites rule) same
      (record { own = sites_of (typed_wildcard 3) last refl; fields = λ s u field. absurd (no_field_of_any s u field) })
  each_stands term (suc (suc (suc i))) reached = absurd (not_beyond term i reached)

  each_fits : (i : ℕ) (rule : TypedRule) → slice_get rules i ≡ Some rule → FitsAlone facts rule
  each_fits zero rule at = let same : five ≡ rule = cc in
      subst (λ (r : TypedRule). FitsAlone facts r) same
      (record { table = sites; few = omega arith; own = sites_of (typed_int 3 (pos 5)) here refl })
  each_fits (suc zero) rule at = let same : both ≡ rule = cc in
      subst (λ (r : TypedRule). FitsAlone facts r) same
      (record {
        table = sites;
        few = omega arith;
        own = sites_of (typed_and 3 (more_typed (typed_int 3 (pos 1)) (more_typed (typed_int 3 (pos 2)) no_typed))) there refl;
      })
  each_fits (suc (suc zero)) rule at = let same : any ≡ rule = cc in
      subst (λ (r : TypedRule). FitsAlone facts r) same
      (record { table = sites; few = omega arith; own = sites_of (typed_wildcard 3) last refl })
  each_fits (suc (suc (suc i))) rule at = absurd cc

  -- so none of them is too large
  pub within : (term : ℕ) → AreWithinSize facts rules term
  within term = record {
    alone = λ i rule at of_term. each_fits i rule at;
    together = record { table = sites; few = omega arith; stand = each_stands term };
  }

  -- first the rule that never matches, then the two that overlap
  pub errors : AreRuleErrors facts rules (unreachable_error there ∷ overlap ∷ [])
  errors =
      of_rules (unreachable_error there ∷ []) (overlap ∷ []) within (one_may_match any any_may_match (told facts)) rivals_told refl (omega arith)
