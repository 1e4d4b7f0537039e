-- The sites of the rule (f x @ (A.V _ _) x) in order, and behind them the fields of its second argument.
use Rattle.std.proofs.Common.{◌≡◌, ◌<◌, ◌≤◌, ◌+◌, inl, inr, ℕ, zero, suc, pos, false, List, [], ◌∷◌, length, refl, sym, subst, arith}
use Rattle.std.proofs.lemmas.List.{length_push}
use Rattle.isle_containers.proofs.Lists.{slice_get-kept}
use Rattle.isle_meaning.specs.Sites.{Site, argument, int_site, match_variant}
use Rattle.isle_meaning.specs.Numbered.{Row, argument_row, int_row, match_variant_row, At}
use Rattle.isle_meaning.specs.Derived.{FieldOf, of_variant}
use Rattle.isle_meaning.specs.Demands.{DemandOf}
use Rattle.isle_blocks.specs.Closure.{Stands}
use Rattle.isle_blocks.proofs.Cases.EqualFields.{IsOf, tested, fielded}
use Rattle.isle_blocks.specs.AddedRules.{needs_in_order}
use Rattle.isle_blocks.specs.Building.Standing.{Adds, begin, next, IsPut, IsFieldRow, NumbersBehind}
use Rattle.isle_blocks.specs.DefinedSets.{AreNumberedInOrder, none_numbered, rule_numbered}
use Rattle.isle_blocks.specs.Closure.{ComesBefore, AreInOrder}
use Rattle.isle_blocks.specs.Tables.{IsAbsent}
use Rattle.isle_blocks.proofs.Cases.MissingFields.{facts, rule}

abbrev needed : List Site
needed = argument 0 ∷ match_variant (argument 0) 1 0 ∷ match_variant (argument 0) 1 1 ∷ argument 1 ∷ int_site (pos 0) 1 ∷ []

pub rule_needs : needs_in_order facts false rule ≡ needed
rule_needs = refl

abbrev one : List Row
one = argument_row 0 ∷ []

abbrev two : List Row
two = argument_row 0 ∷ match_variant_row 0 1 0 ∷ []

abbrev three : List Row
three = argument_row 0 ∷ match_variant_row 0 1 0 ∷ match_variant_row 0 1 1 ∷ []

abbrev four : List Row
four = argument_row 0 ∷ match_variant_row 0 1 0 ∷ match_variant_row 0 1 1 ∷ argument_row 1 ∷ []

abbrev five : List Row
five = argument_row 0 ∷ match_variant_row 0 1 0 ∷ match_variant_row 0 1 1 ∷ argument_row 1 ∷ int_row (pos 0) 1 ∷ []

-- the fields of argument 1, which stands at 3
abbrev opened : List Row
opened = match_variant_row 3 1 0 ∷ match_variant_row 3 1 1 ∷ []

abbrev seven : List Row
seven = argument_row 0 ∷ match_variant_row 0 1 0 ∷ match_variant_row 0 1 1 ∷ argument_row 1 ∷ int_row (pos 0) 1
    ∷ match_variant_row 3 1 0 ∷ match_variant_row 3 1 1 ∷ []

none_lacks : IsAbsent [] (argument_row 0)
none_lacks k e = cc

one_lacks : IsAbsent one (match_variant_row 0 1 0)
one_lacks zero e = cc
one_lacks (suc k) e = cc

two_lack : IsAbsent two (match_variant_row 0 1 1)
two_lack zero e = cc
two_lack (suc zero) e = cc
two_lack (suc (suc k)) e = cc

three_lack : IsAbsent three (argument_row 1)
three_lack zero e = cc
three_lack (suc zero) e = cc
three_lack (suc (suc zero)) e = cc
three_lack (suc (suc (suc k))) e = cc

four_lack : IsAbsent four (int_row (pos 0) 1)
four_lack zero e = cc
four_lack (suc zero) e = cc
four_lack (suc (suc zero)) e = cc
four_lack (suc (suc (suc zero))) e = cc
four_lack (suc (suc (suc (suc k)))) e = cc

first_added : Adds [] (argument 0 ∷ match_variant (argument 0) 1 0 ∷ []) two
first_added = next two (match_variant (argument 0) 1 0) (match_variant_row 0 1 0) 1
    (next one (argument 0) (argument_row 0) 0 begin refl (inr (none_lacks, refl, refl))) (0, refl, refl) (inr (one_lacks, refl, refl))

added : Adds [] needed five
added = next five (int_site (pos 0) 1) (int_row (pos 0) 1) 4
    (next four (argument 1) (argument_row 1) 3
    (next three (match_variant (argument 0) 1 1) (match_variant_row 0 1 1) 2 first_added (0, refl, refl) (inr (two_lack, refl, refl)))
    refl (inr (three_lack, refl, refl))) refl (inr (four_lack, refl, refl))

field_at : (k site index : ℕ) → 5 ≤ k → IsFieldRow seven k site index → (site ≡ 3) × (index + 5 ≡ k)
field_at zero site index high is = absurd (omega arith)
field_at (suc zero) site index high is = absurd (omega arith)
field_at (suc (suc zero)) site index high is = absurd (omega arith)
field_at (suc (suc (suc zero))) site index high is = absurd (omega arith)
field_at (suc (suc (suc (suc zero)))) site index high is = absurd (omega arith)
field_at (suc (suc (suc (suc (suc zero))))) site index high (inl (variant, e)) = let first : index ≡ 0 = cc in ((cc), omega arith)
field_at (suc (suc (suc (suc (suc (suc zero)))))) site index high (inl (variant, e)) = let second : index ≡ 1 = cc in ((cc), omega arith)
field_at (suc (suc (suc (suc (suc (suc (suc k))))))) site index high (inl (variant, e)) = absurd cc
field_at (suc (suc (suc (suc (suc zero))))) site index high (inr e) = absurd cc
field_at (suc (suc (suc (suc (suc (suc zero)))))) site index high (inr e) = absurd cc
field_at (suc (suc (suc (suc (suc (suc (suc k))))))) site index high (inr e) = absurd cc

fields_in_order : AreInOrder (IsFieldRow seven) 5 7
fields_in_order = record { fields = fields; order = order }
  where
    fields : (k : ℕ) → 5 ≤ k → k < 7 → (site : ℕ) × (index : ℕ) × IsFieldRow seven k site index
    fields zero high low = absurd (omega arith)
    fields (suc zero) high low = absurd (omega arith)
    fields (suc (suc zero)) high low = absurd (omega arith)
    fields (suc (suc (suc zero))) high low = absurd (omega arith)
    fields (suc (suc (suc (suc zero)))) high low = absurd (omega arith)
    fields (suc (suc (suc (suc (suc zero))))) high low = (3, 0, inl (1, refl))
    fields (suc (suc (suc (suc (suc (suc zero)))))) high low = (3, 1, inl (1, refl))
    fields (suc (suc (suc (suc (suc (suc (suc k))))))) high low = absurd (omega arith)

    order : (k l site index later number : ℕ) → 5 ≤ k → k < l → IsFieldRow seven k site index → IsFieldRow seven l later number
        → ComesBefore site index later number
    order k l site index later number high less is is_later =
        let (p, q) = field_at k site index high is in
        let more : 5 ≤ l = omega arith in
        let (r, t) = field_at l later number more is_later in inr (omega arith, omega arith)

-- they are fields that the rule's demands open
opened_fields : (k : ℕ) → 5 ≤ k → k < 7 → (t : Site) × (s : Site) × FieldOf (DemandOf facts rule) t s × At seven s k
opened_fields zero high low = absurd (omega arith)
opened_fields (suc zero) high low = absurd (omega arith)
opened_fields (suc (suc zero)) high low = absurd (omega arith)
opened_fields (suc (suc (suc zero))) high low = absurd (omega arith)
opened_fields (suc (suc (suc (suc zero)))) high low = absurd (omega arith)
opened_fields (suc (suc (suc (suc (suc zero))))) high low =
    (argument 1, match_variant (argument 1) 1 0, of_variant (tested 1 (omega arith)) (omega arith), (3, refl, refl))
opened_fields (suc (suc (suc (suc (suc (suc zero)))))) high low =
    (argument 1, match_variant (argument 1) 1 1, of_variant (tested 1 (omega arith)) (omega arith), (3, refl, refl))
opened_fields (suc (suc (suc (suc (suc (suc (suc k))))))) high low = absurd (omega arith)

stands : (u : Site) (i : ℕ) → IsOf u (suc i) → Stands seven u
stands (argument j) i (p, e) = absurd (omega arith)
stands (match_variant (argument zero) v zero) i (p, x, low, e) = (1, (0, (cc), refl))
stands (match_variant (argument zero) v (suc zero)) i (p, x, low, e) = (2, (0, (cc), refl))
stands (match_variant (argument (suc zero)) v zero) i (p, x, low, e) = (5, (3, (cc), refl))
stands (match_variant (argument (suc zero)) v (suc zero)) i (p, x, low, e) = (6, (3, (cc), refl))
stands (match_variant (argument j) v (suc (suc a))) i (p, x, low, e) = absurd (omega arith)
stands (match_variant (argument (suc (suc j))) v a) i (p, x, low, e) = absurd (omega arith)
stands u i h = absurd h

pub in_order : AreNumberedInOrder facts (rule ∷ []) (0 ∷ []) seven
in_order = rule_numbered 0 rule seven none_numbered refl (record {
  mid = five;
  added = added;
  goes_on = λ k row at. slice_get-kept five opened k row at;
  opened = opened_fields;
  all = λ s u f. let h = fielded s u f in stands u h.1.0 h.1.1;
  fields = fields_in_order;
})

-- the second field before the first
abbrev turned : List Row
turned = argument_row 0 ∷ match_variant_row 0 1 0 ∷ match_variant_row 0 1 1 ∷ argument_row 1 ∷ int_row (pos 0) 1
    ∷ match_variant_row 3 1 1 ∷ match_variant_row 3 1 0 ∷ []

-- no more entries are put than sites are needed
put_one : (old : List Row) (row : Row) (k : ℕ) (new : List Row) → IsPut old row k new → length new ≤ length old + 1
put_one old row k new (inl (there, same)) = subst (λ (l : List Row). length l ≤ length old + 1) (sym same) (omega arith)
put_one old row k new (inr (absent, last, same)) =
    subst (λ (l : List Row). length l ≤ length old + 1) (sym same) (omega (arith, length_push old row))

few : {base : List Row} {needs : List Site} {table : List Row} → Adds base needs table → length table ≤ length base + length needs
few begin = omega arith
few (next {needed = before} {old = old} new site row k early entry put) = omega (arith, few early, put_one old row k new put, length_push before site)

pub not_turned : NumbersBehind [] needed (DemandOf facts rule) turned → ⊥
not_turned behind = let within : length behind.mid ≤ 5 = few behind.added in
    wrong (behind.fields.order 5 6 3 1 3 0 within (omega arith) (inl (1, refl)) (inl (1, refl)))
  where
    wrong : ComesBefore 3 1 3 0 → ⊥
    wrong (inl less) = omega arith
    wrong (inr (same, less)) = omega arith
