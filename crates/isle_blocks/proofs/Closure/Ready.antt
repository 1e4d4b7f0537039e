-- What the visit of a rule leaves is ready to be closed.
use Rattle.std.proofs.Common.{◌≡◌, ◌++◌, inl, inr, ℕ, List, [], ◌∷◌, Option, Some, slice_get, sym, subst}
use Rattle.std.specs.Prelude.{Contains}
use Rattle.isle_containers.proofs.RootedTables.{Contains-map}
use Rattle.isle_types.specs.declared.ids.Sym.{Sym}
use Rattle.isle_rules.specs.TypedRules.{TypedRule}
use Rattle.isle_meaning.specs.Facts.{TermFacts}
use Rattle.isle_meaning.specs.Sites.{Site}
use Rattle.isle_meaning.specs.Demands.{constrained, demands_of}
use Rattle.isle_meaning.specs.Demands.{DemandOf}
use Rattle.isle_meaning.specs.Needs.{needs_of, IsNeeded, FieldsAreNeeded}
use Rattle.isle_meaning.specs.Numbered.{Row, At, AreRecorded}
use Rattle.isle_meaning.proofs.Matching.Needing.{needs_have_fields}
use Rattle.isle_blocks.specs.declared.ids.BindingId.{BindingId}
use Rattle.isle_blocks.specs.declared.binding.Binding.{Binding}
use Rattle.isle_blocks.specs.declared.constraint.Constraint.{Constraint}
use Rattle.isle_blocks.specs.declared.constraint.Constraint.TheVariants as tests
use Rattle.isle_blocks.specs.Rows.{IsInjective, rows_of, test_of, constraints_of, pairs_of}
use Rattle.isle_blocks.specs.Closure.{Stands}
use Rattle.isle_blocks.specs.Inside.ClosureFields.{Opens, field_binding, field_site}
use Rattle.isle_blocks.specs.Tables.{IsTable}
use Rattle.isle_blocks.specs.Inside.ClosureStates.{IsReady, HasField}
use Rattle.isle_blocks.specs.Building.Standing.{Adds, begin, next}
use Rattle.isle_blocks.proofs.Closure.Trees.{at_below, at_field, one_number}
use Rattle.isle_blocks.proofs.Building.Entries.{at_grown, put_grown, put_there, entry_at}

needed_cases : (xs : List Site) (s t : Site) → IsNeeded (xs ++ t ∷ []) s → (P : Type 0) → (IsNeeded xs s → P) → (s ≡ t → P) → P
needed_cases [] s t (inl e) P f g = g e
needed_cases [] s t (inr h) P f g = absurd h
needed_cases (x ∷ xs) s t (inl e) P f g = f (inl e)
needed_cases (x ∷ xs) s t (inr h) P f g = needed_cases xs s t h P (λ k. f (inr k)) g

-- what is needed has a number
pub needed_stands : (base : List Row) (needed : List Site) (rows : List Row) → Adds base needed rows → (s : Site) → IsNeeded needed s
    → (k : ℕ) × At rows s k
needed_stands base needed rows begin s h = absurd h
needed_stands base needed rows (next {needed = sites} {old = old} new site row j before is put) s h =
    needed_cases sites s site h ((k : ℕ) × At rows s k)
    (λ k. let (i, p) = needed_stands base sites old before s k in (i, at_grown old rows (put_grown old row j rows put) s i p))
    (λ e. (
      j,
      subst (λ (z : Site). At rows z j) (sym e) (entry_at old rows (put_grown old row j rows put) site row j is
          (put_there old row j rows put)),
    ))

-- a field that a test opens is one of the fields that are needed
opened_needed : (name : Sym → List ℕ) (N : Site → Type 0) (s : Site) (c : Constraint) (kind : Option ℕ) (i : ℕ)
    → FieldsAreNeeded N (constrained s (test_of name c)) → Opens c kind i → N (field_site kind s i)
opened_needed name N s (tests.Variant ty v n) kind i all (e, l) = subst (λ (k : Option ℕ). N (field_site k s i)) (sym e) (all i l)
opened_needed name N s (tests.Struct ty n) kind i all (e, l) = subst (λ (k : Option ℕ). N (field_site k s i)) (sym e) (all i l)
opened_needed name N s (tests.ConstBool v ty) kind i all h = absurd h
opened_needed name N s (tests.ConstInt v ty) kind i all h = absurd h
opened_needed name N s (tests.ConstPrim v) kind i all h = absurd h
opened_needed name N s tests.Some kind i all h = absurd h

-- Where a rule's demands are recorded in a table that has all sites that the rule needs, the rule is ready to be closed.
module _ (name : Sym → List ℕ) (injective : IsInjective name) (facts : TermFacts) (rule : TypedRule) (table : List Binding)
    (has : List (BindingId × Constraint)) (same : List (BindingId × BindingId)) (table_ok : IsTable table)
    (recorded : AreRecorded (rows_of name table) (constraints_of name has) (pairs_of same) (demands_of facts rule))
    (stand : (s : Site) → IsNeeded (needs_of facts rule) s → Stands (rows_of name table) s) where
  -- a recorded test is one of the rule's demands
  tested : (a : BindingId) (c : Constraint) → Contains has (a, c)
      → (s : Site) × At (rows_of name table) s a.0 × DemandOf facts rule (constrained s (test_of name c))
  tested a c h =
      recorded.constraint a.0 (test_of name c)
      (Contains-map (λ (p : BindingId × Constraint). (p.0.0, test_of name p.1)) has (a, c) h)

  field_stands : (a : BindingId) (c : Constraint) (kind : Option ℕ) (i : ℕ) → Contains has (a, c) → Opens c kind i → HasField table kind a.0 i
  field_stands a c kind i h opens =
      let (s, p, d) = tested a c h in
      let need = opened_needed name (IsNeeded (needs_of facts rule)) s c kind i
      (needs_have_fields facts rule (constrained s (test_of name c)) d) opens in
      let (f, q) = stand (field_site kind s i) need in
      let (b, e, r) = at_field name table injective kind s i f q in
      (f, subst (λ (z : ℕ). slice_get table f ≡ Some (field_binding kind z i)) (one_number name table injective table_ok s b a.0 r p) e)

  pub ready_of_recorded : IsReady table has same
  ready_of_recorded = record {
    sites = table_ok;
    constrained = λ a c h. let (s, p, d) = tested a c h in at_below name table s a.0 p;
    one = λ a b h.
        let pair : BindingId × BindingId → ℕ × ℕ = λ p. (p.0.0, p.1.0) in
        let (s, u, p, q, d) = recorded.equality a.0 b.0 (Contains-map pair same (a, b) h) in at_below name table s a.0 p;
    other = λ a b h.
        let pair : BindingId × BindingId → ℕ × ℕ = λ p. (p.0.0, p.1.0) in
        let (s, u, p, q, d) = recorded.equality a.0 b.0 (Contains-map pair same (a, b) h) in at_below name table u b.0 q;
    fields = field_stands;
  }
