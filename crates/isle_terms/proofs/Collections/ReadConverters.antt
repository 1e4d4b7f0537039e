-- Converters are read one by one into the table of their terms.
use Rattle.std.proofs.Common.{◌≡◌, ℕ, zero, suc, ◌+◌, ◌<◌, ◌≤◌, List, [], ◌∷◌, ◌++◌, length, map, take, true, false, cond, ◌&&◌, ◌==◌, inl, inr}
use Rattle.std.proofs.Common.{Option, Some, None, is_some, arith, refl, ap, sym, subst, ◌∙◌, slice_get}
use Rattle.std.specs.List.{AllZip}
use Rattle.std.specs.Option.{option_map, option_and_then}
use Rattle.std.proofs.lemmas.Bool.{false≢true, eqb-true, eq-eqb, and_parts, and_from}
use Rattle.std.proofs.lemmas.List.{take_all, map-append}
use Rattle.std.proofs.lemmas.Option.{same_Some, none-some}
use Rattle.std.proofs.lemmas.Slice.Zip.{all_zipped_more}
use Rattle.isle_ast.specs.declared.ast.Converter.{Converter as ConverterTree}
use Rattle.isle_ast.specs.declared.ast.Def.{Def}
use Rattle.isle_ast.specs.declared.pos.Pos.{Pos}
use Rattle.isle_ast.specs.declared.error.Error.{Error}
use Rattle.isle_ast.specs.declared.error.Error.TheVariants.{TypeError}
use Rattle.isle_ast.specs.Errors.{span_at}
use Rattle.isle_types.specs.declared.ids.TypeId.{TypeId}
use Rattle.isle_types.specs.declared.ids.TermId.{TermId}
use Rattle.isle_types.specs.Names.{position_of, AreDistinct}
use Rattle.isle_containers.specs.StableMaps.{value_at}
use Rattle.isle_types.specs.Environment.{Environment}
use Rattle.isle_types.specs.TypeTables.{TypeTables}
use Rattle.isle_types.specs.TypeEnvs.{Shows, type_of_name, type_at}
use Rattle.isle_containers.proofs.Lists.{slice_get-pushed, taken_more}
use Rattle.isle_types.proofs.NamePlaces.{place_some, place_found}
use Rattle.isle_rules.specs.Signatures.{Signature, Conversion, converter_in}
use Rattle.isle_rules.specs.Elaboration.{type_named}
use Rattle.isle_rules.specs.Definitions.{IsTypeNumber, IsConversion, pair_of, first_of, converters_in, names_of_terms}
use Rattle.isle_rules.specs.Shown.TermTables.{same_types}
use Rattle.isle_rules.specs.Shown.ShownTerms.{term_at}
use Rattle.isle_terms.specs.TermFaults.{ConverterBreaks, unknown_inner_type, unknown_outer_type, unknown_converter, second_converter}
use Rattle.isle_terms.specs.Inside.Collecting.Checks.{Checks}
use Rattle.isle_terms.specs.Inside.Collecting.ReadConverters.{IsReadAs, IsIllConverter, unknown_inner, unknown_outer, unknown_term, second_of_types}
use Rattle.isle_terms.specs.Inside.Collecting.ReadConverters.{IsTableOfConversions, AreReadConverters}
use Rattle.isle_terms.proofs.Collections.Checking.{check_none, check_same, check_fault}

-- a pair of types is that of a converter before a place
pub record IsOfEarlier (types : Environment) (trees : List ConverterTree) (place inner outer : ℕ) : Type 0 where
  pub earlier : ℕ
  pub tree : ConverterTree
  pub before : earlier < place
  pub at : slice_get trees earlier ≡ Some tree
  pub inner_is : IsTypeNumber types tree.inner_ty inner
  pub outer_is : IsTypeNumber types tree.outer_ty outer

-- a table is that of the conversions that these converters make
pub record AreReadSoFar (types : Environment) (signatures : List Signature) (trees : List ConverterTree) (table : List ((TypeId × TypeId) × TermId))
    : Type 0 where
  pub conversions : List Conversion
  pub each : AllZip (IsConversion types signatures) trees conversions
  pub once : AreDistinct (map pair_of conversions)
  pub shown : IsTableOfConversions signatures conversions table

-- the converters before a place were read into a table
pub record ReadUpTo (types : Environment) (defs : List Def) (signatures : List Signature) (place : ℕ) (table : List ((TypeId × TypeId) × TermId))
    (old new : List Error) : Type 0 where
  pub from : (inner outer : ℕ) → is_some (value_at same_types table (type_at inner, type_at outer)) ≡ true
      → IsOfEarlier types (converters_in defs) place inner outer
  pub checks : Checks (ConverterBreaks types defs signatures) (AreReadSoFar types signatures (take place (converters_in defs)) table) old new

-- what is before a place is before the next one
earlier_more : (types : Environment) (trees : List ConverterTree) (place inner outer : ℕ) → IsOfEarlier types trees place inner outer
    → IsOfEarlier types trees (place + 1) inner outer
earlier_more types trees place inner outer of = record {
  earlier = of.earlier;
  tree = of.tree;
  before = omega (arith, of.before);
  at = of.at;
  inner_is = of.inner_is;
  outer_is = of.outer_is;
}

-- the first of an option and none
first_alone : {X : Type 0} (o : Option X) → first_of o None ≡ o
first_alone None = refl
first_alone (Some x) = refl

-- the converter of a pair among one more
converter_pushed : (conversions : List Conversion) (last : Conversion) (inner outer : ℕ)
    → converter_in (conversions ++ last ∷ []) inner outer
    ≡ first_of (converter_in conversions inner outer) (cond ((last.inner == inner) && (last.outer == outer)) (Some last.term) None)
converter_pushed [] last inner outer = refl
converter_pushed (first ∷ others) last inner outer = elim ((first.inner == inner) && (first.outer == outer)) as
    (λ b. cond b (Some first.term) (converter_in (others ++ last ∷ []) inner outer)
    ≡ first_of (cond b (Some first.term) (converter_in others inner outer))
    (cond ((last.inner == inner) && (last.outer == outer)) (Some last.term) None)) [
      | true ↦ refl
      | false ↦ converter_pushed others last inner outer
    ]

-- a converter whose term has no place isn't there, since each one's term is known
not_there : (types : Environment) (signatures : List Signature) (inner outer : ℕ) (trees : List ConverterTree) (conversions : List Conversion)
    → AllZip (IsConversion types signatures) trees conversions
    → option_and_then (position_of (names_of_terms signatures)) (converter_in conversions inner outer) ≡ None
    → converter_in conversions inner outer ≡ None
not_there types signatures inner outer [] [] each missing = refl
not_there types signatures inner outer [] (first ∷ others) each missing = absurd each
not_there types signatures inner outer (tree ∷ trees) [] each missing = absurd each
not_there types signatures inner outer (tree ∷ trees) (first ∷ others) each missing = elim ((first.inner == inner) && (first.outer == outer)) as
    (λ b. option_and_then (position_of (names_of_terms signatures)) (cond b (Some first.term) (converter_in others inner outer)) ≡ None
    → cond b (Some first.term) (converter_in others inner outer) ≡ None) [
      | true ↦ λ no_place.
          let known = place_some (names_of_terms signatures) tree.term.0 each.0.known.0 each.0.known.1 in
          absurd (none-some known.0 (sym no_place ∙ ap (position_of (names_of_terms signatures)) each.0.term ∙ known.1))
      | false ↦ not_there types signatures inner outer trees others each.1
    ] missing

-- a pair without a converter is that of no conversion
pair_missing : (conversions : List Conversion) (inner outer : ℕ) → converter_in conversions inner outer ≡ None → (place : ℕ)
    → slice_get (map pair_of conversions) place ≡ Some (inner, outer) → ⊥
pair_missing [] inner outer missing place at = none-some (inner, outer) at
pair_missing (first ∷ others) inner outer missing zero at =
    let same = same_Some (pair_of first) (inner, outer) at in
    let test = and_from (first.inner == inner) (first.outer == outer) (eq-eqb first.inner inner (ap (λ (pair : ℕ × ℕ). pair.0) same))
    (eq-eqb first.outer outer (ap (λ (pair : ℕ × ℕ). pair.1) same)) in
    none-some first.term (sym missing ∙ ap (λ b. cond b (Some first.term) (converter_in others inner outer)) test)
pair_missing (first ∷ others) inner outer missing (suc place) at = elim ((first.inner == inner) && (first.outer == outer)) as
    (λ b. cond b (Some first.term) (converter_in others inner outer) ≡ None → ⊥) [
      | true ↦ λ is. none-some first.term (sym is)
      | false ↦ λ is. pair_missing others inner outer is place at
    ] missing

-- a pair that isn't there, behind pairs that stand once
once_more : (pairs : List (ℕ × ℕ)) (last : ℕ × ℕ) → AreDistinct pairs → ((place : ℕ) → slice_get pairs place ≡ Some last → ⊥)
    → AreDistinct (pairs ++ last ∷ [])
once_more pairs last once new = λ pair i j at_i at_j.
    elim (slice_get-pushed pairs last i pair at_i) [
      | inl before_i ↦ elim (slice_get-pushed pairs last j pair at_j) [
        | inl before_j ↦ once pair i j before_i before_j
        | inr last_j ↦ absurd (new i (before_i ∙ ap Some (sym last_j.1)))
      ]
      | inr last_i ↦ elim (slice_get-pushed pairs last j pair at_j) [
        | inl before_j ↦ absurd (new j (before_j ∙ ap Some (sym last_i.1)))
        | inr last_j ↦ last_i.0 ∙ sym last_j.0
      ]
    ]

-- what is mapped from nothing is nothing
none_mapped : {X Y : Type 0} (f : X → Y) (o : Option X) → option_map f o ≡ None → o ≡ None
none_mapped f None is = refl
none_mapped f (Some x) is = absurd (none-some (f x) (sym is))

-- a name without a type
pub unknown_type : (tyenv : TypeTables) (types : Environment) (name : List ℕ) → Shows tyenv types → type_of_name tyenv name ≡ None
    → type_named types name ≡ None
unknown_type tyenv types name shows is = none_mapped type_at (type_named types name) (sym (shows.named name) ∙ is)

-- the type of a name has its number
pub known_type : (tyenv : TypeTables) (types : Environment) (name : List ℕ) (ty : TypeId) → Shows tyenv types
    → type_of_name tyenv name ≡ Some ty → type_named types name ≡ Some ty.0
known_type tyenv types name ty shows is = by_number (type_named types name) (sym (shows.named name) ∙ is)
  where
    by_number : (o : Option ℕ) → option_map type_at o ≡ Some ty → o ≡ Some ty.0
    by_number None none = absurd (none-some ty none)
    by_number (Some number) some = ap (λ (ty : TypeId). Some ty.0) (same_Some (type_at number) ty some)

-- nothing is read yet
pub read_none : (types : Environment) (defs : List Def) (signatures : List Signature) (table : List ((TypeId × TypeId) × TermId))
    (errors : List Error) → table ≡ [] → ReadUpTo types defs signatures 0 table errors errors
read_none types defs signatures table errors empty = subst (λ table. ReadUpTo types defs signatures 0 table errors errors) (sym empty) (record {
  from = λ inner outer is. absurd (false≢true is);
  checks = check_none errors (record {
    conversions = [];
    each = tt;
    once = λ pair i j at_i at_j. absurd (none-some pair at_i);
    shown = λ inner outer. refl;
  });
})

-- an ill converter breaks a rule, where the table has only pairs of earlier ones
ill_breaks : (types : Environment) (defs : List Def) (signatures : List Signature) (table : List ((TypeId × TypeId) × TermId)) (place : ℕ)
    (tree : ConverterTree) (at : Pos) → slice_get (converters_in defs) place ≡ Some tree
    → ((inner outer : ℕ) → is_some (value_at same_types table (type_at inner, type_at outer)) ≡ true
    → IsOfEarlier types (converters_in defs) place inner outer) → IsIllConverter types (names_of_terms signatures) table tree at
    → ConverterBreaks types defs signatures at
ill_breaks types defs signatures table place tree at here from (unknown_inner missing) = unknown_inner_type tree (place, here) missing
ill_breaks types defs signatures table place tree at here from (unknown_outer missing) = unknown_outer_type tree (place, here) missing
ill_breaks types defs signatures table place tree at here from (unknown_term missing) = unknown_converter tree (place, here) (λ known.
    let found = place_some (names_of_terms signatures) tree.term.0 known.0 known.1 in none-some found.0 (sym missing ∙ found.1))
ill_breaks types defs signatures table place tree at here from (second_of_types inner outer inner_is outer_is there) =
    let first = from inner outer there in
    second_converter place tree here (record {
      earlier = first.earlier;
      first = first.tree;
      second = tree;
      before = first.before;
      at_first = first.at;
      at_second = here;
      inner = first.inner_is ∙ sym inner_is;
      outer = first.outer_is ∙ sym outer_is;
    })

-- an ill converter is reported, and the table is as it was
pub read_ill : (types : Environment) (defs : List Def) (signatures : List Signature) (table now : List ((TypeId × TypeId) × TermId)) (place : ℕ)
    (tree : ConverterTree) (old mid new : List Error) (message : List ℕ) (at : Pos) → slice_get (converters_in defs) place ≡ Some tree
    → IsIllConverter types (names_of_terms signatures) table tree at → now ≡ table → new ≡ mid ++ TypeError message (span_at at) ∷ []
    → ReadUpTo types defs signatures place table old mid → ReadUpTo types defs signatures (place + 1) now old new
read_ill types defs signatures table now place tree old mid new message at here ill same is read =
    subst (λ table. ReadUpTo types defs signatures (place + 1) table old new) (sym same) (record {
      from = λ inner outer there. earlier_more types (converters_in defs) place inner outer (read.from inner outer there);
      checks = check_fault new message at is (ill_breaks types defs signatures table place tree at here read.from ill) read.checks;
    })

-- a converter of a new pair of types comes into the table
module _ (types : Environment) (defs : List Def) (signatures : List Signature) (table now : List ((TypeId × TypeId) × TermId)) (place : ℕ)
    (tree : ConverterTree) (read : (TypeId × TypeId) × TermId) where
  -- what the converter makes
  abbrev made : Conversion
  made = record { inner = read.0.0.0; outer = read.0.1.0; term = tree.term.0 }

  -- the table has what it had, but at this pair
  abbrev IsAdded : Type 0
  IsAdded = (pair : TypeId × TypeId)
      → value_at same_types now pair ≡ cond (same_types read.0 pair) (Some read.1) (value_at same_types table pair)

  -- the table has the conversions and this one
  shown_more : (conversions : List Conversion) → IsReadAs types (names_of_terms signatures) tree read → IsAdded
      → converter_in conversions read.0.0.0 read.0.1.0 ≡ None → IsTableOfConversions signatures conversions table
      → IsTableOfConversions signatures (conversions ++ made ∷ []) now
  shown_more conversions is added missing shown = λ inner outer.
      let as_term : Option (List ℕ) → Option TermId = λ o. option_map term_at (option_and_then (position_of (names_of_terms signatures)) o) in
      added (type_at inner, type_at outer) ∙ elim (same_types read.0 (type_at inner, type_at outer)) as
      (λ b. same_types read.0 (type_at inner, type_at outer) ≡ b → cond b (Some read.1) (value_at same_types table (type_at inner, type_at outer))
      ≡ as_term (first_of (converter_in conversions inner outer) (cond b (Some tree.term.0) None))) [
        | true ↦ λ same.
            let parts = and_parts _ _ same in
            let none = ap (λ n. converter_in conversions n outer) (sym (eqb-true _ _ parts.0))
            ∙ ap (converter_in conversions read.0.0.0) (sym (eqb-true _ _ parts.1)) ∙ missing in
            sym (ap (λ o. as_term (first_of o (Some tree.term.0))) none ∙ ap (option_map term_at) is.term)
        | false ↦ λ _. shown inner outer ∙ ap as_term (sym (first_alone (converter_in conversions inner outer)))
      ] refl ∙ ap as_term (sym (converter_pushed conversions made inner outer))

  -- what the converters make, with this one
  conversions_more : slice_get (converters_in defs) place ≡ Some tree → IsReadAs types (names_of_terms signatures) tree read → IsAdded
      → value_at same_types table read.0 ≡ None → AreReadSoFar types signatures (take place (converters_in defs)) table
      → AreReadSoFar types signatures (take (place + 1) (converters_in defs)) now
  conversions_more here is added new before =
      let trees = take place (converters_in defs) in
      let missing = not_there types signatures read.0.0.0 read.0.1.0 trees before.conversions before.each
      (none_mapped term_at _ (sym (before.shown read.0.0.0 read.0.1.0) ∙ new)) in
      let last : IsConversion types signatures tree made = record {
        inner = is.inner;
        outer = is.outer;
        term = refl;
        known = (read.1.0, place_found (names_of_terms signatures) tree.term.0 read.1.0 is.term);
      } in
      record {
        conversions = before.conversions ++ made ∷ [];
        each = subst (λ trees. AllZip (IsConversion types signatures) trees (before.conversions ++ made ∷ []))
            (sym (taken_more (converters_in defs) place tree here))
            (all_zipped_more (IsConversion types signatures) trees before.conversions tree made before.each last);
        once = subst AreDistinct (sym (map-append pair_of before.conversions (made ∷ [])))
            (once_more (map pair_of before.conversions) (pair_of made) before.once
            (pair_missing before.conversions read.0.0.0 read.0.1.0 missing));
        shown = shown_more before.conversions is added missing before.shown;
      }

  -- each pair of types in the table is that of this converter or of an earlier one
  from_more : slice_get (converters_in defs) place ≡ Some tree → IsReadAs types (names_of_terms signatures) tree read → IsAdded
      → ((inner outer : ℕ) → is_some (value_at same_types table (type_at inner, type_at outer)) ≡ true
      → IsOfEarlier types (converters_in defs) place inner outer)
      → (inner outer : ℕ) → is_some (value_at same_types now (type_at inner, type_at outer)) ≡ true
      → IsOfEarlier types (converters_in defs) (place + 1) inner outer
  from_more here is added from = λ inner outer there.
      elim (same_types read.0 (type_at inner, type_at outer)) as
      (λ b. same_types read.0 (type_at inner, type_at outer) ≡ b
      → is_some (cond b (Some read.1) (value_at same_types table (type_at inner, type_at outer))) ≡ true
      → IsOfEarlier types (converters_in defs) (place + 1) inner outer) [
        | true ↦ λ same _.
            let parts = and_parts _ _ same in
            record {
              earlier = place;
              tree = tree;
              before = omega arith;
              at = here;
              inner_is = is.inner ∙ ap Some (eqb-true _ _ parts.0);
              outer_is = is.outer ∙ ap Some (eqb-true _ _ parts.1);
            }
        | false ↦ λ _ was. earlier_more types (converters_in defs) place inner outer (from inner outer was)
      ] refl (sym (ap is_some (added (type_at inner, type_at outer))) ∙ there)

  -- the converters up to this one were read
  pub read_more : (old mid new : List Error) → slice_get (converters_in defs) place ≡ Some tree
      → IsReadAs types (names_of_terms signatures) tree read → value_at same_types table read.0 ≡ None → IsAdded → new ≡ mid
      → ReadUpTo types defs signatures place table old mid → ReadUpTo types defs signatures (place + 1) now old new
  read_more old mid new here is absent added same before = record {
    from = from_more here is added before.from;
    checks = check_same new same (conversions_more here is added absent) before.checks;
  }

-- all converters were read
pub read_all : (types : Environment) (defs : List Def) (signatures : List Signature) (place : ℕ) (table : List ((TypeId × TypeId) × TermId))
    (old new : List Error) → length (converters_in defs) ≤ place → ReadUpTo types defs signatures place table old new
    → Checks (ConverterBreaks types defs signatures) (AreReadConverters types defs signatures table) old new
read_all types defs signatures place table old new past read = check_same new refl (λ so_far. record {
  conversions = so_far.conversions;
  made = record {
    each = subst (λ trees. AllZip (IsConversion types signatures) trees so_far.conversions) (take_all place (converters_in defs) past) so_far.each;
    once = so_far.once;
  };
  shown = so_far.shown;
}) read.checks
