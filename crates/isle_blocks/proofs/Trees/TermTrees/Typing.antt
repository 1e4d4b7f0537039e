-- What the sites of a term that a sound program runs hold is of their sorts, and their calls are of terms that may be called so.
use Rattle.std.proofs.Common.{◌≡◌, inl, inr, ℕ, zero, suc, List, [], ◌∷◌, map, true, false, Some, slice_get, refl, sym}
use Rattle.std.proofs.Common.{subst, ◌∙◌}
use Rattle.isle_types.specs.declared.ids.Sym.{Sym}
use Rattle.isle_rules.specs.declared.rules.Rule as source
use Rattle.isle_rules.specs.TypedRules.{TypedRule}
use Rattle.isle_meaning.specs.AboutSites.ImpureCalls.{IfLetsArePure}
use Rattle.isle_meaning.specs.Demands.{Demand, result_of}
use Rattle.isle_meaning.specs.Derived.{FieldOf, of_variant, of_struct}
use Rattle.isle_meaning.specs.Facts.{TermFacts}
use Rattle.isle_meaning.specs.Got.{Got, gives}
use Rattle.isle_meaning.specs.GroundValues.{IsValueOf, AreValuesOf}
use Rattle.isle_meaning.specs.Held.{Held, held_value, held_outputs, held_none, held_some, plain, variant_field, struct_field, output_of}
use Rattle.isle_meaning.specs.Laws.Matching.{IsRuleOfTypes}
use Rattle.isle_meaning.specs.Demands.{DemandOf}
use Rattle.isle_meaning.specs.Machine.Runs.{values_at, made_of}
use Rattle.isle_meaning.specs.Machine.Trees.{sites_at, site_of_row, parts_of_row, IsSingleRow, option_sort_if}
use Rattle.isle_meaning.specs.Machine.Trees as machine
use Rattle.isle_meaning.specs.Numbered.{Row, bool_row, int_row, prim_row, argument_row, extractor_row, constructor_row, iterator_row}
use Rattle.isle_meaning.specs.Numbered.{make_variant_row, match_variant_row, make_struct_row, extract_struct_row, make_some_row}
use Rattle.isle_meaning.specs.Numbered.{match_some_row, match_tuple_row}
use Rattle.isle_meaning.specs.Sites.{Site, constructor_call, extractor_call}
use Rattle.isle_meaning.specs.Sorts.{Sort, plain_sort, tuple_sort, option_sort, list_sort, sort, inner_sort, output_sort, field_sort}
use Rattle.isle_meaning.specs.SoundPrograms.{HasSoundData, IsSound}
use Rattle.isle_meaning.specs.Values.{Value, Values, bool_value, int_value, constant_value, made_variant, made_struct, no_values, more_values}
use Rattle.isle_meaning.specs.Values.{nth, more, made, built}
use Rattle.isle_meaning.specs.Worlds.{CheckedProgram}
use Rattle.isle_meaning.proofs.Calls.TypedValues.{none_typed, more_values_typed}
use Rattle.isle_meaning.proofs.Matching.Basics.{ask_gives, plain_gives, more_gives, content_gives}
use Rattle.isle_meaning.proofs.Sites.Pure.{sound_iflets_are_pure}
use Rattle.isle_trees.specs.Rules.{Elem}
use Rattle.isle_blocks.specs.Closure.{Stands}
use Rattle.isle_blocks.specs.DefinedSets.{IsSetOf}
use Rattle.isle_blocks.specs.Rows.{IsInjective, rows_of}
use Rattle.isle_blocks.specs.RuleSets.{RulesOverSites}
use Rattle.isle_blocks.specs.Trees.Premises.{IsRunnableSet}
use Rattle.isle_blocks.specs.Trees.SiteTrees.{tree_of}
use Rattle.isle_blocks.proofs.Trees.Promises.TypedCalls.{stands_typed}
use Rattle.isle_blocks.proofs.Trees.Promises.TypedHeld.{IsHeldOf, content_typed, field_typed, held_gives, made_struct_typed, nth_typed}
use Rattle.isle_blocks.proofs.Trees.Promises.TypedHeld.{output_typed, plain_typed, struct_typed, variant_typed}
use Rattle.isle_blocks.proofs.Trees.Promises.TypedSites.{AreTypedSites, IsTypedSite, result_sort}
use Rattle.isle_blocks.proofs.Trees.TermTrees.Callees.{CallsAsItMay, MayBeCalled, rule_may}
use Rattle.isle_blocks.proofs.Trees.TermTrees.Tables.{row_stands, sites_are}

-- ---- what is of a sort, in both words

-- what the machine holds of a sort is of it
to_held : (p : CheckedProgram) (k : Sort) (h : Held) → machine.IsHeldOf p k h → IsHeldOf p k h
to_held p (plain_sort ty) (held_value v) o = (v, refl, o)
to_held p (plain_sort ty) h o = absurd o
to_held p (tuple_sort ts) (held_outputs vs) o = (vs, refl, o)
to_held p (tuple_sort ts) h o = absurd o
to_held p (option_sort k) held_none o = inl refl
to_held p (option_sort k) (held_some h) o = inr (h, refl, to_held p k h o)
to_held p (option_sort k) h o = absurd o
to_held p (list_sort k) h o = absurd o

-- and what is of a sort is so held by the machine
from_held : (p : CheckedProgram) (k : Sort) (h : Held) → IsHeldOf p k h → machine.IsHeldOf p k h
from_held p (plain_sort ty) h (v, e, o) = subst (machine.IsHeldOf p (plain_sort ty)) (sym e) o
from_held p (tuple_sort ts) h (vs, e, o) = subst (machine.IsHeldOf p (tuple_sort ts)) (sym e) o
from_held p (option_sort k) h (inl e) = subst (machine.IsHeldOf p (option_sort k)) (sym e) tt
from_held p (option_sort k) h (inr (x, e, o)) = subst (machine.IsHeldOf p (option_sort k)) (sym e) (from_held p k x o)
from_held p (list_sort k) h o = absurd o

-- ---- what is made of what parts hold

module _ (p : CheckedProgram) (sound_data : HasSoundData p) (tys : List ℕ) (tree : ℕ → Site) (args : Values) (own : AreValuesOf p.values args tys)
    (at : ℕ → Got Held) where
  -- what is said of its terms
  abbrev facts : TermFacts
  facts = p.terms

  -- these numbers hold what is of their sorts
  abbrev AreHeld : List ℕ → Type 0
  AreHeld js = (j : ℕ) (g : Held) → Elem j js → at j ≡ gives g → machine.IsHeldOf p (sort p.terms tys (tree j)) g

  -- the values of typed parts are of their types
  values_typed : (js us : List ℕ) (vs : Values) → AreTypedSites p tys (sites_at tree js) us → AreHeld js → values_at at js ≡ gives vs
      → AreValuesOf p.values vs us
  values_typed [] [] vs k h e = let same : no_values ≡ vs = cc in subst (λ (z : Values). AreValuesOf p.values z []) same (none_typed p.values)
  values_typed [] (u ∷ us) vs k h e = absurd k
  values_typed (j ∷ js) [] vs k h e = absurd k
  values_typed (j ∷ js) (u ∷ us) vs k h e =
      let (x, xs, a, b) = more_gives (plain (at j)) (values_at at js) vs e in
      let parts : more (plain (at j)) (values_at at js) ≡ more (gives x) (gives xs) = λ i. more (a i) (b i) in
      let both : gives (more_values x xs) ≡ gives vs = sym parts ∙ e in
      let same : more_values x xs ≡ vs = cc in
      let here = to_held p (sort facts tys (tree j)) (held_value x) (h j (held_value x) (inl refl) (plain_gives (at j) x a)) in
      subst (λ (z : Values). AreValuesOf p.values z (u ∷ us)) same
      (more_values_typed p.values x xs u us (plain_typed p (sort facts tys (tree j)) u x (k.0.0) here)
      (values_typed js us xs (k.1) (λ i g m q. h i g (inr m) q) b))

  -- what a part holds, of its sort
  part_held : (j : ℕ) (g : Held) (js : List ℕ) → AreHeld (j ∷ js) → at j ≡ gives g → IsHeldOf p (sort facts tys (tree j)) g
  part_held j g js h e = to_held p (sort facts tys (tree j)) g (h j g (inl refl) e)

  -- What a typed row makes of what its parts hold is of its sort.
  pub row_makes : (row : Row) (h : Held) → IsTypedSite p tys (site_of_row tree row) → AreHeld (parts_of_row row) → made_of args at row ≡ gives h
      → IsHeldOf p (sort p.terms tys (site_of_row tree row)) h
  row_makes (bool_row b ty) h k o e = (bool_value b, (let z : held_value (bool_value b) ≡ h = cc in sym z), k)
  row_makes (int_row n ty) h k o e = (int_value n, (let z : held_value (int_value n) ≡ h = cc in sym z), k)
  row_makes (prim_row n) h k o e = (constant_value n, (let z : held_value (constant_value n) ≡ h = cc in sym z), k)
  row_makes (argument_row i) h k o e =
      let (v, there, is) = held_gives (nth args i) h e in (v, is, nth_typed p.values args tys i v own there)
  row_makes (extractor_row t j) h k o e = absurd cc
  row_makes (constructor_row t js i) h k o e = absurd cc
  row_makes (iterator_row j) h k o e = absurd cc
  row_makes (make_variant_row ty n js) h k o e =
      let (v, q, is) = held_gives (made ty n (values_at at js)) h e in
      let (vs, there, same) = ask_gives (λ (xs : Values). gives (made_variant ty n xs)) (values_at at js) v q in
      let fields = values_typed js (facts.variant_fields ty n) vs (k.1) o there in
      let one : made_variant ty n vs ≡ v = cc in
      (v, is, subst (λ (z : Value). IsValueOf p.values z ty) one (variant_typed p sound_data ty n vs (k.0) fields))
  row_makes (match_variant_row j n i) h (k, (u, plain_is)) o e =
      let (v, q, r) = ask_gives (variant_field n i) (plain (at j)) h e in
      let here = part_held j (held_value v) [] o (plain_gives (at j) v q) in
      subst (λ (z : Sort). IsHeldOf p (field_sort (λ (t : ℕ). facts.variant_fields t n) z i) h) (sym plain_is)
      (field_typed p sound_data n i v h u (plain_typed p (sort facts tys (tree j)) u v plain_is here) r)
  row_makes (make_struct_row ty js) h k o e =
      let (v, q, is) = held_gives (built ty (values_at at js)) h e in
      let (vs, there, same) = ask_gives (λ (xs : Values). gives (made_struct ty xs)) (values_at at js) v q in
      let fields = values_typed js (facts.struct_fields ty) vs (k.1) o there in
      let one : made_struct ty vs ≡ v = cc in
      (v, is, subst (λ (z : Value). IsValueOf p.values z ty) one (made_struct_typed p sound_data ty vs (k.0) fields))
  row_makes (extract_struct_row j i) h (k, (u, plain_is)) o e =
      let (v, q, r) = ask_gives (struct_field i) (plain (at j)) h e in
      let here = part_held j (held_value v) [] o (plain_gives (at j) v q) in
      subst (λ (z : Sort). IsHeldOf p (field_sort facts.struct_fields z i) h) (sym plain_is)
      (struct_typed p sound_data i v h u (plain_typed p (sort facts tys (tree j)) u v plain_is here) r)
  row_makes (make_some_row j) h k o e =
      let (g, q, r) = ask_gives (λ (x : Held). gives (held_some x)) (at j) h e in
      inr (g, (let z : held_some g ≡ h = cc in sym z), part_held j g [] o q)
  row_makes (match_some_row j) h (k, (s, option_is)) o e =
      let here = part_held j (held_some h) [] o (content_gives (at j) h e) in
      subst (λ (z : Sort). IsHeldOf p (inner_sort z) h) (sym option_is)
      (content_typed p s h (subst (λ (z : Sort). IsHeldOf p z (held_some h)) option_is here))
  row_makes (match_tuple_row j i) h (k, (ts, tuple_is, l)) o e =
      let (g, q, r) = ask_gives (output_of i) (at j) h e in
      let here = part_held j g [] o q in
      subst (λ (z : Sort). IsHeldOf p (output_sort z i) h) (sym tuple_is)
      (output_typed p i g h ts (subst (λ (z : Sort). IsHeldOf p z g) tuple_is here) r)

-- ---- by the kinds of rows

-- a typed row calls no `multi` term
single_row : (p : CheckedProgram) (tys : List ℕ) (tree : ℕ → Site) (row : Row) → IsTypedSite p tys (site_of_row tree row) → IsSingleRow p.terms row
single_row p tys tree (extractor_row t j) k = k.2
single_row p tys tree (constructor_row t js i) k = k.1
single_row p tys tree row k = tt

-- typed parts are of these sorts
part_sorts : (p : CheckedProgram) (tys : List ℕ) (tree : ℕ → Site) (js us : List ℕ) → AreTypedSites p tys (sites_at tree js) us
    → map (λ (j : ℕ). sort p.terms tys (tree j)) js ≡ map plain_sort us
part_sorts p tys tree [] [] k = refl
part_sorts p tys tree [] (u ∷ us) k = absurd k
part_sorts p tys tree (j ∷ js) [] k = absurd k
part_sorts p tys tree (j ∷ js) (u ∷ us) k =
    let one = k.0.0 in let rest = part_sorts p tys tree js us (k.1) in (λ i. one i ∷ rest i)

-- ---- by number

module _ (name : Sym → List ℕ) (p : CheckedProgram) (run : ℕ → Type 0) (sound : IsSound p run) (sources : List source.Rule)
    (term : ℕ) (runs : run term) (set : RulesOverSites) (is : IsSetOf name p.terms sources p.rules term set) where
  -- the rows of the set's sites
  abbrev rows : List Row
  rows = rows_of name set.sites

  -- the types of the term's arguments
  abbrev tys : List ℕ
  tys = p.terms.inputs term

  -- a number's tree
  abbrev tree : ℕ → Site
  tree = tree_of name set.sites

  -- The rules of the term are as elaboration makes them where they ask no `multi` term.
  pub rules_fit : (i : ℕ) (rule : TypedRule) → slice_get p.rules i ≡ Some rule → rule.root ≡ term
      → IsRuleOfTypes p.terms (p.terms.inputs term) rule
  rules_fit i rule at of_term =
      let its = sound.rules i rule at (subst run (sym of_term) runs) in
      subst (λ (t : ℕ). IsRuleOfTypes p.terms (p.terms.inputs t) rule) of_term
      (record { well = its.well; result_type = p.terms.type_of rule.root; var_types = its.var_types; typed = its.typed })

  -- Their if-lets make no impure calls.
  pub rules_ask_purely : (i : ℕ) (rule : TypedRule) → slice_get p.rules i ≡ Some rule → rule.root ≡ term → IfLetsArePure p.terms rule.iflets
  rules_ask_purely i rule at of_term =
      let its = sound.rules i rule at (subst run (sym of_term) runs) in
      sound_iflets_are_pure p rule.iflets its.pure_iflets

  -- so the set is that of a runnable term
  abbrev pub runnable : IsInjective name → IsRunnableSet name p.terms sources p.rules term set
  runnable injective = record {
    injective = injective;
    runnable = record { types = p.terms.inputs term; fit = rules_fit; pure = rules_ask_purely };
    is = is;
  }

  -- each row is typed
  row_typed : (k : ℕ) (row : Row) → slice_get rows k ≡ Some row → IsTypedSite p tys (site_of_row tree row)
  row_typed k row at =
      subst (IsTypedSite p tys) (sites_are name set.sites is.table k row at)
      (stands_typed name p run sound sources term runs set is (tree k) (k, row_stands name set.sites is.table k row at))

  -- a field is no call
  field_may : (D : Demand → Type 0) (t s : Site) → FieldOf D t s → CallsAsItMay p run s
  field_may D t s (of_variant h l) = tt
  field_may D t s (of_struct h l) = tt

  -- each site's call is of a term that may be called so
  stands_may : (s : Site) → Stands rows s → CallsAsItMay p run s
  stands_may s at =
      let from = is.explained s at in
      let r = from.reached in
      let its = sound.rules from.place r.rule r.at (subst run (sym r.of_term) runs) in
      let may = rule_may p run r.rule its in
      elim from.from [
        | inl n ↦ may.0 s n
        | inr other ↦ elim other [
          | inl q ↦ subst (CallsAsItMay p run) (sym q) (may.1 (p.terms.partial r.rule.root))
          | inr q ↦ field_may (DemandOf p.terms r.rule) (q.0) s (q.1)
        ]
      ]

  -- so is a row's
  row_may : (k t i : ℕ) (js : List ℕ) → slice_get rows k ≡ Some (constructor_row t js i) → MayBeCalled p run t i
  row_may k t i js at =
      subst (CallsAsItMay p run) (sites_are name set.sites is.table k (constructor_row t js i) at)
      (stands_may (tree k) (k, row_stands name set.sites is.table k (constructor_row t js i) at))

  -- Calls without a number are of pure terms.
  pub pure_are : (k t : ℕ) (js : List ℕ) → slice_get (rows_of name set.sites) k ≡ Some (constructor_row t js zero) → p.terms.pure t ≡ true
  pure_are k t js at = (row_may k t zero js at).1

  -- The others aren't.
  pub impure_are : (k t i : ℕ) (js : List ℕ) → slice_get (rows_of name set.sites) k ≡ Some (constructor_row t js (suc i)) → p.terms.pure t ≡ false
  impure_are k t i js at = (row_may k t (suc i) js at).1

  -- Of the terms with rules only those are called that are run.
  pub called_are : (k t i : ℕ) (js : List ℕ) → slice_get (rows_of name set.sites) k ≡ Some (constructor_row t js i) → p.has_rules t ≡ true
      → run t
  called_are k t i js at = of_number i (row_may k t i js at)
    where
      of_number : (i : ℕ) → MayBeCalled p run t i → p.has_rules t ≡ true → run t
      of_number zero h = h.0
      of_number (suc i) h = h.0

  -- No call is of a `multi` term.
  pub singles_are : (k : ℕ) (row : Row) → slice_get (rows_of name set.sites) k ≡ Some row → IsSingleRow p.terms row
  singles_are k row at = single_row p tys tree row (row_typed k row at)

  -- Calls are on sites of their types.
  pub inputs_are : (k t i : ℕ) (js : List ℕ) → slice_get (rows_of name set.sites) k ≡ Some (constructor_row t js i)
      → map (λ (j : ℕ). sort p.terms (p.terms.inputs term) (tree_of name set.sites j)) js ≡ map plain_sort (p.terms.inputs t)
  inputs_are k t i js at =
      let typed : IsTypedSite p tys (constructor_call t (sites_at tree js) i) = row_typed k (constructor_row t js i) at in
      part_sorts p tys tree js (p.terms.inputs t) (typed.0)

  -- An extractor takes a value of its type.
  pub extracts_are : (k t j : ℕ) → slice_get (rows_of name set.sites) k ≡ Some (extractor_row t j)
      → sort p.terms (p.terms.inputs term) (tree_of name set.sites j) ≡ plain_sort (p.terms.type_of t)
  extracts_are k t j at =
      let typed : IsTypedSite p tys (extractor_call t (tree j)) = row_typed k (extractor_row t j) at in typed.1

  -- What is made of what is of its sort is of its sort.
  pub makes_are : (args : Values) (k : ℕ) (row : Row) (at : ℕ → Got Held) (h : Held) → AreValuesOf p.values args (p.terms.inputs term)
      → slice_get (rows_of name set.sites) k ≡ Some row
      → ((j : ℕ) (g : Held) → Elem j (parts_of_row row) → at j ≡ gives g
      → machine.IsHeldOf p (sort p.terms (p.terms.inputs term) (tree_of name set.sites j)) g)
      → made_of args at row ≡ gives h → machine.IsHeldOf p (sort p.terms (p.terms.inputs term) (tree_of name set.sites k)) h
  makes_are args k row at h own there parts e =
      let made = row_makes p sound.data_sound tys tree args own at row h (row_typed k row there) parts e in
      subst (λ (s : Site). machine.IsHeldOf p (sort p.terms tys s) h) (sym (sites_are name set.sites is.table k row there))
      (from_held p (sort p.terms tys (site_of_row tree row)) h made)

  -- A rule's result is of the term's type.
  pub result_is_typed : (i : ℕ) (rule : TypedRule) → slice_get p.rules i ≡ Some rule → rule.root ≡ term
      → sort p.terms (p.terms.inputs term) (result_of p.terms (p.terms.partial term) rule)
      ≡ option_sort_if (p.terms.partial term) (plain_sort (p.terms.type_of term))
  result_is_typed i rule at of_term =
      let its = sound.rules i rule at (subst run (sym of_term) runs) in
      subst (λ (t : ℕ). sort p.terms (p.terms.inputs t) (result_of p.terms (p.terms.partial t) rule)
      ≡ option_sort_if (p.terms.partial t) (plain_sort (p.terms.type_of t))) of_term
      (result_sort p run rule its (p.terms.partial rule.root))
