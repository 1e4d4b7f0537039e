-- What can be read holds something, of its sort.
use Rattle.std.proofs.Common.{◌≡◌, ◌<◌, ℕ, Bool, true, false, List, [], ◌∷◌, Option, Some, length, slice_get, inl, inr, refl, sym, ap, subst, ◌∙◌, arith}
use Rattle.std.specs.Prelude.{if◌then◌else◌}
use Rattle.isle_trees.proofs.Basics.{true_or}
use Rattle.isle_trees.specs.Rules.{Elem}
use Rattle.isle_meaning.specs.AboutSites.Kinds.{IsKinded}
use Rattle.isle_meaning.specs.Facts.{TermFacts}
use Rattle.isle_meaning.specs.Got.{Got, gives}
use Rattle.isle_meaning.specs.GroundValues.{AreValuesOf}
use Rattle.isle_meaning.specs.Held.{Held, held_value, held_outputs, held_none, held_some, held_answers, held}
use Rattle.isle_meaning.specs.Held.{output_of}
use Rattle.isle_meaning.specs.Machine.Runs.{Env, known, made_of, is_computed, read_row, read}
use Rattle.isle_meaning.specs.Machine.Trees.{IsTermTree, IsHeldOf, parts_of_row, site_of_row}
use Rattle.isle_meaning.specs.Machine.Walkable.{CanRead}
use Rattle.isle_meaning.specs.Numbered.{Row, bool_row, int_row, prim_row, argument_row, extractor_row, constructor_row, iterator_row}
use Rattle.isle_meaning.specs.Numbered.{make_variant_row, match_variant_row, make_struct_row, extract_struct_row, make_some_row}
use Rattle.isle_meaning.specs.Numbered.{match_some_row, match_tuple_row}
use Rattle.isle_meaning.specs.Outcomes.{given}
use Rattle.isle_meaning.specs.Sites.{Site}
use Rattle.isle_meaning.specs.Sorts.{Sort, plain_sort, tuple_sort, output_sort, sort}
use Rattle.isle_meaning.specs.Inside.TypedWords.{GivesTyped}
use Rattle.isle_meaning.specs.Values.{Value, Values, int_value, constant_value, made_variant, made_struct, no_values, count, ask}
use Rattle.isle_meaning.specs.Worlds.{CheckedProgram}
use Rattle.isle_meaning.proofs.Chains.Growing.{typed_count}
use Rattle.isle_meaning.proofs.Machine.Meant.{machine_run_meant}
use Rattle.isle_meaning.proofs.Machine.Rows.{read_typed}
use Rattle.isle_meaning.proofs.Sites.HeldKinds.{nth_there}
use Rattle.isle_calls.specs.Inside.Blocks.Frames.{IsGrown, AreBound, IsGoodEnv, sites_of_call, tree_of_call, runs_below}
use Rattle.isle_calls.specs.TreeCalls.{term_trees}
use Rattle.isle_calls.specs.Calls.Open.{CallOf}
use Rattle.isle_calls.specs.Calls.Ways.{IsReady}
use Rattle.isle_program.specs.Meanings.{checked, may_run}
use Rattle.isle_program.proofs.SoundPrograms.Known.{sound_of}

-- what holds values holds one
pub plain_holds : (p : CheckedProgram) (ty : ℕ) (h : Held) → IsHeldOf p (plain_sort ty) h → (v : Value) × (h ≡ held_value v)
plain_holds p ty (held_value v) is = (v, refl)
plain_holds p ty (held_outputs vs) is = absurd is
plain_holds p ty held_none is = absurd is
plain_holds p ty (held_some h) is = absurd is
plain_holds p ty (held_answers l) is = absurd is

-- what holds outputs holds as many as there are types
tuple_holds : (p : CheckedProgram) (types : List ℕ) (h : Held) → IsHeldOf p (tuple_sort types) h
    → (vs : Values) × (h ≡ held_outputs vs) × (count vs ≡ length types)
tuple_holds p types (held_value v) is = absurd is
tuple_holds p types (held_outputs vs) is = (vs, refl, typed_count p vs types is)
tuple_holds p types held_none is = absurd is
tuple_holds p types (held_some h) is = absurd is
tuple_holds p types (held_answers l) is = absurd is

-- a site with outputs isn't computed
pub outputs_bound : (facts : TermFacts) (tys : List ℕ) (site : ℕ → Site) (row : Row) (ts : List ℕ) → IsKinded facts tys (site_of_row site row)
    → sort facts tys (site_of_row site row) ≡ tuple_sort ts → is_computed row ≡ false
outputs_bound facts tys site (bool_row x ty) ts k e = refl
outputs_bound facts tys site (int_row n ty) ts k e = absurd (let q : plain_sort ty ≡ tuple_sort ts = e in cc)
outputs_bound facts tys site (prim_row name) ts k e = absurd (let q : plain_sort (facts.constant_type name) ≡ tuple_sort ts = e in cc)
outputs_bound facts tys site (argument_row i) ts k e = cc
outputs_bound facts tys site (extractor_row t j) ts k e = refl
outputs_bound facts tys site (constructor_row t js i) ts k e = refl
outputs_bound facts tys site (iterator_row j) ts k e = refl
outputs_bound facts tys site (make_variant_row ty n []) ts k e = cc
outputs_bound facts tys site (make_variant_row ty n (x ∷ xs)) ts k e = refl
outputs_bound facts tys site (match_variant_row j n i) ts k e = refl
outputs_bound facts tys site (make_struct_row ty []) ts k e = cc
outputs_bound facts tys site (make_struct_row ty (x ∷ xs)) ts k e = refl
outputs_bound facts tys site (extract_struct_row j i) ts k e = refl
outputs_bound facts tys site (make_some_row j) ts k e = refl
outputs_bound facts tys site (match_some_row j) ts k e = refl
outputs_bound facts tys site (match_tuple_row j i) ts k e =
    absurd (let f : output_sort (tuple_sort (k.1.0)) i ≡ tuple_sort ts = sym (ap (λ (s : Sort). output_sort s i) (k.1.1)) ∙ e in cc)

-- calls below a call give values of their types
pub below_typed : (k : CallOf) → IsGrown k.program → GivesTyped (checked k.program) (may_run k.program) (runs_below k)
below_typed k grown u vs effects v may typed run =
    (machine_run_meant (checked k.program) k.answers (may_run k.program) (sound_of k.program).sound (term_trees k.program) grown.trees k.depth u vs
    (run.0) effects (given v) may typed (run.1)).1

-- what a call has bound
module _ {k : CallOf} {env : Env} (is : IsTermTree (checked k.program) (may_run k.program) k.term (tree_of_call k))
    (ready : IsReady IsGrown k.program k.term k.args) (good : IsGoodEnv k is env) (knows : ℕ → Bool) (bound : AreBound knows env) where
  -- the sort of a site
  abbrev sort_there : ℕ → Sort
  sort_there j = sort (checked k.program).terms ((checked k.program).terms.inputs k.term) (is.site j)

  -- what a site holds
  abbrev held_there : ℕ → Got Held
  held_there = read (sites_of_call k) k.args env

  -- the arguments are of their types
  args_typed : AreValuesOf (checked k.program).values k.args ((checked k.program).terms.inputs k.term)
  args_typed = ready.typed

  -- what is bound is given
  known_given : (j : ℕ) → knows j ≡ true → (h : Held) × (known (env j) ≡ gives h)
  known_given j e = let (h, q) = bound j e in (h, ap known q)

  -- of a kind
  kind_of : (j : ℕ) (row : Row) → slice_get (sites_of_call k) j ≡ Some row
      → IsKinded (checked k.program).terms ((checked k.program).terms.inputs k.term) (site_of_row is.site row)
  kind_of j row at = subst (IsKinded (checked k.program).terms ((checked k.program).terms.inputs k.term)) (is.sited j row at) (is.kinded j row at)

  -- what is bound where outputs are is them
  outputs_known : (j i : ℕ) (ts : List ℕ) → knows j ≡ true → sort_there j ≡ tuple_sort ts → i < length ts
      → (h : Held) × (ask (output_of i) (known (env j)) ≡ gives h)
  outputs_known j i ts e sorted less =
      let (h, q) = bound j e in
      let here : IsHeldOf (checked k.program) (tuple_sort ts) h =
      subst (λ (z : Sort). IsHeldOf (checked k.program) z h) sorted (good.typed j h q) in
      let (vs, is, counted) = tuple_holds (checked k.program) ts h here in
      let (v, found) = nth_there vs i (let z : i < count vs = omega (arith, less, counted) in z) in
      (held_value v, ap (λ (o : Option Held). ask (output_of i) (known o)) (q ∙ ap Some is) ∙ ap held found)

  -- what is computed of what is bound is there
  computed_given : (row : Row) → is_computed row ≡ true → ((j : ℕ) → Elem j (parts_of_row row) → knows j ≡ true)
      → IsKinded (checked k.program).terms ((checked k.program).terms.inputs k.term) (site_of_row is.site row)
      → (h : Held) × (made_of k.args (λ j. known (env j)) row ≡ gives h)
  computed_given (bool_row x ty) y parts kind = absurd (let q : false ≡ true = y in cc)
  computed_given (int_row x ty) y parts kind = (held_value (int_value x), refl)
  computed_given (prim_row x) y parts kind = (held_value (constant_value x), refl)
  computed_given (argument_row i) y parts kind =
      let counted = typed_count (checked k.program) k.args ((checked k.program).terms.inputs k.term) args_typed in
      let (v, found) = nth_there k.args i (let z : i < count k.args = omega (arith, kind, counted) in z) in
      (held_value v, ap held found)
  computed_given (extractor_row u j) y parts kind = absurd (let q : false ≡ true = y in cc)
  computed_given (constructor_row u js i) y parts kind = absurd (let q : false ≡ true = y in cc)
  computed_given (iterator_row j) y parts kind = absurd (let q : false ≡ true = y in cc)
  computed_given (make_variant_row ty v []) y parts kind = (held_value (made_variant ty v no_values), refl)
  computed_given (make_variant_row ty v (j ∷ js)) y parts kind = absurd (let q : false ≡ true = y in cc)
  computed_given (match_variant_row j v i) y parts kind = absurd (let q : false ≡ true = y in cc)
  computed_given (make_struct_row ty []) y parts kind = (held_value (made_struct ty no_values), refl)
  computed_given (make_struct_row ty (j ∷ js)) y parts kind = absurd (let q : false ≡ true = y in cc)
  computed_given (extract_struct_row j i) y parts kind = absurd (let q : false ≡ true = y in cc)
  computed_given (make_some_row j) y parts kind = absurd (let q : false ≡ true = y in cc)
  computed_given (match_some_row j) y parts kind = absurd (let q : false ≡ true = y in cc)
  computed_given (match_tuple_row j i) y parts kind = outputs_known j i (kind.1.0) (parts j (inl refl)) (kind.1.1) (kind.1.2)

  -- What can be read holds something.
  pub read_holds : (j : ℕ) → CanRead (sites_of_call k) knows j → (h : Held) × (held_there j ≡ gives h)
  read_holds j c = elim (true_or (is_computed c.row)) [
    | inl y ↦
        let (h, e) = computed_given c.row y (c.parts_bound y) (kind_of j c.row c.there) in
        (h, ap (read_row k.args env j) c.there ∙ ap (λ (t : Bool). if t then made_of k.args (λ i. known (env i)) c.row else known (env j)) y ∙ e)
    | inr n ↦
        let (h, e) = known_given j (c.is_bound n) in
        (h, ap (read_row k.args env j) c.there ∙ ap (λ (t : Bool). if t then made_of k.args (λ i. known (env i)) c.row else known (env j)) n ∙ e)
  ]

  -- what is read is of its sort
  pub read_of_sort : (j : ℕ) (h : Held) → held_there j ≡ gives h → IsHeldOf (checked k.program) (sort_there j) h
  read_of_sort j h e = read_typed (checked k.program) k.answers (may_run k.program) (sound_of k.program).sound (runs_below k)
      (below_typed k ready.holds) k.term k.args args_typed (tree_of_call k) is env j h good.typed e
