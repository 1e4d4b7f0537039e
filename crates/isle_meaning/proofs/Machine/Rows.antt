-- A site that is bound holds what a completion says, and what its sort asks.
use Rattle.std.proofs.Common.{◌≡◌, inl, inr, ℕ, zero, suc, Bool, true, false, not, List, [], ◌∷◌, map, Option, Some, None, slice_get, refl, sym, ◌∙◌, ap, subst, arith}
use Rattle.std.proofs.Math.Decide.{ℕ_discrete}
use Rattle.std.specs.Prelude.{if◌then◌else◌}
use Rattle.isle_trees.proofs.Basics.{true_or}
use Rattle.isle_trees.specs.Got.{Got, unknown, fails, gives}
use Rattle.isle_meaning.specs.Answers.{Completion}
use Rattle.isle_meaning.specs.Calls.{Agrees}
use Rattle.isle_meaning.specs.GroundValues.{IsValueOf, AreValuesOf}
use Rattle.isle_meaning.specs.Held.{Held, held_value, held_none, held_some, plain, outputs_of, extracted, constructed, value, values}
use Rattle.isle_meaning.specs.Held.{several_of}
use Rattle.isle_meaning.specs.Machine.Runs.{TermTree, Env, Runs, known, values_at, made_of, is_computed, read_row, read, Comes, holding}
use Rattle.isle_meaning.specs.Machine.Runs.{option_if, RowRuns}
use Rattle.isle_meaning.specs.Machine.Trees.{sites_at, is_effect, is_call, IsHeldOf, IsTermTree}
use Rattle.isle_meaning.specs.Numbered.{Row, bool_row, int_row, prim_row, argument_row, extractor_row, constructor_row, iterator_row}
use Rattle.isle_meaning.specs.Numbered.{make_variant_row, match_variant_row, make_struct_row, extract_struct_row, make_some_row}
use Rattle.isle_meaning.specs.Numbered.{match_some_row, match_tuple_row}
use Rattle.isle_meaning.specs.Outcomes.{Outcome, given, missing, ended, WorldExtracts, ConstructsIf, EffectsIf}
use Rattle.isle_meaning.specs.Sorts.{Sort, plain_sort, option_sort, sort, of_outputs, extract_sort, construct_sort}
use Rattle.isle_meaning.specs.SoundPrograms.{IsSound}
use Rattle.isle_meaning.specs.Inside.TypedWords.{GivesTyped}
use Rattle.isle_meaning.specs.Values.{Value, Values, no_values, more_values, more, ask}
use Rattle.isle_meaning.specs.Words.{set}
use Rattle.isle_meaning.specs.Worlds.{CheckedProgram, Answers, Event}
use Rattle.isle_meaning.proofs.Calls.Giving.{judged_given, allowed_typed, extract_gives_typed}
use Rattle.isle_meaning.proofs.Calls.Saying.{SaysOutcome, GivesMeant, construct_says, extract_says}
use Rattle.isle_meaning.proofs.Calls.TypedValues.{none_typed, more_values_typed, values_parted}
use Rattle.isle_meaning.proofs.Chains.Growing.{typed_count}
use Rattle.isle_meaning.specs.AboutSites.Agreeing.{AgreeIfKnown}
use Rattle.isle_meaning.proofs.Sites.Agreeing.{same_plain}
use Rattle.isle_meaning.proofs.Machine.Reading.{values_there, made_there, values_same, made_same, row_or, IsKept, read_same, comes_says}
use Rattle.isle_meaning.proofs.Machine.Reading.{extracted_says, constructed_says, asked_says}
use Rattle.isle_meaning.proofs.Matching.Basics.{more_gives, plain_gives, set_at, set_other}

-- what is known is bound
known_is : {A : Type 0} (o : Option A) (x : A) → known o ≡ gives x → o ≡ Some x
known_is None x e = cc
known_is (Some y) x e = cc

-- A site that is no impure call makes no effects.
pub row_calm : (p : CheckedProgram) (w : Answers) (below : Runs) (sites : List Row) (args : Values) (env : Env)
    (row : Row) (effects : List Event) (r : Outcome Held) → is_effect row ≡ false
    → RowRuns p w below sites args env row effects r → effects ≡ []
row_calm p w below sites args env (extractor_row u j) effects r n (v, g, e, run, m, q) = m
row_calm p w below sites args env (constructor_row u js zero) effects r n (vs, g, e, run, m, q) = m
row_calm p w below sites args env (constructor_row u js (suc i)) effects r n run = absurd cc
row_calm p w below sites args env (bool_row x ty) effects r n (m, q) = m
row_calm p w below sites args env (int_row x ty) effects r n (m, q) = m
row_calm p w below sites args env (prim_row x) effects r n (m, q) = m
row_calm p w below sites args env (argument_row i) effects r n (m, q) = m
row_calm p w below sites args env (iterator_row j) effects r n (m, q) = m
row_calm p w below sites args env (make_variant_row ty v js) effects r n (m, q) = m
row_calm p w below sites args env (match_variant_row j v i) effects r n (m, q) = m
row_calm p w below sites args env (make_struct_row ty js) effects r n (m, q) = m
row_calm p w below sites args env (extract_struct_row j i) effects r n (m, q) = m
row_calm p w below sites args env (make_some_row j) effects r n (m, q) = m
row_calm p w below sites args env (match_some_row j) effects r n (m, q) = m
row_calm p w below sites args env (match_tuple_row j i) effects r n (m, q) = m

module _ (p : CheckedProgram) where
  -- outputs of their types
  pub outputs_held : (us : List ℕ) (vs : Values) → AreValuesOf p.values vs us → IsHeldOf p (of_outputs us) (outputs_of vs)
  outputs_held [] no_values h = h
  outputs_held [] (more_values x xs) h = absurd (let e = typed_count p (more_values x xs) [] h in omega arith)
  outputs_held (u ∷ []) no_values h = absurd (let e = typed_count p no_values (u ∷ []) h in omega arith)
  outputs_held (u ∷ []) (more_values x no_values) h = (values_parted p.values x no_values u [] h).0
  outputs_held (u ∷ []) (more_values x (more_values y ys)) h = absurd (let e = typed_count p (more_values x (more_values y ys)) (u ∷ []) h in
      omega arith)
  outputs_held (u ∷ (z ∷ us)) no_values h = absurd (let e = typed_count p no_values (u ∷ (z ∷ us)) h in omega arith)
  outputs_held (u ∷ (z ∷ us)) (more_values x no_values) h = absurd (let e = typed_count p (more_values x no_values) (u ∷ (z ∷ us)) h in omega arith)
  outputs_held (u ∷ (z ∷ us)) (more_values x (more_values y ys)) h = h

  -- what an extractor's call holds is of its sort
  extract_held_of : (infallible : Bool) (us : List ℕ) (g : Outcome Values) (h : Held) → ((vs : Values) → g ≡ given vs → AreValuesOf p.values vs us)
      → given h ≡ option_if (not infallible) (holding outputs_of g) → IsHeldOf p (extract_sort false infallible (of_outputs us)) h
  extract_held_of true us (given vs) h f e = let q : outputs_of vs ≡ h = cc in subst (IsHeldOf p (of_outputs us)) q (outputs_held us vs (f vs refl))
  extract_held_of true us missing h f e = absurd cc
  extract_held_of true us (ended q) h f e = absurd cc
  extract_held_of false us (given vs) h f e =
      let q : held_some (outputs_of vs) ≡ h = cc in subst (IsHeldOf p (option_sort (of_outputs us))) q (outputs_held us vs (f vs refl))
  extract_held_of false us missing h f e = let q : held_none ≡ h = cc in subst (IsHeldOf p (option_sort (of_outputs us))) q tt
  extract_held_of false us (ended q) h f e = absurd cc

  -- so is what a constructor's does
  pub construct_held_of : (partial : Bool) (u : ℕ) (g : Outcome Value) (h : Held) → ((v : Value) → g ≡ given v → IsValueOf p.values v u)
      → given h ≡ option_if partial (holding held_value g) → IsHeldOf p (construct_sort false partial (plain_sort u)) h
  construct_held_of false u (given v) h f e = let q : held_value v ≡ h = cc in subst (IsHeldOf p (plain_sort u)) q (f v refl)
  construct_held_of false u missing h f e = absurd cc
  construct_held_of false u (ended q) h f e = absurd cc
  construct_held_of true u (given v) h f e =
      let q : held_some (held_value v) ≡ h = cc in subst (IsHeldOf p (option_sort (plain_sort u))) q (f v refl)
  construct_held_of true u missing h f e = let q : held_none ≡ h = cc in subst (IsHeldOf p (option_sort (plain_sort u))) q tt
  construct_held_of true u (ended q) h f e = absurd cc

-- what is bound in the tree of a term, on arguments of its types
module _ {C : Type 0} (p : CheckedProgram) (w : Answers) (R : ℕ → Type 0) (sound : IsSound p R) (below : Runs) (gives_typed : GivesTyped p R below)
    (t : ℕ) (args : Values) (args_typed : AreValuesOf p.values args (p.terms.inputs t)) (b : TermTree C) (B : IsTermTree p R t b) where
  abbrev pub sort_at : ℕ → Sort
  sort_at k = sort p.terms (p.terms.inputs t) (B.site k)

  -- what is bound is of its site's sort
  abbrev pub IsTypedEnv : Env → Type 0
  IsTypedEnv env = (k : ℕ) (h : Held) → env k ≡ Some h → IsHeldOf p (sort_at k) h

  -- So is nothing.
  pub nothing_typed : IsTypedEnv (λ k. None)
  nothing_typed k h e = absurd (let q : None ≡ Some h = e in cc)

  -- What is read is of its site's sort.
  pub read_typed : (env : Env) (k : ℕ) (h : Held) → IsTypedEnv env → read b.sites args env k ≡ gives h → IsHeldOf p (sort_at k) h
  read_typed env k h typed e = elim (row_or (slice_get b.sites k)) [
    | inl n ↦ absurd (let q : unknown ≡ gives h = sym (ap (read_row args env k) n) ∙ e in cc)
    | inr (row, at) ↦ elim (true_or (is_computed row)) [
      | inl y ↦
          let q : made_of args (λ j. known (env j)) row ≡ gives h = sym (ap (read_row args env k) at ∙ rw y refl) ∙ e in
          B.makes args k row (λ j. known (env j)) h args_typed at (λ j g m d. typed j g (known_is (env j) g d)) q
      | inr n ↦ let q : known (env k) ≡ gives h = sym (ap (read_row args env k) at ∙ rw n refl) ∙ e in typed k h (known_is (env k) h q)
    ]
  ]

  -- values that are read are of their types
  values_typed : (env : Env) (js us : List ℕ) (vs : Values) → IsTypedEnv env → map (λ j. sort_at j) js ≡ map plain_sort us
      → values_at (read b.sites args env) js ≡ gives vs → AreValuesOf p.values vs us
  values_typed env [] [] vs typed s e = let q : no_values ≡ vs = cc in subst (λ (z : Values). AreValuesOf p.values z []) q (none_typed p.values)
  values_typed env [] (u ∷ us) vs typed s e = absurd cc
  values_typed env (j ∷ js) [] vs typed s e = absurd cc
  values_typed env (j ∷ js) (u ∷ us) vs typed s e =
      let (x, xs, gx, gxs) = more_gives (plain (read b.sites args env j)) (values_at (read b.sites args env) js) vs e in
      let q : more_values x xs ≡ vs = (let o : gives (more_values x xs) ≡ gives vs =
      sym (ap (λ (g : Got Value). more g (values_at (read b.sites args env) js)) gx ∙ ap (more (gives x)) gxs) ∙ e in cc) in
      let here : IsHeldOf p (sort_at j) (held_value x) = read_typed env j (held_value x) typed (plain_gives _ x gx) in
      let su : sort_at j ≡ plain_sort u = cc in
      let first : IsValueOf p.values x u = subst (λ (z : Sort). IsHeldOf p z (held_value x)) su here in
      subst (λ (z : Values). AreValuesOf p.values z (u ∷ us)) q
      (more_values_typed p.values x xs u us first (values_typed env js us xs typed (cc) gxs))

  -- the arguments of a call are of its term's types
  pub call_typed : (env : Env) (k u i : ℕ) (js : List ℕ) (vs : Values) → IsTypedEnv env → slice_get b.sites k ≡ Some (constructor_row u js i)
      → values_at (read b.sites args env) js ≡ gives vs → AreValuesOf p.values vs (p.terms.inputs u)
  call_typed env k u i js vs typed at e = values_typed env js (p.terms.inputs u) vs typed (B.inputs k u i js at) e

  -- a pure call gives a value of its term's type
  pure_gives : (c : Bool) (u : ℕ) (vs : Values) (v : Value) → p.has_rules u ≡ c → (p.has_rules u ≡ true → R u)
      → AreValuesOf p.values vs (p.terms.inputs u) → ConstructsIf p w below c u vs (given v) → IsValueOf p.values v (p.terms.type_of u)
  pure_gives true u vs v e r h run = gives_typed u vs [] v (r e) h run
  pure_gives false u vs v e r h run =
      let j = judged_given _ _ _ v (run.judged) in allowed_typed p w u (w.construct u (run.args)) v (j.0) (j.1)

  -- So does an impure one.
  pub impure_gives : (c : Bool) (u : ℕ) (vs : Values) (effects : List Event) (v : Value) → p.has_rules u ≡ c → (p.has_rules u ≡ true → R u)
      → AreValuesOf p.values vs (p.terms.inputs u) → EffectsIf p below c u vs effects (given v) → IsValueOf p.values v (p.terms.type_of u)
  impure_gives true u vs effects v e r h run = gives_typed u vs effects v (r e) h run
  impure_gives false u vs effects v e r h run =
      let j = judged_given _ _ _ v (run.judged) in allowed_typed p w u (run.answer) v (j.0) (j.1)

  -- what is given is made
  comes_given : (g : Got Held) (h : Held) → Comes g (given h) → g ≡ gives h
  comes_given unknown h q = absurd q
  comes_given fails h q = absurd cc
  comes_given (gives x) h q = cc

  -- what is made is of its sort
  plain_typed : (env : Env) (k : ℕ) (row : Row) (h : Held) → IsTypedEnv env → slice_get b.sites k ≡ Some row
      → Comes (made_of args (read b.sites args env) row) (given h) → IsHeldOf p (sort_at k) h
  plain_typed env k row h typed at q =
      B.makes args k row (read b.sites args env) h args_typed at (λ j g m e. read_typed env j g typed e) (comes_given _ h q)

  -- what a site is bound to is of its sort
  pub row_typed : (env : Env) (k : ℕ) (row : Row) (effects : List Event) (h : Held) → IsTypedEnv env → slice_get b.sites k ≡ Some row
      → RowRuns p w below b.sites args env row effects (given h) → IsHeldOf p (sort_at k) h
  row_typed env k (extractor_row u j) effects h typed at (v, g, e, run, n, q) =
      let s : sort_at k ≡ extract_sort false (p.terms.infallible u) (of_outputs (p.terms.inputs u)) =
      ap (sort p.terms (p.terms.inputs t)) (B.sited k (extractor_row u j) at)
      ∙ ap (λ (c : Bool). extract_sort c (p.terms.infallible u) (of_outputs (p.terms.inputs u))) (B.single k (extractor_row u j) at) in
      subst (λ (z : Sort). IsHeldOf p z h) (sym s) (extract_held_of p (p.terms.infallible u) (p.terms.inputs u) g h
      (λ vs o. extract_gives_typed p w u v vs (subst (WorldExtracts p w u v) o run)) q)
  row_typed env k (constructor_row u js zero) effects h typed at (vs, g, e, run, n, q) =
      let s : sort_at k ≡ construct_sort false (p.terms.partial u) (plain_sort (p.terms.type_of u)) =
      ap (sort p.terms (p.terms.inputs t)) (B.sited k (constructor_row u js zero) at)
      ∙ ap (λ (c : Bool). construct_sort c (p.terms.partial u) (plain_sort (p.terms.type_of u))) (B.single k (constructor_row u js zero) at) in
      subst (λ (z : Sort). IsHeldOf p z h) (sym s) (construct_held_of p (p.terms.partial u) (p.terms.type_of u) g h
      (λ v o. pure_gives (p.has_rules u) u vs v refl (B.called k u zero js at) (call_typed env k u zero js vs typed at e)
      (subst (ConstructsIf p w below (p.has_rules u) u vs) o run)) q)
  row_typed env k (constructor_row u js (suc i)) effects h typed at (vs, g, e, run, q) =
      let s : sort_at k ≡ construct_sort false (p.terms.partial u) (plain_sort (p.terms.type_of u)) =
      ap (sort p.terms (p.terms.inputs t)) (B.sited k (constructor_row u js (suc i)) at)
      ∙ ap (λ (c : Bool). construct_sort c (p.terms.partial u) (plain_sort (p.terms.type_of u))) (B.single k (constructor_row u js (suc i)) at) in
      subst (λ (z : Sort). IsHeldOf p z h) (sym s) (construct_held_of p (p.terms.partial u) (p.terms.type_of u) g h
      (λ v o. impure_gives (p.has_rules u) u vs effects v refl (B.called k u (suc i) js at) (call_typed env k u (suc i) js vs typed at e)
      (subst (EffectsIf p below (p.has_rules u) u vs effects) o run)) q)
  row_typed env k (bool_row x ty) effects h typed at (n, q) = plain_typed env k (bool_row x ty) h typed at q
  row_typed env k (int_row x ty) effects h typed at (n, q) = plain_typed env k (int_row x ty) h typed at q
  row_typed env k (prim_row x) effects h typed at (n, q) = plain_typed env k (prim_row x) h typed at q
  row_typed env k (argument_row i) effects h typed at (n, q) = plain_typed env k (argument_row i) h typed at q
  row_typed env k (iterator_row j) effects h typed at (n, q) = absurd q
  row_typed env k (make_variant_row ty v js) effects h typed at (n, q) = plain_typed env k (make_variant_row ty v js) h typed at q
  row_typed env k (match_variant_row j v i) effects h typed at (n, q) = plain_typed env k (match_variant_row j v i) h typed at q
  row_typed env k (make_struct_row ty js) effects h typed at (n, q) = plain_typed env k (make_struct_row ty js) h typed at q
  row_typed env k (extract_struct_row j i) effects h typed at (n, q) = plain_typed env k (extract_struct_row j i) h typed at q
  row_typed env k (make_some_row j) effects h typed at (n, q) = plain_typed env k (make_some_row j) h typed at q
  row_typed env k (match_some_row j) effects h typed at (n, q) = plain_typed env k (match_some_row j) h typed at q
  row_typed env k (match_tuple_row j i) effects h typed at (n, q) = plain_typed env k (match_tuple_row j i) h typed at q

  -- a further site is bound
  pub set_typed : (env : Env) (k : ℕ) (h : Held) → IsTypedEnv env → IsHeldOf p (sort_at k) h → IsTypedEnv (set env k (Some h))
  set_typed env k h typed here j g e = elim (ℕ_discrete j k) [
    | yes q ↦
        let o : Some h ≡ Some g = sym (ap (set env k (Some h)) q ∙ set_at env k (Some h)) ∙ e in
        let r : h ≡ g = cc in subst (IsHeldOf p (sort_at j)) r (subst (λ (z : ℕ). IsHeldOf p (sort_at z) h) (sym q) here)
    | no n ↦ typed j g (sym (set_other env k (Some h) j n) ∙ e)
  ]

  module _ (means : ℕ → Values → List Event → Option Value → Type 0) (meant : GivesMeant p R below means) (c : Completion)
      (agrees : Agrees p w means c) (before : List (Option Value)) where
    -- a site that calls nothing holds what the completion says
    plain_says : (env : Env) (k : ℕ) (row : Row) (r : Outcome Held) → IsKept p.terms c args before B.site b.sites B.sited env → is_call row ≡ false
        → slice_get b.sites k ≡ Some row → Comes (made_of args (read b.sites args env) row) r → SaysOutcome (value p.terms c args before (B.site k)) r
    plain_says env k row r kept n at q =
        let there : value p.terms c args before (B.site k) ≡ made_of args (λ j. value p.terms c args before (B.site j)) row =
        ap (value p.terms c args before) (B.sited k row at) ∙ made_there p.terms c args before B.site row n in
        subst (λ (g : Got Held). SaysOutcome g r) (sym there)
        (comes_says (made_of args (read b.sites args env) row) (made_of args (λ j. value p.terms c args before (B.site j)) row) r
        (made_same args (read b.sites args env) (λ j. value p.terms c args before (B.site j)) row
        (λ j. read_same p.terms c args before B.site b.sites B.sited env j kept)) q)

    -- Values that are read are what the completion says.
    pub values_kept : (env : Env) (js : List ℕ) → IsKept p.terms c args before B.site b.sites B.sited env
        → AgreeIfKnown (values_at (read b.sites args env) js) (values p.terms c args before (sites_at B.site js))
    values_kept env js kept = subst (λ (g : Got Values). AgreeIfKnown (values_at (read b.sites args env) js) g)
        (sym (values_there p.terms c args before B.site js))
        (values_same (read b.sites args env) (λ j. value p.terms c args before (B.site j)) js
        (λ j. read_same p.terms c args before B.site b.sites B.sited env j kept))

    -- a site that is bound, and is no impure call, holds what the completion says
    pub row_says : (env : Env) (k : ℕ) (row : Row) (effects : List Event) (r : Outcome Held) → IsTypedEnv env
        → IsKept p.terms c args before B.site b.sites B.sited env → slice_get b.sites k ≡ Some row → is_effect row ≡ false
        → RowRuns p w below b.sites args env row effects r → SaysOutcome (value p.terms c args before (B.site k)) r
    row_says env k (extractor_row u j) effects r typed kept at n (v, g, e, run, m, q) =
        let f : Value → Got Held = λ x. extracted (p.terms.infallible u) (c.extract u x) in
        let there : value p.terms c args before (B.site k) ≡ ask f (plain (value p.terms c args before (B.site j))) =
        ap (value p.terms c args before) (B.sited k (extractor_row u j) at)
        ∙ ap (λ (z : Bool). ask (λ x. if z then several_of (c.extracts u x) else extracted (p.terms.infallible u) (c.extract u x))
        (plain (value p.terms c args before (B.site j))))
        (B.single k (extractor_row u j) at) in
        let says = extracted_says (p.terms.infallible u) (c.extract u v) g (extract_says p w means c agrees u v g run) in
        subst (λ (z : Got Held). SaysOutcome z r) (sym there)
        (asked_says f (plain (read b.sites args env j)) _ v r (same_plain _ _ (read_same p.terms c args before B.site b.sites B.sited env j kept))
        (ap plain e) (subst (SaysOutcome (f v)) (sym q) says))
    row_says env k (constructor_row u js zero) effects r typed kept at n (vs, g, e, run, m, q) =
        let f : Values → Got Held = λ xs. constructed (p.terms.partial u) (c.construct u xs) in
        let there : value p.terms c args before (B.site k) ≡ ask f (values p.terms c args before (sites_at B.site js)) =
        ap (value p.terms c args before) (B.sited k (constructor_row u js zero) at)
        ∙ ap (λ (z : Bool). ask (λ xs. if z then several_of (c.constructs u xs) else constructed (p.terms.partial u) (c.construct u xs))
        (values p.terms c args before (sites_at B.site js)))
        (B.single k (constructor_row u js zero) at) in
        let says = constructed_says (p.terms.partial u) (c.construct u vs) g
        (construct_says p w means c agrees R (sound.data_sound) below gives_typed meant (p.has_rules u) u vs g refl (B.called k u zero js at)
        (call_typed env k u zero js vs typed at e) run) in
        subst (λ (z : Got Held). SaysOutcome z r) (sym there)
        (asked_says f (values_at (read b.sites args env) js) _ vs r (values_kept env js kept) e (subst (SaysOutcome (f vs)) (sym q) says))
    row_says env k (constructor_row u js (suc i)) effects r typed kept at n run = absurd cc
    row_says env k (bool_row x ty) effects r typed kept at n (m, q) = plain_says env k (bool_row x ty) r kept refl at q
    row_says env k (int_row x ty) effects r typed kept at n (m, q) = plain_says env k (int_row x ty) r kept refl at q
    row_says env k (prim_row x) effects r typed kept at n (m, q) = plain_says env k (prim_row x) r kept refl at q
    row_says env k (argument_row i) effects r typed kept at n (m, q) = plain_says env k (argument_row i) r kept refl at q
    row_says env k (iterator_row j) effects r typed kept at n (m, q) = absurd q
    row_says env k (make_variant_row ty v js) effects r typed kept at n (m, q) = plain_says env k (make_variant_row ty v js) r kept refl at q
    row_says env k (match_variant_row j v i) effects r typed kept at n (m, q) = plain_says env k (match_variant_row j v i) r kept refl at q
    row_says env k (make_struct_row ty js) effects r typed kept at n (m, q) = plain_says env k (make_struct_row ty js) r kept refl at q
    row_says env k (extract_struct_row j i) effects r typed kept at n (m, q) = plain_says env k (extract_struct_row j i) r kept refl at q
    row_says env k (make_some_row j) effects r typed kept at n (m, q) = plain_says env k (make_some_row j) r kept refl at q
    row_says env k (match_some_row j) effects r typed kept at n (m, q) = plain_says env k (match_some_row j) r kept refl at q
    row_says env k (match_tuple_row j i) effects r typed kept at n (m, q) = plain_says env k (match_tuple_row j i) r kept refl at q
