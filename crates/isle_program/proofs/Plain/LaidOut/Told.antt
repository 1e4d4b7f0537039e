-- What is known of a program's ghost fields: that a proof exists. Each part of it then has one.
use Rattle.std.proofs.Common.{◌≡◌, ◌<◌, ◌==◌, ℕ, ℤ, Bool, true, Vec, Less, zero, suc, List, [], ◌∷◌, Option, Some, None, length, slice_get}
use Rattle.std.proofs.Common.{get_or, inl, inr, refl, sym, ap, ◌∙◌, subst, arith}
use Rattle.std.proofs.Math.Logic.{∥∥₁_elim}
use Rattle.std.proofs.Math.Bool.{Bool-set}
use Rattle.std.proofs.Math.IntN.{ℤ_set}
use Rattle.std.proofs.Math.Nat.{ℕ_set}
use Rattle.std.proofs.lemmas.Bool.{cases_lt}
use Rattle.std.specs.Global.{Global}
use Rattle.std.specs.List.{AllZip, list_any}
use Rattle.std.specs.Ordering.{Ordering-set}
use Rattle.std.specs.Str.{bytes_eq}
use Rattle.std.proofs.lemmas.Slice.Eq.{bytes_eq-Decides}
use Rattle.isle_types.specs.declared.ids.TermId.{TermId}
use Rattle.isle_types.specs.declared.ids.TypeId.{TypeId}
use Rattle.isle_types.specs.declared.ids.VarId.{VarId}
use Rattle.isle_types.specs.declared.ids.VariantId.{VariantId}
use Rattle.isle_types.specs.TypeTables.{TypeTables, name_at}
use Rattle.isle_rules.specs.declared.rules.Expr.{Expr}
use Rattle.isle_rules.specs.declared.rules.IfLet.{IfLet}
use Rattle.isle_rules.specs.declared.rules.Rule.{Rule}
use Rattle.isle_meaning.specs.Words.{Word, var_word, bool_word, int_word, prim_word, variant_word, struct_word, call_word, Words}
use Rattle.isle_meaning.specs.Words.{no_words, more_words, Step, word_of, steps_of}
use Rattle.isle_rules.specs.Shown.TermTables.{TermTables}
use Rattle.isle_rules.specs.Shown.ShownRules.{built_shown}
use Rattle.isle_program.specs.Laws.Terms.{term_facts}
use Rattle.isle_program.specs.Plain.LaidOut.Words.{IsLaid, AreLaid, made_of, IsLaidStep, IsLaidOut}
use Rattle.isle_program.specs.Plain.LaidOut.Rules.{IsConditionLaidOut, IsRuleLaidOut, AreRulesLaidOut}
use Rattle.isle_program.specs.Plain.LaidOut.Rules.{is_of_term, listed_at, tried_order, AreListedInOrder}
use Rattle.isle_program.specs.declared.laid.Laid.{Laid}
use Rattle.isle_program.specs.declared.laid.LaidRule.{LaidRule}
use Rattle.isle_program.specs.declared.laid.Part.{Part}
use Rattle.isle_program.specs.declared.laid.Part.TheVariants.{Var, Bool as BoolPart, Int, Const, Variant, Struct, Call, Impure}

module _ (K : Type 0) (known : ∥ K ∥₁) where
  -- what can't be isn't
  never : (K → ⊥) → ⊥
  never f = ∥∥₁_elim known (hlevel) f

  -- numbers that are the same are
  same_number : (a b : ℕ) → (K → a ≡ b) → a ≡ b
  same_number a b f = ∥∥₁_elim known (ℕ_set a b) f

  -- a number that is below another is
  below : (a b : ℕ) → (K → a < b) → a < b
  below a b f = elim (cases_lt a b) [
    | inl less ↦ less
    | inr more ↦ absurd (never (λ k. let less = f k in omega (arith, less, more)))
  ]

  -- texts that are the same are
  same_text : (a b : List ℕ) → (K → a ≡ b) → a ≡ b
  same_text a b f =
      let told : bytes_eq a b ≡ true = ∥∥₁_elim known (Bool-set (bytes_eq a b) true) (λ k. (bytes_eq-Decides a b).1 (f k)) in
      (bytes_eq-Decides a b).0 told

  module _ (names : List (List ℕ)) (parts : List Part) where
    -- a part that is a variable
    at_var : (v n : ℕ) → (K → IsLaid names parts (var_word v) n) → (found : Option Part) → slice_get parts n ≡ found
        → IsLaid names parts (var_word v) n
    at_var v n f (Some (Var var)) e =
        (var, e, same_number var.0 v (λ k. let h = (f k).1 in let is : (f k).0 ≡ var = cc in sym (ap (λ (x : VarId). x.0) is) ∙ (f k).2))
    at_var v n f found e = absurd (never (λ k. let h = (f k).1 in cc))

    -- a part that is a boolean
    at_bool : (ty : ℕ) (b : Bool) (n : ℕ) → (K → IsLaid names parts (bool_word ty b) n) → (found : Option Part) → slice_get parts n ≡ found
        → IsLaid names parts (bool_word ty b) n
    at_bool ty b n f (Some (BoolPart c)) e =
        let same : c ≡ b = ∥∥₁_elim known (Bool-set c b) (λ k. let h = f k in cc) in
        e ∙ ap (λ (x : Bool). Some (BoolPart x)) same
    at_bool ty b n f found e = absurd (never (λ k. let h = f k in cc))

    -- a part that is an integer
    at_int : (ty : ℕ) (i : ℤ) (n : ℕ) → (K → IsLaid names parts (int_word ty i) n) → (found : Option Part) → slice_get parts n ≡ found
        → IsLaid names parts (int_word ty i) n
    at_int ty i n f (Some (Int j)) e =
        let same : j ≡ i = ∥∥₁_elim known (ℤ_set j i) (λ k. let h = f k in cc) in
        e ∙ ap (λ (x : ℤ). Some (Int x)) same
    at_int ty i n f found e = absurd (never (λ k. let h = f k in cc))

    -- a part that is a named constant
    at_prim : (name : List ℕ) (n : ℕ) → (K → IsLaid names parts (prim_word name) n) → (found : Option Part) → slice_get parts n ≡ found
        → IsLaid names parts (prim_word name) n
    at_prim name n f (Some (Const sym_id)) e = (
      sym_id,
      e,
      same_text (name_at names sym_id) name (λ k.
          let h = (f k).1 in let is : (f k).0 ≡ sym_id = cc in sym (ap (name_at names) is) ∙ (f k).2),
    )
    at_prim name n f found e = absurd (never (λ k. let h = (f k).1 in cc))

    -- a part that is a variant
    at_variant : (ty v : ℕ) (ws : Words) (n : ℕ) → (K → IsLaid names parts (variant_word ty v ws) n) → (found : Option Part)
        → slice_get parts n ≡ found
        → (of : TypeId) × (variant : VariantId) × (ns : List ℕ) × (slice_get parts n ≡ Some (Variant of variant ns)) × (of.0 ≡ ty)
        × (variant.0 ≡ v) × (K → AreLaid names parts ws ns)
    at_variant ty v ws n f (Some (Variant of variant ns)) e = (
      of,
      variant,
      ns,
      e,
      same_number of.0 ty (λ k. let h = (f k).3 in let is : (f k).0 ≡ of = cc in sym (ap (λ (x : TypeId). x.0) is) ∙ (f k).4),
      same_number variant.0 v (λ k. let h = (f k).3 in let is : (f k).1 ≡ variant = cc in sym (ap (λ (x : VariantId). x.0) is) ∙ (f k).5),
      λ k. let h = (f k).3 in let is : (f k).2 ≡ ns = cc in subst (λ ms. AreLaid names parts ws ms) is (f k).6,
    )
    at_variant ty v ws n f found e = absurd (never (λ k. let h = (f k).3 in cc))

    -- a part that is a struct
    at_struct : (ty : ℕ) (ws : Words) (n : ℕ) → (K → IsLaid names parts (struct_word ty ws) n) → (found : Option Part)
        → slice_get parts n ≡ found
        → (of : TypeId) × (ns : List ℕ) × (slice_get parts n ≡ Some (Struct of ns)) × (of.0 ≡ ty) × (K → AreLaid names parts ws ns)
    at_struct ty ws n f (Some (Struct of ns)) e = (
      of,
      ns,
      e,
      same_number of.0 ty (λ k. let h = (f k).2 in let is : (f k).0 ≡ of = cc in sym (ap (λ (x : TypeId). x.0) is) ∙ (f k).3),
      λ k. let h = (f k).2 in let is : (f k).1 ≡ ns = cc in subst (λ ms. AreLaid names parts ws ms) is (f k).4,
    )
    at_struct ty ws n f found e = absurd (never (λ k. let h = (f k).2 in cc))

    -- a part that is a pure call
    at_call : (t : ℕ) (ws : Words) (n : ℕ) → (K → IsLaid names parts (call_word t ws zero) n) → (found : Option Part)
        → slice_get parts n ≡ found
        → (term : TermId) × (ns : List ℕ) × (slice_get parts n ≡ Some (Call term ns)) × (term.0 ≡ t) × (K → AreLaid names parts ws ns)
    at_call t ws n f (Some (Call term ns)) e = (
      term,
      ns,
      e,
      same_number term.0 t (λ k. let h = (f k).2 in let is : (f k).0 ≡ term = cc in sym (ap (λ (x : TermId). x.0) is) ∙ (f k).3),
      λ k. let h = (f k).2 in let is : (f k).1 ≡ ns = cc in subst (λ ms. AreLaid names parts ws ms) is (f k).4,
    )
    at_call t ws n f found e = absurd (never (λ k. let h = (f k).2 in cc))

    -- a part that is an impure call
    at_impure : (t : ℕ) (ws : Words) (i n : ℕ) → (K → IsLaid names parts (call_word t ws (suc i)) n) → (found : Option Part)
        → slice_get parts n ≡ found
        → (term : TermId) × (ns : List ℕ) × (slice_get parts n ≡ Some (Impure term ns i)) × (term.0 ≡ t) × (K → AreLaid names parts ws ns)
    at_impure t ws i n f (Some (Impure term ns j)) e = (
      term,
      ns,
      e ∙ ap (λ (x : ℕ). Some (Impure term ns x)) (same_number j i (λ k. let h = (f k).2 in cc)),
      same_number term.0 t (λ k. let h = (f k).2 in let is : (f k).0 ≡ term = cc in sym (ap (λ (x : TermId). x.0) is) ∙ (f k).3),
      λ k. let h = (f k).2 in let is : (f k).1 ≡ ns = cc in subst (λ ms. AreLaid names parts ws ms) is (f k).4,
    )
    at_impure t ws i n f found e = absurd (never (λ k. let h = (f k).2 in cc))

    mutual
      -- a word that is laid at a part is
      pub laid_told : (w : Word) (n : ℕ) → (K → IsLaid names parts w n) → IsLaid names parts w n
      laid_told (var_word v) n f = at_var v n f (slice_get parts n) refl
      laid_told (bool_word ty b) n f = at_bool ty b n f (slice_get parts n) refl
      laid_told (int_word ty i) n f = at_int ty i n f (slice_get parts n) refl
      laid_told (prim_word name) n f = at_prim name n f (slice_get parts n) refl
      laid_told (variant_word ty v ws) n f =
          let (of, variant, ns, there, type_is, variant_is, below_it) = at_variant ty v ws n f (slice_get parts n) refl in
          (of, variant, ns, there, type_is, variant_is, are_laid_told ws ns below_it)
      laid_told (struct_word ty ws) n f =
          let (of, ns, there, type_is, below_it) = at_struct ty ws n f (slice_get parts n) refl in
          (of, ns, there, type_is, are_laid_told ws ns below_it)
      laid_told (call_word t ws zero) n f =
          let (term, ns, there, term_is, below_it) = at_call t ws n f (slice_get parts n) refl in
          (term, ns, there, term_is, are_laid_told ws ns below_it)
      laid_told (call_word t ws (suc i)) n f =
          let (term, ns, there, term_is, below_it) = at_impure t ws i n f (slice_get parts n) refl in
          (term, ns, there, term_is, are_laid_told ws ns below_it)

      -- words that are laid at parts are
      pub are_laid_told : (ws : Words) (ns : List ℕ) → (K → AreLaid names parts ws ns) → AreLaid names parts ws ns
      are_laid_told no_words [] f = tt
      are_laid_told no_words (n ∷ ns) f = never f
      are_laid_told (more_words w ws) [] f = never f
      are_laid_told (more_words w ws) (n ∷ ns) f = (laid_told w n (λ k. (f k).0), are_laid_told ws ns (λ k. (f k).1))

    -- an impure call that is laid at a part is
    step_told : (step : Step) (n : ℕ) → (K → IsLaidStep names parts step n) → (found : Option Part) → slice_get parts n ≡ found
        → IsLaidStep names parts step n
    step_told step n f (Some (Impure term ns j)) e = record {
      term = term;
      args = ns;
      there = e ∙ ap (λ (x : ℕ). Some (Impure term ns x)) (same_number j step.place (λ k. let h = (f k).there in cc));
      of_term = same_number term.0 step.term
          (λ k. let h = (f k).there in let is : (f k).term ≡ term = cc in sym (ap (λ (x : TermId). x.0) is) ∙ (f k).of_term);
      laid = are_laid_told step.args ns
          (λ k. let h = (f k).there in let is : (f k).args ≡ ns = cc in subst (λ ms. AreLaid names parts step.args ms) is (f k).laid);
    }
    step_told step n f found e = absurd (never (λ k. let h = (f k).there in cc))

    -- impure calls that are laid at parts are
    steps_told : (steps : List Step) (ns : List ℕ) → (K → AllZip (IsLaidStep names parts) steps ns)
        → AllZip (IsLaidStep names parts) steps ns
    steps_told [] [] f = tt
    steps_told [] (n ∷ ns) f = never f
    steps_told (step ∷ steps) [] f = never f
    steps_told (step ∷ steps) (n ∷ ns) f =
        (step_told step n (λ k. (f k).0) (slice_get parts n) refl, steps_told steps ns (λ k. (f k).1))

  -- a number that stands at a place does
  stands_told : (calls : List ℕ) (j n : ℕ) → (K → slice_get calls j ≡ Some n) → (found : Option ℕ) → slice_get calls j ≡ found
      → slice_get calls j ≡ Some n
  stands_told calls j n f (Some m) e = e ∙ ap (λ (x : ℕ). Some x) (same_number m n (λ k. let h = f k in cc))
  stands_told calls j n f None e = absurd (never (λ k. let h = f k in cc))

  -- an expression that is laid out is
  pub laid_out_told : (tyenv : TypeTables) (env : TermTables) (expr : Expr) (laid : Laid) → (K → IsLaidOut tyenv env expr laid)
      → IsLaidOut tyenv env expr laid
  laid_out_told tyenv env expr laid f =
      let shown = built_shown tyenv.names expr in
      record {
        whole = laid_told tyenv.names laid.parts.items (word_of (term_facts tyenv env) shown) laid.result (λ k. (f k).whole);
        steps = steps_told tyenv.names laid.parts.items (steps_of (term_facts tyenv env) shown) laid.calls.items (λ k. (f k).steps);
        behind = λ n part e i d within. below (get_or (made_of part) i d) n (λ k. (f k).behind n part e i d within);
        once = λ n j term ns e. stands_told laid.calls.items j n (λ k. (f k).once n j term ns e) (slice_get laid.calls.items j) refl;
        ascending = λ i j m n less e g. below m n (λ k. (f k).ascending i j m n less e g);
        inside = below laid.result (length laid.parts.items) (λ k. (f k).inside);
      }

  -- conditions that are laid out are
  conditions_told : (tyenv : TypeTables) (env : TermTables) (iflets : List IfLet) (laid : List Laid)
      → (K → AllZip (IsConditionLaidOut tyenv env) iflets laid) → AllZip (IsConditionLaidOut tyenv env) iflets laid
  conditions_told tyenv env [] [] f = tt
  conditions_told tyenv env [] (one ∷ more) f = never f
  conditions_told tyenv env (iflet ∷ iflets) [] f = never f
  conditions_told tyenv env (iflet ∷ iflets) (one ∷ more) f =
      (laid_out_told tyenv env iflet.rhs one (λ k. (f k).0), conditions_told tyenv env iflets more (λ k. (f k).1))

  -- rules that are laid out are
  pub rules_told : (tyenv : TypeTables) (env : TermTables) (rules : List Rule) (laid : List LaidRule)
      → (K → AllZip (IsRuleLaidOut tyenv env) rules laid) → AllZip (IsRuleLaidOut tyenv env) rules laid
  rules_told tyenv env [] [] f = tt
  rules_told tyenv env [] (one ∷ more) f = never f
  rules_told tyenv env (rule ∷ rules) [] f = never f
  rules_told tyenv env (rule ∷ rules) (one ∷ more) f = (
    record {
      iflets = conditions_told tyenv env rule.iflets one.iflets.items (λ k. (f k).0.iflets);
      right = laid_out_told tyenv env rule.rhs one.right (λ k. (f k).0.right);
    },
    rules_told tyenv env rules more (λ k. (f k).1),
  )

-- places that are listed in order are
pub order_told : (rules : List Rule) (lists : List (Vec ℕ Global)) → ∥ AreListedInOrder rules lists ∥₁ → AreListedInOrder rules lists
order_told rules lists known = λ t. record {
  all = λ i.
      ∥∥₁_elim known (Bool-set (list_any (λ place. i == place) (listed_at lists t)) (is_of_term t (slice_get rules i))) (λ k. (k t).all i);
  order = λ i j d less within.
      ∥∥₁_elim known (Ordering-set (tried_order rules (get_or (listed_at lists t) i d) (get_or (listed_at lists t) j d)) Less)
      (λ k. (k t).order i j d less within);
}

-- the expressions of all rules are laid out
pub all_laid_told : (tyenv : TypeTables) (env : TermTables) (laid : List LaidRule)
    → ∥ ((types : TypeTables) → AreRulesLaidOut types env laid) ∥₁ → AreRulesLaidOut tyenv env laid
all_laid_told tyenv env laid known =
    rules_told ((types : TypeTables) → AreRulesLaidOut types env laid) known tyenv env env.rules laid (λ k. k tyenv)

-- what is told of two lists place by place is told of the items of a place
pub zip_at : {A B : Type 0} (R : A → B → Type 0) (xs : List A) (ys : List B) → AllZip R xs ys → (i : ℕ) (x : A) (y : B)
    → slice_get xs i ≡ Some x → slice_get ys i ≡ Some y → R x y
zip_at R [] ys h i x y e g = absurd cc
zip_at R (a ∷ xs) [] h i x y e g = absurd cc
zip_at R (a ∷ xs) (b ∷ ys) h zero x y e g =
    let first : a ≡ x = cc in
    let second : b ≡ y = cc in
    subst (λ z. R z y) first (subst (λ w. R a w) second h.0)
zip_at R (a ∷ xs) (b ∷ ys) h (suc i) x y e g = zip_at R xs ys h.1 i x y e g
