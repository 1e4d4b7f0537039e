-- Where no term of a program reaches itself, no plain run is spent at a depth of at least the number of terms with rules.
use Rattle.std.proofs.Common.{◌≡◌, ◌≤◌, ◌⊎◌, inl, inr, ℕ, zero, suc, List, [], ◌∷◌, map, Some, slice_get, refl, sym, ◌∙◌, ap, subst}
use Rattle.std.proofs.Common.{Contains}
use Rattle.std.specs.Prelude.{◌==◌}
use Rattle.std.proofs.lemmas.Bool.{eqb-true}
use Rattle.std.proofs.lemmas.List.{length-map}
use Rattle.std.proofs.lemmas.List.Elements.{Contains-append_left, Contains-append_right}
use Rattle.std.proofs.lemmas.Map.Views.{Contains-from_any}
use Rattle.std.proofs.lemmas.Option.{none-some, same_Some, slice_get_within, get_or_from_slice_get}
use Rattle.isle_types.specs.TypeTables.{TypeTables}
use Rattle.isle_rules.specs.TypedRules.{TypedExpr, built_var, built_bool, built_int, built_prim, built_term, built_let, TypedExprs}
use Rattle.isle_rules.specs.TypedRules.{no_built, more_built, TypedBindings, no_typed_bindings, more_typed_bindings, TypedRule}
use Rattle.isle_rules.specs.declared.rules.IfLet.{IfLet}
use Rattle.isle_rules.specs.declared.rules.Rule.{Rule}
use Rattle.isle_rules.specs.Shown.ShownRules.{built_shown, iflet_shown}
use Rattle.isle_rules.specs.Shown.TermTables.{TermTables}
use Rattle.isle_meaning.specs.Facts.{TermFacts}
use Rattle.isle_meaning.specs.Reaching.{IsCalledIn, IsCalledInOne, IsCalledInBindings, IsCalledInIfLets, Calls, Reaches, at_once, onwards}
use Rattle.isle_meaning.proofs.Calls.Spending.{no_cycles_none_spent}
use Rattle.isle_program.specs.Facts.Asked.{term_number}
use Rattle.isle_program.specs.Facts.Reach as tables
use Rattle.isle_program.specs.Facts.Reach.{terms_in, terms_in_all, terms_in_bound, terms_in_iflets, terms_made_by}
use Rattle.isle_run.specs.Laws.Compiled.{AcyclicProgramsAreNotSpent}
use Rattle.isle_program.specs.Meanings.{checked}
use Rattle.isle_program.specs.Programs.{types_of, terms_of}
use Rattle.isle_program.specs.Tables.{rule_shown, checked_by}

-- an item of mapped items
mapped : {X Y : Type 0} (f : X → Y) (xs : List X) (k : ℕ) (y : Y) → slice_get (map f xs) k ≡ Some y
    → (x : X) × (slice_get xs k ≡ Some x) × (f x ≡ y)
mapped f [] k y e = absurd (none-some y e)
mapped f (x ∷ xs) zero y e = (x, refl, same_Some _ y e)
mapped f (x ∷ xs) (suc k) y e = mapped f xs k y e

-- what has an item at a place contains it
among : {X : Type 0} (xs : List X) (k : ℕ) (x : X) → slice_get xs k ≡ Some x → Contains xs x
among xs k x e = (k, slice_get_within xs k x e, get_or_from_slice_get xs k x x e)

mutual
  -- a term that an expression calls is one that it makes values by
  called_made : (facts : TermFacts) (e : TypedExpr) (u : ℕ) → IsCalledIn facts e u → Contains (terms_in e) u
  called_made facts (built_var ty k) u h = absurd h
  called_made facts (built_bool ty b) u h = absurd h
  called_made facts (built_int ty n) u h = absurd h
  called_made facts (built_prim ty n) u h = absurd h
  called_made facts (built_term ty t es) u (inl h) =
      subst (λ (x : ℕ). Contains (t ∷ terms_in_all es) x) (sym (h.1)) (among (t ∷ terms_in_all es) 0 t refl)
  called_made facts (built_term ty t es) u (inr h) = Contains-append_right (t ∷ []) (terms_in_all es) u (called_made_all facts es u h)
  called_made facts (built_let ty bs body) u (inl h) =
      Contains-append_left (terms_in_bound bs) (terms_in body) u (called_made_bound facts bs u h)
  called_made facts (built_let ty bs body) u (inr h) =
      Contains-append_right (terms_in_bound bs) (terms_in body) u (called_made facts body u h)

  called_made_all : (facts : TermFacts) (es : TypedExprs) (u : ℕ) → IsCalledInOne facts es u → Contains (terms_in_all es) u
  called_made_all facts no_built u h = absurd h
  called_made_all facts (more_built e es) u (inl h) = Contains-append_left (terms_in e) (terms_in_all es) u (called_made facts e u h)
  called_made_all facts (more_built e es) u (inr h) = Contains-append_right (terms_in e) (terms_in_all es) u (called_made_all facts es u h)

  called_made_bound : (facts : TermFacts) (bs : TypedBindings) (u : ℕ) → IsCalledInBindings facts bs u → Contains (terms_in_bound bs) u
  called_made_bound facts no_typed_bindings u h = absurd h
  called_made_bound facts (more_typed_bindings k ty e bs) u (inl h) =
      Contains-append_left (terms_in e) (terms_in_bound bs) u (called_made facts e u h)
  called_made_bound facts (more_typed_bindings k ty e bs) u (inr h) =
      Contains-append_right (terms_in e) (terms_in_bound bs) u (called_made_bound facts bs u h)

-- so are those of if-lets
called_made_iflets : (facts : TermFacts) (names : List (List ℕ)) (xs : List IfLet) (u : ℕ)
    → IsCalledInIfLets facts (map (iflet_shown names) xs) u → Contains (terms_in_iflets names xs) u
called_made_iflets facts names [] u h = absurd h
called_made_iflets facts names (x ∷ xs) u (inl h) =
    Contains-append_left (terms_in (built_shown names x.rhs)) (terms_in_iflets names xs) u
    (called_made facts (built_shown names x.rhs) u h)
called_made_iflets facts names (x ∷ xs) u (inr h) =
    Contains-append_right (terms_in (built_shown names x.rhs)) (terms_in_iflets names xs) u (called_made_iflets facts names xs u h)

module _ (tyenv : TypeTables) (env : TermTables) where
  -- what a rule calls, its term makes values by
  calls_make : (from to : ℕ) → Calls (checked_by tyenv env) from to → tables.MakesValues tyenv env from to
  calls_make from to h =
      let (rule, there, shown) = mapped (rule_shown tyenv.names) env.rules (h.place) (h.rule) (h.at.listed) in
      record {
        rule = rule;
        among = among env.rules (h.place) rule there;
        root = ap (λ (r : TypedRule). r.root) shown ∙ h.at.of_term;
        made = made rule (subst (λ (r : TypedRule). IsCalledInIfLets (checked_by tyenv env).terms r.iflets to
            ⊎ IsCalledIn (checked_by tyenv env).terms r.right to) (sym shown) (h.called));
      }
    where
      made : (rule : Rule) → IsCalledInIfLets (checked_by tyenv env).terms (map (iflet_shown tyenv.names) rule.iflets) to
          ⊎ IsCalledIn (checked_by tyenv env).terms (built_shown tyenv.names rule.rhs) to → Contains (terms_made_by tyenv.names rule) to
      made rule (inl k) = Contains-append_left (terms_in_iflets tyenv.names rule.iflets) (terms_in (built_shown tyenv.names rule.rhs)) to
          (called_made_iflets (checked_by tyenv env).terms tyenv.names rule.iflets to k)
      made rule (inr k) = Contains-append_right (terms_in_iflets tyenv.names rule.iflets) (terms_in (built_shown tyenv.names rule.rhs)) to
          (called_made (checked_by tyenv env).terms (built_shown tyenv.names rule.rhs) to k)

  -- so is what it reaches
  pub reaches_in : (from to : ℕ) → Reaches (checked_by tyenv env) from to → tables.Reaches tyenv env from to
  reaches_in from to (at_once h) = tables.at_once (calls_make from to h)
  reaches_in from to (onwards {middle = middle} h k) = tables.onwards (calls_make from middle h) (reaches_in middle to k)

-- Where no term of a program reaches itself, no plain run is spent at a depth of at least the number of terms with rules.
pub acyclic_programs_are_not_spent : AcyclicProgramsAreNotSpent
acyclic_programs_are_not_spent program acyclic roots are w n t args steps trace enough ruled run =
    no_cycles_none_spent (checked program) w (λ u h. acyclic u (reaches_in (types_of program) (terms_of program) u u h))
    (map term_number roots)
    (λ u has. Contains-from_any {eq = λ q y. y == q} (λ x y e. sym (eqb-true y x e)) u (map term_number roots) (are.listed u ∙ has)) n t args
    steps trace (subst (λ (k : ℕ). k ≤ n) (sym (length-map roots term_number)) enough) ruled run
