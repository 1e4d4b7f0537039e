-- The visit of an expression goes the road that is written down of it.
use Rattle.std.proofs.Common.{◌≡◌, ◌==◌, ℕ, Bool, true, false, not, List, [], ◌∷◌, ◌++◌, Option, Some, None, Ok}
use Rattle.std.proofs.Common.{slice_get, refl, sym, ◌∙◌, subst, inl, inr, append_assoc}
use Rattle.std.proofs.lemmas.Bool.{eqb-true, eqb-false, eq-eqb}
use Rattle.std.proofs.lemmas.List.{append-nil}
use Rattle.std.proofs.lemmas.Option.{none-some, same_Some}
use Rattle.isle_types.specs.declared.ids.Sym.{Sym}
use Rattle.isle_types.specs.declared.ids.TermId.{TermId}
use Rattle.isle_types.specs.declared.ids.TypeId.{TypeId}
use Rattle.isle_types.specs.declared.ids.VarId.{VarId}
use Rattle.isle_rules.specs.declared.terms.Term.{Term}
use Rattle.isle_rules.specs.declared.terms.TermKind.{TermKind}
use Rattle.isle_rules.specs.declared.terms.TermKind.TheVariants.{EnumVariant, Struct, Decl}
use Rattle.isle_rules.specs.Signatures.{flags_of}
use Rattle.isle_rules.specs.Shown.ShownTerms.{form_shown}
use Rattle.isle_rules.specs.SoundRules.KeptScopes.{Scope, IsUsable, ExprUses, ExprsUse, BindingsAdd, with_next, counting}
use Rattle.isle_rules.specs.Visits.Runs.{done, asks, in_turn, on_some, stuck}
use Rattle.isle_rules.specs.Visits.VisitScopes.{bound_by}
use Rattle.isle_rules.specs.Visits.VisitScopes.{VisitScope}
use Rattle.isle_rules.specs.Visits.VisitorCalls.{ExprCall, making_of}
use Rattle.isle_rules.specs.Visits.InternedTrees.{InternedExpr, InternedExprs, InternedBindings, term_expr, var_expr, bool_expr, int_expr}
use Rattle.isle_rules.specs.Visits.InternedTrees.{prim_expr, let_expr, no_exprs, more_exprs, no_bindings, more_bindings}
use Rattle.isle_rules.specs.Visits.Events.{visits_expr, visits_exprs, visits_bindings}
use Rattle.isle_meaning.specs.Facts.{TermFacts, shape_of_form}
use Rattle.isle_meaning.specs.Words.{set}
use Rattle.isle_meaning.specs.Sites.{Site, bool_site, int_site, prim_site, make_variant, make_struct, Sites}
use Rattle.isle_meaning.specs.Needs.{Log, applied, visit, visit_all, visit_lets}
use Rattle.isle_meaning.specs.Numbered.{Row, At, AtAll}
use Rattle.isle_blocks.specs.declared.ids.BindingId.{BindingId}
use Rattle.isle_blocks.specs.declared.binding.Binding.TheVariants as sites
use Rattle.isle_blocks.specs.Rows.{IsInjective, numbers_of, rows_of}
use Rattle.isle_blocks.specs.Inside.Building.Gathering.{Gathered}
use Rattle.isle_blocks.specs.Building.Standing.{StandEach}
use Rattle.isle_blocks.specs.Inside.Building.Steps.{expr_adds, makes, values_of}
use Rattle.isle_blocks.specs.Inside.Building.Named.{named_expr, named_exprs, named_bindings, IsKnownTerm, AreKnownTerms}
use Rattle.isle_blocks.proofs.Building.Entries.{at_grown}
use Rattle.isle_blocks.proofs.Building.Patterns.{Stand, stand_later}
use Rattle.isle_blocks.proofs.Building.Exprs.{Visited, visited_rows, visited_none, visited_then, visited_intern, visited_call}

-- a variable more stands for its site
stand_let : (rows : List Row) (usable : List ℕ) (numbers : VisitScope BindingId) (vars : ℕ → Site) (own : VarId) (id : BindingId) (t : Site)
    → Stand rows usable numbers vars → At rows t id.0 → Stand rows (own.0 ∷ usable) (bound_by numbers own id) (set vars own.0 t)
stand_let rows usable numbers vars own id t h is var other u e = go (own.0 == var.0) refl u
  where
    go : (b : Bool) → (own.0 == var.0) ≡ b → IsUsable (own.0 ∷ usable) var.0 → At rows (set vars own.0 t var.0) other.0
    go true q w =
        let same = eqb-true own.0 var.0 q in
        let test = eq-eqb var.0 own.0 (sym same) in
        let given : id ≡ other = same_Some _ _ (rw q at e) in
        rw test (subst (λ (z : BindingId). At rows t z.0) given is)
    go false q (inl f) = absurd (eqb-false own.0 var.0 q f)
    go false q (inr f) = last (var.0 == own.0) refl
      where
        last : (b : Bool) → (var.0 == own.0) ≡ b → At rows (set vars own.0 t var.0) other.0
        last true p = absurd (eqb-false own.0 var.0 q (sym (eqb-true var.0 own.0 p)))
        last false p = rw p (h var other f (rw q at e))

module _ (name : Sym → List ℕ) (injective : IsInjective name) (names : List (List ℕ)) (facts : TermFacts) where
  -- an expression's site has this number
  abbrev pub Evaluates : Gathered → Log → Site × Log → BindingId → Gathered → Type 0
  Evaluates s log r id s' = Visited name injective s log r.1 s' × At (rows_of name s'.sites) r.0 id.0

  -- what a term makes of its arguments
  made_kind : (kind : TermKind) (ty : TypeId) (t : TermId) (ss : Sites) (inputs : List (BindingId × TypeId)) (log : Log) (s s' : Gathered)
      (call : ExprCall BindingId) (id : BindingId) → facts.pure t.0 ≡ (flags_of (form_shown names kind)).pure
      → facts.multi t.0 ≡ (flags_of (form_shown names kind)).multi → facts.partial t.0 ≡ (flags_of (form_shown names kind)).partial
      → AtAll (rows_of name s.sites) ss (numbers_of (values_of inputs)) → StandEach (rows_of name s.sites) s.impure log.impure
      → making_of kind ty t inputs ≡ Some call → expr_adds call s (Ok id) s'
      → Evaluates s log (applied facts (shape_of_form (form_shown names kind)) ty.0 t.0 (ss, log)) id s'
  made_kind (EnumVariant variant) ty t ss inputs log s s' call id p m q all each o h =
      visited_intern name injective (sites.MakeVariant ty variant (values_of inputs)) (make_variant ty.0 variant.0 ss) s s' id log
      (numbers_of (values_of inputs), refl, all) each (subst (λ c. expr_adds c s (Ok id) s') (sym (same_Some _ _ o)) h)
  made_kind Struct ty t ss inputs log s s' call id p m q all each o h =
      visited_intern name injective (sites.MakeStruct ty (values_of inputs)) (make_struct ty.0 ss) s s' id log
      (numbers_of (values_of inputs), refl, all) each (subst (λ c. expr_adds c s (Ok id) s') (sym (same_Some _ _ o)) h)
  made_kind (Decl flags None taken) ty t ss inputs log s s' call id p m q all each o h = absurd (none-some call o)
  made_kind (Decl flags (Some kind) taken) ty t ss inputs log s s' call id p m q all each o h =
      let run = subst (λ c. expr_adds c s (Ok id) s') (sym (same_Some _ _ o)) h in
      visited_call name injective facts (facts.pure t.0) flags.multi flags.partial t ss (values_of inputs) log s s' id m q all each
      (subst (λ z. makes (values_of inputs) t z (not flags.partial) flags.multi s (Ok id) s') (sym p) run)

  made : (o : Option (ExprCall BindingId)) (term : Term) (ty : TypeId) (t : TermId) (ss : Sites) (inputs : List (BindingId × TypeId)) (log : Log)
      (s s' : Gathered) (id : BindingId) → IsKnownTerm names facts t.0 term
      → AtAll (rows_of name s.sites) ss (numbers_of (values_of inputs)) → StandEach (rows_of name s.sites) s.impure log.impure
      → making_of term.kind ty t inputs ≡ o → on_some o (λ call. asks expr_adds call) stuck s (Ok id) s'
      → Evaluates s log (applied facts (facts.shape t.0) ty.0 t.0 (ss, log)) id s'
  made None term ty t ss inputs log s s' id k all each o run = absurd run
  made (Some call) term ty t ss inputs log s s' id k all each o run =
      subst (λ shape. Evaluates s log (applied facts shape ty.0 t.0 (ss, log)) id s') (sym k.shape)
      (made_kind term.kind ty t ss inputs log s s' call id k.pure k.multi k.partial all each o run)

  module _ (terms : List Term) (known : AreKnownTerms names facts terms) where
    -- arguments in order, after those before
    abbrev AllEvaluate : Gathered → Log → Sites × Log → List (BindingId × TypeId) → List (BindingId × TypeId) → Gathered → Type 0
    AllEvaluate s log r before inputs s' = Visited name injective s log r.1 s'
        × ((more : List (BindingId × TypeId)) × (inputs ≡ before ++ more) × AtAll (rows_of name s'.sites) r.0 (numbers_of (values_of more)))

    abbrev EvaluatesAll : InternedExprs → Type 0
    EvaluatesAll es = (tys : List TypeId) (before inputs : List (BindingId × TypeId)) (scope : Scope) (count : ℕ) (numbers : VisitScope BindingId)
        (vars : ℕ → Site) (log : Log) (s s' : Gathered) → Stand (rows_of name s.sites) scope.usable numbers vars
        → StandEach (rows_of name s.sites) s.impure log.impure → ExprsUse (named_exprs name es) scope count
        → visits_exprs expr_adds terms es tys before numbers s (Ok inputs) s'
        → AllEvaluate s log (visit_all facts vars log (named_exprs name es)) before inputs s'

    follow_term : (o : Option Term) (ty : TypeId) (t : TermId) (es : InternedExprs) → EvaluatesAll es → (scope : Scope) (count : ℕ)
        (numbers : VisitScope BindingId) (vars : ℕ → Site) (log : Log) (s s' : Gathered) (id : BindingId) → slice_get terms t.0 ≡ o
        → Stand (rows_of name s.sites) scope.usable numbers vars → StandEach (rows_of name s.sites) s.impure log.impure
        → ExprsUse (named_exprs name es) scope count
        → on_some o (λ term. in_turn (visits_exprs expr_adds terms es term.arg_tys [] numbers)
        (λ inputs. on_some (making_of term.kind ty t inputs) (λ call. asks expr_adds call) stuck)) stuck s (Ok id) s'
        → Evaluates s log (applied facts (facts.shape t.0) ty.0 t.0 (visit_all facts vars log (named_exprs name es))) id s'
    follow_term None ty t es each_of scope count numbers vars log s s' id o h each uses run = absurd run
    follow_term (Some term) ty t es each_of scope count numbers vars log s s' id o h each uses run =
        let args = each_of term.arg_tys [] run.0 scope count numbers vars log s run.1 h each uses run.2 in
        let r = visit_all facts vars log (named_exprs name es) in
        let all : AtAll (rows_of name run.1.sites) r.0 (numbers_of (values_of run.0)) =
        subst (λ z. AtAll (rows_of name run.1.sites) r.0 (numbers_of (values_of z))) (sym args.1.1) args.1.2 in
        let last = made (making_of term.kind ty t run.0) term ty t r.0 run.0 r.1 run.1 s' id (known t.0 term o) all args.0.impure refl run.3 in
        (visited_then name injective s run.1 s' log r.1 (applied facts (facts.shape t.0) ty.0 t.0 r).1 args.0 last.0, last.1)

    follow_var : (o : Option BindingId) (var : VarId) (scope : Scope) (numbers : VisitScope BindingId) (vars : ℕ → Site) (log : Log) (s s' : Gathered)
        (id : BindingId) → numbers var ≡ o → Stand (rows_of name s.sites) scope.usable numbers vars
        → StandEach (rows_of name s.sites) s.impure log.impure → IsUsable scope.usable var.0
        → on_some o (λ value. done {S = Gathered} {A = BindingId} value) stuck s (Ok id) s' → Evaluates s log (vars var.0, log) id s'
    follow_var None var scope numbers vars log s s' id o h each u run = absurd run
    follow_var (Some value) var scope numbers vars log s s' id o h each u run =
        subst (λ (z : Gathered). Visited name injective s log log z × At (rows_of name z.sites) (vars var.0) id.0) run.1
        (visited_none name injective s log each, subst (λ (z : BindingId). At (rows_of name s.sites) (vars var.0) z.0) run.0 (h var value u o))

    mutual
      -- an expression, under variables that stand for sites
      pub follow_expr : (e : InternedExpr) (scope : Scope) (count : ℕ) (numbers : VisitScope BindingId) (vars : ℕ → Site)
          (log : Log) (s s' : Gathered)
          (id : BindingId) → Stand (rows_of name s.sites) scope.usable numbers vars → StandEach (rows_of name s.sites) s.impure log.impure
          → ExprUses (named_expr name e) scope count → visits_expr expr_adds terms e numbers s (Ok id) s'
          → Evaluates s log (visit facts vars log (named_expr name e)) id s'
      follow_expr (term_expr ty t es) scope count numbers vars log s s' id h each uses run =
          follow_term (slice_get terms t.0) ty t es
          (λ tys before inputs sc n ns vs lg x y st ea us r. follow_exprs es tys before inputs sc n ns vs lg x y st ea us r)
          scope count numbers vars log s s' id refl h each uses run
      follow_expr (var_expr ty var) scope count numbers vars log s s' id h each uses run =
          follow_var (numbers var) var scope numbers vars log s s' id refl h each uses.0 run
      follow_expr (bool_expr ty val) scope count numbers vars log s s' id h each uses run =
          visited_intern name injective (sites.ConstBool val ty) (bool_site val ty.0) s s' id log refl each run
      follow_expr (int_expr ty val) scope count numbers vars log s s' id h each uses run =
          visited_intern name injective (sites.ConstInt val ty) (int_site val ty.0) s s' id log refl each run
      follow_expr (prim_expr ty val) scope count numbers vars log s s' id h each uses run =
          visited_intern name injective (sites.ConstPrim val) (prim_site (name val)) s s' id log refl each run
      follow_expr (let_expr ty bs body) scope count numbers vars log s s' id h each uses run =
          let first = follow_lets bs scope uses.0 numbers run.0 vars log s run.1 h each uses.1 run.2 in
          let r = visit_lets facts vars log (named_bindings name bs) in
          let last = follow_expr body uses.0 count run.0 r.0 r.1 run.1 s' id first.1 first.0.impure uses.2 run.3 in
          (visited_then name injective s run.1 s' log r.1 (visit facts r.0 r.1 (named_expr name body)).1 first.0 last.0, last.1)

      pub follow_exprs : (es : InternedExprs) (tys : List TypeId) (before inputs : List (BindingId × TypeId)) (scope : Scope) (count : ℕ)
          (numbers : VisitScope BindingId) (vars : ℕ → Site) (log : Log) (s s' : Gathered) → Stand (rows_of name s.sites) scope.usable numbers vars
          → StandEach (rows_of name s.sites) s.impure log.impure → ExprsUse (named_exprs name es) scope count
          → visits_exprs expr_adds terms es tys before numbers s (Ok inputs) s'
          → AllEvaluate s log (visit_all facts vars log (named_exprs name es)) before inputs s'
      follow_exprs no_exprs tys before inputs scope count numbers vars log s s' h each uses run =
          subst (λ (z : Gathered). Visited name injective s log log z
          × ((more : List (BindingId × TypeId)) × (inputs ≡ before ++ more) × AtAll (rows_of name z.sites)
          (visit_all facts vars log (named_exprs name no_exprs)).0 (numbers_of (values_of more)))) run.1
          (visited_none name injective s log each, ([], sym run.0 ∙ sym (append-nil before), tt))
      follow_exprs (more_exprs e es) [] before inputs scope count numbers vars log s s' h each uses run = absurd run
      follow_exprs (more_exprs e es) (ty ∷ tys) before inputs scope count numbers vars log s s' h each uses run =
          let mid = run.1 in
          let one = follow_expr e scope uses.0 numbers vars log s mid run.0 h each uses.1 run.2 in
          let r = visit facts vars log (named_expr name e) in
          let g = visited_rows name injective s mid log r.1 one.0 in
          let rest = follow_exprs es tys (before ++ (run.0, ty) ∷ []) inputs (counting scope uses.0) count numbers vars r.1 mid s'
          (stand_later (rows_of name s.sites) (rows_of name mid.sites) g scope.usable numbers vars h) one.0.impure uses.2 run.3 in
          let q = visit_all facts vars r.1 (named_exprs name es) in
          let later = visited_rows name injective mid s' r.1 q.1 rest.0 in (
            visited_then name injective s mid s' log r.1 q.1 one.0 rest.0,
            (
              (run.0, ty) ∷ rest.1.0,
              rest.1.1 ∙ append_assoc before ((run.0, ty) ∷ []) rest.1.0,
              (at_grown (rows_of name mid.sites) (rows_of name s'.sites) later r.0 run.0.0 one.1, rest.1.2),
            ),
          )

      pub follow_lets : (bs : InternedBindings) (scope inside : Scope) (numbers out : VisitScope BindingId)
          (vars : ℕ → Site) (log : Log) (s s' : Gathered)
          → Stand (rows_of name s.sites) scope.usable numbers vars → StandEach (rows_of name s.sites) s.impure log.impure
          → BindingsAdd (named_bindings name bs) scope inside → visits_bindings expr_adds terms bs numbers s (Ok out) s'
          → Visited name injective s log (visit_lets facts vars log (named_bindings name bs)).1 s'
          × Stand (rows_of name s'.sites) inside.usable out (visit_lets facts vars log (named_bindings name bs)).0
      follow_lets no_bindings scope inside numbers out vars log s s' h each adds run =
          subst (λ (z : Scope). Visited name injective s log log s' × Stand (rows_of name s'.sites) z.usable out vars) (sym adds)
          (subst (λ (z : Gathered). Visited name injective s log log z × Stand (rows_of name z.sites) scope.usable out vars) run.1
          (visited_none name injective s log each, subst (λ z. Stand (rows_of name s.sites) scope.usable z vars) run.0 h))
      follow_lets (more_bindings var ty e bs) scope inside numbers out vars log s s' h each adds run =
          let mid = run.1 in
          let one = follow_expr e scope var.0 numbers vars log s mid run.0 h each adds.0 run.2 in
          let r = visit facts vars log (named_expr name e) in
          let g = visited_rows name injective s mid log r.1 one.0 in
          let more = stand_let (rows_of name mid.sites) scope.usable numbers vars var run.0 r.0
          (stand_later (rows_of name s.sites) (rows_of name mid.sites) g scope.usable numbers vars h) one.1 in
          let rest = follow_lets bs (with_next (counting scope var.0)) inside (bound_by numbers var run.0) out (set vars var.0 r.0) r.1 mid s' more
          one.0.impure adds.1 run.3 in
          let q = visit_lets facts (set vars var.0 r.0) r.1 (named_bindings name bs) in
          (visited_then name injective s mid s' log r.1 q.1 one.0 rest.0, rest.1)
