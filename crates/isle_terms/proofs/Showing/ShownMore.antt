-- What typed rules and terms show stays as it is when more names are interned.
use Rattle.std.proofs.Common.{◌≡◌, ℕ, zero, suc, max, ◌≤◌, ◌<◌, List, [], ◌∷◌, length, map, get_or, Option, Some, None, arith, refl}
use Rattle.std.proofs.Common.{ap, sym, subst, ◌∙◌, slice_get, ◌⊎◌, inl, inr, is_some}
use Rattle.std.specs.Prelude.{unwrap_or}
use Rattle.std.specs.Option.{option_map, option_and_then}
use Rattle.std.proofs.lemmas.Option.{slice_get-get_or, slice_get_within, slice_get_cases, same_Some}
use Rattle.isle_types.specs.declared.ids.Sym.{Sym}
use Rattle.isle_types.specs.declared.ids.TypeId.{TypeId}
use Rattle.isle_types.specs.declared.ids.VarId.{VarId}
use Rattle.isle_types.specs.declared.ids.TermId.{TermId}
use Rattle.isle_types.specs.Names.{KeepsNames, AreDistinct, position_of}
use Rattle.isle_types.specs.TypeTables.{TypeTables, name_at}
use Rattle.isle_types.specs.TypeEnvs.{HasMoreNames, sym_named, symbol_at}
use Rattle.isle_types.proofs.NamePlaces.{place_found, place_known, place_missing}
use Rattle.isle_types.proofs.ShownTypes.{shows_with_names}
use Rattle.isle_rules.specs.declared.rules.Pattern.{Pattern, Pattern-F, map-Pattern, fold-roll-Pattern, ind-Pattern}
use Rattle.isle_rules.specs.declared.rules.Pattern.TheOpen.{BindPattern, Var as PatternVar, ConstBool as PatternBool, ConstInt as PatternInt}
use Rattle.isle_rules.specs.declared.rules.Pattern.TheOpen.{ConstPrim as PatternPrim, Term as PatternTerm, Wildcard, And}
use Rattle.isle_rules.specs.declared.rules.Expr.{Expr, Expr-F, map-Expr, fold-roll-Expr, ind-Expr}
use Rattle.isle_rules.specs.declared.rules.Expr.TheOpen.{Term, Var, ConstBool, ConstInt, ConstPrim, Let}
use Rattle.isle_rules.specs.declared.rules.IfLet.{IfLet}
use Rattle.isle_rules.specs.declared.terms.Term.{Term as KnownTerm}
use Rattle.isle_rules.specs.declared.terms.ConstructorKind.{ConstructorKind}
use Rattle.isle_rules.specs.declared.terms.ConstructorKind.TheVariants.{InternalConstructor, ExternalConstructor}
use Rattle.isle_rules.specs.declared.terms.ExtractorKind.{ExtractorKind}
use Rattle.isle_rules.specs.declared.terms.ExtractorKind.TheVariants.{InternalExtractor, ExternalExtractor}
use Rattle.isle_rules.specs.declared.terms.TermKind.{TermKind}
use Rattle.isle_rules.specs.declared.terms.TermKind.TheVariants.{EnumVariant, Struct, Decl}
use Rattle.isle_rules.specs.TypedRules.{TypedPattern, TypedExpr, typed_bind, typed_prim, typed_term, typed_and}
use Rattle.isle_rules.specs.TypedRules.{built_term, built_prim, built_let}
use Rattle.isle_rules.specs.Shown.ShownRules.{typed_step, typed_shown, typed_list, pattern_limit_step, pattern_limit, greatest, built_step}
use Rattle.isle_rules.specs.Shown.ShownRules.{built_shown}
use Rattle.isle_rules.specs.Shown.ShownRules.{built_list, binding_list, expr_limit_step, expr_limit, greatest_of_values, iflet_shown}
use Rattle.isle_rules.specs.Signatures.{external_constructor, external_extractor, Declared}
use Rattle.isle_rules.specs.Shown.TermTables.{TermTables, term_with}
use Rattle.isle_terms.specs.Inside.Shown.TermLimits.{constructor_limit, extractor_limit, kind_limit, term_limit, terms_limit, HasKnownSymbols}
use Rattle.isle_rules.specs.Shown.ShownTerms.{constructor_shown, extractor_shown, form_shown, term_shown, ShowsDeclared}

-- names that are kept are as many at least
pub names_within : (old new : List (List ℕ)) → KeepsNames old new → length old ≤ length new
names_within old new keeps = by_length (length old) refl
  where
    by_length : (n : ℕ) → length old ≡ n → length old ≤ length new
    by_length zero none = omega arith
    by_length (suc n) is =
        let here : slice_get old n ≡ Some (get_or old n []) = slice_get-get_or old n [] (omega arith) in
        let within : n < length new = slice_get_within new n (get_or old n []) (keeps n (get_or old n []) here) in
        omega arith

module _ (old new : List (List ℕ)) (keeps : KeepsNames old new) where
  -- the name of a symbol that is known stays
  pub name_more : (symbol : Sym) → symbol.0 < length old → name_at new symbol ≡ name_at old symbol
  name_more symbol low =
      let here = slice_get-get_or old symbol.0 [] low in
      ap (λ o. unwrap_or o []) (keeps symbol.0 (get_or old symbol.0 []) here ∙ sym here)

  -- a pattern shows the same
  abbrev TypedMore : Pattern → Type 0
  TypedMore pattern = pattern_limit pattern ≤ length old → typed_shown new pattern ≡ typed_shown old pattern

  -- so do the patterns below a node
  args_more : (ps : List ((p : Pattern) × TypedMore p)) → greatest (map pattern_limit (map (λ p. p.0) ps)) ≤ length old
      → map (typed_shown new) (map (λ p. p.0) ps) ≡ map (typed_shown old) (map (λ p. p.0) ps)
  args_more [] within = refl
  args_more (p ∷ ps) within =
      let first = p.1 (omega arith) in
      let others = args_more ps (omega arith) in cc

  -- a node shows the same where those below it do
  typed_level : (y : Pattern-F ((p : Pattern) × TypedMore p))
      → pattern_limit_step (map-Pattern Pattern ℕ pattern_limit (map-Pattern ((p : Pattern) × TypedMore p) Pattern (λ p. p.0) y)) ≤ length old
      → typed_step new (map-Pattern Pattern TypedPattern (typed_shown new) (map-Pattern ((p : Pattern) × TypedMore p) Pattern (λ p. p.0) y))
      ≡ typed_step old (map-Pattern Pattern TypedPattern (typed_shown old) (map-Pattern ((p : Pattern) × TypedMore p) Pattern (λ p. p.0) y))
  typed_level (BindPattern ty var below) within = ap (typed_bind ty.0 var.0) (below.1 within)
  typed_level (PatternVar ty var) within = refl
  typed_level (PatternBool ty val) within = refl
  typed_level (PatternInt ty val) within = refl
  typed_level (PatternPrim ty name) within = ap (typed_prim ty.0) (name_more name (omega arith))
  typed_level (PatternTerm ty term args) within = ap (λ ps. typed_term ty.0 term.0 (typed_list ps)) (args_more args within)
  typed_level (Wildcard ty) within = refl
  typed_level (And ty below) within = ap (λ ps. typed_and ty.0 (typed_list ps)) (args_more below within)

  -- what a pattern shows stays
  pub typed_more : (pattern : Pattern) → pattern_limit pattern ≤ length old → typed_shown new pattern ≡ typed_shown old pattern
  typed_more = ind-Pattern TypedMore (λ x y made within.
      fold-roll-Pattern TypedPattern (typed_step new) x
      ∙ subst (λ z. pattern_limit_step (map-Pattern Pattern ℕ pattern_limit z) ≤ length old
      → typed_step new (map-Pattern Pattern TypedPattern (typed_shown new) z) ≡ typed_step old (map-Pattern Pattern TypedPattern (typed_shown old) z))
      made (typed_level y) (subst (λ n. n ≤ length old) (fold-roll-Pattern ℕ pattern_limit_step x) within)
      ∙ sym (fold-roll-Pattern TypedPattern (typed_step old) x))

  -- what a list of patterns shows stays
  pub patterns_more : (patterns : List Pattern) → greatest (map pattern_limit patterns) ≤ length old
      → map (typed_shown new) patterns ≡ map (typed_shown old) patterns
  patterns_more [] within = refl
  patterns_more (pattern ∷ others) within =
      let first = typed_more pattern (omega arith) in
      let rest = patterns_more others (omega arith) in cc

  -- an expression shows the same
  abbrev BuiltMore : Expr → Type 0
  BuiltMore expr = expr_limit expr ≤ length old → built_shown new expr ≡ built_shown old expr

  -- so do the expressions below a node
  values_more : (es : List ((e : Expr) × BuiltMore e)) → greatest (map expr_limit (map (λ e. e.0) es)) ≤ length old
      → map (built_shown new) (map (λ e. e.0) es) ≡ map (built_shown old) (map (λ e. e.0) es)
  values_more [] within = refl
  values_more (e ∷ es) within =
      let first = e.1 (omega arith) in
      let others = values_more es (omega arith) in cc

  -- the variables of a `let`, each with what its value shows
  abbrev bindings_below : {X Y : Type 0} → (X → Y) → List (VarId × TypeId × X) → List (VarId × TypeId × Y)
  bindings_below {X} f bindings = map (λ (binding : VarId × TypeId × X). (binding.0, binding.1, f binding.2)) bindings

  -- so do the values of a `let`
  bindings_more : (bs : List (VarId × TypeId × ((e : Expr) × BuiltMore e)))
      → greatest_of_values (bindings_below expr_limit (bindings_below (λ e. e.0) bs)) ≤ length old
      → bindings_below (built_shown new) (bindings_below (λ e. e.0) bs) ≡ bindings_below (built_shown old) (bindings_below (λ e. e.0) bs)
  bindings_more [] within = refl
  bindings_more (b ∷ bs) within =
      let first = b.2.1 (omega arith) in
      let others = bindings_more bs (omega arith) in cc

  -- a node shows the same where those below it do
  built_level : (y : Expr-F ((e : Expr) × BuiltMore e))
      → expr_limit_step (map-Expr Expr ℕ expr_limit (map-Expr ((e : Expr) × BuiltMore e) Expr (λ e. e.0) y)) ≤ length old
      → built_step new (map-Expr Expr TypedExpr (built_shown new) (map-Expr ((e : Expr) × BuiltMore e) Expr (λ e. e.0) y))
      ≡ built_step old (map-Expr Expr TypedExpr (built_shown old) (map-Expr ((e : Expr) × BuiltMore e) Expr (λ e. e.0) y))
  built_level (Term ty term args) within = ap (λ es. built_term ty.0 term.0 (built_list es)) (values_more args within)
  built_level (Var ty var) within = refl
  built_level (ConstBool ty val) within = refl
  built_level (ConstInt ty val) within = refl
  built_level (ConstPrim ty name) within = ap (built_prim ty.0) (name_more name (omega arith))
  built_level (Let ty bindings body) within =
      let here = body.1 (omega arith) in
      let before = bindings_more bindings (omega arith) in
      ap (λ bs. built_let ty.0 (binding_list bs) (built_shown new body.0)) before
      ∙ ap (built_let ty.0 (binding_list (bindings_below (built_shown old) (bindings_below (λ e. e.0) bindings)))) here

  -- what an expression shows stays
  pub built_more : (expr : Expr) → expr_limit expr ≤ length old → built_shown new expr ≡ built_shown old expr
  built_more = ind-Expr BuiltMore (λ x y made within.
      fold-roll-Expr TypedExpr (built_step new) x
      ∙ subst (λ z. expr_limit_step (map-Expr Expr ℕ expr_limit z) ≤ length old
      → built_step new (map-Expr Expr TypedExpr (built_shown new) z) ≡ built_step old (map-Expr Expr TypedExpr (built_shown old) z))
      made (built_level y) (subst (λ n. n ≤ length old) (fold-roll-Expr ℕ expr_limit_step x) within)
      ∙ sym (fold-roll-Expr TypedExpr (built_step old) x))

  -- what a condition shows stays
  pub iflet_more : (iflet : IfLet) → max (pattern_limit iflet.lhs) (expr_limit iflet.rhs) ≤ length old
      → iflet_shown new iflet ≡ iflet_shown old iflet
  iflet_more iflet within =
      let pattern : typed_shown new iflet.lhs ≡ typed_shown old iflet.lhs = typed_more iflet.lhs (omega arith) in
      let value : built_shown new iflet.rhs ≡ built_shown old iflet.rhs = built_more iflet.rhs (omega arith) in
      cc

  -- what a list of conditions shows stays
  pub iflets_more : (iflets : List IfLet)
      → greatest (map (λ (iflet : IfLet). max (pattern_limit iflet.lhs) (expr_limit iflet.rhs)) iflets) ≤ length old
      → map (iflet_shown new) iflets ≡ map (iflet_shown old) iflets
  iflets_more [] within = refl
  iflets_more (iflet ∷ others) within =
      let first = iflet_more iflet (omega arith) in
      let rest = iflets_more others (omega arith) in cc

  -- the name of a host's function stays
  constructor_more : (kind : Option ConstructorKind) → constructor_limit kind ≤ length old
      → option_map (constructor_shown new) kind ≡ option_map (constructor_shown old) kind
  constructor_more None within = refl
  constructor_more (Some InternalConstructor) within = refl
  constructor_more (Some (ExternalConstructor name)) within = ap (λ function. Some (external_constructor function)) (name_more name (omega arith))

  -- so does that of a host's extractor
  extractor_more : (kind : Option ExtractorKind) → extractor_limit kind ≤ length old
      → option_map (extractor_shown new) kind ≡ option_map (extractor_shown old) kind
  extractor_more None within = refl
  extractor_more (Some (InternalExtractor template)) within = refl
  extractor_more (Some (ExternalExtractor name infallible pos)) within =
      ap (λ function. Some (external_extractor function infallible pos)) (name_more name (omega arith))

  -- what a term is stays
  form_more : (kind : TermKind) → kind_limit kind ≤ length old → form_shown new kind ≡ form_shown old kind
  form_more (EnumVariant variant) within = refl
  form_more Struct within = refl
  form_more (Decl flags constructor_kind extractor_kind) within =
      let constructor = constructor_more constructor_kind (omega arith) in
      let extractor = extractor_more extractor_kind (omega arith) in
      cc

  -- what a term shows stays
  pub term_more : (term : KnownTerm) → term_limit term ≤ length old → term_shown new term ≡ term_shown old term
  term_more term within =
      let name = name_more term.name (omega arith) in
      let form = form_more term.kind (omega arith) in
      cc

  -- what terms show stays
  pub terms_more : (terms : List KnownTerm) → terms_limit terms ≤ length old → map (term_shown new) terms ≡ map (term_shown old) terms
  terms_more [] within = refl
  terms_more (term ∷ others) within =
      let first = term_more term (omega arith) in
      let rest = terms_more others (omega arith) in cc

  -- a name has its place among more names, or it had none
  pub place_more : AreDistinct new → (name : List ℕ) (place : ℕ) → position_of old name ≡ Some place → position_of new name ≡ Some place
  place_more once name place is = place_known new name place once (keeps place name (place_found old name place is))

  -- a name that is new stands behind the old ones
  pub place_new : (name : List ℕ) (place : ℕ) → position_of old name ≡ None → position_of new name ≡ Some place → length old ≤ place
  place_new name place missing found = by_cases (slice_get_cases old place).1
    where
      by_cases : ((x : List ℕ) × (place < length old) × (slice_get old place ≡ Some x) × (get_or old place x ≡ x))
          ⊎ ((length old ≤ place) × (slice_get old place ≡ None)) → length old ≤ place
      by_cases (inr past) = past.0
      by_cases (inl there) =
          let same : there.0 ≡ name = same_Some there.0 name (sym (keeps place there.0 there.2) ∙ place_found new name place found) in
          absurd (place_missing old name missing place (there.2 ∙ ap Some same))

  -- what is known of symbols stays
  pub known_more : (env : TermTables) → HasKnownSymbols old env → HasKnownSymbols new env
  known_more env known =
      let within = names_within old new keeps in
      record {
        terms = let before = known.terms in omega arith;
        numbers = λ symbol there. let before = known.numbers symbol there in omega arith;
      }
