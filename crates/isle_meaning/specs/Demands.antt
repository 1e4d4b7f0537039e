-- What a rule demands of sites.
use Rattle.std.specs.Prelude.{◌≡◌, ◌⊎◌, ℕ, suc, ℤ, Bool, true, false, List, [], ◌∷◌, ◌++◌, map}
use Rattle.isle_rules.specs.TypedRules.{TypedPattern, typed_bind, typed_var, typed_bool, typed_int, typed_prim, typed_term, typed_wildcard}
use Rattle.isle_rules.specs.TypedRules.{typed_and, TypedPatterns, no_typed, more_typed, TypedIfLet, TypedRule}
use Rattle.isle_meaning.specs.Facts.{TermShape, variant_shape, struct_shape, declared_shape, TermFacts, patterns}
use Rattle.isle_meaning.specs.Words.{set, word_of, steps_of}
use Rattle.isle_meaning.specs.Sites.{Site, bool_site, int_site, prim_site, argument, extractor_call, constructor_call, iterator}
use Rattle.isle_meaning.specs.Sites.{make_variant, match_variant, make_struct, extract_struct, make_some, match_some, match_tuple}
use Rattle.isle_meaning.specs.Sites.{Sites, no_sites, more_sites, extract_site, output, site_of, step_site}

-- what one site can be demanded to be: a variant or a struct with so many fields, a constant, an option that isn't none
pub data Constraint : Type 0 where
  variant_constraint : ℕ → ℕ → ℕ → Constraint
  struct_constraint : ℕ → ℕ → Constraint
  bool_constraint : Bool → ℕ → Constraint
  int_constraint : ℤ → ℕ → Constraint
  prim_constraint : List ℕ → Constraint
  some_constraint : Constraint

pub data Demand : Type 0 where
  constrained : Site → Constraint → Demand
  equal : Site → Site → Demand

-- what a term's pattern with so many parts demands of the site itself
abbrev pub extractor_demands : Bool → Bool → Site → List Demand
extractor_demands true infallible s = []
extractor_demands false true s = []
extractor_demands false false s = constrained s some_constraint ∷ []

abbrev pub opens : TermFacts → TermShape → ℕ → ℕ → ℕ → Site → List Demand
opens facts (variant_shape k) ty t n s = constrained s (variant_constraint ty k n) ∷ []
opens facts struct_shape ty t n s = constrained s (struct_constraint ty n) ∷ []
opens facts declared_shape ty t n s = extractor_demands (facts.multi t) (facts.infallible t) (extractor_call t s)

-- the sites of its parts
abbrev pub parts : TermFacts → TermShape → ℕ → ℕ → Site → ℕ → Site
parts facts (variant_shape k) t n s = match_variant s k
parts facts struct_shape t n s = extract_struct s
parts facts declared_shape t n s = output n (extract_site (facts.multi t) (facts.infallible t) (extractor_call t s))

-- what the variables stand for, after a pattern at a site
abbrev mutual
  pub bound : TermFacts → TypedPattern → Site → (ℕ → Site) → ℕ → Site
  bound facts (typed_bind ty k p) s vars = set (bound facts p s vars) k s
  bound facts (typed_var ty k) s vars = vars
  bound facts (typed_bool ty b) s vars = vars
  bound facts (typed_int ty n) s vars = vars
  bound facts (typed_prim ty n) s vars = vars
  bound facts (typed_term ty t ps) s vars = bound_all facts ps (parts facts (facts.shape t) t (patterns ps) s) vars
  bound facts (typed_wildcard ty) s vars = vars
  bound facts (typed_and ty ps) s vars = bound_all facts ps (λ i. s) vars

  pub bound_all : TermFacts → TypedPatterns → (ℕ → Site) → (ℕ → Site) → ℕ → Site
  bound_all facts no_typed at vars = vars
  bound_all facts (more_typed p ps) at vars = bound_all facts ps (λ i. at (suc i)) (bound facts p (at 0) vars)

-- what a pattern demands at a site
abbrev mutual
  pub demands : TermFacts → TypedPattern → Site → (ℕ → Site) → List Demand
  demands facts (typed_bind ty k p) s vars = demands facts p s vars
  demands facts (typed_var ty k) s vars = equal s (vars k) ∷ []
  demands facts (typed_bool ty b) s vars = constrained s (bool_constraint b ty) ∷ []
  demands facts (typed_int ty n) s vars = constrained s (int_constraint n ty) ∷ []
  demands facts (typed_prim ty n) s vars = constrained s (prim_constraint n) ∷ []
  demands facts (typed_term ty t ps) s vars =
      opens facts (facts.shape t) ty t (patterns ps) s ++ demands_all facts ps (parts facts (facts.shape t) t (patterns ps) s) vars
  demands facts (typed_wildcard ty) s vars = []
  demands facts (typed_and ty ps) s vars = demands_all facts ps (λ i. s) vars

  pub demands_all : TermFacts → TypedPatterns → (ℕ → Site) → (ℕ → Site) → List Demand
  demands_all facts no_typed at vars = []
  demands_all facts (more_typed p ps) at vars =
      demands facts p (at 0) vars ++ demands_all facts ps (λ i. at (suc i)) (bound facts p (at 0) vars)

-- `Some` on every partial call in what a site is made of
abbrev mutual
  pub contents : Site → List Demand
  contents (bool_site b ty) = []
  contents (int_site n ty) = []
  contents (prim_site n) = []
  contents (argument i) = []
  contents (extractor_call t s) = contents s
  contents (constructor_call t ss i) = contents_all ss
  contents (iterator s) = contents s
  contents (make_variant ty k ss) = contents_all ss
  contents (match_variant s k i) = contents s
  contents (make_struct ty ss) = contents_all ss
  contents (extract_struct s i) = contents s
  contents (make_some s) = contents s
  contents (match_some s) = constrained s some_constraint ∷ contents s
  contents (match_tuple s i) = contents s

  pub contents_all : Sites → List Demand
  contents_all no_sites = []
  contents_all (more_sites s ss) = contents s ++ contents_all ss

-- the site of an if-let's expression
abbrev pub iflet_site : TermFacts → (ℕ → Site) → TypedIfLet → Site
iflet_site facts vars x = site_of facts vars (word_of facts x.value)

abbrev pub iflets_bound : TermFacts → List TypedIfLet → (ℕ → Site) → ℕ → Site
iflets_bound facts [] vars = vars
iflets_bound facts (x ∷ xs) vars = iflets_bound facts xs (bound facts x.pattern (iflet_site facts vars x) vars)

abbrev pub iflets_demands : TermFacts → List TypedIfLet → (ℕ → Site) → List Demand
iflets_demands facts [] vars = []
iflets_demands facts (x ∷ xs) vars =
    contents (iflet_site facts vars x)
    ++ (demands facts x.pattern (iflet_site facts vars x) vars
    ++ iflets_demands facts xs (bound facts x.pattern (iflet_site facts vars x) vars))

-- no variable is bound
abbrev pub nothing : ℕ → Site
nothing k = prim_site []

-- what the variables stand for, after the arguments
abbrev pub args_bound : TermFacts → TypedRule → ℕ → Site
args_bound facts rule = bound_all facts rule.args argument nothing

-- what each of a rule's variables stands for
abbrev pub vars_of : TermFacts → TypedRule → ℕ → Site
vars_of facts rule = iflets_bound facts rule.iflets (args_bound facts rule)

-- what a rule demands
abbrev pub demands_of : TermFacts → TypedRule → List Demand
demands_of facts rule = demands_all facts rule.args argument nothing ++ iflets_demands facts rule.iflets (args_bound facts rule)

-- a rule's impure calls in order
abbrev pub impure_of : TermFacts → TypedRule → List Site
impure_of facts rule = map (step_site facts (vars_of facts rule)) (steps_of facts rule.right)

abbrev pub some_of : Bool → Site → Site
some_of true s = make_some s
some_of false s = s

-- a rule's result: in a term that may fail the made option of its right side
abbrev pub result_of : TermFacts → Bool → TypedRule → Site
result_of facts partial rule = some_of partial (site_of facts (vars_of facts rule) (word_of facts rule.right))

-- one of some demands
abbrev pub Among : List Demand → Demand → Type 0
Among [] d = ⊥
Among (e ∷ ds) d = (d ≡ e) ⊎ Among ds d

-- what a rule demands
abbrev pub DemandOf : TermFacts → TypedRule → Demand → Type 0
DemandOf facts rule = Among (demands_of facts rule)
