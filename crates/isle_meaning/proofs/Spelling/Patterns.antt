-- Positions decide nothing of what a pattern stands for.
use Rattle.std.proofs.Common.{◌≡◌, ◌⊎◌, inl, inr, ℕ, zero, suc, ◌+◌, List, [], ◌∷◌, map, Option, None, Some, refl, sym, ◌∙◌, ap, subst}
use Rattle.std.specs.Prelude.{ℤ, Bool}
use Rattle.std.specs.Option.{option_map}
use Rattle.std.proofs.lemmas.Option.{slice_get-map}
use Rattle.isle_ast.specs.Trees.PatternTree.{PatternTree, PatternTrees, pattern_var, pattern_bind, pattern_bool, pattern_int, pattern_prim}
use Rattle.isle_ast.specs.Trees.PatternTree.{pattern_term, pattern_wildcard, pattern_and, pattern_macro_arg, no_patterns, more_patterns}
use Rattle.isle_ast.specs.Trees.Templates.{filled, all_filled, more_given}
use Rattle.isle_ast.specs.Trees.WithoutPos.{no_pos, ident_without_pos, pattern_tree_without_pos, pattern_trees_without_pos}
use Rattle.isle_types.proofs.Zipped.{mapped_at}
use Rattle.isle_types.specs.Environment.{Environment, NamedType, TypeShape, primitive, enum, struct}
use Rattle.isle_rules.specs.TypedRules.{TypedPattern, TypedPatterns}
use Rattle.isle_rules.specs.Signatures.{Signature, Declared, put_in_for, Converts, has_extractor_form}
use Rattle.isle_rules.specs.Elaboration.{IsLiteralOf, of_integer, of_primitive, State, counted, pattern_count, listed, each_at, PatternJudgement}
use Rattle.isle_rules.specs.Elaboration.{EachPattern, TakesApart, Extracts, ConvertsPattern, PatternNode, Elaborates}
use Rattle.isle_meaning.proofs.Spelling.Bare.{bare, bare_types, bare_type, bare_shape, bare_term, term_named_bare, there_bare, signature_bare}
use Rattle.isle_meaning.proofs.Spelling.Bare.{has_extractor_bare, put_in_bare, unmapped}

-- as many patterns
pub count_bare : (ts : PatternTrees) → pattern_count (pattern_trees_without_pos ts) ≡ pattern_count ts
count_bare no_patterns = refl
count_bare (more_patterns t ts) = ap (λ n. n + 1) (count_bare ts)

each_bare : (ty : ℕ) (ts : PatternTrees) → each_at ty (pattern_trees_without_pos ts) ≡ each_at ty ts
each_bare ty no_patterns = refl
each_bare ty (more_patterns t ts) = ap (λ (l : List ℕ). ty ∷ l) (each_bare ty ts)

listed_bare : (ts : PatternTrees) → listed (pattern_trees_without_pos ts) ≡ map pattern_tree_without_pos (listed ts)
listed_bare no_patterns = refl
listed_bare (more_patterns t ts) = ap (λ (l : List PatternTree). pattern_tree_without_pos t ∷ l) (listed_bare ts)

-- what is made of two options
both_bare : (o : Option PatternTree) (os : Option PatternTrees)
    → more_given (option_map pattern_tree_without_pos o) (option_map pattern_trees_without_pos os)
    ≡ option_map pattern_trees_without_pos (more_given o os)
both_bare None os = refl
both_bare (Some t) None = refl
both_bare (Some t) (Some ts) = refl

-- an option mapped twice
twice : {X Y Z : Type 0} (f : X → Y) (g : Y → Z) (o : Option X) → option_map g (option_map f o) ≡ option_map (λ x. g (f x)) o
twice f g None = refl
twice f g (Some x) = refl

-- a template is filled alike
mutual
  filled_bare : (given : List PatternTree) (t : PatternTree)
      → filled (map pattern_tree_without_pos given) (pattern_tree_without_pos t) ≡ option_map pattern_tree_without_pos (filled given t)
  filled_bare given (pattern_var name pos) = refl
  filled_bare given (pattern_bind name below pos) =
      ap (option_map (λ t. pattern_bind (ident_without_pos name) t no_pos)) (filled_bare given below)
      ∙ twice pattern_tree_without_pos (λ t. pattern_bind (ident_without_pos name) t no_pos) (filled given below)
      ∙ sym (twice (λ t. pattern_bind name t pos) pattern_tree_without_pos (filled given below))
  filled_bare given (pattern_bool val pos) = refl
  filled_bare given (pattern_int val big pos) = refl
  filled_bare given (pattern_prim name pos) = refl
  filled_bare given (pattern_term term args pos) =
      ap (option_map (λ ts. pattern_term (ident_without_pos term) ts no_pos)) (all_filled_bare given args)
      ∙ twice pattern_trees_without_pos (λ ts. pattern_term (ident_without_pos term) ts no_pos) (all_filled given args)
      ∙ sym (twice (λ ts. pattern_term term ts pos) pattern_tree_without_pos (all_filled given args))
  filled_bare given (pattern_wildcard pos) = refl
  filled_bare given (pattern_and below pos) =
      ap (option_map (λ ts. pattern_and ts no_pos)) (all_filled_bare given below)
      ∙ twice pattern_trees_without_pos (λ ts. pattern_and ts no_pos) (all_filled given below)
      ∙ sym (twice (λ ts. pattern_and ts pos) pattern_tree_without_pos (all_filled given below))
  filled_bare given (pattern_macro_arg k pos) = slice_get-map pattern_tree_without_pos given k

  all_filled_bare : (given : List PatternTree) (ts : PatternTrees)
      → all_filled (map pattern_tree_without_pos given) (pattern_trees_without_pos ts)
      ≡ option_map pattern_trees_without_pos (all_filled given ts)
  all_filled_bare given no_patterns = refl
  all_filled_bare given (more_patterns t ts) =
      (λ i. more_given (filled_bare given t i) (all_filled_bare given ts i))
      ∙ both_bare (filled given t) (all_filled given ts)

body_bare : (args : PatternTrees) (template : PatternTree)
    → filled (listed (pattern_trees_without_pos args)) (pattern_tree_without_pos template)
    ≡ option_map pattern_tree_without_pos (filled (listed args) template)
body_bare args template =
    ap (λ (l : List PatternTree). filled l (pattern_tree_without_pos template)) (listed_bare args) ∙ filled_bare (listed args) template

-- a literal's type
pub literal_there : (types : Environment) (ty : ℕ) (val : ℤ) (big : Bool) → IsLiteralOf types ty val big → IsLiteralOf (bare_types types) ty val big
literal_there types ty val big (of_integer int is has) = of_integer int is has
literal_there types ty val big (of_primitive place type host is at shape) =
    of_primitive place (bare_type type) host is (there_bare bare_type types.types place type at) (ap bare_shape shape)

primitive_back : (shape : TypeShape) (host : List ℕ) → bare_shape shape ≡ primitive host → shape ≡ primitive host
primitive_back (primitive own) host is = is
primitive_back (enum variants) host is = absurd cc
primitive_back (struct members) host is = absurd cc

pub literal_back : (types : Environment) (ty : ℕ) (val : ℤ) (big : Bool) → IsLiteralOf (bare_types types) ty val big → IsLiteralOf types ty val big
literal_back types ty val big (of_integer int is has) = of_integer int is has
literal_back types ty val big (of_primitive place type host is at shape) =
    let (own, there, same) = mapped_at bare_type types.types place type at in
    of_primitive place own host is there
    (primitive_back own.shape host (ap (λ (t : NamedType). t.shape) same ∙ shape))

-- a converter of two types
pub converts_there : (declared : Declared) (inner outer : ℕ) (name : List ℕ) (term : Signature) → Converts declared inner outer name term
    → Converts (bare declared) inner outer name (bare_term term)
converts_there declared inner outer name term h = record {
  converter = h.converter;
  known = signature_bare declared name ∙ ap (option_map bare_term) h.known;
  takes = h.takes;
  gives = h.gives;
}

pub converts_back : (declared : Declared) (inner outer : ℕ) (name : List ℕ) (term : Signature) → Converts (bare declared) inner outer name term
    → (own : Signature) × Converts declared inner outer name own × (bare_term own ≡ term)
converts_back declared inner outer name term h =
    let (own, there, same) = unmapped bare_term _ term (sym (signature_bare declared name) ∙ h.known) in (
      own,
      record {
        converter = h.converter;
        known = there;
        takes = ap (λ (t : Signature). t.args) same ∙ h.takes;
        gives = ap (λ (t : Signature). t.ret) same ∙ h.gives;
      },
      same,
    )

-- one node, over what goes there
module _ (declared : Declared) (R S : PatternJudgement)
    (step : (t : PatternTree) (ty : ℕ) (s : State) (u : TypedPattern) (s' : State) → R t ty s u s' → S (pattern_tree_without_pos t) ty s u s')
  where
    patterns_there : (ts : PatternTrees) (tys : List ℕ) (s : State) (us : TypedPatterns) (s' : State) → EachPattern R ts tys s us s'
        → EachPattern S (pattern_trees_without_pos ts) tys s us s'
    patterns_there no_patterns [] s us s' h = h
    patterns_there no_patterns (ty ∷ tys) s us s' h = absurd h
    patterns_there (more_patterns t ts) [] s us s' h = absurd h
    patterns_there (more_patterns t ts) (ty ∷ tys) s us s' h =
        (h.0, h.1, h.2, step t ty s (h.0) (h.1) (h.3), patterns_there ts tys (h.1) (h.2) s' (h.4), h.5)

    taken_there : (term : Signature) (number : ℕ) (o : Option PatternTree) (args : PatternTrees) (ty : ℕ) (s : State) (u : TypedPattern)
        (s' : State) → TakesApart R term number o args ty s u s'
        → TakesApart S (bare_term term) number (option_map pattern_tree_without_pos o) (pattern_trees_without_pos args) ty s u s'
    taken_there term number None args ty s u s' h = (h.0, patterns_there args term.args s (h.0) s' (h.1), h.2)
    taken_there term number (Some template) args ty s u s' h = (
      pattern_tree_without_pos (h.0),
      body_bare args template ∙ ap (option_map pattern_tree_without_pos) (h.1),
      step (h.0) ty s u s' (h.2),
    )

    extracts_there : (term : Signature) (number : ℕ) (args : PatternTrees) (ty : ℕ) (s : State) (u : TypedPattern) (s' : State)
        → Extracts declared R term number args ty s u s'
        → Extracts (bare declared) S (bare_term term) number (pattern_trees_without_pos args) ty s u s'
    extracts_there term number args ty s u s' h = record {
      type = h.type;
      usable = has_extractor_bare term.form ∙ h.usable;
      arity = count_bare args ∙ h.arity;
      taken = subst (λ (o : Option PatternTree). TakesApart S (bare_term term) number o (pattern_trees_without_pos args) ty s u s')
          (sym (put_in_bare declared term)) (taken_there term number (put_in_for declared term) args ty s u s' h.taken);
    }

    node_there : (t : PatternTree) (ty : ℕ) (s : State) (u : TypedPattern) (s' : State) → PatternNode declared R t ty s u s'
        → PatternNode (bare declared) S (pattern_tree_without_pos t) ty s u s'
    node_there (pattern_var name _) ty s u s' h = h
    node_there (pattern_bind name below _) ty s u s' h = (h.0, h.1, step below ty s (h.0) (h.1) (h.2), h.3, h.4, h.5)
    node_there (pattern_bool val _) ty s u s' h = h
    node_there (pattern_int val big _) ty s u s' h = (literal_there declared.types ty val big (h.0), h.1, h.2)
    node_there (pattern_prim name _) ty s u s' h = h
    node_there (pattern_term sym args at) ty s u s' h = (
      h.0,
      bare_term (h.1),
      term_named_bare declared sym.0 ∙ h.2,
      there_bare bare_term declared.terms (h.0) (h.1) (h.3),
      elim (h.4) [
        | inl e ↦ inl (extracts_there (h.1) (h.0) args ty s u s' e)
        | inr c ↦ inr (record {
          name = c.name;
          converter = bare_term c.converter;
          other = c.other;
          fits = converts_there declared (h.1).ret ty c.name c.converter c.fits;
          usable = has_extractor_bare c.converter.form ∙ c.usable;
          repaired = step (pattern_term (c.name, at) (more_patterns (pattern_term sym args at) no_patterns) at) ty s u s' c.repaired;
        })
      ],
    )
    node_there (pattern_wildcard _) ty s u s' h = h
    node_there (pattern_and below _) ty s u s' h = (
      h.0,
      subst (λ (tys : List ℕ). EachPattern S (pattern_trees_without_pos below) tys s (h.0) s') (sym (each_bare ty below))
          (patterns_there below (each_at ty below) s (h.0) s' (h.1)),
      h.2,
    )
    node_there (pattern_macro_arg _ _) ty s u s' h = absurd h

-- and back
module _ (declared : Declared) (R S : PatternJudgement)
    (step : (t : PatternTree) (ty : ℕ) (s : State) (u : TypedPattern) (s' : State) → S (pattern_tree_without_pos t) ty s u s' → R t ty s u s')
  where
    patterns_back : (ts : PatternTrees) (tys : List ℕ) (s : State) (us : TypedPatterns) (s' : State)
        → EachPattern S (pattern_trees_without_pos ts) tys s us s' → EachPattern R ts tys s us s'
    patterns_back no_patterns [] s us s' h = h
    patterns_back no_patterns (ty ∷ tys) s us s' h = absurd h
    patterns_back (more_patterns t ts) [] s us s' h = absurd h
    patterns_back (more_patterns t ts) (ty ∷ tys) s us s' h =
        (h.0, h.1, h.2, step t ty s (h.0) (h.1) (h.3), patterns_back ts tys (h.1) (h.2) s' (h.4), h.5)

    taken_back : (term : Signature) (number : ℕ) (o : Option PatternTree) (args : PatternTrees) (ty : ℕ) (s : State) (u : TypedPattern)
        (s' : State) → TakesApart S (bare_term term) number (option_map pattern_tree_without_pos o) (pattern_trees_without_pos args) ty s u s'
        → TakesApart R term number o args ty s u s'
    taken_back term number None args ty s u s' h = (h.0, patterns_back args term.args s (h.0) s' (h.1), h.2)
    taken_back term number (Some template) args ty s u s' h =
        let (body, is, same) = unmapped pattern_tree_without_pos _ (h.0) (sym (body_bare args template) ∙ h.1) in
        (body, is, step body ty s u s' (subst (λ (t : PatternTree). S t ty s u s') (sym same) (h.2)))

    extracts_back : (term : Signature) (number : ℕ) (args : PatternTrees) (ty : ℕ) (s : State) (u : TypedPattern) (s' : State)
        → Extracts (bare declared) S (bare_term term) number (pattern_trees_without_pos args) ty s u s'
        → Extracts declared R term number args ty s u s'
    extracts_back term number args ty s u s' h = record {
      type = h.type;
      usable = sym (has_extractor_bare term.form) ∙ h.usable;
      arity = sym (count_bare args) ∙ h.arity;
      taken = taken_back term number (put_in_for declared term) args ty s u s'
          (subst (λ (o : Option PatternTree). TakesApart S (bare_term term) number o (pattern_trees_without_pos args) ty s u s')
          (put_in_bare declared term) h.taken);
    }

    -- of the term there
    either_back : (sym_at : _) (args : PatternTrees) (at : _) (number : ℕ) (term : Signature) (ty : ℕ) (s : State) (u : TypedPattern) (s' : State)
        → (Extracts (bare declared) S (bare_term term) number (pattern_trees_without_pos args) ty s u s'
        ⊎ ConvertsPattern (bare declared) S (bare_term term) (pattern_tree_without_pos (pattern_term sym_at args at)) ty s u s')
        → (Extracts declared R term number args ty s u s' ⊎ ConvertsPattern declared R term (pattern_term sym_at args at) ty s u s')
    either_back sym_at args at number term ty s u s' (inl e) = inl (extracts_back term number args ty s u s' e)
    either_back sym_at args at number term ty s u s' (inr c) =
        let (own, fits, same) = converts_back declared term.ret ty c.name c.converter c.fits in
        inr (record {
          name = c.name;
          converter = own;
          other = c.other;
          fits = fits;
          usable = sym (has_extractor_bare own.form) ∙ ap (λ (t : Signature). has_extractor_form t.form) same ∙ c.usable;
          repaired = step (pattern_term (c.name, at) (more_patterns (pattern_term sym_at args at) no_patterns) at) ty s u s' c.repaired;
        })

    node_back : (t : PatternTree) (ty : ℕ) (s : State) (u : TypedPattern) (s' : State)
        → PatternNode (bare declared) S (pattern_tree_without_pos t) ty s u s' → PatternNode declared R t ty s u s'
    node_back (pattern_var name _) ty s u s' h = h
    node_back (pattern_bind name below _) ty s u s' h = (h.0, h.1, step below ty s (h.0) (h.1) (h.2), h.3, h.4, h.5)
    node_back (pattern_bool val _) ty s u s' h = h
    node_back (pattern_int val big _) ty s u s' h = (literal_back declared.types ty val big (h.0), h.1, h.2)
    node_back (pattern_prim name _) ty s u s' h = h
    node_back (pattern_term name args at) ty s u s' h =
        let (term, there, same) = mapped_at bare_term declared.terms (h.0) (h.1) (h.3) in (
          h.0,
          term,
          sym (term_named_bare declared name.0) ∙ h.2,
          there,
          either_back name args at (h.0) term ty s u s'
              (subst (λ (t : Signature). Extracts (bare declared) S t (h.0) (pattern_trees_without_pos args) ty s u s'
              ⊎ ConvertsPattern (bare declared) S t (pattern_tree_without_pos (pattern_term name args at)) ty s u s') (sym same) (h.4)),
        )
    node_back (pattern_wildcard _) ty s u s' h = h
    node_back (pattern_and below _) ty s u s' h = (
      h.0,
      patterns_back below (each_at ty below) s (h.0) s'
          (subst (λ (tys : List ℕ). EachPattern S (pattern_trees_without_pos below) tys s (h.0) s') (each_bare ty below) (h.1)),
      h.2,
    )
    node_back (pattern_macro_arg _ _) ty s u s' h = absurd h

-- a pattern stands for the same
pub pattern_there : (declared : Declared) (levels : ℕ) (t : PatternTree) (ty : ℕ) (s : State) (u : TypedPattern) (s' : State)
    → Elaborates declared levels t ty s u s' → Elaborates (bare declared) levels (pattern_tree_without_pos t) ty s u s'
pattern_there declared zero t ty s u s' h = absurd h
pattern_there declared (suc levels) t ty s u s' h =
    node_there declared (Elaborates declared levels) (Elaborates (bare declared) levels) (pattern_there declared levels) t ty (counted s) u s' h

pub pattern_back : (declared : Declared) (levels : ℕ) (t : PatternTree) (ty : ℕ) (s : State) (u : TypedPattern) (s' : State)
    → Elaborates (bare declared) levels (pattern_tree_without_pos t) ty s u s' → Elaborates declared levels t ty s u s'
pattern_back declared zero t ty s u s' h = absurd h
pattern_back declared (suc levels) t ty s u s' h =
    node_back declared (Elaborates declared levels) (Elaborates (bare declared) levels) (pattern_back declared levels) t ty (counted s) u s' h

-- so do patterns from left to right
pub all_patterns_there : (declared : Declared) (levels : ℕ) (ts : PatternTrees) (tys : List ℕ) (s : State) (us : TypedPatterns) (s' : State)
    → EachPattern (Elaborates declared levels) ts tys s us s'
    → EachPattern (Elaborates (bare declared) levels) (pattern_trees_without_pos ts) tys s us s'
all_patterns_there declared levels =
    patterns_there declared (Elaborates declared levels) (Elaborates (bare declared) levels) (pattern_there declared levels)

pub all_patterns_back : (declared : Declared) (levels : ℕ) (ts : PatternTrees) (tys : List ℕ) (s : State) (us : TypedPatterns) (s' : State)
    → EachPattern (Elaborates (bare declared) levels) (pattern_trees_without_pos ts) tys s us s'
    → EachPattern (Elaborates declared levels) ts tys s us s'
all_patterns_back declared levels =
    patterns_back declared (Elaborates declared levels) (Elaborates (bare declared) levels) (pattern_back declared levels)
