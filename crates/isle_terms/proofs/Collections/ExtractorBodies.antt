-- The terms that bodies of extractors name.
use Rattle.std.proofs.Common.{◌≡◌, ◌⊎◌, inl, inr, ℕ, zero, suc, List, [], ◌∷◌, ◌++◌, true, map, refl, sym, ◌∙◌, ap, subst, Bor}
use Rattle.std.specs.Prelude.{All}
use Rattle.std.specs.Option.{option_map}
use Rattle.std.proofs.lemmas.List.{map-append}
use Rattle.std.proofs.lemmas.List.Elements.{All-map, All-same}
use Rattle.std.proofs.lemmas.Option.{slice_get-map, same_Some}
use Rattle.isle_ast.specs.declared.ast.Ident.{Ident}
use Rattle.isle_ast.specs.declared.ast.Extractor.{Extractor as ExtractorTree}
use Rattle.isle_ast.specs.declared.error.Error.{Error}
use Rattle.isle_ast.specs.declared.pos.Pos.{Pos}
use Rattle.isle_ast.specs.Trees.PatternTree.{PatternTree, PatternTrees, pattern_var, pattern_bind, pattern_bool, pattern_int, pattern_prim}
use Rattle.isle_ast.specs.Trees.PatternTree.{pattern_term, pattern_wildcard, pattern_and, pattern_macro_arg, no_patterns, more_patterns}
use Rattle.isle_ast.specs.Trees.PatternShape.{pattern_of}
use Rattle.isle_ast.specs.Trees.Terms.{pattern_terms, patterns_terms}
use Rattle.isle_rules.specs.Definitions.{IsAmong, is_among, term_names, all_term_names}
use Rattle.isle_terms.specs.TermFaults.{NamesTerm, SomeNamesTerm}
use Rattle.isle_terms.specs.Inside.Collecting.Checks.{Checks}
use Rattle.isle_terms.specs.Inside.Collecting.ExtractorChecks.{name_at, named_in, Adds, IsUnknownAt, BodyNamesUnknown, BodyNamesKnown, NamesUnknown}
use Rattle.isle_terms.specs.Inside.Collecting.ExtractorChecks.{NamesKnown}
use Rattle.isle_terms.proofs.Collections.AddedErrors.{SomeBreaks, adds_by, adds_checks}

mutual
  -- the names in a pattern are those of its terms
  pub term_names_named : (tree : PatternTree) → term_names tree ≡ map (λ (term : Ident). term.0) (map name_at (pattern_terms tree))
  term_names_named (pattern_var _ _) = refl
  term_names_named (pattern_bind _ below _) = term_names_named below
  term_names_named (pattern_bool _ _) = refl
  term_names_named (pattern_int _ _ _) = refl
  term_names_named (pattern_prim _ _) = refl
  term_names_named (pattern_term name args _) = ap (λ others. name.0 ∷ others) (all_names_named args)
  term_names_named (pattern_wildcard _) = refl
  term_names_named (pattern_and below _) = all_names_named below
  term_names_named (pattern_macro_arg _ _) = refl

  all_names_named : (trees : PatternTrees) → all_term_names trees ≡ map (λ (term : Ident). term.0) (map name_at (patterns_terms trees))
  all_names_named no_patterns = refl
  all_names_named (more_patterns first others) =
      ap (λ front. front ++ all_term_names others) (term_names_named first)
      ∙ ap (λ back. map (λ (term : Ident). term.0) (map name_at (pattern_terms first)) ++ back) (all_names_named others)
      ∙ sym (map-append (λ (term : Ident). term.0) (map name_at (pattern_terms first)) (map name_at (patterns_terms others)))
      ∙ ap (map (λ (term : Ident). term.0)) (sym (map-append name_at (pattern_terms first) (patterns_terms others)))

-- an item is in a list, by recursion on the list
abbrev IsIn : {X : Type 0} → List X → X → Type 0
IsIn [] x = ⊥
IsIn (first ∷ others) x = (first ≡ x) ⊎ IsIn others x

in_of_among : {X : Type 0} (xs : List X) (x : X) → IsAmong xs x → IsIn xs x
in_of_among [] x among = absurd (cc among.1)
in_of_among (first ∷ others) x (zero, is) = inl (same_Some first x is)
in_of_among (first ∷ others) x (suc place, is) = inr (in_of_among others x (place, is))

in_part : {X : Type 0} (xs ys : List X) (x : X) → IsIn (xs ++ ys) x → IsIn xs x ⊎ IsIn ys x
in_part [] ys x inside = inr inside
in_part (first ∷ others) ys x (inl is) = inl (inl is)
in_part (first ∷ others) ys x (inr inside) = elim (in_part others ys x inside) [ inl h ↦ inl (inr h) | inr h ↦ inr h ]

mutual
  -- each term of a pattern is named at its position
  named_of_in : (tree : PatternTree) (term : Pos × Ident) → IsIn (pattern_terms tree) term → NamesTerm term.1.0 term.0 tree
  named_of_in (pattern_var _ _) term inside = absurd inside
  named_of_in (pattern_bind _ below _) term inside = named_of_in below term inside
  named_of_in (pattern_bool _ _) term inside = absurd inside
  named_of_in (pattern_int _ _ _) term inside = absurd inside
  named_of_in (pattern_prim _ _) term inside = absurd inside
  named_of_in (pattern_term name args pos) term (inl is) = inl (sym (ap (λ (t : Pos × Ident). t.1.0) is), sym (ap (λ (t : Pos × Ident). t.0) is))
  named_of_in (pattern_term name args pos) term (inr inside) = inr (some_named_of_in args term inside)
  named_of_in (pattern_wildcard _) term inside = absurd inside
  named_of_in (pattern_and below _) term inside = some_named_of_in below term inside
  named_of_in (pattern_macro_arg _ _) term inside = absurd inside

  some_named_of_in : (trees : PatternTrees) (term : Pos × Ident) → IsIn (patterns_terms trees) term → SomeNamesTerm term.1.0 term.0 trees
  some_named_of_in no_patterns term inside = absurd inside
  some_named_of_in (more_patterns first others) term inside =
      elim (in_part (pattern_terms first) (patterns_terms others) term inside) [
        | inl here ↦ inl (named_of_in first term here)
        | inr there ↦ inr (some_named_of_in others term there)
      ]

-- what is at a place of a list of values comes from what is there in the list that they are of
pub among_map : {X Y : Type 0} (f : X → Y) (xs : List X) (y : Y) → IsAmong (map f xs) y → (x : X) × IsAmong xs x × (f x ≡ y)
among_map f [] y among = absurd (cc among.1)
among_map f (first ∷ others) y (zero, is) = (first, (zero, refl), same_Some (f first) y is)
among_map f (first ∷ others) y (suc place, is) = let below = among_map f others y (place, is) in (below.0, (suc below.1.0, below.1.1), below.2)

-- and the other way round
pub among_of_map : {X Y : Type 0} (f : X → Y) (xs : List X) (x : X) → IsAmong xs x → IsAmong (map f xs) (f x)
among_of_map f xs x among = (among.0, slice_get-map f xs among.0 ∙ ap (option_map f) among.1)

-- an unknown term of a body is named by it
body_unknown : (tree : PatternTree) (names : List (List ℕ)) (at : Pos) → SomeBreaks (IsUnknownAt names) (named_in tree) at
    → BodyNamesUnknown tree names at
body_unknown tree names at broken =
    let term = among_map name_at (pattern_terms tree) broken.0 broken.1 in
    let named = named_of_in tree term.0 (in_of_among (pattern_terms tree) term.0 term.1) in
    record {
      name = broken.0.0;
      named = subst (λ (pair : Ident). NamesTerm pair.0 pair.1 tree) (term.2 ∙ ap (λ (other : Pos). (broken.0.0, other)) (sym broken.2.1)) named;
      unknown = broken.2.0;
    }

-- the check of all terms of a body
pub body_checked : (tree : PatternTree) (names : List (List ℕ)) (terms : List Ident) (old new : List Error) → terms ≡ named_in tree
    → Adds (SomeBreaks (IsUnknownAt names) terms) (All (λ (term : Ident). is_among term.0 names ≡ true) terms) old new
    → Adds (BodyNamesUnknown tree names) (BodyNamesKnown tree names) old new
body_checked tree names terms old new is adds =
    adds_by (SomeBreaks (IsUnknownAt names) terms) (BodyNamesUnknown tree names) (All (λ (term : Ident). is_among term.0 names ≡ true) terms)
    (BodyNamesKnown tree names) old new
    (λ at broken. body_unknown tree names at (subst (λ (ts : List Ident). SomeBreaks (IsUnknownAt names) ts at) is broken))
    (λ kept. All-same (λ (name : List ℕ). is_among name names ≡ true) (term_names tree) (map (λ (term : Ident). term.0) terms)
    (term_names_named tree ∙ ap (map (λ (term : Ident). term.0)) (sym is))
    (All-map (λ (name : List ℕ). is_among name names ≡ true) (λ (term : Ident). term.0) terms kept)) adds

-- a body breaks its rule
abbrev pub BreaksIn : List (List ℕ) → Bor ExtractorTree → Pos → Type 0
BreaksIn names extractor at = BodyNamesUnknown (pattern_of extractor.now.template) names at

-- a body keeps its rule
abbrev pub KeepsIn : List (List ℕ) → Bor ExtractorTree → Type 0
KeepsIn names extractor = BodyNamesKnown (pattern_of extractor.now.template) names

-- the check of all bodies
pub bodies_checked : (extractors : List (Bor ExtractorTree)) (names : List (List ℕ)) (old new : List Error)
    → Adds (SomeBreaks (BreaksIn names) extractors) (All (KeepsIn names) extractors) old new
    → Checks (NamesUnknown (map (λ (extractor : Bor ExtractorTree). extractor.now) extractors) names)
    (NamesKnown (map (λ (extractor : Bor ExtractorTree). extractor.now) extractors) names) old new
bodies_checked extractors names old new adds =
    let trees = map (λ (extractor : Bor ExtractorTree). extractor.now) extractors in
    adds_checks (NamesUnknown trees names) (NamesKnown trees names) old new
    (adds_by (SomeBreaks (BreaksIn names) extractors) (NamesUnknown trees names) (All (KeepsIn names) extractors) (NamesKnown trees names) old new
    (λ at broken. record {
      extractor = broken.0.now;
      among = among_of_map (λ (extractor : Bor ExtractorTree). extractor.now) extractors broken.0 broken.1;
      name = broken.2.name;
      named = broken.2.named;
      unknown = broken.2.unknown;
    })
    (λ kept. All-map (λ (extractor : ExtractorTree). BodyNamesKnown (pattern_of extractor.template) names)
    (λ (extractor : Bor ExtractorTree). extractor.now) extractors kept) adds)
