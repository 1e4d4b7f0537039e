-- The names of terms, each with the position of what makes the term.
use Rattle.std.proofs.Common.{◌≡◌, ℕ, ◌+◌, ◌≤◌, List, [], ◌∷◌, ◌++◌, length, map, take, Some, refl, ap, sym, subst, ◌∙◌, slice_get}
use Rattle.std.specs.Prelude.{unwrap_or}
use Rattle.std.specs.List.{AllZip}
use Rattle.std.proofs.lemmas.List.{map-append, take_all}
use Rattle.isle_ast.specs.declared.ast.Decl.{Decl as DeclTree}
use Rattle.isle_ast.specs.declared.ast.Def.{Def}
use Rattle.isle_ast.specs.declared.pos.Pos.{Pos}
use Rattle.isle_types.specs.IntTypes.{builtin_names}
use Rattle.isle_types.specs.Environment.{Environment}
use Rattle.isle_containers.proofs.Lists.{taken_more}
use Rattle.isle_rules.specs.declared.terms.Term.{Term}
use Rattle.isle_terms.specs.declared.env.naming.Named.{Named}
use Rattle.isle_rules.specs.Signatures.{Signature}
use Rattle.isle_rules.specs.Definitions.{declarations, IsDeclaration, terms_of_types, names_of_terms}
use Rattle.isle_terms.specs.TermFaults.{named_terms, names_of}
use Rattle.isle_terms.specs.Inside.Collecting.DeclaredTerms.{IsShownTerm}
use Rattle.isle_terms.specs.Inside.Collecting.NamedItems.{named_shown, named_term}
use Rattle.isle_rules.proofs.Zipped.{zipped_back, zipped_length}

-- a name and a position make a pair
pair_is : (a b : List ℕ) (p q : Pos) → a ≡ b → p ≡ q → ◌≡◌ {A = List ℕ × Pos} (a, p) (b, q)
pair_is a b p q names places = cc

-- one name more
pub names_turn : (names : List (List ℕ)) (signatures : List Signature) (terms : List Term) (i : ℕ) (term : Term) (old new : List Named)
    (named : Named) → AllZip (IsShownTerm names) signatures terms → slice_get terms i ≡ Some term
    → named.name.now ≡ unwrap_or (slice_get names term.name.0) [] → named.pos ≡ term.decl_pos → new ≡ old ++ named ∷ []
    → map named_shown old ≡ map named_term (take i signatures) → map named_shown new ≡ map named_term (take (i + 1) signatures)
names_turn names signatures terms i term old new named zipped at name pos is before =
    let there = zipped_back (IsShownTerm names) signatures terms zipped i term at in
    let own : named_shown named ≡ named_term there.0 = pair_is named.name.now there.0.name named.pos there.0.pos
    (name ∙ ap (λ o. unwrap_or o []) there.2.name) (pos ∙ there.2.pos) in
    ap (map named_shown) is ∙ map-append named_shown old (named ∷ [])
    ∙ ap (λ front. front ++ named_shown named ∷ []) before ∙ ap (λ pair. map named_term (take i signatures) ++ pair ∷ []) own
    ∙ sym (map-append named_term (take i signatures) (there.0 ∷ []))
    ∙ ap (map named_term) (sym (taken_more signatures i there.0 there.1))

-- all names
pub names_done : (names : List (List ℕ)) (signatures : List Signature) (terms : List Term) (i : ℕ) (all : List Named)
    → AllZip (IsShownTerm names) signatures terms → length terms ≤ i → map named_shown all ≡ map named_term (take i signatures)
    → map named_shown all ≡ map named_term signatures
names_done names signatures terms i all zipped past before =
    before ∙ ap (map named_term) (take_all i signatures (subst (λ n. n ≤ i) (sym (zipped_length (IsShownTerm names) signatures terms zipped)) past))

-- the names of the terms of declarations are those of the declarations
pub declarations_are_named : (types : Environment) (defs : List Def) (decls : List DeclTree) (declared : List Signature)
    → AllZip (IsDeclaration types defs) decls declared → map (λ (decl : DeclTree). (decl.term.0, decl.pos)) decls ≡ map named_term declared
declarations_are_named types defs [] [] each = refl
declarations_are_named types defs [] (term ∷ terms) each = absurd each
declarations_are_named types defs (decl ∷ decls) [] each = absurd each
declarations_are_named types defs (decl ∷ decls) (term ∷ terms) each =
    ap (λ first. first ∷ map (λ (other : DeclTree). (other.term.0, other.pos)) decls)
    (pair_is decl.term.0 term.name decl.pos term.pos (sym each.0.name) (sym each.0.pos))
    ∙ ap (λ others. named_term term ∷ others) (declarations_are_named types defs decls terms each.1)

-- the names of all terms are those of the terms that are made
pub terms_are_named : (types : Environment) (defs : List Def) (declared all : List Signature)
    → AllZip (IsDeclaration types defs) (declarations defs) declared → all ≡ declared ++ terms_of_types (length builtin_names) types.types
    → map named_term all ≡ named_terms types defs
terms_are_named types defs declared all each is =
    ap (map named_term) is ∙ map-append named_term declared (terms_of_types (length builtin_names) types.types)
    ∙ ap (λ front. front ++ map named_term (terms_of_types (length builtin_names) types.types))
    (sym (declarations_are_named types defs (declarations defs) declared each))

-- the names of terms are those of their pairs
pub names_of_named : (terms : List Signature) → names_of (map named_term terms) ≡ names_of_terms terms
names_of_named [] = refl
names_of_named (term ∷ terms) = ap (λ others. term.name ∷ others) (names_of_named terms)
