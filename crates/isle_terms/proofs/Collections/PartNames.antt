-- The names that the definitions of each kind give.
use Rattle.std.proofs.Common.{◌≡◌, ℕ, List, ◌++◌, map, length, slice_get, ap, sym, ◌∙◌, Bor}
use Rattle.std.proofs.lemmas.Simd.{map-map}
use Rattle.std.proofs.lemmas.List.{map-append}
use Rattle.isle_ast.specs.declared.ast.Ident.{Ident}
use Rattle.isle_ast.specs.declared.ast.Decl.{Decl as DeclTree}
use Rattle.isle_ast.specs.declared.ast.Extractor.{Extractor as ExtractorTree}
use Rattle.isle_ast.specs.declared.ast.Def.{Def}
use Rattle.isle_ast.specs.declared.pos.Pos.{Pos}
use Rattle.isle_types.specs.IntTypes.{builtin_names}
use Rattle.isle_types.specs.Environment.{Environment}
use Rattle.isle_containers.proofs.Lists.{slice_get-kept}
use Rattle.isle_terms.specs.declared.env.definitions.HostConstructor.{HostConstructor}
use Rattle.isle_terms.specs.declared.env.definitions.HostExtractor.{HostExtractor}
use Rattle.isle_rules.specs.Signatures.{Signature}
use Rattle.isle_rules.specs.Definitions.{ExternalExtractor, declarations, extractors_in, external_constructors, external_extractors, terms_of_types}
use Rattle.isle_terms.specs.TermFaults.{names_of, IsTaken, named_terms, named_extractors}
use Rattle.isle_terms.specs.Inside.Collecting.DefinitionLists.{host_constructor_shown, host_extractor_shown}
use Rattle.isle_terms.specs.Inside.Collecting.NamedItems.{named_declaration, named_extractor, named_host_constructor, named_host_extractor}

-- the names of declarations with their positions
abbrev pub declaration_pairs : List Def → List (List ℕ × Pos)
declaration_pairs defs = map (λ (decl : DeclTree). (decl.term.0, decl.pos)) (declarations defs)

-- the names of external constructors with their positions
abbrev pub host_pairs : List Def → List (List ℕ × Pos)
host_pairs defs = map (λ (external : Ident × Ident). (external.0.0, external.0.1)) (external_constructors defs)

-- the names of the parts that are declarations
pub declarations_pair : (defs : List Def) (decls : List (Bor DeclTree)) → map (λ decl. decl.now) decls ≡ declarations defs
    → map (λ (decl : Bor DeclTree). named_declaration decl.now) decls ≡ declaration_pairs defs
declarations_pair defs decls are = sym (map-map named_declaration (λ (decl : Bor DeclTree). decl.now) decls) ∙ ap (map named_declaration) are

-- the names of the parts that are external constructors
pub hosts_pair : (defs : List Def) (hosts : List HostConstructor) → map host_constructor_shown hosts ≡ external_constructors defs
    → map named_host_constructor hosts ≡ host_pairs defs
hosts_pair defs hosts are =
    sym (map-map (λ (external : Ident × Ident). (external.0.0, external.0.1)) host_constructor_shown hosts)
    ∙ ap (map (λ (external : Ident × Ident). (external.0.0, external.0.1))) are

-- the names of the parts that are extractors, the internal ones first
pub extractors_pair : (defs : List Def) (extractors : List (Bor ExtractorTree)) (hosts : List HostExtractor)
    → map (λ extractor. extractor.now) extractors ≡ extractors_in defs → map host_extractor_shown hosts ≡ external_extractors defs
    → map (λ (extractor : Bor ExtractorTree). named_extractor extractor.now) extractors ++ map named_host_extractor hosts ≡ named_extractors defs
extractors_pair defs extractors hosts internal external =
    ap (λ front. front ++ map named_host_extractor hosts)
    (sym (map-map named_extractor (λ (extractor : Bor ExtractorTree). extractor.now) extractors) ∙ ap (map named_extractor) internal)
    ∙ ap (λ back. map named_extractor (extractors_in defs) ++ back)
    (sym (map-map (λ (other : ExternalExtractor). (other.term.0, other.pos)) host_extractor_shown hosts)
    ∙ ap (map (λ (other : ExternalExtractor). (other.term.0, other.pos))) external)

-- a name that is taken among the first of more names is taken
taken_before : (pairs more : List (List ℕ × Pos)) (at : Pos) → IsTaken pairs at → IsTaken (pairs ++ more) at
taken_before pairs more at taken =
    let names : names_of (pairs ++ more) ≡ names_of pairs ++ names_of more = map-append (λ (pair : List ℕ × Pos). pair.0) pairs more in
    record {
      place = taken.place;
      name = taken.name;
      here = slice_get-kept pairs more taken.place (taken.name, at) taken.here;
      taken = record {
        item = taken.taken.item;
        earlier = taken.taken.earlier;
        before = taken.taken.before;
        first = ap (λ all. slice_get all taken.taken.earlier) names
            ∙ slice_get-kept (names_of pairs) (names_of more) taken.taken.earlier taken.taken.item taken.taken.first;
        second = ap (λ all. slice_get all taken.place) names
            ∙ slice_get-kept (names_of pairs) (names_of more) taken.place taken.taken.item taken.taken.second;
      };
    }

-- a declared name that is taken is that of a term
pub declared_twice : (types : Environment) (defs : List Def) (at : Pos) → IsTaken (declaration_pairs defs) at → IsTaken (named_terms types defs) at
declared_twice types defs at taken =
    taken_before (declaration_pairs defs)
    (map (λ (term : Signature). (term.name, term.pos)) (terms_of_types (length builtin_names) types.types)) at taken
