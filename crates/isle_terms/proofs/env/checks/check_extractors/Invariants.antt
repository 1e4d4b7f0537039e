use Rattle.std.proofs.Common.{◌≡◌, ℕ, List, map, take, false}
use Rattle.std.specs.List.{All}
use Rattle.isle_ast.specs.declared.ast.Extractor.{Extractor as ExtractorTree}
use Rattle.isle_terms.specs.Inside.Collecting.Checks.{Checks, IsIllAt}
use Rattle.isle_terms.specs.Inside.Collecting.NameTables.{IsTableOf}
use Rattle.isle_terms.specs.Inside.Collecting.DefinitionChecks.{is_ill_extractor}
use Rattle.isle_terms.proofs.env.checks.check_extractors.Given as goal

abbrev pub invariant-loop-extractor : goal.invariant-loop-extractor
invariant-loop-extractor l = (names : List (List ℕ)) → IsTableOf names l.declared
    → Checks (IsIllAt (map (λ extractor. extractor.now) l.extractors) (is_ill_extractor names (map (λ decl. decl.now) l.decls)) (λ (extractor :
    ExtractorTree). extractor.pos))
    (All (λ x. is_ill_extractor names (map (λ decl. decl.now) l.decls) x
    ≡ false) (take l.extractor-index (map (λ extractor. extractor.now) l.extractors))) l.initial.errors.items l.errors.items
