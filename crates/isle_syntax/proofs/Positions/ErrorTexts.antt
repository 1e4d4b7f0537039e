-- What an overlap prints, and which errors can be printed.
use Rattle.std.proofs.Common.{◌≡◌, ℕ, zero, suc, ◌-◌, ◌<◌, List, [], ◌∷◌, length, get_or, take, drop, ap, sym, subst, codes, arith}
use Rattle.std.specs.List.{All}
use Rattle.std.proofs.lemmas.List.{take_all}
use Rattle.isle_ast.specs.Positions.Files.{SourceFile}
use Rattle.isle_ast.specs.Errors.{IsPrintableSpan, IsPrintable, spans_of}
use Rattle.isle_syntax.specs.Errors.{rules_text, error_text}
use Rattle.isle_ast.specs.declared.error.Span.{Span}
use Rattle.isle_ast.specs.declared.error.Error.{Error}
use Rattle.isle_ast.specs.declared.error.Error.TheVariants.{TypeError, OverlapError, ShadowedError}

pub overlap_text : (files : List SourceFile) (message : List ℕ) (rules : List Span) (d : Span) → 0 < length rules
    → rules_text files (get_or rules 0 d) (codes "overlapping rules") (take (length rules - 1) (drop 1 rules))
    ≡ error_text files (OverlapError message rules)
overlap_text files message [] d h = absurd (omega arith)
overlap_text files message (first ∷ others) d h =
    ap (rules_text files first (codes "overlapping rules")) (take_all (suc (length others) - 1) others (omega arith))

pub masked_have_places : (files : List SourceFile) (error : Error) (shadowed : List Span) (mask : Span) (rules : List Span)
    → All (IsPrintableSpan files) (spans_of error) → error ≡ ShadowedError shadowed mask → rules ≡ shadowed → All (IsPrintableSpan files) rules
masked_have_places files error shadowed mask rules placed is same =
    let each : All (IsPrintableSpan files) (mask ∷ shadowed) = subst (λ (e : Error). All (IsPrintableSpan files) (spans_of e)) is placed in
    subst (All (IsPrintableSpan files)) (sym same) (λ k d h. each (suc k) d (omega arith))

one_place : (files : List SourceFile) (span : Span) → IsPrintableSpan files span → All (IsPrintableSpan files) (span ∷ [])
one_place files span p zero d h = p
one_place files span p (suc k) d h = absurd (omega arith)
