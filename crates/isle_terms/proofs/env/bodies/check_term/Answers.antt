use Rattle.std.proofs.Common.{◌≡◌, ◌∙◌, ap, sym, refl, ℕ, List, true, is_some}
use Rattle.isle_ast.specs.declared.error.Error.TheVariants.{TypeError}
use Rattle.isle_ast.specs.Errors.{span_at}
use Rattle.isle_types.specs.Names.{position_of}
use Rattle.isle_rules.specs.Definitions.{is_among}
use Rattle.isle_terms.specs.Inside.Collecting.ExtractorChecks.{IsUnknownAt}
use Rattle.isle_terms.proofs.Collections.AddedErrors.{adds_none, adds_one}
use Rattle.isle_rules.proofs.AmongNames.{found_among}
use Rattle.isle_terms.proofs.env.bodies.check_term.Goals as goal

pub returns-then-has : goal.returns-then-has
returns-then-has c = λ names known.
    adds_none (IsUnknownAt names c.args.term.now) (is_among c.args.term.now.0 names ≡ true) c.args.errors.now.items c.args.errors.now.items refl
    (sym (found_among names c.args.term.now.0) ∙ ap (λ (name : List ℕ). is_some (position_of names name)) (sym c.as_str.ensures)
    ∙ sym (c.has.ensures names known) ∙ c.if-has.true)

pub returns : goal.returns
returns c = λ names known.
    adds_one (IsUnknownAt names c.args.term.now) (is_among c.args.term.now.0 names ≡ true) c.args.errors.now.items c.report.new.errors.items
    (TypeError c.in_ok-report.ensures.0 (span_at c.args.term.now.1)) c.in_ok-report.ensures.1 (
      sym (found_among names c.args.term.now.0) ∙ ap (λ (name : List ℕ). is_some (position_of names name)) (sym c.as_str.ensures)
          ∙ sym (c.has.ensures names known) ∙ c.if-has.false,
      refl,
    )
