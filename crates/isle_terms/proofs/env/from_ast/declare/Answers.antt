use Rattle.std.proofs.Common.{map, ap, sym, subst, ◌∙◌}
use Rattle.std.specs.List.{AllZip}
use Rattle.isle_types.specs.Names.{AreDistinct}
use Rattle.isle_types.specs.TypeEnvs.{CountUp}
use Rattle.isle_rules.specs.declared.terms.Term.{Term}
use Rattle.isle_rules.specs.Definitions.{extractor_names}
use Rattle.isle_terms.specs.TermFaults.{IsTaken, named_extractors}
use Rattle.isle_terms.specs.TypingFaults.{BreaksTyping}
use Rattle.isle_terms.specs.Inside.Collecting.Checks.{Checks}
use Rattle.isle_terms.specs.Inside.Collecting.Parts.{AreNamedOnce}
use Rattle.isle_terms.specs.Inside.Collecting.DeclaredTerms.{IsShownTerm}
use Rattle.isle_terms.specs.Inside.Collecting.TermSymbols.{HasSymbolsOf}
use Rattle.isle_terms.proofs.Collections.ShownDeclared.{declared_shown, known_symbols}
use Rattle.isle_terms.proofs.Collections.RootedRules.{all_rooted}
use Rattle.isle_terms.proofs.Collections.RefusedChecks.{kept_without_errors, refused_faults, later_checked}
use Rattle.isle_terms.proofs.env.from_ast.declare.Goals as goal

pub returns-in-Err-clause-faults : goal.returns-in-Err-clause-faults
returns-in-Err-clause-faults c = λ types levels max defs shows parts named.
    let once = subst (λ old. Checks (BreaksTyping types c.args.expand levels defs) (AreNamedOnce defs) old c.name_parts.new.errors.items)
    c.new-errors.ensures.items (c.in_ok-names.ensures.checked types c.args.expand levels defs parts) in
    c.in-Err.ensures.faults types c.args.expand levels max defs shows parts (c.in_ok-names.ensures.tables defs parts) once

pub returns-in-Err-refuse-clause-faults : goal.returns-in-Err-refuse-clause-faults
returns-in-Err-refuse-clause-faults c = λ types levels max defs shows parts named.
    let expands = c.args.expand in
    let once = subst (λ old. Checks (BreaksTyping types expands levels defs) (AreNamedOnce defs) old c.name_parts.new.errors.items)
    c.new-errors.ensures.items (c.in_ok-names.ensures.checked types expands levels defs parts) in
    let apart = subst (λ old. Checks (IsTaken (named_extractors defs)) (AreDistinct (extractor_names defs)) old c.name_parts.new.later.items)
    c.new-later.ensures.items (c.in_ok-names.ensures.extractors defs parts) in
    let tables = c.in_ok-names.ensures.tables defs parts in
    let made = c.in-Ok.ensures.made types expands levels defs shows parts tables once in
    let first = c.in_ok-converters.ensures types expands levels defs made.signatures (c.in-Ok.ensures.shown types shows) parts tables made.meant
    made.table apart in
    let second = c.in_ok-check_rule_names.ensures defs (ap (map (λ rule. rule.now)) c.as_slice.ensures.value ∙ parts.rules) named in
    refused_faults types expands levels defs max c.check_rule_names.new.errors.items c.in-Err-refuse.refusal
    (later_checked types expands levels defs made.signatures c.in_ok-converters.converters c.check_terms.new.errors.items
    c.check_rule_names.new.errors.items first second)
    c.in-Err-refuse.ensures.err

pub returns-clause-made : goal.returns-clause-made
returns-clause-made c = λ types defs shows parts named.
    let expands = c.args.expand in
    let names = c.make_terms.new.tyenv.names in
    let env = c.in_ok-of_terms.field-0 in
    let terms = c.in-Ok.made.terms.items in
    let once = subst (λ old. Checks (BreaksTyping types expands 0 defs) (AreNamedOnce defs) old c.name_parts.new.errors.items)
    c.new-errors.ensures.items (c.in_ok-names.ensures.checked types expands 0 defs parts) in
    let apart = subst (λ old. Checks (IsTaken (named_extractors defs)) (AreDistinct (extractor_names defs)) old c.name_parts.new.later.items)
    c.new-later.ensures.items (c.in_ok-names.ensures.extractors defs parts) in
    let tables = c.in_ok-names.ensures.tables defs parts in
    let made = c.in-Ok.ensures.made types expands 0 defs shows parts tables once in
    let kept = c.in-Ok.ensures.kept types expands 0 defs shows parts tables once in
    let still = c.in-Ok.ensures.shown types shows in
    let first = c.in_ok-converters.ensures types expands 0 defs made.signatures still parts tables made.meant made.table apart in
    let second = c.in_ok-check_rule_names.ensures defs (ap (map (λ rule. rule.now)) c.as_slice.ensures.value ∙ parts.rules) named in
    let later = kept_without_errors (later_checked types expands 0 defs made.signatures c.in_ok-converters.converters
    c.check_terms.new.errors.items c.check_rule_names.new.errors.items first second) c.in-Ok-refuse.ensures.ok in
    let numbered = c.in_ok-numbers.ensures.numbered names made.signatures
    (subst (AllZip (IsShownTerm names) made.signatures) (sym c.as_slice-2.ensures.value) made.shown) c.syms-names.ensures.once made.meant.distinct
    (subst (CountUp (λ (term : Term). term.id.0) 0) (sym c.as_slice-2.ensures.value) made.counted) in
    let known = subst (λ ts. HasSymbolsOf ts c.in_ok-numbers.numbers) c.as_slice-2.ensures.value c.in_ok-numbers.ensures.known in
    record {
      terms = made.signatures;
      conversions = later.0.conversions.conversions;
      made = made.meant;
      within = made.within;
      constructors = kept.constructors;
      extractors = later.0.extractors;
      converted = later.0.conversions.made;
      defined = later.0.defined;
      names = later.1;
      shown = declared_shown c.make_terms.new.tyenv env made.signatures terms c.in_ok-numbers.numbers c.in_ok-of_terms.ensures.terms
          c.in_ok-of_terms.ensures.numbers made.shown types later.0.conversions.conversions c.in_ok-converters.converters
          c.in_ok-of_terms.ensures.converters still made.counted numbered later.0.conversions.shown;
      rooted = all_rooted types defs made.signatures later.0.conversions.conversions env.expands made.meant kept.roots;
      symbols = known_symbols c.make_terms.new.tyenv env made.signatures terms c.in_ok-numbers.numbers c.in_ok-of_terms.ensures.terms
          c.in_ok-of_terms.ensures.numbers made.shown known;
    }

pub of_terms-requires : goal.of_terms-requires
of_terms-requires c = c.in-Ok.ensures.needs c.requires.types.0 c.requires.types.1
