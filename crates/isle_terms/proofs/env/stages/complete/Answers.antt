use Rattle.std.proofs.Common.{◌≡◌, ◌∙◌, ap, sym, subst, map}
use Rattle.std.specs.List.{AllZip}
use Rattle.isle_types.specs.Names.{AreDistinct}
use Rattle.isle_terms.specs.TermFaults.{names_of, IsTaken, named_terms, term_twice}
use Rattle.isle_terms.specs.TypingFaults.{of_declarations}
use Rattle.isle_terms.specs.Inside.Collecting.Checks.{Checks}
use Rattle.isle_terms.specs.Inside.Collecting.NameTables.{IsTableOf}
use Rattle.isle_terms.specs.Inside.Collecting.DeclaredTerms.{IsShownTerm}
use Rattle.isle_terms.specs.Inside.Collecting.NamedItems.{named_shown}
use Rattle.isle_terms.proofs.Collections.Answered.{fault_then}
use Rattle.isle_terms.proofs.Collections.CheckedTyping.{checks_wider}
use Rattle.isle_terms.proofs.Collections.CompletedTerms.{completed, terms_made, completed_names, needs_kept}
use Rattle.isle_terms.proofs.Collections.DeclaredFaults.{broken_is_listed, kept_by_none}
use Rattle.isle_terms.proofs.env.stages.complete.Goals as goal

pub returns-in-Ok-clause-made : goal.returns-in-Ok-clause-made
returns-in-Ok-clause-made c = λ types defs shows declared marks.
    let whole = completed types defs c.args.tyenv.now.names c.args.declared.items c.add_type_terms.new.terms.items declared
    (c.in_ok-add_type_terms.ensures types shows) in
    let pairs : map named_shown c.as_slice-2.result.now ≡ named_terms types defs =
    ap (map named_shown) c.as_slice-2.ensures.value
    ∙ c.in_ok-named.ensures whole.signatures (subst (λ terms. AllZip (IsShownTerm c.args.tyenv.now.names) whole.signatures terms)
    (sym c.as_slice.ensures.value) whole.shown) ∙ whole.named in
    let checks = subst (λ all. Checks (IsTaken all) (AreDistinct (names_of all)) c.new-errors.result.items c.name_all.new.errors.items) pairs
    c.in_ok-table.ensures.checked in
    let none = subst (λ first. Checks (IsTaken (named_terms types defs)) (AreDistinct (names_of (named_terms types defs))) first
    c.name_all.new.errors.items) c.new-errors.ensures.items checks in
    record {
      signatures = whole.signatures;
      meant = terms_made types defs c.args.tyenv.now.names c.add_type_terms.new.terms.items whole marks
          (kept_by_none c.name_all.new.errors.items none c.in-Ok.ensures.ok);
      within = whole.within;
      shown = whole.shown;
      counted = whole.counted;
      table = subst (λ names. IsTableOf names c.in_ok-table.table)
          (ap names_of pairs ∙ completed_names types defs c.args.tyenv.now.names c.add_type_terms.new.terms.items whole) c.in_ok-table.ensures.table;
    }

pub returns-in-Ok-clause-needs : goal.returns-in-Ok-clause-needs
returns-in-Ok-clause-needs c = λ types shows before.
    needs_kept _ types c.args.tyenv.now.names c.args.declared.items c.add_type_terms.new.terms.items (c.in_ok-add_type_terms.ensures types shows)
    before

pub returns-in-Err-clause-faults : goal.returns-in-Err-clause-faults
returns-in-Err-clause-faults c = λ types expands levels max defs shows declared.
    let whole = completed types defs c.args.tyenv.now.names c.args.declared.items c.add_type_terms.new.terms.items declared
    (c.in_ok-add_type_terms.ensures types shows) in
    let pairs : map named_shown c.as_slice-2.result.now ≡ named_terms types defs =
    ap (map named_shown) c.as_slice-2.ensures.value
    ∙ c.in_ok-named.ensures whole.signatures (subst (λ terms. AllZip (IsShownTerm c.args.tyenv.now.names) whole.signatures terms)
    (sym c.as_slice.ensures.value) whole.shown) ∙ whole.named in
    let checks = subst (λ all. Checks (IsTaken all) (AreDistinct (names_of all)) c.new-errors.result.items c.name_all.new.errors.items) pairs
    c.in_ok-table.ensures.checked in
    let none = subst (λ first. Checks (IsTaken (named_terms types defs)) (AreDistinct (names_of (named_terms types defs))) first
    c.name_all.new.errors.items) c.new-errors.ensures.items checks in
    fault_then c.in-Err.refusal (λ all same. broken_is_listed types expands levels max defs c.name_all.new.errors.items all.items
    (checks_wider (λ at taken. of_declarations at (term_twice at taken)) (λ distinct. distinct) none) same.0 same.1) c.in-Err.ensures.err
