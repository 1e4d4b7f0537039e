use Rattle.std.proofs.Common.{◌≡◌, ◌≤◌, ℕ, List, length, get_or, Some, slice_get, refl, sym, ap, ◌∙◌, subst, arith}
use Rattle.std.proofs.lemmas.List.{get_or_past}
use Rattle.std.proofs.lemmas.Option.{slice_get_past, slice_get_read}
use Rattle.isle_types.specs.declared.ids.TermId.{TermId}
use Rattle.isle_blocks.specs.RuleSets.{RulesOverSites}
use Rattle.isle_blocks.specs.Trees.Shown.{BlockShown}
use Rattle.isle_program.specs.Programs.{types_of, terms_of, rule_sets_of, set_trees_of}
use Rattle.isle_program.specs.Trees.{place_of_set}
use Rattle.isle_program.proofs.ProgramFacts.Places.{found_at_place, no_set_at_place, no_tree_at_place}
use Rattle.isle_program.proofs.ProgramFacts.Told.{places_told}
use Rattle.isle_program.proofs.program.Program.tree_of.Goals as goal

pub returns-in_err-place : goal.returns-in_err-place
returns-in_err-place c =
    let program = c.args.self.now in let sets = rule_sets_of program in let term = c.args.term.0 in
    let told = places_told (types_of program) (terms_of program) sets program.numbers program.numbered term in
    let past : get_or program.numbers.places.items term (length sets) ≡ length sets =
    ap (λ (n : ℕ). get_or program.numbers.places.items n (length sets)) (sym c.index.ensures)
    ∙ ap (λ (l : List ℕ). get_or l c.index.result (length sets)) (sym c.deref.ensures.value)
    ∙ get_or_past c.deref.result.now c.index.result (length sets) c.in_err-place.ensures.lookup.3 in
    let behind : place_of_set sets term ≡ length sets = sym told ∙ past in
    rw c.from_residual.ensures
    (sym (no_set_at_place sets (set_trees_of program) term (slice_get_past sets (place_of_set sets term) (omega (arith, behind)))))

pub returns-in_err-set : goal.returns-in_err-set
returns-in_err-set c =
    let program = c.args.self.now in let sets = rule_sets_of program in let term = c.args.term.0 in
    let at : c.in_ok-place.field-0.now ≡ place_of_set sets term =
    c.in_ok-place.ensures.lookup.3.1 (length sets) ∙ ap (λ (l : List ℕ). get_or l c.index.result (length sets)) c.deref.ensures.value
    ∙ ap (λ (n : ℕ). get_or program.numbers.places.items n (length sets)) c.index.ensures
    ∙ places_told (types_of program) (terms_of program) sets program.numbers program.numbered term in
    let behind : length c.deref-2.result.now ≤ c.in_ok-place.field-0.now = c.in_err-set.ensures.lookup.3 in
    let long = ap (λ (l : List (TermId × RulesOverSites)). length l) c.deref-2.ensures.value in
    rw c.from_residual-in_err-set.ensures
    (sym (no_set_at_place sets (set_trees_of program) term (slice_get_past sets (place_of_set sets term) (omega (arith, behind, long, at)))))

pub returns-in_err-tree : goal.returns-in_err-tree
returns-in_err-tree c =
    let program = c.args.self.now in let sets = rule_sets_of program in let trees = set_trees_of program in let term = c.args.term.0 in
    let at : c.in_ok-place.field-0.now ≡ place_of_set sets term =
    c.in_ok-place.ensures.lookup.3.1 (length sets) ∙ ap (λ (l : List ℕ). get_or l c.index.result (length sets)) c.deref.ensures.value
    ∙ ap (λ (n : ℕ). get_or program.numbers.places.items n (length sets)) c.index.ensures
    ∙ places_told (types_of program) (terms_of program) sets program.numbers program.numbered term in
    let behind : length c.deref-3.result.now ≤ c.in_ok-place.field-0.now = c.in_err-tree.ensures.lookup.3 in
    let long = ap (λ (l : List BlockShown). length l) c.deref-3.ensures.value in
    rw c.from_residual-in_err-tree.ensures
    (sym (no_tree_at_place sets trees term (slice_get_past trees (place_of_set sets term) (omega (arith, behind, long, at)))))

pub returns : goal.returns
returns c =
    let program = c.args.self.now in let sets = rule_sets_of program in let trees = set_trees_of program in let term = c.args.term.0 in
    let place = c.in_ok-place.field-0.now in
    let own : TermId × RulesOverSites = c.in_ok-set.set.now in
    let tree : BlockShown = c.in_ok-tree.tree.now in
    let at : place ≡ place_of_set sets term =
    c.in_ok-place.ensures.lookup.3.1 (length sets) ∙ ap (λ (l : List ℕ). get_or l c.index.result (length sets)) c.deref.ensures.value
    ∙ ap (λ (n : ℕ). get_or program.numbers.places.items n (length sets)) c.index.ensures
    ∙ places_told (types_of program) (terms_of program) sets program.numbers program.numbered term in
    let one : slice_get sets place ≡ Some own =
    ap (λ (l : List (TermId × RulesOverSites)). slice_get l place) (sym c.deref-2.ensures.value)
    ∙ slice_get_read c.deref-2.result.now (length c.deref-2.result.now) place own refl c.in_ok-set.ensures.lookup.3.0 c.in_ok-set.ensures.lookup.1 in
    let other : slice_get trees place ≡ Some tree =
    ap (λ (l : List BlockShown). slice_get l place) (sym c.deref-3.ensures.value)
    ∙ slice_get_read c.deref-3.result.now (length c.deref-3.result.now) place tree refl c.in_ok-tree.ensures.lookup.3.0
    c.in_ok-tree.ensures.lookup.1 in
    sym (found_at_place sets trees term own tree (subst (λ (k : ℕ). slice_get sets k ≡ Some own) at one)
    (subst (λ (k : ℕ). slice_get trees k ≡ Some tree) at other))
