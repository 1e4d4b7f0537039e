use Rattle.std.proofs.Common.{◌≡◌, ℕ, List, length, map, Result, Ok, Err, IfOk, subst, sym, ap, ◌∙◌}
use Rattle.std.proofs.lemmas.List.{length-map}
use Rattle.isle_blocks.specs.declared.faults.Fault.TheVariants.{Overlap, Shadow}
use Rattle.isle_blocks.specs.declared.report.RulePlace.{RulePlace}
use Rattle.isle_blocks.specs.DefinedSets.{rules_by}
use Rattle.isle_blocks.specs.Reports.{ArePairs, IsReport}
use Rattle.isle_blocks.specs.Inside.RivalLists.{place_of}
use Rattle.isle_blocks.specs.RuleFaults.{places_from}
use Rattle.isle_blocks.proofs.RuleFaults.RivalLists.{places_are, faults_listed, faults_are_pairs}
use Rattle.isle_blocks.proofs.checking.rival_errors.Goals as goal

pub report_faults-requires-clause-overlaps_in : goal.report_faults-requires-clause-overlaps_in
report_faults-requires-clause-overlaps_in c =
    let env = c.args.termenv.now in let d = c.requires.defined in
    let lists = faults_listed env d Overlap c.args.sets.now c.in_ok-found.found.overlaps.items c.in_ok-found.ensures.overlaps (c.requires.sets d) in
    let fits : length env.rules ≡ length c.as_slice.result.now =
    sym (length-map env.rules place_of) ∙ sym (ap length (c.as_slice.ensures.value ∙ c.in_ok-places.ensures ∙ ap (map place_of) c.rules.ensures)) in
    subst (λ (l : List (ℕ × ℕ)). ArePairs (length c.as_slice.result.now) l) (sym c.as_slice-2.ensures.value)
    (subst (λ (n : ℕ). ArePairs n c.in_ok-found.found.overlaps.items) fits (faults_are_pairs env d Overlap c.in_ok-found.found.overlaps.items lists))

pub report_faults-requires-clause-shadows_in : goal.report_faults-requires-clause-shadows_in
report_faults-requires-clause-shadows_in c =
    let env = c.args.termenv.now in let d = c.requires.defined in
    let lists = faults_listed env d Shadow c.args.sets.now c.in_ok-found.found.shadows.items c.in_ok-found.ensures.shadows (c.requires.sets d) in
    let fits : length env.rules ≡ length c.as_slice.result.now =
    sym (length-map env.rules place_of) ∙ sym (ap length (c.as_slice.ensures.value ∙ c.in_ok-places.ensures ∙ ap (map place_of) c.rules.ensures)) in
    subst (λ (l : List (ℕ × ℕ)). ArePairs (length c.as_slice.result.now) l) (sym c.as_slice-3.ensures.value)
    (subst (λ (n : ℕ). ArePairs n c.in_ok-found.found.shadows.items) fits (faults_are_pairs env d Shadow c.in_ok-found.found.shadows.items lists))

if_ok : {T E : Type 0} {P Q : T → Type 0} (r : Result T E) → ((v : T) → P v → Q v) → IfOk r P → IfOk r Q
if_ok (Ok v) f h = f v h
if_ok (Err e) f h = h

pub returns : goal.returns
returns c = if_ok c.report_faults.result (λ errors report d.
    let env = c.args.termenv.now in
    let overlaps = c.in_ok-found.found.overlaps.items in
    let shadows = c.in_ok-found.found.shadows.items in
    let places : c.as_slice.result.now ≡ places_from 0 (rules_by env d) =
    c.as_slice.ensures.value ∙ c.in_ok-places.ensures ∙ ap (map place_of) c.rules.ensures
    ∙ places_are d.tyenv.names (rules_by env d) env.rules 0 d.shows.rules d.shows.numbers in
    record {
      overlaps = overlaps;
      shadows = shadows;
      overlaps_are = faults_listed env d Overlap c.args.sets.now overlaps c.in_ok-found.ensures.overlaps (c.requires.sets d);
      shadows_are = faults_listed env d Shadow c.args.sets.now shadows c.in_ok-found.ensures.shadows (c.requires.sets d);
      report = subst (λ (l : List (ℕ × ℕ)). IsReport (places_from 0 (rules_by env d)) overlaps l errors.items) c.as_slice-3.ensures.value
          (subst (λ (l : List (ℕ × ℕ)). IsReport (places_from 0 (rules_by env d)) l c.as_slice-3.result.now errors.items) c.as_slice-2.ensures.value
          (subst (λ (l : List RulePlace). IsReport l c.as_slice-2.result.now c.as_slice-3.result.now errors.items) places report));
    }) c.report_faults.ensures
