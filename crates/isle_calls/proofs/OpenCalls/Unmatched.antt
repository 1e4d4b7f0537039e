-- What a call comes to of which no rule is left.
use Rattle.std.proofs.Common.{◌≡◌, ℕ, List, false, map, refl, sym, ap, subst, ◌∙◌}
use Rattle.isle_calls.specs.Calls.Answers.{AreWritten}
use Rattle.std.specs.Prelude.{Vec}
use Rattle.std.specs.Global.{Global}
use Rattle.isle_types.specs.declared.ids.TermId.{TermId}
use Rattle.isle_types.specs.declared.ids.TypeId.{TypeId}
use Rattle.isle_rules.specs.Values.{ValueTree, value_list}
use Rattle.isle_meaning.specs.Values.{Values}
use Rattle.isle_meaning.specs.GroundValues.{AreValuesOf, values_of}
use Rattle.isle_meaning.specs.ValueTypes.{AreOfTypes}
use Rattle.isle_meaning.specs.Asking.{stuck}
use Rattle.isle_calls.specs.declared.answer.Answer.TheVariants.{Stuck}
use Rattle.isle_calls.specs.declared.frames.Advanced.TheVariants.{Ends}
use Rattle.isle_program.specs.declared.program.Program.{Program}
use Rattle.isle_calls.specs.declared.store.Stored.{Stored}
use Rattle.isle_program.specs.Meanings.{checked}
use Rattle.isle_meaning.specs.Outcomes.{ended, unmatched}
use Rattle.isle_program.specs.Programs.{number_of, types_taken, value_facts}
use Rattle.isle_calls.specs.Stores.Values.{StandEach}
use Rattle.isle_calls.specs.Calls.Open.{CallOf}
use Rattle.isle_calls.specs.Calls.Ways.{UnmatchedIs}
use Rattle.isle_calls.proofs.OpenCalls.Telling.{inputs_taken}

-- a call of a term that may not fail of which no rule is left is stuck
pub stuck_told : (k : CallOf) (program : Program) → k.program ≡ program → (stored : List Stored) (term : TermId) (numbers : List ℕ)
    → k.term ≡ term.0 → StandEach stored k.args numbers → AreValuesOf (checked k.program).values k.args ((checked k.program).terms.inputs k.term)
    → (types : List TypeId) → map number_of types ≡ types_taken program term → (values : Vec ValueTree Global)
    → ((vs : Values) → StandEach stored vs numbers → AreValuesOf (value_facts program) vs (map number_of types)
    → AreOfTypes (value_facts program) (value_list values.items) (map number_of types)
    × (values_of (value_facts program) (value_list values.items) ≡ vs))
    → (checked program).terms.partial term.0 ≡ false → UnmatchedIs k (Ends (Stuck term values))
stuck_told k program of_program stored term numbers of_term stand own types taken values printed partial =
    let inputs : map number_of types ≡ (checked program).terms.inputs term.0 = taken ∙ inputs_taken program term in
    let its : (checked k.program).terms.partial k.term ≡ false =
    subst (λ (p : Program). (checked p).terms.partial k.term ≡ false) (sym of_program)
    (subst (λ (t : ℕ). (checked program).terms.partial t ≡ false) (sym of_term) partial) in
    let typed : AreValuesOf (value_facts program) k.args (map number_of types) =
    subst (AreValuesOf (value_facts program) k.args) (sym inputs)
    (subst (λ (t : ℕ). AreValuesOf (value_facts program) k.args ((checked program).terms.inputs t)) of_term
    (subst (λ (p : Program). AreValuesOf (value_facts p) k.args ((checked p).terms.inputs k.term)) of_program own)) in
    let shown = printed k.args stand typed in (
      stuck term.0 k.args,
      (
        k.args,
        refl,
        subst (λ (p : Program). AreWritten (checked p).values k.args ((checked p).terms.inputs term.0) (value_list values.items))
            (sym of_program) (record { typed = subst (AreOfTypes (value_facts program) (value_list values.items)) inputs shown.0; stand = shown.1 }),
      ),
      ap (λ b. unmatched b k.term k.args) its ∙ ap (λ (t : ℕ). ended (stuck t k.args)) of_term,
    )
