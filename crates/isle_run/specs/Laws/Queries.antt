-- What a text is as a query: one call, or one fault.
use Rattle.std.specs.Prelude.{◌≡◌, ℕ, List}
use Rattle.isle_types.specs.declared.ids.TermId.{TermId}
use Rattle.isle_rules.specs.Values.{ValueTrees}
use Rattle.isle_program.specs.declared.program.Program.{Program}
use Rattle.isle_values.specs.declared.queries.QueryFault.{QueryFault}
use Rattle.isle_values.specs.Queries.{IsCallIn, IsOfText, RefusesText}

-- A text spells one call.
abbrev pub TextsAreOneCall : Type 0
TextsAreOneCall = (program : Program) (text : List ℕ) (term other : TermId) (args others : ValueTrees)
    → IsCallIn program text term args → IsCallIn program text other others → (term ≡ other) × (args ≡ others)

-- A text that is refused spells no call.
abbrev pub RefusedTextsAreNoCalls : Type 0
RefusedTextsAreNoCalls = (program : Program) (text : List ℕ) (fault : QueryFault) (term : TermId) (args : ValueTrees)
    → IsOfText fault → RefusesText program text fault → IsCallIn program text term args → ⊥

-- A text is refused for one cause.
abbrev pub TextsHaveOneFault : Type 0
TextsHaveOneFault = (program : Program) (text : List ℕ) (fault other : QueryFault) → IsOfText fault → IsOfText other
    → RefusesText program text fault → RefusesText program text other → fault ≡ other
