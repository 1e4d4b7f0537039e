-- Lists of errors that stand where rules are broken.
use Rattle.std.proofs.Common.{◌≡◌, List, [], ◌∷◌, ◌++◌, sym, ◌∙◌}
use Rattle.std.proofs.lemmas.List.Elements.{All-same, All-nil, All-push}
use Rattle.isle_ast.specs.declared.ast.Def.{Def}
use Rattle.isle_ast.specs.declared.error.Error.{Error}
use Rattle.isle_types.specs.TypeFaults.{Breaks, IsTypeFault}
use Rattle.isle_types.specs.Inside.Readings.{AreTypeFaults}

-- one more fault
pub faults_more : (defs : List Def) (old new : List Error) (error : Error) → new ≡ old ++ error ∷ [] → AreTypeFaults defs old
    → IsTypeFault (Breaks defs) error → AreTypeFaults defs new
faults_more defs old new error is faults fault =
    All-same (IsTypeFault (Breaks defs)) new (old ++ error ∷ []) is (All-push (IsTypeFault (Breaks defs)) old error faults fault)

pub faults_same : (defs : List Def) (old new : List Error) → new ≡ old → AreTypeFaults defs old → AreTypeFaults defs new
faults_same defs old new is faults = All-same (IsTypeFault (Breaks defs)) new old is faults

none_some : (error : Error) (errors : List Error) → [] ≡ error ∷ errors → ⊥
none_some error errors is = cc

-- where there is an error, the list isn't empty
pub some_error : (old new : List Error) (error : Error) → new ≡ old ++ error ∷ [] → new ≡ [] → ⊥
some_error [] new error is none = none_some error [] (sym none ∙ is)
some_error (first ∷ old) new error is none = none_some first (old ++ error ∷ []) (sym none ∙ is)

-- no errors
pub faults_none : (defs : List Def) (errors : List Error) → errors ≡ [] → AreTypeFaults defs errors
faults_none defs errors none = All-same (IsTypeFault (Breaks defs)) errors [] none (All-nil (IsTypeFault (Breaks defs)))
