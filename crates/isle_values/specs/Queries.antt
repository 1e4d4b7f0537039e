-- In which order a query is checked.
use Rattle.std.specs.Prelude.{◌≡◌, ◌++◌, ◌⊎◌, ℕ, List, [], ◌∷◌, Some, None}
use Rattle.isle_syntax.specs.declared.lexer.Token.TheVariants.{LParen, RParen, Symbol}
use Rattle.isle_types.specs.declared.ids.TermId.{TermId}
use Rattle.isle_rules.specs.Values.{ValueTrees}
use Rattle.isle_program.specs.declared.program.Program.{Program}
use Rattle.isle_values.specs.declared.queries.QueryFault.{QueryFault}
use Rattle.isle_values.specs.declared.queries.QueryFault.TheVariants.{Q1, Q2, Q3, Q4, Memory}
use Rattle.isle_meaning.specs.ValueTypes.{AreOfTypes}
use Rattle.isle_syntax.specs.declared.lexer.Token.{Token}
use Rattle.isle_values.specs.Values.Lists.{IsListOf}
use Rattle.isle_program.specs.Programs.{program_term, types_of, terms_of, value_facts, types_taken}
use Rattle.isle_program.specs.Facts.Reach.{IsRunnable}
use Rattle.isle_values.specs.Values.Settled.{settled_all}
use Rattle.isle_values.specs.Values.TextTokens.{AreTokensOf, HasTokenFault}
use Rattle.isle_values.specs.Values.Tokens.{tokens_all, AreSpellable, SpellArguments}

-- a fault is one of a text, not want of memory
abbrev pub IsOfText : QueryFault → Type 0
IsOfText Q1 = Unit {0}
IsOfText Q2 = Unit {0}
IsOfText Q3 = Unit {0}
IsOfText Q4 = Unit {0}
IsOfText (Memory e) = ⊥

-- a refusal of the call of a name: the first of its causes that holds
abbrev pub RefusesName : Program → List ℕ → QueryFault → Type 0
RefusesName program name Q1 = program_term program name ≡ None
RefusesName program name Q2 = (term : TermId) × (program_term program name ≡ Some term)
    × (IsRunnable (types_of program) (terms_of program) term.0 → ⊥)
RefusesName program name Q3 = ⊥
RefusesName program name Q4 = ⊥
RefusesName program name (Memory e) = Unit {0}

-- a text is one list that begins with a name
abbrev pub IsTextOf : List ℕ → List ℕ → List Token → Type 0
IsTextOf text name rest = (tokens : List Token) × AreTokensOf text tokens × IsListOf tokens name rest

-- values, read at types, are these, and of these types
abbrev pub AreSettled : Program → ValueTrees → List ℕ → ValueTrees → Type 0
AreSettled program spelt types values = (settled_all (value_facts program) spelt types ≡ values) × AreOfTypes (value_facts program) values types

-- no values that the tokens spell are, read at the types that a term takes, of these types
abbrev pub NoneAreTyped : Program → TermId → List Token → Type 0
NoneAreTyped program term tokens = (spelt : ValueTrees) → SpellArguments tokens spelt
    → AreOfTypes (value_facts program) (settled_all (value_facts program) spelt (types_taken program term)) (types_taken program term) → ⊥

-- a refusal of a text: no token begins in it where one should, or it isn't one list that begins with a symbol; else the first
-- cause that holds of the call of its name
abbrev pub RefusesText : Program → List ℕ → QueryFault → Type 0
RefusesText program text Q1 = (name : List ℕ) × (rest : List Token) × IsTextOf text name rest × (program_term program name ≡ None)
RefusesText program text Q2 = (name : List ℕ) × (rest : List Token) × (term : TermId) × IsTextOf text name rest
    × (program_term program name ≡ Some term)
    × (IsRunnable (types_of program) (terms_of program) term.0 → ⊥)
RefusesText program text Q3 = (name : List ℕ) × (rest : List Token) × (term : TermId) × IsTextOf text name rest
    × (program_term program name ≡ Some term)
    × IsRunnable (types_of program) (terms_of program) term.0
    × NoneAreTyped program term rest
RefusesText program text Q4 = HasTokenFault text ⊎ ((tokens : List Token) × AreTokensOf text tokens × ((name : List ℕ) (rest : List Token)
    → IsListOf tokens name rest → ⊥))
RefusesText program text (Memory e) = Unit {0}

-- a text is the call of a name: a list of the name and its arguments
abbrev pub SpellsCall : List ℕ → List ℕ → ValueTrees → Type 0
SpellsCall text name args = AreSpellable args × AreTokensOf text (LParen ∷ Symbol name ∷ (tokens_all args ++ RParen ∷ []))

-- the call of a term that a text spells: the term can be run, and its arguments are what is spelt, read at the types that it takes, and of these
-- types
pub record IsCallIn (program : Program) (text : List ℕ) (term : TermId) (args : ValueTrees) : Type 0 where
  pub name : List ℕ
  pub arguments : ValueTrees
  pub named : program_term program name ≡ Some term
  pub callable : IsRunnable (types_of program) (terms_of program) term.0
  pub spelt : SpellsCall text name arguments
  pub settles : settled_all (value_facts program) arguments (types_taken program term) ≡ args
  pub typed : AreOfTypes (value_facts program) args (types_taken program term)
