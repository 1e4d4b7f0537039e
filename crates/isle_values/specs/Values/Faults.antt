-- In which order the text of a value is checked.
use Rattle.std.specs.Prelude.{◌≢◌, ◌++◌, ℕ, List, []}
use Rattle.isle_syntax.specs.declared.lexer.Token.{Token}
use Rattle.isle_types.specs.declared.ids.TypeId.{TypeId}
use Rattle.isle_rules.specs.Values.{ValueTree}
use Rattle.isle_meaning.specs.ValueTypes.{IsOfType}
use Rattle.isle_program.specs.declared.program.Program.{Program}
use Rattle.isle_values.specs.declared.values.parsing.ValueFault.{ValueFault}
use Rattle.isle_values.specs.declared.values.parsing.ValueFault.TheVariants.{V1, V2, V3, V4, Memory}
use Rattle.isle_program.specs.Programs.{value_facts}
use Rattle.isle_values.specs.Values.Settled.{settled}
use Rattle.isle_values.specs.Values.TextTokens.{AreTokensOf, HasTokenFault}
use Rattle.isle_values.specs.Values.Tokens.{tokens_of, IsSpellable, SpellValue, HaveNoValue}

-- a refusal of the text of a value of a type: no token begins where one should; no value stands at the front of its tokens; they
-- spell a value that, read at the type, isn't of it; or a value stands at their front, and some are left behind it
abbrev pub RefusesValue : Program → List ℕ → TypeId → ValueFault → Type 0
RefusesValue program text ty V1 = HasTokenFault text
RefusesValue program text ty V2 = (tokens : List Token) × AreTokensOf text tokens × HaveNoValue tokens
RefusesValue program text ty V3 = (tokens : List Token) × (v : ValueTree) × AreTokensOf text tokens × SpellValue tokens v
    × (IsOfType (value_facts program) (settled (value_facts program) v ty.0) ty.0 → ⊥)
RefusesValue program text ty V4 = (v : ValueTree) × (more : List Token) × IsSpellable v × AreTokensOf text (tokens_of v ++ more) × (more ≢ [])
RefusesValue program text ty (Memory e) = Unit {0}
