-- Which definitions a text reads back as.
use Rattle.std.specs.Prelude.{◌≡◌, ℕ, List, map}
use Rattle.isle_ast.specs.declared.ast.Def.{Def}
use Rattle.isle_syntax.specs.Tokens.RemainingTokens.{RemainingTokens}
use Rattle.isle_syntax.specs.Grammar.Verdict.{IsWhole}
use Rattle.isle_syntax.specs.Grammar.Verdict.{IsSpelt}
use Rattle.isle_ast.specs.Trees.WithoutPos.{def_without_pos}

-- as a file of any number, the text is accepted, and what is read is these definitions but for positions
abbrev pub IsReadAs : List ℕ → List Def → Type 0
IsReadAs text defs = (remaining : RemainingTokens) → IsWhole text remaining
    → (read : List Def) × IsSpelt remaining read × (map def_without_pos read ≡ map def_without_pos defs)
