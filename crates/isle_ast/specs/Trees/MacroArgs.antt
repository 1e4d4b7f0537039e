-- Definitions in whose patterns no numbered argument of a template occurs.
use Rattle.std.specs.Prelude.{◌≡◌, false, All}
use Rattle.isle_ast.specs.declared.ast.Pattern.{Pattern}
use Rattle.isle_ast.specs.declared.ast.Def.{Def}
use Rattle.isle_ast.specs.declared.ast.Def.TheVariants.{Rule, Extractor}
use Rattle.isle_ast.specs.Trees.PatternShape.{pattern_of}
use Rattle.isle_ast.specs.Trees.TreeCalls.{has_macro_arg}

-- none occurs in a pattern
abbrev pub HasNoMacroArg : Pattern → Type 0
HasNoMacroArg pattern = has_macro_arg (pattern_of pattern) ≡ false

-- none occurs in a definition's patterns
abbrev pub HasNoMacroArgs : Def → Type 0
HasNoMacroArgs (Rule rule) = HasNoMacroArg rule.pattern × All (λ iflet. HasNoMacroArg iflet.pattern) rule.iflets
HasNoMacroArgs (Extractor extractor) = HasNoMacroArg extractor.template
HasNoMacroArgs _ = Unit {0}
