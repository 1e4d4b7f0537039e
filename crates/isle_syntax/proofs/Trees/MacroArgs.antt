-- No numbered argument of a template is spelt.
use Rattle.std.proofs.Common.{◌≡◌, List, [], ◌∷◌, false, refl, ap}
use Rattle.std.specs.Prelude.{◌||◌}
use Rattle.std.specs.List.{All}
use Rattle.std.proofs.lemmas.List.Elements.{All-nil, All-cons}
use Rattle.isle_ast.specs.declared.ast.IfLet.{IfLet}
use Rattle.isle_ast.specs.declared.ast.Def.{Def}
use Rattle.isle_ast.specs.declared.ast.Def.TheVariants.{TypeDef, Decl, Rule, Extractor, Extern, Converter, Pragma, Kept}
use Rattle.isle_ast.specs.Trees.PatternTree.{PatternTree, PatternTrees, pattern_var, pattern_bind, pattern_bool, pattern_int, pattern_prim}
use Rattle.isle_ast.specs.Trees.PatternTree.{pattern_term, pattern_wildcard, pattern_and, pattern_macro_arg, no_patterns, more_patterns}
use Rattle.isle_ast.specs.Trees.PatternShape.{pattern_of}
use Rattle.isle_ast.specs.Trees.TreeCalls.{has_macro_arg, has_macro_args}
use Rattle.isle_syntax.specs.Tokens.PlacedTokens.{Placed}
use Rattle.isle_syntax.specs.Grammar.Phrases.{Each}
use Rattle.isle_syntax.specs.Grammar.TreeGrammar.{SpellsPattern, SpellsPatterns}
use Rattle.isle_syntax.specs.Grammar.DefGrammar.{SpellsIfLet, if_let, if_holds, SpellsDef, SpellsText}
use Rattle.isle_ast.specs.Trees.MacroArgs.{HasNoMacroArg, HasNoMacroArgs}

mutual
  pub no_macro_arg : (t : PatternTree) (ts : List Placed) → SpellsPattern t ts → has_macro_arg t ≡ false
  no_macro_arg (pattern_var x p) ts l = refl
  no_macro_arg (pattern_bind x sub p) ts l = no_macro_arg sub l.0.4.1 l.0.4.4
  no_macro_arg (pattern_bool b p) ts l = refl
  no_macro_arg (pattern_int val big p) ts l = refl
  no_macro_arg (pattern_prim x p) ts l = refl
  no_macro_arg (pattern_term x args p) ts l = no_macro_args args l.4.4.0 l.4.4.3
  no_macro_arg (pattern_wildcard p) ts l = refl
  no_macro_arg (pattern_and args p) ts l = no_macro_args args l.4.4.0 l.4.4.3
  no_macro_arg (pattern_macro_arg i p) ts l = absurd l

  pub no_macro_args : (ps : PatternTrees) (ts : List Placed) → SpellsPatterns ps ts → has_macro_args ps ≡ false
  no_macro_args no_patterns ts l = refl
  no_macro_args (more_patterns p ps) ts l = (λ i. no_macro_arg p l.0 l.3 i || no_macro_args ps l.1 l.4 i)

clause_no_macro_arg : (c : IfLet) (ts : List Placed) → SpellsIfLet c ts → HasNoMacroArg c.pattern
clause_no_macro_arg c ts (if_let l) = no_macro_arg (pattern_of c.pattern) l.4.4.0 l.4.4.3
clause_no_macro_arg c ts (if_holds q l same) = ap has_macro_arg same

each_of : {A : Type 0} (L : A → List Placed → Type 0) (P : A → Type 0) → ((a : A) (u : List Placed) → L a u → P a)
    → (rest : List A) (ts : List Placed) → Each L rest ts → All P rest
each_of L P f [] ts l = All-nil P
each_of L P f (a ∷ rest) ts l = All-cons P a rest (f a l.0 l.3) (each_of L P f rest l.1 l.4)

-- none occurs in a spelt definition, or text
pub def_no_macro_args : (def : Def) (ts : List Placed) → SpellsDef def ts → HasNoMacroArgs def
def_no_macro_args (TypeDef t) ts l = tt
def_no_macro_args (Decl d) ts l = tt
def_no_macro_args (Rule r) ts l =
    let p = l.4.4.0.4.4 in
    (no_macro_arg (pattern_of r.pattern) p.0 p.3, each_of SpellsIfLet (λ c. HasNoMacroArg c.pattern) clause_no_macro_arg r.iflets p.4.0 p.4.3)
def_no_macro_args (Extractor x) ts l = no_macro_arg (pattern_of x.template) l.4.4.4.4.0 l.4.4.4.4.3
def_no_macro_args (Extern x) ts l = tt
def_no_macro_args (Converter c) ts l = tt
def_no_macro_args (Pragma p) ts l = tt
def_no_macro_args (Kept k) ts l = tt

pub text_no_macro_args : (defs : List Def) (ts : List Placed) → SpellsText defs ts → All HasNoMacroArgs defs
text_no_macro_args defs ts l = each_of SpellsDef HasNoMacroArgs def_no_macro_args defs ts l
