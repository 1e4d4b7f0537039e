-- The test for numbered arguments of templates finds none exactly where a definition has none.
use Rattle.std.proofs.Common.{◌≡◌, Bool, true, false, ◌||◌, List, [], ◌∷◌, refl}
use Rattle.std.specs.List.{All, list_any}
use Rattle.std.proofs.lemmas.List.Elements.{All-nil, All-cons, All-head, All-tail}
use Rattle.std.proofs.lemmas.List.Folds.{list_any_none}
use Rattle.isle_ast.specs.declared.ast.IfLet.{IfLet}
use Rattle.isle_ast.specs.declared.ast.Def.{Def}
use Rattle.isle_ast.specs.declared.ast.Def.TheVariants.{TypeDef, Decl, Rule, Extractor, Extern, Converter, Pragma, Kept}
use Rattle.isle_ast.specs.Trees.PatternShape.{pattern_of}
use Rattle.isle_ast.specs.Trees.TreeCalls.{has_macro_arg}
use Rattle.isle_ast.specs.Trees.MacroArgs.{HasNoMacroArg, HasNoMacroArgs}
use Rattle.isle_layout.specs.DefSpellings.{iflet_has_macro_arg, def_has_macro_arg}

neither : (a b : Bool) → (a || b) ≡ false → (a ≡ false) × (b ≡ false)
neither false false e = (refl, refl)
neither false true e = cc
neither true b e = cc

either : (a b : Bool) → a ≡ false → b ≡ false → (a || b) ≡ false
either false false d e = refl
either false true d e = cc
either true b d e = cc

none_of_all : (cs : List IfLet) → list_any iflet_has_macro_arg cs ≡ false → All (λ c. HasNoMacroArg c.pattern) cs
none_of_all [] e = All-nil (λ c. HasNoMacroArg c.pattern)
none_of_all (c ∷ cs) e =
    let parts = neither (iflet_has_macro_arg c) (list_any iflet_has_macro_arg cs) e in
    All-cons (λ d. HasNoMacroArg d.pattern) c cs parts.0 (none_of_all cs parts.1)

pub found_none : (def : Def) → HasNoMacroArgs def → def_has_macro_arg def ≡ false
found_none (TypeDef t) h = refl
found_none (Decl d) h = refl
found_none (Rule r) h =
    either (has_macro_arg (pattern_of r.pattern)) (list_any iflet_has_macro_arg r.iflets) h.0 (list_any_none iflet_has_macro_arg r.iflets h.1)
found_none (Extractor x) h = h
found_none (Extern x) h = refl
found_none (Converter c) h = refl
found_none (Pragma p) h = refl
found_none (Kept k) h = refl

pub has_none : (def : Def) → def_has_macro_arg def ≡ false → HasNoMacroArgs def
has_none (TypeDef t) e = tt
has_none (Decl d) e = tt
has_none (Rule r) e =
    let parts = neither (has_macro_arg (pattern_of r.pattern)) (list_any iflet_has_macro_arg r.iflets) e in
    (parts.0, none_of_all r.iflets parts.1)
has_none (Extractor x) e = e
has_none (Extern x) e = tt
has_none (Converter c) e = tt
has_none (Pragma p) e = tt
has_none (Kept k) e = tt

-- and so in none of theirs
pub defs_have_none : (defs : List Def) → All HasNoMacroArgs defs → list_any def_has_macro_arg defs ≡ false
defs_have_none [] h = refl
defs_have_none (def ∷ others) h =
    either (def_has_macro_arg def) (list_any def_has_macro_arg others) (found_none def (All-head HasNoMacroArgs def others h))
    (defs_have_none others (All-tail HasNoMacroArgs def others h))
