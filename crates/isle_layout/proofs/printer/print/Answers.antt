use Rattle.std.proofs.Common.{append_assoc, length, ◌≡◌, ◌+◌, ◌<◌, ◌||◌, ◌++◌, ◌∷◌, [], ℕ, List, false, codes, suc, add-one, get_or, take, sym, ap, ◌∙◌, string_bytes}
use Rattle.std.proofs.Math.Seq.{take-suc}
use Rattle.std.proofs.lemmas.List.{take_all, flat_map_more}
use Rattle.std.proofs.lemmas.List.Folds.{list_any_more}
use Rattle.std.proofs.lemmas.Str.{IsUtf8-string_bytes}
use Rattle.std.specs.Char.{encode_utf8}
use Rattle.std.specs.List.{list_any}
use Rattle.isle_ast.specs.declared.ast.Def.{Def}
use Rattle.isle_layout.specs.DefSpellings.{def_sexpr, def_has_macro_arg}
use Rattle.isle_layout.specs.Layout.{layout}
use Rattle.isle_layout.specs.Prints.{def_print, print_of}
use Rattle.isle_layout.proofs.ReadsBack.Prints.{print_reads_back}
use Rattle.isle_layout.proofs.printer.print.Goals as goal

-- the first definitions and one more
more : (defs : List Def) (i : ℕ) (def : Def) → i < length defs → def ≡ get_or defs i def → take (i + 1) defs ≡ take i defs ++ def ∷ []
more defs i def low is =
    rw add-one (take-suc defs i def low ∙ ap (λ d. take i defs ++ d ∷ []) (sym is))

-- a definition more is printed
printed_more : (width : ℕ) (defs : List Def) (i : ℕ) (def : Def) (text line after : List ℕ) → i < length defs → def ≡ get_or defs i def
    → text ≡ print_of width (take i defs) → line ≡ text ++ layout width 0 (def_sexpr def) → after ≡ line ++ codes "\n"
    → after ≡ print_of width (take (i + 1) defs)
printed_more width defs i def text line after low is printed written ended =
    let whole = append_assoc (print_of width (take i defs)) (layout width 0 (def_sexpr def)) (codes "\n") in
    ended ∙ ap (λ bytes. bytes ++ codes "\n") (written ∙ ap (λ bytes. bytes ++ layout width 0 (def_sexpr def)) printed) ∙ whole
    ∙ flat_map_more (def_print width) [] (take i defs) def ∙ ap (print_of width) (sym (more defs i def low is))

-- and has no numbered argument
none_more : (defs : List Def) (i : ℕ) (def : Def) → i < length defs → def ≡ get_or defs i def → list_any def_has_macro_arg (take i defs) ≡ false
    → def_has_macro_arg def ≡ false → list_any def_has_macro_arg (take (i + 1) defs) ≡ false
none_more defs i def low is none here =
    list_any_more def_has_macro_arg defs i def low ∙ ap (λ b. b || def_has_macro_arg (get_or defs i def)) none ∙ ap def_has_macro_arg (sym is) ∙ here

pub loop-def-preserved : goal.loop-def-preserved
unfolding encode_utf8
loop-def-preserved c =
    let line = c.in_ok-push_str.ensures.bytes ∙ ap (λ bytes. string_bytes c.loop-def.text ++ bytes)
    (c.as_str.ensures.value ∙ c.in_ok-printed.ensures.text) in
    record {
      printed = printed_more c.args.width c.args.defs.now c.loop-def.def-index c.def-item.result _ _ _ c.loop-def-test.true c.def-item.is
          c.loop-def.invariant.printed line c.in_ok-push.ensures.bytes;
      no_macro_arg = none_more c.args.defs.now c.loop-def.def-index c.def-item.result c.loop-def-test.true c.def-item.is
          c.loop-def.invariant.no_macro_arg c.in_ok-printed.ensures.no_macro_arg;
    }

pub returns-clause-text : goal.returns-clause-text
returns-clause-text c =
    c.loop-def.invariant.printed ∙ ap (print_of c.args.width) (take_all c.loop-def.def-index c.args.defs.now c.loop-def-test.false)

pub returns-clause-reads_back : goal.returns-clause-reads_back
returns-clause-reads_back c =
    let printed = c.loop-def.invariant.printed ∙ ap (print_of c.args.width) (take_all c.loop-def.def-index c.args.defs.now c.loop-def-test.false) in
    print_reads_back c.args.width (string_bytes c.loop-def.text) c.args.defs.now (IsUtf8-string_bytes c.loop-def.text) printed

pub returns-clause-no_macro_arg : goal.returns-clause-no_macro_arg
returns-clause-no_macro_arg c =
    ap (list_any def_has_macro_arg) (sym (take_all c.loop-def.def-index c.args.defs.now c.loop-def-test.false)) ∙ c.loop-def.invariant.no_macro_arg
