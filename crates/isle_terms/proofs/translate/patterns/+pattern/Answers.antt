use Rattle.std.proofs.Common.{◌≡◌, ◌<◌, [], ◌∷◌, ◌++◌, List, length, map, sym, ap, ◌∙◌, arith}
use Rattle.std.proofs.lemmas.List.{map-append, length-map}
use Rattle.std.proofs.lemmas.Result.{err_from_is_err_and}
use Rattle.isle_ast.specs.Trees.PatternTree.{pattern_var, pattern_bool, pattern_prim, pattern_wildcard}
use Rattle.isle_ast.specs.Trees.PatternShape.{pattern_of, patterns_of}
use Rattle.isle_terms.specs.Inside.Readings.Outcomes.{stands_for, and_then, each_pattern}
use Rattle.isle_rules.specs.Shown.ShownTerms.{numbers_of, term_shown}
use Rattle.isle_rules.specs.Shown.ShownRules.{typed_shown, typed_list, pattern_limit}
use Rattle.isle_rules.specs.TypedRules.{typed_and, typed_term}
use Rattle.isle_terms.specs.Inside.Readings.Frames.{put, tree_given, trees_given}
use Rattle.isle_terms.specs.Inside.Readings.PatternReading.{reads_in, uses_in}
use Rattle.isle_terms.specs.Inside.Readings.Contexts.{known_in}
use Rattle.isle_terms.proofs.Steps.Frames.{tree_out, tree_rolled}
use Rattle.isle_rules.proofs.Steps.PatternForms.{shown_and, shown_term}
use Rattle.isle_terms.proofs.Steps.PatternSteps.{same_number, other_number, ok_along, err_along, fails_along, fails_then, after_none, each_next}
use Rattle.isle_terms.proofs.Steps.PatternSteps.{each_fails}
use Rattle.isle_terms.proofs.Steps.PatternSteps.{each_ends, greatest_push, and_limited, use_limited, all_same, counts, numbers_counted, node_bound, node_int, node_and}
use Rattle.isle_terms.proofs.Steps.PatternSteps.{node_put, bound_fails, term_unknown, number_unknown, term_at, shown_wildcard, wildcard_limited}
use Rattle.isle_terms.proofs.Steps.PatternSteps.{term_other}
use Rattle.isle_terms.proofs.Steps.PatternSteps.{term_same, not_true, not_false, part_here, use_here, use_miscounted, use_plain, use_lacking}
use Rattle.isle_terms.proofs.Steps.PatternSteps.{use_template, lacks, suffices}
use Rattle.isle_terms.proofs.translate.patterns.+pattern.Goals as goal

-- the image of a list with one item more
pushed : {X Y : Type 0} (f : X → Y) (new old : List X) (x : X) → new ≡ old ++ x ∷ [] → map f new ≡ map f old ++ f x ∷ []
pushed f new old x e = ap (map f) e ∙ map-append f old (x ∷ [])

pub read_and-returns-in_err-made-clause-err : goal.read_and-returns-in_err-made-clause-err
read_and-returns-in_err-made-clause-err t c =
    let p = err_from_is_err_and c.from_residual-in_err-made.result c.from_residual-in_err-made.ensures.1 in
    let same = all_same (reads_in c.args.context.now c.args.levels) c.args.pos _ c.in_ok-parts.parts.items c.as_slice-2.result.now c.args.ty
    c.as_slice-3.result.now c.args.bindings.now c.in_ok-parts.ensures c.as_slice-2.ensures.value
    (c.as_slice-3.ensures.value ∙ c.in_ok-tys.ensures ∙ ap (map (λ _. c.args.ty)) c.as_slice.ensures.value) in
    rw (p.1, p.2) (fails_then _ _ _ _ (fails_along _ _ _ _ (sym same) c.in_err-made.ensures.err))

pub read_and-returns-clause-ok : goal.read_and-returns-clause-ok
read_and-returns-clause-ok t c =
    let same = all_same (reads_in c.args.context.now c.args.levels) c.args.pos _ c.in_ok-parts.parts.items c.as_slice-2.result.now c.args.ty
    c.as_slice-3.result.now c.args.bindings.now c.in_ok-parts.ensures c.as_slice-2.ensures.value
    (c.as_slice-3.ensures.value ∙ c.in_ok-tys.ensures ∙ ap (map (λ _. c.args.ty)) c.as_slice.ensures.value) in
    let names = c.args.context.now.tyenv.now.names in
    ap (λ o. and_then o (λ us s'. stands_for (typed_and c.args.ty.0 us) s')) (sym same ∙ c.in_ok-made.ensures.ok)
    ∙ ap (λ us. stands_for us c.read_each.new.bindings)
    (sym (shown_and names c.args.ty c.new.result ∙ ap (λ xs. typed_and c.args.ty.0 (typed_list (map (typed_shown names) xs))) c.new.ensures))

pub read_and-returns-clause-symbols : goal.read_and-returns-clause-symbols
read_and-returns-clause-symbols t c =
    and_limited c.args.ty c.new.result c.in_ok-made.made.items _ c.new.ensures c.in_ok-made.ensures.symbols

pub read_and-read_each-requires : goal.read_and-read_each-requires
read_and-read_each-requires t c =
    let tys = ap length (c.as_slice-3.ensures.value ∙ c.in_ok-tys.ensures ∙ ap (map (λ _. c.args.ty)) c.as_slice.ensures.value) in
    let parts = ap length c.as_slice-2.ensures.value in
    (omega arith, omega (arith, length-map c.in_ok-parts.parts.items (λ _. c.args.ty)))

pub read_each-loop-i-init : goal.read_each-loop-i-init
read_each-loop-i-init t c = record {
  read = rw c.in_ok-all.ensures.items (after_none _);
  symbols = rw c.in_ok-all.ensures.items (omega arith);
}

pub read_each-returns-in_err-read_part-clause-err : goal.read_each-returns-in_err-read_part-clause-err
read_each-returns-in_err-read_part-clause-err t c =
    let p = err_from_is_err_and c.from_residual-in_err-read_part.result c.from_residual-in_err-read_part.ensures.1 in
    let within : c.loop-i.i < length c.args.tys.now = omega arith in
    rw (p.1, p.2) (each_fails _ _ c.args.parts.now c.args.tys.now c.loop-i.i _ _ _ _ c.index-parts-i.result _ _ c.loop-i-test.true within
    c.index-parts-i.is c.in_err-read_part.ensures.err c.loop-i.invariant.read)

pub read_each-loop-i-preserved : goal.read_each-loop-i-preserved
read_each-loop-i-preserved t c =
    let within : c.loop-i.i < length c.args.tys.now = omega arith in
    record {
      read = rw (pushed (typed_shown c.args.context.now.tyenv.now.names) _ _ _ c.in_ok-push.ensures.items)
          (each_next _ _ c.args.parts.now c.args.tys.now c.loop-i.i _ _ _ c.index-parts-i.result _ _ _ c.loop-i-test.true within
          c.index-parts-i.is c.in_ok-read_part.ensures.ok c.loop-i.invariant.read);
      symbols = rw (pushed pattern_limit _ _ _ c.in_ok-push.ensures.items)
          (greatest_push _ _ _ c.loop-i.invariant.symbols c.in_ok-read_part.ensures.symbols);
    }

pub read_each-returns-clause-ok : goal.read_each-returns-clause-ok
read_each-returns-clause-ok t c =
    each_ends _ _ c.args.parts.now c.args.tys.now c.loop-i.i _ _ _ (omega arith) (omega arith) c.loop-i.invariant.read

pub read_each-returns-clause-symbols : goal.read_each-returns-clause-symbols
read_each-returns-clause-symbols t c = c.loop-i.invariant.symbols

pub read_node-returns-in_ok-below-in-BindPattern-clause-ok : goal.read_node-returns-in_ok-below-in-BindPattern-clause-ok
read_node-returns-in_ok-below-in-BindPattern-clause-ok t c =
    let node = node_bound (known_in c.args.context.now) (reads_in c.args.context.now c.args.levels) (uses_in c.args.context.now c.args.levels)
    c.args.part.now c.args.ty.0 c.args.bindings.now c.in-BindPattern.var c.in-BindPattern.subpat c.in-BindPattern.pos _ _ _
    (ap pattern_of c.in-BindPattern.is) (tree_rolled _ _ ∙ ap (put _) c.get.ensures) c.in_ok-below-in-BindPattern.ensures.ok in
    ok_along c.args.context.now _ _ c.bind_below.result _ node c.bind_below.ensures.ok

pub read_node-returns-in-ConstInt-clause-ok : goal.read_node-returns-in-ConstInt-clause-ok
read_node-returns-in-ConstInt-clause-ok t c =
    ok_along c.args.context.now _ _ c.read_int.result _
    (node_int (known_in c.args.context.now) (reads_in c.args.context.now c.args.levels) (uses_in c.args.context.now c.args.levels) c.args.part.now
    c.args.ty.0 c.args.bindings.now c.in-ConstInt.val c.in-ConstInt.big c.in-ConstInt.pos (ap pattern_of c.in-ConstInt.is))
    (c.read_int.ensures.ok c.args.bindings.now)

pub read_node-returns-in-ConstInt-clause-err : goal.read_node-returns-in-ConstInt-clause-err
read_node-returns-in-ConstInt-clause-err t c =
    err_along c.args.context.now.rule _ _ c.read_int.result
    (node_int (known_in c.args.context.now) (reads_in c.args.context.now c.args.levels) (uses_in c.args.context.now c.args.levels) c.args.part.now
    c.args.ty.0 c.args.bindings.now c.in-ConstInt.val c.in-ConstInt.big c.in-ConstInt.pos (ap pattern_of c.in-ConstInt.is))
    (c.read_int.ensures.err c.args.bindings.now)

pub read_node-returns-in-Var-clause-ok : goal.read_node-returns-in-Var-clause-ok
read_node-returns-in-Var-clause-ok t c =
    ok_along c.args.context.now _ _ c.read_name.result _
    (node_put (known_in c.args.context.now) (reads_in c.args.context.now c.args.levels) (uses_in c.args.context.now c.args.levels) c.args.part.now
    c.args.ty.0 c.args.bindings.now (pattern_var c.in-Var.var c.in-Var.pos) (ap pattern_of c.in-Var.is))
    c.read_name.ensures.ok

pub read_node-returns-in-Var-clause-err : goal.read_node-returns-in-Var-clause-err
read_node-returns-in-Var-clause-err t c =
    err_along c.args.context.now.rule _ _ c.read_name.result
    (node_put (known_in c.args.context.now) (reads_in c.args.context.now c.args.levels) (uses_in c.args.context.now c.args.levels) c.args.part.now
    c.args.ty.0 c.args.bindings.now (pattern_var c.in-Var.var c.in-Var.pos) (ap pattern_of c.in-Var.is))
    c.read_name.ensures.err

pub read_node-returns-in-ConstBool-clause-ok : goal.read_node-returns-in-ConstBool-clause-ok
read_node-returns-in-ConstBool-clause-ok t c =
    ok_along c.args.context.now _ _ c.read_bool.result _
    (node_put (known_in c.args.context.now) (reads_in c.args.context.now c.args.levels) (uses_in c.args.context.now c.args.levels) c.args.part.now
    c.args.ty.0 c.args.bindings.now (pattern_bool c.in-ConstBool.val c.in-ConstBool.pos) (ap pattern_of c.in-ConstBool.is))
    (c.read_bool.ensures.ok c.args.bindings.now)

pub read_node-returns-in-ConstBool-clause-err : goal.read_node-returns-in-ConstBool-clause-err
read_node-returns-in-ConstBool-clause-err t c =
    err_along c.args.context.now.rule _ _ c.read_bool.result
    (node_put (known_in c.args.context.now) (reads_in c.args.context.now c.args.levels) (uses_in c.args.context.now c.args.levels) c.args.part.now
    c.args.ty.0 c.args.bindings.now (pattern_bool c.in-ConstBool.val c.in-ConstBool.pos) (ap pattern_of c.in-ConstBool.is))
    (c.read_bool.ensures.err c.args.bindings.now)

pub read_node-returns-in-ConstPrim-clause-ok : goal.read_node-returns-in-ConstPrim-clause-ok
read_node-returns-in-ConstPrim-clause-ok t c =
    ok_along c.args.context.now _ _ c.read_constant.result _
    (node_put (known_in c.args.context.now) (reads_in c.args.context.now c.args.levels) (uses_in c.args.context.now c.args.levels) c.args.part.now
    c.args.ty.0 c.args.bindings.now (pattern_prim c.in-ConstPrim.val c.in-ConstPrim.pos) (ap pattern_of c.in-ConstPrim.is))
    (c.read_constant.ensures.ok c.args.bindings.now)

pub read_node-returns-in-ConstPrim-clause-err : goal.read_node-returns-in-ConstPrim-clause-err
read_node-returns-in-ConstPrim-clause-err t c =
    err_along c.args.context.now.rule _ _ c.read_constant.result
    (node_put (known_in c.args.context.now) (reads_in c.args.context.now c.args.levels) (uses_in c.args.context.now c.args.levels) c.args.part.now
    c.args.ty.0 c.args.bindings.now (pattern_prim c.in-ConstPrim.val c.in-ConstPrim.pos) (ap pattern_of c.in-ConstPrim.is))
    (c.read_constant.ensures.err c.args.bindings.now)

pub read_node-returns-in-Wildcard-clause-ok : goal.read_node-returns-in-Wildcard-clause-ok
read_node-returns-in-Wildcard-clause-ok t c =
    node_put (known_in c.args.context.now) (reads_in c.args.context.now c.args.levels) (uses_in c.args.context.now c.args.levels) c.args.part.now
    c.args.ty.0 c.args.bindings.now (pattern_wildcard c.in-Wildcard.pos) (ap pattern_of c.in-Wildcard.is)
    ∙ ap (λ v. stands_for v c.args.bindings.now) (sym (shown_wildcard c.args.context.now.tyenv.now.names c.args.ty))

pub read_node-returns-in-Wildcard-clause-symbols : goal.read_node-returns-in-Wildcard-clause-symbols
read_node-returns-in-Wildcard-clause-symbols t c = wildcard_limited c.args.ty _

pub read_node-returns-in_err-below-in-BindPattern-clause-err : goal.read_node-returns-in_err-below-in-BindPattern-clause-err
read_node-returns-in_err-below-in-BindPattern-clause-err t c =
    let p = err_from_is_err_and c.from_residual.result c.from_residual.ensures.1 in
    rw (p.1, p.2) (bound_fails (known_in c.args.context.now) (reads_in c.args.context.now c.args.levels) (uses_in c.args.context.now c.args.levels)
    c.args.part.now c.args.ty.0 c.args.bindings.now c.args.context.now.rule c.in-BindPattern.var c.in-BindPattern.subpat c.in-BindPattern.pos _ _
    (ap pattern_of c.in-BindPattern.is) (tree_rolled _ _ ∙ ap (put _) c.get.ensures) c.in_err-below-in-BindPattern.ensures.err)

pub read_node-returns-in_ok-below-in-BindPattern-clause-err : goal.read_node-returns-in_ok-below-in-BindPattern-clause-err
read_node-returns-in_ok-below-in-BindPattern-clause-err t c =
    let node = node_bound (known_in c.args.context.now) (reads_in c.args.context.now c.args.levels) (uses_in c.args.context.now c.args.levels)
    c.args.part.now c.args.ty.0 c.args.bindings.now c.in-BindPattern.var c.in-BindPattern.subpat c.in-BindPattern.pos _ _ _
    (ap pattern_of c.in-BindPattern.is) (tree_rolled _ _ ∙ ap (put _) c.get.ensures) c.in_ok-below-in-BindPattern.ensures.ok in
    err_along c.args.context.now.rule _ _ c.bind_below.result node c.bind_below.ensures.err

pub read_node-returns-in-And-clause-ok : goal.read_node-returns-in-And-clause-ok
read_node-returns-in-And-clause-ok t c =
    ok_along c.args.context.now _ _ c.read_and.result _
    (node_and (known_in c.args.context.now) (reads_in c.args.context.now c.args.levels) (uses_in c.args.context.now c.args.levels)
    c.args.part.now c.args.ty.0 c.args.bindings.now c.in-And.subpats _ c.in-And.pos (ap pattern_of c.in-And.is) c.as_slice-all.ensures)
    c.read_and.ensures.ok

pub read_node-returns-in-And-clause-err : goal.read_node-returns-in-And-clause-err
read_node-returns-in-And-clause-err t c =
    err_along c.args.context.now.rule _ _ c.read_and.result
    (node_and (known_in c.args.context.now) (reads_in c.args.context.now c.args.levels) (uses_in c.args.context.now c.args.levels)
    c.args.part.now c.args.ty.0 c.args.bindings.now c.in-And.subpats _ c.in-And.pos (ap pattern_of c.in-And.is) c.as_slice-all.ensures)
    c.read_and.ensures.err

pub read_part-returns-clause-ok : goal.read_part-returns-clause-ok
read_part-returns-clause-ok t c =
    ok_along c.args.context.now _ _ c.read_node.result _
    (part_here (known_in c.args.context.now) c.args.context.now.max_nodes c.args.levels (tree_given c.args.part.now) _ _ c.args.bindings.now _
    (omega arith) (c.count_node.ensures.counted c.if-not-count_node.false) (c.resolve.ensures.same ∙ sym (tree_out c.args.part.now)))
    c.read_node.ensures.ok

pub read_part-returns-clause-err : goal.read_part-returns-clause-err
read_part-returns-clause-err t c =
    err_along c.args.context.now.rule _ _ c.read_node.result
    (part_here (known_in c.args.context.now) c.args.context.now.max_nodes c.args.levels (tree_given c.args.part.now) _ _ c.args.bindings.now _
    (omega arith) (c.count_node.ensures.counted c.if-not-count_node.false) (c.resolve.ensures.same ∙ sym (tree_out c.args.part.now)))
    c.read_node.ensures.err

pub read_repaired-returns-clause-ok : goal.read_repaired-returns-clause-ok
read_repaired-returns-clause-ok t c =
    ok_along c.args.context.now _ _ c.read_use.result _
    (use_here (known_in c.args.context.now) c.args.context.now.max_nodes c.args.levels _ _ _ (tree_given c.args.part.now) _ _ c.args.bindings.now _
    c.in-Some.ensures c.requires (ap trees_given c.one.ensures) (omega arith) (c.count_node.ensures.counted c.if-not-count_node.false))
    c.read_use.ensures.ok

pub read_repaired-returns-clause-err : goal.read_repaired-returns-clause-err
read_repaired-returns-clause-err t c =
    err_along c.args.context.now.rule _ _ c.read_use.result
    (use_here (known_in c.args.context.now) c.args.context.now.max_nodes c.args.levels _ _ _ (tree_given c.args.part.now) _ _ c.args.bindings.now _
    c.in-Some.ensures c.requires (ap trees_given c.one.ensures) (omega arith) (c.count_node.ensures.counted c.if-not-count_node.false))
    c.read_use.ensures.err

pub read_term-returns-in_default-clause-err : goal.read_term-returns-in_default-clause-err
read_term-returns-in_default-clause-err t c =
    fails_along c.args.context.now.rule _ _ _
    (term_unknown (known_in c.args.context.now) (reads_in c.args.context.now c.args.levels) (uses_in c.args.context.now c.args.levels)
    c.args.part.now c.args.ty.0 c.args.bindings.now c.args.sym.now (patterns_of c.args.args.now) c.args.pos c.requires (sym c.in_default.ensures))
    c.undeclared.ensures

pub read_term-returns-in_default-known_term-clause-err : goal.read_term-returns-in_default-known_term-clause-err
read_term-returns-in_default-known_term-clause-err t c =
    fails_along c.args.context.now.rule _ _ _
    (number_unknown (known_in c.args.context.now) (reads_in c.args.context.now c.args.levels) (uses_in c.args.context.now c.args.levels)
    c.args.part.now c.args.ty.0 c.args.bindings.now c.args.sym.now (patterns_of c.args.args.now) c.args.pos c.in-Some.id.0 c.requires
    (sym c.in-Some.ensures) (sym c.in_default-known_term.ensures))
    c.undeclared-in_default-known_term.ensures

pub read_term-read_repaired-requires : goal.read_term-read_repaired-requires
read_term-read_repaired-requires t c =
    (omega arith, term_at c.args.part.now c.args.sym.now (patterns_of c.args.args.now) c.args.pos c.requires)

pub read_term-returns-then-ne-clause-ok : goal.read_term-returns-then-ne-clause-ok
read_term-returns-then-ne-clause-ok t c =
    ok_along c.args.context.now _ _ c.read_repaired.result _
    (term_other (known_in c.args.context.now) (reads_in c.args.context.now c.args.levels) (uses_in c.args.context.now c.args.levels)
    c.args.part.now c.args.ty.0 c.args.bindings.now c.args.sym.now (patterns_of c.args.args.now) c.args.pos c.in-Some.id.0
    (term_shown c.args.context.now.tyenv.now.names c.in-Some-known_term.term.now) c.requires (sym c.in-Some.ensures)
    (sym c.in-Some-known_term.ensures) (not_true _ _ c.ne.ensures c.if-ne.true))
    c.read_repaired.ensures.ok

pub read_term-returns-then-ne-clause-err : goal.read_term-returns-then-ne-clause-err
read_term-returns-then-ne-clause-err t c =
    err_along c.args.context.now.rule _ _ c.read_repaired.result
    (term_other (known_in c.args.context.now) (reads_in c.args.context.now c.args.levels) (uses_in c.args.context.now c.args.levels)
    c.args.part.now c.args.ty.0 c.args.bindings.now c.args.sym.now (patterns_of c.args.args.now) c.args.pos c.in-Some.id.0
    (term_shown c.args.context.now.tyenv.now.names c.in-Some-known_term.term.now) c.requires (sym c.in-Some.ensures)
    (sym c.in-Some-known_term.ensures) (not_true _ _ c.ne.ensures c.if-ne.true))
    c.read_repaired.ensures.err

pub read_term-returns-clause-ok : goal.read_term-returns-clause-ok
read_term-returns-clause-ok t c =
    ok_along c.args.context.now _ _ c.read_use.result _
    (term_same (known_in c.args.context.now) (reads_in c.args.context.now c.args.levels) (uses_in c.args.context.now c.args.levels)
    c.args.part.now c.args.ty.0 c.args.bindings.now c.args.sym.now (patterns_of c.args.args.now) (trees_given c.as_slice.result.now)
    c.args.pos c.in-Some.id.0 (term_shown c.args.context.now.tyenv.now.names c.in-Some-known_term.term.now) c.requires
    (sym c.in-Some.ensures) (sym c.in-Some-known_term.ensures) (not_false _ _ c.ne.ensures c.if-ne.false)
    (ap trees_given c.as_slice.ensures.value ∙ c.in_ok-args.ensures))
    c.read_use.ensures.ok

pub read_term-returns-clause-err : goal.read_term-returns-clause-err
read_term-returns-clause-err t c =
    err_along c.args.context.now.rule _ _ c.read_use.result
    (term_same (known_in c.args.context.now) (reads_in c.args.context.now c.args.levels) (uses_in c.args.context.now c.args.levels)
    c.args.part.now c.args.ty.0 c.args.bindings.now c.args.sym.now (patterns_of c.args.args.now) (trees_given c.as_slice.result.now)
    c.args.pos c.in-Some.id.0 (term_shown c.args.context.now.tyenv.now.names c.in-Some-known_term.term.now) c.requires
    (sym c.in-Some.ensures) (sym c.in-Some-known_term.ensures) (not_false _ _ c.ne.ensures c.if-ne.false)
    (ap trees_given c.as_slice.ensures.value ∙ c.in_ok-args.ensures))
    c.read_use.ensures.err

pub read_use-returns-then-args-as_slice-clause-err : goal.read_use-returns-then-args-as_slice-clause-err
read_use-returns-then-args-as_slice-clause-err t c =
    let here = counts c.args.args.now in
    let there = numbers_counted c.args.term.now.arg_tys in
    let slice = ap length c.as_slice.ensures in
    fails_along c.args.context.now.rule _ _ _
    (use_miscounted (known_in c.args.context.now) (reads_in c.args.context.now c.args.levels) c.args.pos c.args.id.0
    (term_shown c.args.context.now.tyenv.now.names c.args.term.now) c.args.args.now _
    (other_number _ _ (omega arith))) c.ill_count.ensures

pub read_use-returns-in_err-made-in-None-clause-err : goal.read_use-returns-in_err-made-in-None-clause-err
read_use-returns-in_err-made-in-None-clause-err t c =
    let p = err_from_is_err_and c.from_residual.result c.from_residual.ensures.1 in
    let here = counts c.args.args.now in
    let there = numbers_counted c.args.term.now.arg_tys in
    let slice = ap length c.as_slice.ensures in
    let plain = use_plain (known_in c.args.context.now) (reads_in c.args.context.now c.args.levels) c.args.pos c.args.id.0
    (term_shown c.args.context.now.tyenv.now.names c.args.term.now) c.args.args.now c.args.bindings.now
    (same_number _ _ (omega arith)) (sym (c.is_usable.ensures c.args.context.now.tyenv.now.names) ∙ c.if-not-is_usable.false) c.in-None.ensures in
    let tys = ap (λ ts. each_pattern (reads_in c.args.context.now c.args.levels) c.args.pos (trees_given c.args.args.now) (numbers_of ts)
    c.args.bindings.now) c.as_slice-in-None.ensures in
    rw (p.1, p.2) (fails_along c.args.context.now.rule _ _ _ plain (fails_then c.args.context.now.rule _ _ _
    (fails_along c.args.context.now.rule _ _ _ (sym tys) c.in_err-made-in-None.ensures.err)))

pub read_use-returns-then-lacks_argument-clause-err : goal.read_use-returns-then-lacks_argument-clause-err
read_use-returns-then-lacks_argument-clause-err t c =
    let here = counts c.args.args.now in
    let there = numbers_counted c.args.term.now.arg_tys in
    let slice = ap length c.as_slice.ensures in
    fails_along c.args.context.now.rule _ _ _
    (use_lacking (known_in c.args.context.now) (reads_in c.args.context.now c.args.levels) c.args.pos c.args.id.0
    (term_shown c.args.context.now.tyenv.now.names c.args.term.now) c.args.args.now c.args.bindings.now (pattern_of c.in-Some.template.now)
    (same_number _ _ (omega arith)) (sym (c.is_usable.ensures c.args.context.now.tyenv.now.names) ∙ c.if-not-is_usable.false) c.in-Some.ensures
    (lacks (known_in c.args.context.now) (term_shown c.args.context.now.tyenv.now.names c.args.term.now) _ _ c.in-Some.ensures
    (sym c.if-lacks_argument.true ∙ c.lacks_argument.ensures _ c.requires)))
    c.lacking.ensures

pub read_use-returns-in_ok-made-in-None-clause-ok : goal.read_use-returns-in_ok-made-in-None-clause-ok
read_use-returns-in_ok-made-in-None-clause-ok t c =
    let here = counts c.args.args.now in
    let there = numbers_counted c.args.term.now.arg_tys in
    let slice = ap length c.as_slice.ensures in
    let names = c.args.context.now.tyenv.now.names in
    let plain = use_plain (known_in c.args.context.now) (reads_in c.args.context.now c.args.levels) c.args.pos c.args.id.0
    (term_shown c.args.context.now.tyenv.now.names c.args.term.now) c.args.args.now c.args.bindings.now
    (same_number _ _ (omega arith)) (sym (c.is_usable.ensures c.args.context.now.tyenv.now.names) ∙ c.if-not-is_usable.false) c.in-None.ensures in
    let tys = ap (λ ts. each_pattern (reads_in c.args.context.now c.args.levels) c.args.pos (trees_given c.args.args.now) (numbers_of ts)
    c.args.bindings.now) c.as_slice-in-None.ensures in
    plain ∙ ap (λ o. and_then o (λ us s'. stands_for (typed_term c.args.term.now.ret_ty.0 c.args.id.0 us) s'))
    (sym tys ∙ c.in_ok-made-in-None.ensures.ok)
    ∙ ap (λ us. stands_for us c.read_each.new.bindings)
    (sym (shown_term names c.args.term.now.ret_ty c.args.id c.new.result
    ∙ ap (λ xs. typed_term c.args.term.now.ret_ty.0 c.args.id.0 (typed_list (map (typed_shown names) xs))) c.new.ensures))

pub read_use-returns-in_ok-made-in-None-clause-symbols : goal.read_use-returns-in_ok-made-in-None-clause-symbols
read_use-returns-in_ok-made-in-None-clause-symbols t c =
    use_limited c.args.term.now.ret_ty c.args.id c.new.result c.in_ok-made-in-None.made.items _ c.new.ensures c.in_ok-made-in-None.ensures.symbols

pub read_use-returns-else-lacks_argument-clause-ok : goal.read_use-returns-else-lacks_argument-clause-ok
read_use-returns-else-lacks_argument-clause-ok t c =
    let here = counts c.args.args.now in
    let there = numbers_counted c.args.term.now.arg_tys in
    let slice = ap length c.as_slice.ensures in
    ok_along c.args.context.now _ _ c.read_part.result _
    (use_template (known_in c.args.context.now) (reads_in c.args.context.now c.args.levels) c.args.pos c.args.id.0
    (term_shown c.args.context.now.tyenv.now.names c.args.term.now) c.args.args.now c.args.bindings.now (pattern_of c.in-Some.template.now) _
    (same_number _ _ (omega arith)) (sym (c.is_usable.ensures c.args.context.now.tyenv.now.names) ∙ c.if-not-is_usable.false) c.in-Some.ensures
    (suffices (known_in c.args.context.now) (term_shown c.args.context.now.tyenv.now.names c.args.term.now) _ _ c.in-Some.ensures
    (sym c.if-lacks_argument.false ∙ c.lacks_argument.ensures _ c.requires)) (tree_rolled _ _))
    c.read_part.ensures.ok

pub read_use-returns-else-lacks_argument-clause-err : goal.read_use-returns-else-lacks_argument-clause-err
read_use-returns-else-lacks_argument-clause-err t c =
    let here = counts c.args.args.now in
    let there = numbers_counted c.args.term.now.arg_tys in
    let slice = ap length c.as_slice.ensures in
    err_along c.args.context.now.rule _ _ c.read_part.result
    (use_template (known_in c.args.context.now) (reads_in c.args.context.now c.args.levels) c.args.pos c.args.id.0
    (term_shown c.args.context.now.tyenv.now.names c.args.term.now) c.args.args.now c.args.bindings.now (pattern_of c.in-Some.template.now) _
    (same_number _ _ (omega arith)) (sym (c.is_usable.ensures c.args.context.now.tyenv.now.names) ∙ c.if-not-is_usable.false) c.in-Some.ensures
    (suffices (known_in c.args.context.now) (term_shown c.args.context.now.tyenv.now.names c.args.term.now) _ _ c.in-Some.ensures
    (sym c.if-lacks_argument.false ∙ c.lacks_argument.ensures _ c.requires)) (tree_rolled _ _))
    c.read_part.ensures.err
