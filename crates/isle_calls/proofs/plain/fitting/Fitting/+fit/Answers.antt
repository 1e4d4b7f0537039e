use Rattle.std.proofs.Common.{◌≡◌, ◌↔◌, ◌≤◌, ℕ, ℤ, List, Option, Some, map, length, sym, ap, subst, ◌∙◌, IsTrue, if◌then◌else◌, arith, rules}
use Rattle.std.proofs.Common.{option_copied, slice_get}
use Rattle.std.specs.Prelude.{FitsSigned}
use Rattle.std.specs.Int.{w128}
use Rattle.std.proofs.lemmas.Int.{to_z-of_z}
use Rattle.std.proofs.lemmas.Option.{slice_get_within, slice_get-get_or}
use Rattle.std.proofs.lemmas.Result.{IfOk-weaker}
use Rattle.isle_types.specs.TypeTables.{name_at}
use Rattle.isle_rules.specs.declared.rules.Pattern.{Pattern}
use Rattle.isle_rules.specs.TypedRules.{typed_bind, typed_var, typed_bool, typed_int, typed_prim, typed_term, typed_wildcard, typed_and}
use Rattle.isle_rules.specs.Shown.ShownRules.{typed_shown, typed_list}
use Rattle.isle_rules.proofs.Steps.PatternForms.{shown_and, shown_term}
use Rattle.isle_calls.specs.declared.plain.fitting.Fitted.{Fitted}
use Rattle.isle_calls.specs.declared.plain.fitting.Fitted.TheVariants.{Fits, Leaves, IllTyped as UnfitCall}
use Rattle.isle_calls.specs.declared.store.Stored.{Stored}
use Rattle.isle_calls.specs.declared.store.Stored.TheVariants.{Bool, Int, Const}
use Rattle.isle_program.specs.Meanings.{checked}
use Rattle.isle_meaning.specs.PlainRuns.{PatternsRun, EachRuns}
use Rattle.isle_program.specs.Programs.{types_of}
use Rattle.isle_calls.specs.Stores.Values.{Stands}
use Rattle.isle_calls.specs.Calls.Answers.{answers_in}
use Rattle.isle_calls.specs.Inside.Plain.Fitting.{TellsFit, all_shown_in, FitTold, FitAllTold, OpensInto}
use Rattle.isle_calls.proofs.PlainRoad.Patterns.Forms.{shown_bind, shown_var, shown_bool, shown_int, shown_prim, shown_wildcard}
use Rattle.isle_calls.proofs.PlainRoad.Patterns.Reads.{reads_wildcard, reads_var, reads_bool, reads_int, reads_prim}
use Rattle.isle_calls.proofs.PlainRoad.Patterns.Reads.{reads_bound, reads_unbound, reads_and, reads_opened}
use Rattle.isle_calls.proofs.PlainRoad.Patterns.Lists.{all_next, all_left_at, all_short, all_past, each_next, each_left_at, each_past}
use Rattle.isle_calls.proofs.Stores.Values.{extends_same, extends_again}
use Rattle.isle_calls.proofs.plain.fitting.Fitting.+fit.Goals as goal

pub fit-returns-in-Wildcard-clause-fitted : goal.fit-returns-in-Wildcard-clause-fitted
fit-returns-in-Wildcard-clause-fitted g t c =
    let program = c.args.self.now.program.now in
    let w = answers_in program (g.W.World.constructs c.args.self.now.world.now) (g.W.World.extracts c.args.self.now.world.now) in
    let names = (types_of program).names in
    let stored = c.args.store.now in
    let variables = c.args.variables.now in
    let shown : typed_shown names c.args.pattern.now ≡ typed_wildcard c.in-Wildcard.field-0.0 =
    ap (typed_shown names) c.in-Wildcard.is ∙ shown_wildcard names c.in-Wildcard.field-0 in
    subst (FitTold program w stored stored variables variables c.args.number Fits) (sym shown)
    (reads_wildcard program w stored variables c.in-Wildcard.field-0.0 c.args.number)

pub fit-returns-in-Var-clause-fitted : goal.fit-returns-in-Var-clause-fitted
fit-returns-in-Var-clause-fitted g t c =
    let program = c.args.self.now.program.now in
    let w = answers_in program (g.W.World.constructs c.args.self.now.world.now) (g.W.World.extracts c.args.self.now.world.now) in
    let names = (types_of program).names in
    let stored = c.args.store.now in
    let variables = c.args.variables.now in
    let shown : typed_shown names c.args.pattern.now ≡ typed_var c.in-Var.field-0.0 c.in-Var.var.0 = ap (typed_shown names) c.in-Var.is
    ∙ shown_var names c.in-Var.field-0 c.in-Var.var in
    let told = reads_var program w stored variables c.in-Var.field-0.0 c.args.number c.in-Var.var.0 c.is_same.result
    (λ v x s r. c.is_same.ensures v x (subst (Stands stored v) (sym c.get-in-Var.ensures) s) r) in
    subst (λ (f : Fitted). FitTold program w stored stored variables variables c.args.number f (typed_shown names c.args.pattern.now))
    (sym c.if_fits.ensures)
    (subst (FitTold program w stored stored variables variables c.args.number (if c.is_same.result then Fits else Leaves)) (sym shown) told)

pub fit-returns-in-ConstBool-clause-fitted : goal.fit-returns-in-ConstBool-clause-fitted
fit-returns-in-ConstBool-clause-fitted g t c =
    let program = c.args.self.now.program.now in
    let w = answers_in program (g.W.World.constructs c.args.self.now.world.now) (g.W.World.extracts c.args.self.now.world.now) in
    let names = (types_of program).names in
    let stored = c.args.store.now in
    let variables = c.args.variables.now in
    let shown : typed_shown names c.args.pattern.now ≡ typed_bool c.in-ConstBool.field-0.0 c.in-ConstBool.val = ap (typed_shown names)
    c.in-ConstBool.is ∙ shown_bool names c.in-ConstBool.field-0 c.in-ConstBool.val in
    let decided = subst (λ (o : Option Stored). IsTrue c.is_bool.result ↔ (o ≡ Some (Bool c.in-ConstBool.val)))
    c.get-in-ConstBool.ensures c.is_bool.ensures in
    let told = reads_bool program w stored variables c.in-ConstBool.field-0.0 c.args.number c.in-ConstBool.val c.is_bool.result decided in
    subst (λ (f : Fitted). FitTold program w stored stored variables variables c.args.number f (typed_shown names c.args.pattern.now))
    (sym c.if_fits-in-ConstBool.ensures)
    (subst (FitTold program w stored stored variables variables c.args.number (if c.is_bool.result then Fits else Leaves)) (sym shown) told)

pub fit-returns-in-ConstInt-clause-fitted : goal.fit-returns-in-ConstInt-clause-fitted
fit-returns-in-ConstInt-clause-fitted g t c =
    let program = c.args.self.now.program.now in
    let w = answers_in program (g.W.World.constructs c.args.self.now.world.now) (g.W.World.extracts c.args.self.now.world.now) in
    let names = (types_of program).names in
    let stored = c.args.store.now in
    let variables = c.args.variables.now in
    let shown : typed_shown names c.args.pattern.now ≡ typed_int c.in-ConstInt.field-0.0 c.in-ConstInt.val = ap (typed_shown names)
    c.in-ConstInt.is ∙ shown_int names c.in-ConstInt.field-0 c.in-ConstInt.val in
    let fits : FitsSigned w128 c.in-ConstInt.val = search rules in
    let tested = subst (λ (z : ℤ). IsTrue c.is_int.result ↔ (option_copied c.get-in-ConstInt.result ≡ Some (Int z)))
    (to_z-of_z w128 c.in-ConstInt.val fits) c.is_int.ensures in
    let decided = subst (λ (o : Option Stored). IsTrue c.is_int.result ↔ (o ≡ Some (Int c.in-ConstInt.val))) c.get-in-ConstInt.ensures
    tested in
    let told = reads_int program w stored variables c.in-ConstInt.field-0.0 c.args.number c.in-ConstInt.val c.is_int.result decided in
    subst (λ (f : Fitted). FitTold program w stored stored variables variables c.args.number f (typed_shown names c.args.pattern.now))
    (sym c.if_fits-in-ConstInt.ensures)
    (subst (FitTold program w stored stored variables variables c.args.number (if c.is_int.result then Fits else Leaves)) (sym shown) told)

pub fit-returns-in-ConstPrim-clause-fitted : goal.fit-returns-in-ConstPrim-clause-fitted
fit-returns-in-ConstPrim-clause-fitted g t c =
    let program = c.args.self.now.program.now in
    let w = answers_in program (g.W.World.constructs c.args.self.now.world.now) (g.W.World.extracts c.args.self.now.world.now) in
    let names = (types_of program).names in
    let stored = c.args.store.now in
    let variables = c.args.variables.now in
    let shown : typed_shown names c.args.pattern.now ≡ typed_prim c.in-ConstPrim.field-0.0 (name_at names c.in-ConstPrim.name) = ap
    (typed_shown names) c.in-ConstPrim.is ∙ shown_prim names c.in-ConstPrim.field-0 c.in-ConstPrim.name in
    let decided = subst (λ (o : Option Stored). IsTrue c.is_const.result ↔ (o ≡ Some (Const (name_at names c.in-ConstPrim.name))))
    c.get-in-ConstPrim.ensures c.is_const.ensures in
    let told = reads_prim program w stored variables c.in-ConstPrim.field-0.0 c.args.number (name_at names c.in-ConstPrim.name)
    c.is_const.result decided in
    subst (λ (f : Fitted). FitTold program w stored stored variables variables c.args.number f (typed_shown names c.args.pattern.now))
    (sym c.if_fits-in-ConstPrim.ensures)
    (subst (FitTold program w stored stored variables variables c.args.number (if c.is_const.result then Fits else Leaves)) (sym shown)
    told)

pub fit-returns-in-Term-clause-fitted : goal.fit-returns-in-Term-clause-fitted
fit-returns-in-Term-clause-fitted g t c =
    let program = c.args.self.now.program.now in
    let w = answers_in program (g.W.World.constructs c.args.self.now.world.now) (g.W.World.extracts c.args.self.now.world.now) in
    let names = (types_of program).names in
    let shown : typed_shown names c.args.pattern.now
    ≡ typed_term c.in-Term.ty.0 c.in-Term.term.0 (typed_list (map (typed_shown names) c.as_slice.result.now)) =
    ap (typed_shown names) c.in-Term.is ∙ shown_term names c.in-Term.ty c.in-Term.term c.in-Term.args
    ∙ ap (λ (l : List Pattern). typed_term c.in-Term.ty.0 c.in-Term.term.0 (typed_list (map (typed_shown names) l)))
    (sym c.as_slice.ensures) in
    IfOk-weaker c.open.result _ _ (λ fitted told.
    subst (FitTold program w c.args.store.now c.open.new.store c.args.variables.now c.open.new.variables c.args.number fitted) (sym shown)
    told) c.open.ensures.fitted

pub fit-returns-in-And-clause-fitted : goal.fit-returns-in-And-clause-fitted
fit-returns-in-And-clause-fitted g t c =
    let program = c.args.self.now.program.now in
    let w = answers_in program (g.W.World.constructs c.args.self.now.world.now) (g.W.World.extracts c.args.self.now.world.now) in
    let names = (types_of program).names in
    let ty = c.in-And.field-0 in
    let qs = all_shown_in program c.as_slice-in-And.result.now in
    let shown : typed_shown names c.args.pattern.now ≡ typed_and ty.0 qs =
    ap (typed_shown names) c.in-And.is ∙ shown_and names ty c.in-And.below
    ∙ ap (λ (l : List Pattern). typed_and ty.0 (typed_list (map (typed_shown names) l))) (sym c.as_slice-in-And.ensures) in
    IfOk-weaker c.fit_each.result _ _ (λ fitted told.
    subst (FitTold program w c.args.store.now c.fit_each.new.store c.args.variables.now c.fit_each.new.variables c.args.number fitted)
    (sym shown)
    (reads_and program w c.args.store.now c.fit_each.new.store c.args.variables.now c.fit_each.new.variables ty.0 c.args.number qs fitted
    told)) c.fit_each.ensures.fitted

pub fit-returns-in-BindPattern-clause-fitted : goal.fit-returns-in-BindPattern-clause-fitted
fit-returns-in-BindPattern-clause-fitted g t c =
    let program = c.args.self.now.program.now in
    let w = answers_in program (g.W.World.constructs c.args.self.now.world.now) (g.W.World.extracts c.args.self.now.world.now) in
    let names = (types_of program).names in
    let ty = c.in-BindPattern.field-0 in
    let var = c.in-BindPattern.var in
    let q = typed_shown names c.get.result.now in
    let shown : typed_shown names c.args.pattern.now ≡ typed_bind ty.0 var.0 q =
    ap (typed_shown names) c.in-BindPattern.is ∙ shown_bind names ty var c.in-BindPattern.below
    ∙ ap (λ (x : Pattern). typed_bind ty.0 var.0 (typed_shown names x)) (sym c.get.ensures) in
    IfOk-weaker c.bind.result _ _ (λ fitted told.
    subst (FitTold program w c.args.store.now c.bind.new.store c.args.variables.now c.bind.new.variables c.args.number fitted) (sym shown)
    (told ty.0)) c.bind.ensures.fitted

pub bind-returns-in_ok-set-in-Fits-clause-fitted : goal.bind-returns-in_ok-set-in-Fits-clause-fitted
bind-returns-in_ok-set-in-Fits-clause-fitted g t c =
    let program = c.args.self.now.program.now in
    let w = answers_in program (g.W.World.constructs c.args.self.now.world.now) (g.W.World.extracts c.args.self.now.world.now) in
    let names = (types_of program).names in
    let q = typed_shown names c.args.below.now in
    let old = c.args.store.now in
    let new = c.fit.new.store in
    let before = c.args.variables.now in
    let after = c.fit.new.variables in
    let told = subst (λ (f : Fitted). FitTold program w old new before after c.args.number f q) c.in-Fits.is c.in_ok-fit.ensures.fitted in
    λ ty. reads_bound program w old new before after ty c.args.number c.args.var.0 q c.set.new.self c.fit.ensures.kept
    c.in_ok-set-in-Fits.ensures told

pub bind-returns-in-Leaves-clause-fitted : goal.bind-returns-in-Leaves-clause-fitted
bind-returns-in-Leaves-clause-fitted g t c =
    let program = c.args.self.now.program.now in
    let w = answers_in program (g.W.World.constructs c.args.self.now.world.now) (g.W.World.extracts c.args.self.now.world.now) in
    let names = (types_of program).names in
    let q = typed_shown names c.args.below.now in
    let old = c.args.store.now in
    let new = c.fit.new.store in
    let before = c.args.variables.now in
    let after = c.fit.new.variables in
    let told = subst (λ (f : Fitted). FitTold program w old new before after c.args.number f q) c.in-Leaves.is c.in_ok-fit.ensures.fitted in
    λ ty. reads_unbound program w old new before after ty c.args.number c.args.var.0 q Leaves (λ (e : Leaves ≡ Fits). cc) told

pub bind-returns-in-IllTyped-clause-fitted : goal.bind-returns-in-IllTyped-clause-fitted
bind-returns-in-IllTyped-clause-fitted g t c =
    let program = c.args.self.now.program.now in
    let w = answers_in program (g.W.World.constructs c.args.self.now.world.now) (g.W.World.extracts c.args.self.now.world.now) in
    let names = (types_of program).names in
    let q = typed_shown names c.args.below.now in
    let old = c.args.store.now in
    let new = c.fit.new.store in
    let before = c.args.variables.now in
    let after = c.fit.new.variables in
    let last = UnfitCall c.in-IllTyped.term c.in-IllTyped.args in
    let told = subst (λ (f : Fitted). FitTold program w old new before after c.args.number f q) c.in-IllTyped.is c.in_ok-fit.ensures.fitted
    in
    λ ty. reads_unbound program w old new before after ty c.args.number c.args.var.0 q last (λ (e : last ≡ Fits). cc) told

pub open-returns-in-Gives-clause-fitted : goal.open-returns-in-Gives-clause-fitted
open-returns-in-Gives-clause-fitted g t c =
    let program = c.args.self.now.program.now in
    let w = answers_in program (g.W.World.constructs c.args.self.now.world.now) (g.W.World.extracts c.args.self.now.world.now) in
    let names = (types_of program).names in
    let qs = all_shown_in program c.args.args.now in
    let old = c.args.store.now in
    let mid = c.opened.new.store in
    let ns = c.in-Gives.numbers in
    let opened = subst (OpensInto program w old mid c.args.ty.0 c.args.term.0 c.args.number) c.in-Gives.is c.in_ok-numbers.ensures.opened
    in
    IfOk-weaker c.fit_all.result _ _ (λ fitted told.
    reads_opened program w old c.fit_all.new.store c.args.variables.now c.fit_all.new.variables c.args.ty.0 c.args.number mid
    c.args.term.0 qs ns
    fitted c.opened.ensures.kept opened
    (subst (λ (l : List ℕ). FitAllTold program w mid c.fit_all.new.store c.args.variables.now c.fit_all.new.variables l fitted qs)
    c.as_slice.ensures.value told)) c.fit_all.ensures.fitted

pub fit_all-loop-i-init : goal.fit_all-loop-i-init
fit_all-loop-i-init g t c = record {
  told = λ vs a types us typed of stand hold. record {
    values = vs;
    held = a;
    us = us;
    typed = typed;
    of = of;
    stand = stand;
    hold = hold;
    runs = λ r run. run;
  };
  kept = extends_same c.args.store.now;
  within = omega arith;
}

pub fit_all-loop-i-preserved : goal.fit_all-loop-i-preserved
fit_all-loop-i-preserved g t c =
    let program = c.args.self.now.program.now in
    let w = answers_in program (g.W.World.constructs c.args.self.now.world.now) (g.W.World.extracts c.args.self.now.world.now) in
    let names = (types_of program).names in
    let number = c.in-Some.number.now in
    let at : slice_get c.args.numbers.now c.loop-i.i ≡ Some number =
    slice_get-get_or c.args.numbers.now c.loop-i.i number c.in-Some.ensures.lookup.3.0 ∙ ap Some (sym c.in-Some.ensures.lookup.1) in
    let within = slice_get_within c.args.numbers.now c.loop-i.i number at in
    record {
      told = λ vs a types us typed of stand hold.
          all_next program w types (PatternsRun (checked program) w a (all_shown_in program c.args.patterns.now) vs) c.args.patterns.now
          c.args.numbers.now
          c.loop-i.store c.fit.new.store c.loop-i.variables c.fit.new.variables c.loop-i.i c.index-patterns-i.result number
          c.in_ok-fit.field-0 c.loop-i-test.true c.index-patterns-i.is at c.fit.ensures.kept c.in_ok-fit.ensures.fitted
          (c.loop-i.invariant.told vs a types us typed of stand hold) c.in-Fits.is;
      kept = extends_again c.loop-i.invariant.kept c.fit.ensures.kept;
      within = omega (arith, within);
    }

pub fit_all-returns-in_default-clause-fitted : goal.fit_all-returns-in_default-clause-fitted
fit_all-returns-in_default-clause-fitted g t c =
    let program = c.args.self.now.program.now in
    let w = answers_in program (g.W.World.constructs c.args.self.now.world.now) (g.W.World.extracts c.args.self.now.world.now) in
    let names = (types_of program).names in
    λ vs a types us typed of stand hold.
    all_short program w types (PatternsRun (checked program) w a (all_shown_in program c.args.patterns.now) vs)
    c.args.patterns.now c.args.numbers.now c.loop-i.store c.loop-i.variables c.loop-i.i c.loop-i-test.true c.in_default.ensures.lookup.3
    (c.loop-i.invariant.told vs a types us typed of stand hold)

pub fit_all-returns-in-Leaves-clause-fitted : goal.fit_all-returns-in-Leaves-clause-fitted
fit_all-returns-in-Leaves-clause-fitted g t c =
    let program = c.args.self.now.program.now in
    let w = answers_in program (g.W.World.constructs c.args.self.now.world.now) (g.W.World.extracts c.args.self.now.world.now) in
    let names = (types_of program).names in
    let number = c.in-Some.number.now in
    let at : slice_get c.args.numbers.now c.loop-i.i ≡ Some number =
    slice_get-get_or c.args.numbers.now c.loop-i.i number c.in-Some.ensures.lookup.3.0 ∙ ap Some (sym c.in-Some.ensures.lookup.1) in
    λ vs a types us typed of stand hold.
    all_left_at program w types (PatternsRun (checked program) w a (all_shown_in program c.args.patterns.now) vs)
    c.args.patterns.now c.args.numbers.now
    c.loop-i.store c.fit.new.store c.loop-i.variables c.fit.new.variables c.loop-i.i c.index-patterns-i.result number
    c.in_ok-fit.field-0 Leaves c.loop-i-test.true c.index-patterns-i.is at c.fit.ensures.kept c.in_ok-fit.ensures.fitted
    (c.loop-i.invariant.told vs a types us typed of stand hold) c.in-Leaves.is (λ (e : Leaves ≡ Fits). cc)

pub fit_all-returns-in-IllTyped-clause-fitted : goal.fit_all-returns-in-IllTyped-clause-fitted
fit_all-returns-in-IllTyped-clause-fitted g t c =
    let program = c.args.self.now.program.now in
    let w = answers_in program (g.W.World.constructs c.args.self.now.world.now) (g.W.World.extracts c.args.self.now.world.now) in
    let names = (types_of program).names in
    let number = c.in-Some.number.now in
    let at : slice_get c.args.numbers.now c.loop-i.i ≡ Some number =
    slice_get-get_or c.args.numbers.now c.loop-i.i number c.in-Some.ensures.lookup.3.0 ∙ ap Some (sym c.in-Some.ensures.lookup.1) in
    λ vs a types us typed of stand hold.
    all_left_at program w types (PatternsRun (checked program) w a (all_shown_in program c.args.patterns.now) vs)
    c.args.patterns.now c.args.numbers.now
    c.loop-i.store c.fit.new.store c.loop-i.variables c.fit.new.variables c.loop-i.i c.index-patterns-i.result number
    c.in_ok-fit.field-0 (UnfitCall c.in-IllTyped.term c.in-IllTyped.args) c.loop-i-test.true c.index-patterns-i.is at c.fit.ensures.kept
    c.in_ok-fit.ensures.fitted (c.loop-i.invariant.told vs a types us typed of stand hold) c.in-IllTyped.is
    (λ (e : (UnfitCall c.in-IllTyped.term c.in-IllTyped.args) ≡ Fits). cc)

pub fit_all-returns-clause-fitted : goal.fit_all-returns-clause-fitted
fit_all-returns-clause-fitted g t c =
    let program = c.args.self.now.program.now in
    let w = answers_in program (g.W.World.constructs c.args.self.now.world.now) (g.W.World.extracts c.args.self.now.world.now) in
    let names = (types_of program).names in
    let ended : c.loop-i.i ≡ length c.args.patterns.now = omega arith in
    λ vs a types us typed of stand hold.
    subst (TellsFit (checked program) c.loop-i.store c.loop-i.variables (PatternsRun (checked program) w a
    (all_shown_in program c.args.patterns.now) vs)) (sym c.if_fits.ensures)
    (all_past program w types (PatternsRun (checked program) w a (all_shown_in program c.args.patterns.now) vs)
    c.args.patterns.now c.args.numbers.now
    c.loop-i.store c.loop-i.variables c.loop-i.i ended c.loop-i.invariant.within (c.loop-i.invariant.told vs a types us typed of
    stand hold))

pub fit_each-loop-pattern-init : goal.fit_each-loop-pattern-init
fit_each-loop-pattern-init g t c = record {
  told = λ v a types u typed of stands hold. record {
    held = a;
    typed = typed;
    stands = stands;
    hold = hold;
    runs = λ r run. run;
  };
  kept = extends_same c.args.store.now;
}

pub fit_each-loop-pattern-preserved : goal.fit_each-loop-pattern-preserved
fit_each-loop-pattern-preserved g t c =
    let program = c.args.self.now.program.now in
    let w = answers_in program (g.W.World.constructs c.args.self.now.world.now) (g.W.World.extracts c.args.self.now.world.now) in
    let names = (types_of program).names in
    record {
      told = λ v a types u typed of stands hold.
          each_next program w types (EachRuns (checked program) w a (all_shown_in program c.args.patterns.now) v) c.args.patterns.now
          v u c.args.number c.loop-pattern.store c.fit.new.store c.loop-pattern.variables c.fit.new.variables c.loop-pattern.pattern-index
          c.pattern-item.result
          c.in_ok-fit.field-0 of c.loop-pattern-test.true c.pattern-item.is c.fit.ensures.kept c.in_ok-fit.ensures.fitted
          (c.loop-pattern.invariant.told v a types u typed of stands hold) c.in-Fits.is;
      kept = extends_again c.loop-pattern.invariant.kept c.fit.ensures.kept;
    }

pub fit_each-returns-in-Leaves-clause-fitted : goal.fit_each-returns-in-Leaves-clause-fitted
fit_each-returns-in-Leaves-clause-fitted g t c =
    let program = c.args.self.now.program.now in
    let w = answers_in program (g.W.World.constructs c.args.self.now.world.now) (g.W.World.extracts c.args.self.now.world.now) in
    let names = (types_of program).names in
    λ v a types u typed of stands hold.
    each_left_at program w types (EachRuns (checked program) w a (all_shown_in program c.args.patterns.now) v)
    c.args.patterns.now v u c.args.number
    c.loop-pattern.store c.fit.new.store c.loop-pattern.variables c.fit.new.variables c.loop-pattern.pattern-index c.pattern-item.result
    c.in_ok-fit.field-0 Leaves of c.loop-pattern-test.true c.pattern-item.is c.fit.ensures.kept c.in_ok-fit.ensures.fitted
    (c.loop-pattern.invariant.told v a types u typed of stands hold) c.in-Leaves.is (λ (e : Leaves ≡ Fits). cc)

pub fit_each-returns-in-IllTyped-clause-fitted : goal.fit_each-returns-in-IllTyped-clause-fitted
fit_each-returns-in-IllTyped-clause-fitted g t c =
    let program = c.args.self.now.program.now in
    let w = answers_in program (g.W.World.constructs c.args.self.now.world.now) (g.W.World.extracts c.args.self.now.world.now) in
    let names = (types_of program).names in
    λ v a types u typed of stands hold.
    each_left_at program w types (EachRuns (checked program) w a (all_shown_in program c.args.patterns.now) v)
    c.args.patterns.now v u c.args.number
    c.loop-pattern.store c.fit.new.store c.loop-pattern.variables c.fit.new.variables c.loop-pattern.pattern-index c.pattern-item.result
    c.in_ok-fit.field-0 (UnfitCall c.in-IllTyped.term c.in-IllTyped.args) of c.loop-pattern-test.true c.pattern-item.is
    c.fit.ensures.kept c.in_ok-fit.ensures.fitted (c.loop-pattern.invariant.told v a types u typed of stands hold) c.in-IllTyped.is
    (λ (e : (UnfitCall c.in-IllTyped.term c.in-IllTyped.args) ≡ Fits). cc)

pub fit_each-returns-clause-fitted : goal.fit_each-returns-clause-fitted
fit_each-returns-clause-fitted g t c =
    let program = c.args.self.now.program.now in
    let w = answers_in program (g.W.World.constructs c.args.self.now.world.now) (g.W.World.extracts c.args.self.now.world.now) in
    let names = (types_of program).names in
    let past : length c.args.patterns.now ≤ c.loop-pattern.pattern-index = omega arith in
    λ v a types u typed of stands hold.
    each_past program w types (EachRuns (checked program) w a (all_shown_in program c.args.patterns.now) v)
    c.args.patterns.now v u c.args.number
    c.loop-pattern.store c.loop-pattern.variables c.loop-pattern.pattern-index past (c.loop-pattern.invariant.told v a types u
    typed of stands hold)
