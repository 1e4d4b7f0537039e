use Rattle.std.proofs.Common.{◌≡◌, ◌+◌, ℕ, List, [], ◌∷◌, ◌++◌, Option, Some, ℤ, rules, take, sym, ap, ◌∙◌, subst, arith}
use Rattle.std.specs.Int.{w128}
use Rattle.std.proofs.lemmas.Int.{to_z-of_z}
use Rattle.std.proofs.lemmas.List.{take_all}
use Rattle.std.proofs.lemmas.Result.{IfOk-weaker}
use Rattle.isle_types.proofs.DefinitionTurns.{take_here}
use Rattle.isle_types.specs.declared.ids.TypeId.{TypeId}
use Rattle.isle_types.specs.declared.ids.VarId.{VarId}
use Rattle.isle_rules.specs.declared.rules.Expr.{Expr}
use Rattle.isle_program.specs.Inside.Plain.LaidOut.Expressions.{stands_for, StandForTheSame, IsPut, LaysExpr, LaysExprs, LaysBindings, LaysTerm}
use Rattle.isle_program.specs.declared.laid.Part.TheVariants.{Int}
use Rattle.isle_program.proofs.Plain.LaidOut.Bound.{set_same, restores_turn}
use Rattle.isle_program.proofs.Plain.LaidOut.Exprs.{lays_var, lays_bool, lays_int, lays_prim}
use Rattle.isle_program.proofs.Plain.LaidOut.Exprs.{lays_term, lays_more, lays_binding, same_behind, lays_let}
use Rattle.isle_program.proofs.laid.Layout.+lay.Goals as goal

pub enter-loop-binding-preserved : goal.enter-loop-binding-preserved
enter-loop-binding-preserved t c =
    let env = c.args.termenv.now in
    let i = c.loop-binding.binding-index in
    let binding = c.binding-item.result in
    let number = c.in_ok-number.number in
    let f : ℕ → Option ℕ = stands_for c.loop-binding.self.bound.items in
    let g : ℕ → Option ℕ = stands_for c.bind.new.self.bound.items in
    let same = c.in_ok-number.ensures.same in
    let binds = c.in_ok-bind.ensures.bound in
    let part : c.part_of-before.result ≡ f binding.0.0 = c.part_of-before.ensures ∙ same.each binding.0.0 in
    let pushed = c.in_ok-push.ensures.items ∙ ap (λ (before : Option ℕ). c.loop-binding.hidden.items ++ (binding.0, before) ∷ []) part in
    let body : LaysExpr env binding.2 c.loop-binding.self c.lay.new.self number =
    subst (λ (expr : Expr). LaysExpr env expr c.loop-binding.self c.lay.new.self number) c.get.ensures c.in_ok-number.ensures.laid in
    record {
      before = record {
        each = λ k. c.loop-binding.invariant.before.each k
            ∙ sym (restores_turn c.push.new.self.items c.loop-binding.hidden.items binding.0 (Some number) f g pushed
            (λ j. binds.each j ∙ set_same (stands_for c.lay.new.self.bound.items) f binding.0.0 (Some number) j (same.each j)) k);
      };
      laid = subst (λ (bindings : List (VarId × TypeId × Expr)). LaysBindings env bindings c.args.self.now c.bind.new.self)
          (sym (take_here c.args.bindings.now i binding (omega arith) c.binding-item.is))
          (lays_binding env (take i c.args.bindings.now) binding c.args.self.now c.loop-binding.self c.lay.new.self c.bind.new.self number
          c.loop-binding.invariant.laid body c.bind.ensures.parts c.bind.ensures.calls binds);
    }

pub enter-returns-clause-laid : goal.enter-returns-clause-laid
enter-returns-clause-laid t c =
    subst (λ (bindings : List (VarId × TypeId × Expr)). LaysBindings c.args.termenv.now bindings c.args.self.now c.loop-binding.self)
    (take_all c.loop-binding.binding-index c.args.bindings.now (omega arith)) c.loop-binding.invariant.laid

pub lay-returns-in-None-clause-laid : goal.lay-returns-in-None-clause-laid
lay-returns-in-None-clause-laid t c = IfOk-weaker c.put.result _ _
    (λ number p. subst (λ (expr : Expr). LaysExpr c.args.termenv.now expr c.args.self.now c.put.new.self number) (sym c.in-Var.is)
    (lays_var c.args.termenv.now c.in-Var.field-0 c.in-Var.var c.args.self.now c.put.new.self number (sym c.in-None.ensures) p
    c.put.ensures.bound))
    c.put.ensures.put

pub lay-returns-in-ConstBool-clause-laid : goal.lay-returns-in-ConstBool-clause-laid
lay-returns-in-ConstBool-clause-laid t c = IfOk-weaker c.put-in-ConstBool.result _ _
    (λ number p. subst (λ (expr : Expr). LaysExpr c.args.termenv.now expr c.args.self.now c.put-in-ConstBool.new.self number)
    (sym c.in-ConstBool.is)
    (lays_bool c.args.termenv.now c.in-ConstBool.field-0 c.in-ConstBool.val c.args.self.now c.put-in-ConstBool.new.self number p
    c.put-in-ConstBool.ensures.bound))
    c.put-in-ConstBool.ensures.put

pub lay-returns-in-ConstInt-clause-laid : goal.lay-returns-in-ConstInt-clause-laid
lay-returns-in-ConstInt-clause-laid t c = IfOk-weaker c.put-in-ConstInt.result _ _
    (λ number p. subst (λ (expr : Expr). LaysExpr c.args.termenv.now expr c.args.self.now c.put-in-ConstInt.new.self number)
    (sym c.in-ConstInt.is)
    (lays_int c.args.termenv.now c.in-ConstInt.field-0 c.in-ConstInt.val c.args.self.now c.put-in-ConstInt.new.self number
    (subst (λ (z : ℤ). IsPut (Int z) c.args.self.now c.put-in-ConstInt.new.self number)
    (to_z-of_z w128 c.in-ConstInt.val (search rules)) p)
    c.put-in-ConstInt.ensures.bound))
    c.put-in-ConstInt.ensures.put

pub lay-returns-in-ConstPrim-clause-laid : goal.lay-returns-in-ConstPrim-clause-laid
lay-returns-in-ConstPrim-clause-laid t c = IfOk-weaker c.put-in-ConstPrim.result _ _
    (λ number p. subst (λ (expr : Expr). LaysExpr c.args.termenv.now expr c.args.self.now c.put-in-ConstPrim.new.self number)
    (sym c.in-ConstPrim.is)
    (lays_prim c.args.termenv.now c.in-ConstPrim.field-0 c.in-ConstPrim.name c.args.self.now c.put-in-ConstPrim.new.self number p
    c.put-in-ConstPrim.ensures.bound))
    c.put-in-ConstPrim.ensures.put

pub lay-returns-in_ok-numbers-in-Term-clause-laid : goal.lay-returns-in_ok-numbers-in-Term-clause-laid
lay-returns-in_ok-numbers-in-Term-clause-laid t c =
    let env = c.args.termenv.now in
    let numbers = c.in_ok-numbers-in-Term.numbers.items in
    let args : LaysExprs env c.in-Term.args c.args.self.now c.lay_all.new.self numbers =
    subst (λ (exprs : List Expr). LaysExprs env exprs c.args.self.now c.lay_all.new.self numbers) c.as_slice.ensures
    c.in_ok-numbers-in-Term.ensures.laid in
    IfOk-weaker c.apply.result _ _
    (λ number h.
    let applied : LaysTerm env c.in-Term.ty c.in-Term.term numbers c.lay_all.new.self c.apply.new.self number =
    subst (λ (ns : List ℕ). LaysTerm env c.in-Term.ty c.in-Term.term ns c.lay_all.new.self c.apply.new.self number) c.new.ensures h in
    subst (λ (expr : Expr). LaysExpr env expr c.args.self.now c.apply.new.self number) (sym c.in-Term.is)
    (lays_term env c.in-Term.ty c.in-Term.term c.in-Term.args c.args.self.now c.lay_all.new.self c.apply.new.self numbers number args
    applied))
    c.apply.ensures.laid

pub lay-returns-in_ok-leave-in-Let-clause-laid : goal.lay-returns-in_ok-leave-in-Let-clause-laid
lay-returns-in_ok-leave-in-Let-clause-laid t c =
    let env = c.args.termenv.now in
    let number = c.in_ok-number-in-Let.number in
    let same : StandForTheSame c.args.self.now c.leave.new.self =
    same_behind c.in_ok-hidden-in-Let.hidden.items c.args.self.now c.enter.new.self c.lay.new.self c.leave.new.self
    c.in_ok-hidden-in-Let.ensures.before c.in_ok-number-in-Let.ensures.same c.in_ok-leave-in-Let.ensures.before in
    let values : LaysBindings env c.in-Let.bindings c.args.self.now c.enter.new.self =
    subst (λ (bindings : List (VarId × TypeId × Expr)). LaysBindings env bindings c.args.self.now c.enter.new.self)
    c.as_slice-in-Let.ensures c.in_ok-hidden-in-Let.ensures.laid in
    let body : LaysExpr env c.in-Let.body c.enter.new.self c.lay.new.self number =
    subst (λ (expr : Expr). LaysExpr env expr c.enter.new.self c.lay.new.self number) c.get.ensures c.in_ok-number-in-Let.ensures.laid in
    subst (λ (expr : Expr). LaysExpr env expr c.args.self.now c.leave.new.self number) (sym c.in-Let.is)
    (lays_let env c.in-Let.ty c.in-Let.bindings c.in-Let.body c.args.self.now c.enter.new.self c.lay.new.self c.leave.new.self number values
    body c.leave.ensures.parts c.leave.ensures.calls same)

pub lay_all-loop-expr-preserved : goal.lay_all-loop-expr-preserved
lay_all-loop-expr-preserved t c =
    let env = c.args.termenv.now in
    let i = c.loop-expr.expr-index in
    let expr = c.expr-item.result in
    let number = c.in_ok-number.number in
    let numbers : List ℕ = c.loop-expr.numbers.items ++ number ∷ [] in
    record {
      same = record { each = λ k. c.in_ok-number.ensures.same.each k ∙ c.loop-expr.invariant.same.each k };
      laid = subst (λ (ns : List ℕ). LaysExprs env (take (i + 1) c.args.exprs.now) c.args.self.now c.lay.new.self ns)
          (sym c.in_ok-push.ensures.items)
          (subst (λ (exprs : List Expr). LaysExprs env exprs c.args.self.now c.lay.new.self numbers)
          (sym (take_here c.args.exprs.now i expr (omega arith) c.expr-item.is))
          (lays_more env (take i c.args.exprs.now) expr c.args.self.now c.loop-expr.self c.lay.new.self c.loop-expr.numbers.items number
          c.loop-expr.invariant.laid c.in_ok-number.ensures.laid));
    }

pub lay_all-returns-clause-laid : goal.lay_all-returns-clause-laid
lay_all-returns-clause-laid t c =
    subst (λ (exprs : List Expr). LaysExprs c.args.termenv.now exprs c.args.self.now c.loop-expr.self c.loop-expr.numbers.items)
    (take_all c.loop-expr.expr-index c.args.exprs.now (omega arith)) c.loop-expr.invariant.laid
