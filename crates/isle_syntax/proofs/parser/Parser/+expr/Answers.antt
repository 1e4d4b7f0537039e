use Rattle.std.proofs.Common.{[], ◌∷◌, ◌-◌, map, length, refl, sym, ap, ◌∙◌, arith}
use Rattle.std.proofs.lemmas.List.{map-append}
use Rattle.std.proofs.lemmas.Result.{err_from_is_err_and}
use Rattle.isle_syntax.specs.declared.kind.Kind.TheVariants.{Open}
use Rattle.isle_syntax.specs.Tokens.Names.{is_ident}
use Rattle.isle_syntax.specs.Inside.Reading.Bindings.{binding_of}
use Rattle.isle_ast.specs.Trees.ExprShape.{expr_of}
use Rattle.isle_ast.specs.Trees.ExprTree.{expr_let, expr_prim}
use Rattle.isle_syntax.specs.Inside.Reading.Parsing.{bounds}
use Rattle.isle_syntax.specs.Inside.Reading.Readers.{after_close, opened_within, read_map, done, closed, seq, symbol_of, rest_of}
use Rattle.isle_syntax.specs.Inside.Reading.TreeReading.{inner_expr, expr, expr_inner, expr_list, let_binding, let_list}
use Rattle.isle_syntax.specs.Inside.Reading.DefReading.{constant}
use Rattle.isle_syntax.proofs.Reading.ExprKinds.{expr_at_kind, expr_list_opens, let_binding_opens, let_binding_named, let_binding_typed}
use Rattle.isle_syntax.proofs.Productions.Exprs.{expr_shorter, binding_shorter}
use Rattle.isle_syntax.proofs.Reading.Leaves.{const_expr, refuses_first}
use Rattle.isle_syntax.proofs.Reading.Lets.{bindings_trees, gives_later, let_list_inside, none_bound, let_reads}
use Rattle.isle_syntax.proofs.Reading.Opening.{opened_plain, expr_list_stops, let_list_stops, let_binding_stops, refuses_with}
use Rattle.isle_syntax.proofs.Reading.Loops.{stop_map, turn_refuses, turn_adds, turn_no_token, turns_end, takes_none, takes_some, refuses_map}
use Rattle.isle_syntax.proofs.Reading.Loops.{known_gives}
use Rattle.isle_syntax.proofs.parser.Parser.+expr.Goals as goal

pub parse_expr-returns-in-Open : goal.parse_expr-returns-in-Open
parse_expr-returns-in-Open t c =
    rw (expr_at_kind c.args.depth_left c.args.self.now.left Open (sym c.in-Open.is ∙ c.in_ok-kind.ensures.kind))
    (known_gives expr_of c.args.self.now c.kind.new.self c.parse_expr_list.new.self c.parse_expr_list.result (expr_list c.args.depth_left)
    c.in_ok-kind.ensures.known c.parse_expr_list.ensures)

pub parse_expr-returns-in-Const : goal.parse_expr-returns-in-Const
parse_expr-returns-in-Const t c =
    rw (const_expr c.args.depth_left c.args.self.now.left (sym c.in-Const.is ∙ c.in_ok-kind.ensures.kind))
    (known_gives expr_of c.args.self.now c.kind.new.self c.parse_expr_const.new.self c.parse_expr_const.result
    (λ ts. read_map (λ x. expr_prim x x.1) (constant ts)) c.in_ok-kind.ensures.known c.parse_expr_const.ensures)

pub parse_expr_list-returns-in_err-pos : goal.parse_expr_list-returns-in_err-pos
parse_expr_list-returns-in_err-pos t c =
    let e = err_from_is_err_and c.from_residual.result c.from_residual.ensures.1 in
    rw (e.1, e.2) (refuses_with (opened_within c.args.depth_left c.args.self.now.left) (expr_list c.args.depth_left c.args.self.now.left)
    c.args.self.now c.open.new.self _ (expr_list_stops c.args.depth_left c.args.self.now.left) c.in_err-pos.ensures.opened)

pub parse_expr_list-returns : goal.parse_expr_list-returns
parse_expr_list-returns t c =
    let p = c.in_ok-pos.pos in
    let ts = c.args.self.now.left in
    let r = c.open.new.self.left in
    let opened = c.in_ok-pos.ensures.opened in
    rw (expr_list_opens c.args.depth_left p ts r c.in_ok-pos.ensures.some_depth_left (opened_plain c.args.depth_left p ts r opened.0))
    (gives_later expr_of c.args.self.now c.open.new.self c.parse_expr_inner.new.self c.parse_expr_inner.result
    (read_map (inner_expr p) (expr_inner (c.args.depth_left - 1) r)) opened.1 c.parse_expr_inner.ensures)

pub parse_let-returns : goal.parse_let-returns
parse_let-returns t c =
    let defs = c.in_ok-defs.ensures in
    let inner = c.in_ok-inner.ensures in
    let word = c.in_ok-_word.ensures in
    let l = map binding_of c.in_ok-defs.defs.items in
    let tree = expr_of c.in_ok-inner.inner in (
      let_reads c.args.depth_left c.args.pos c.in_ok-_word._word l tree c.args.self.now.left c.word.new.self.left c.parse_let_defs.new.self.left
          c.parse_expr_closed.new.self.left word.0 defs.0 inner.0
          ∙ ap (λ ds. done (expr_let ds tree c.args.pos) c.parse_expr_closed.new.self.left) (sym (bindings_trees c.in_ok-defs.defs.items)
          ∙ sym c.new-defs.ensures)
          ∙ ap (λ b. done (expr_let c.new-defs.result b c.args.pos) c.parse_expr_closed.new.self.left) (sym c.in_ok-body.ensures),
      inner.1 ∙ defs.1 ∙ word.1,
    )

pub parse_let_defs-returns-in_err-_pos : goal.parse_let_defs-returns-in_err-_pos
parse_let_defs-returns-in_err-_pos t c =
    let e = err_from_is_err_and c.from_residual.result c.from_residual.ensures.1 in
    let d = c.args.depth_left in
    let ts = c.args.self.now.left in
    rw (e.1, e.2) (refuses_with (opened_within d ts) (read_map (λ x. x.1) (let_list d ts)) c.args.self.now c.open.new.self _
    (λ s h some. stop_map (λ x. x.1) (let_list d ts) ∙ let_list_stops d ts s h some) c.in_err-_pos.ensures.opened)

pub parse_let_defs-returns : goal.parse_let_defs-returns
parse_let_defs-returns t c =
    let p = c.in_ok-_pos._pos in
    let ts = c.args.self.now.left in
    let r = c.open.new.self.left in
    let opened = c.in_ok-_pos.ensures.opened in
    rw (let_list_inside c.args.depth_left p ts r c.in_ok-_pos.ensures.some_depth_left (opened_plain c.args.depth_left p ts r opened.0))
    (gives_later (λ v. map binding_of v.items) c.args.self.now c.open.new.self c.parse_bindings.new.self c.parse_bindings.result
    (rest_of (let_binding (c.args.depth_left - 1)) r) opened.1 c.parse_bindings.ensures)

pub parse_let_def-returns-in_err-pos : goal.parse_let_def-returns-in_err-pos
parse_let_def-returns-in_err-pos t c =
    let e = err_from_is_err_and c.from_residual.result c.from_residual.ensures.1 in
    rw (e.1, e.2) (refuses_with (opened_within c.args.depth_left c.args.self.now.left) (let_binding c.args.depth_left c.args.self.now.left)
    c.args.self.now c.open.new.self _ (let_binding_stops c.args.depth_left c.args.self.now.left) c.in_err-pos.ensures.opened)

pub parse_let_def-returns-in_err-var : goal.parse_let_def-returns-in_err-var
parse_let_def-returns-in_err-var t c =
    let e = err_from_is_err_and c.from_residual-in_err-var.result c.from_residual-in_err-var.ensures.1 in
    let d = c.args.depth_left in
    let p = c.in_ok-pos.pos in
    let ts = c.args.self.now.left in
    let r = c.open.new.self.left in
    let opened = c.in_ok-pos.ensures.opened in
    rw (e.1, e.2, let_binding_opens d p ts r c.in_ok-pos.ensures.some_depth_left (opened_plain d p ts r opened.0))
    (refuses_first (λ x. (p, x)) (symbol_of is_ident) (seq (symbol_of is_ident) (seq (expr (d - 1)) closed)) r c.args.self.now c.open.new.self
    c.ident.new.self _ opened.1 c.in_err-var.ensures)

pub parse_let_def-returns-in_err-ty : goal.parse_let_def-returns-in_err-ty
parse_let_def-returns-in_err-ty t c =
    let e = err_from_is_err_and c.from_residual-in_err-ty.result c.from_residual-in_err-ty.ensures.1 in
    let d = c.args.depth_left in
    let p = c.in_ok-pos.pos in
    let x = c.in_ok-var.var in
    let ts = c.args.self.now.left in
    let r = c.open.new.self.left in
    let s = c.ident.new.self.left in
    let opened = c.in_ok-pos.ensures.opened in
    rw (e.1, e.2, let_binding_named d p ts r c.in_ok-pos.ensures.some_depth_left (opened_plain d p ts r opened.0) x s c.in_ok-var.ensures.0)
    (refuses_first (λ b. (p, (x, b))) (symbol_of is_ident) (seq (expr (d - 1)) closed) s c.args.self.now c.ident.new.self c.ident-2.new.self _
    (c.in_ok-var.ensures.1 ∙ opened.1) c.in_err-ty.ensures)

pub parse_let_def-returns-in_err-val : goal.parse_let_def-returns-in_err-val
parse_let_def-returns-in_err-val t c =
    let e = err_from_is_err_and c.from_residual-in_err-val.result c.from_residual-in_err-val.ensures.1 in
    let d = c.args.depth_left in
    let p = c.in_ok-pos.pos in
    let x = c.in_ok-var.var in
    let ty = c.in_ok-ty.ty in
    let ts = c.args.self.now.left in
    let r = c.open.new.self.left in
    let s = c.ident.new.self.left in
    let q = c.ident-2.new.self.left in
    let opened = c.in_ok-pos.ensures.opened in
    rw (
      e.1,
      e.2,
      let_binding_typed d p ts r c.in_ok-pos.ensures.some_depth_left (opened_plain d p ts r opened.0) x s c.in_ok-var.ensures.0 ty q
          c.in_ok-ty.ensures.0,
    )
    (refuses_map (λ b. (p, (x, (ty, b)))) (seq (expr (d - 1)) closed q) c.args.self.now c.ident-2.new.self c.parse_expr_closed.new.self _
    (c.in_ok-ty.ensures.1 ∙ c.in_ok-var.ensures.1 ∙ opened.1) c.in_err-val.ensures)

pub parse_let_def-returns : goal.parse_let_def-returns
parse_let_def-returns t c =
    let d = c.args.depth_left in
    let p = c.in_ok-pos.pos in
    let x = c.in_ok-var.var in
    let ty = c.in_ok-ty.ty in
    let ts = c.args.self.now.left in
    let r = c.open.new.self.left in
    let s = c.ident.new.self.left in
    let q = c.ident-2.new.self.left in
    let opened = c.in_ok-pos.ensures.opened in (
      let_binding_typed d p ts r c.in_ok-pos.ensures.some_depth_left (opened_plain d p ts r opened.0) x s c.in_ok-var.ensures.0 ty q
          c.in_ok-ty.ensures.0
          ∙ ap (read_map (λ b. (p, (x, (ty, b))))) c.in_ok-val.ensures.0,
      c.in_ok-val.ensures.1 ∙ c.in_ok-ty.ensures.1 ∙ c.in_ok-var.ensures.1 ∙ opened.1,
    )

pub parse_bindings-returns-in_err-take_close : goal.parse_bindings-returns-in_err-take_close
parse_bindings-returns-in_err-take_close t c =
    let e = err_from_is_err_and c.from_residual.result c.from_residual.ensures.1 in
    rw (e.1, e.2) (turn_no_token after_close (let_binding c.args.depth_left) _ c.all.self c.all.self c.args.self.now c.take_close.new.self _ _
    c.all.invariant.turns c.all.invariant.same c.in_err-take_close.ensures.no_token refl (none_bound c.args.depth_left))

pub parse_bindings-returns-in_err-parse_let_def : goal.parse_bindings-returns-in_err-parse_let_def
parse_bindings-returns-in_err-parse_let_def t c =
    let e = err_from_is_err_and c.from_residual-in_err-parse_let_def.result c.from_residual-in_err-parse_let_def.ensures.1 in
    let going = takes_none c.all.self c.take_close.new.self _ c.in_ok-take_close.field-0 c.if-not-branch.true c.in_ok-take_close.ensures.taken in
    rw (e.1, e.2) (turn_refuses after_close (let_binding c.args.depth_left) _ c.all.self c.take_close.new.self c.args.self.now
    c.parse_let_def.new.self _ _ c.all.invariant.turns c.all.invariant.same going c.in_err-parse_let_def.ensures)

pub parse_bindings-all-smaller : goal.parse_bindings-all-smaller
parse_bindings-all-smaller t c =
    let going = takes_none c.all.self c.take_close.new.self _ c.in_ok-take_close.field-0 c.if-not-branch.true c.in_ok-take_close.ensures.taken in
    omega (
      arith,
      binding_shorter c.args.depth_left c.take_close.new.self.left c.parse_let_def.new.self.left _ c.in_ok-parse_let_def.ensures.0,
      ap (λ u. length u.left) going.1,
    )

pub parse_bindings-all-preserved : goal.parse_bindings-all-preserved
parse_bindings-all-preserved t c =
    let going = takes_none c.all.self c.take_close.new.self _ c.in_ok-take_close.field-0 c.if-not-branch.true c.in_ok-take_close.ensures.taken in
    let less = binding_shorter c.args.depth_left c.take_close.new.self.left c.parse_let_def.new.self.left _ c.in_ok-parse_let_def.ensures.0 in
    let found = ap (map binding_of) c.in_ok-push.ensures.items ∙ map-append binding_of c.all.defs.items (c.in_ok-parse_let_def.field-0 ∷ []) in
    record {
      turns = rw found (turn_adds after_close (let_binding c.args.depth_left) _ c.all.self c.take_close.new.self c.parse_let_def.new.self _ _
          c.all.invariant.turns going c.in_ok-parse_let_def.ensures.0 less);
      same = c.in_ok-parse_let_def.ensures.1 ∙ ap bounds going.1 ∙ c.all.invariant.same;
    }

pub parse_bindings-returns : goal.parse_bindings-returns
parse_bindings-returns t c =
    let taken = takes_some c.all.self c.take_close.new.self _ c.in_ok-take_close.field-0 c.if-not-branch.false c.in_ok-take_close.ensures.taken in (
      turns_end after_close (let_binding c.args.depth_left) _ _ c.all.self.left _ c.all.invariant.turns taken.0,
      taken.1 ∙ c.all.invariant.same,
    )

pub parse_exprs-returns-in_err-take_close : goal.parse_exprs-returns-in_err-take_close
parse_exprs-returns-in_err-take_close t c =
    let e = err_from_is_err_and c.from_residual.result c.from_residual.ensures.1 in
    rw (e.1, e.2) (turn_no_token after_close (expr c.args.depth_left) _ c.all.self c.all.self c.args.self.now c.take_close.new.self _ _
    c.all.invariant.turns c.all.invariant.same c.in_err-take_close.ensures.no_token refl refl)

pub parse_exprs-returns-in_err-parse_expr : goal.parse_exprs-returns-in_err-parse_expr
parse_exprs-returns-in_err-parse_expr t c =
    let e = err_from_is_err_and c.from_residual-in_err-parse_expr.result c.from_residual-in_err-parse_expr.ensures.1 in
    let going = takes_none c.all.self c.take_close.new.self _ c.in_ok-take_close.field-0 c.if-not-branch.true c.in_ok-take_close.ensures.taken in
    rw (e.1, e.2) (turn_refuses after_close (expr c.args.depth_left) _ c.all.self c.take_close.new.self c.args.self.now c.parse_expr.new.self _ _
    c.all.invariant.turns c.all.invariant.same going c.in_err-parse_expr.ensures)

pub parse_exprs-all-smaller : goal.parse_exprs-all-smaller
parse_exprs-all-smaller t c =
    let going = takes_none c.all.self c.take_close.new.self _ c.in_ok-take_close.field-0 c.if-not-branch.true c.in_ok-take_close.ensures.taken in
    omega (
      arith,
      expr_shorter c.args.depth_left c.take_close.new.self.left c.parse_expr.new.self.left _ c.in_ok-parse_expr.ensures.0,
      ap (λ u. length u.left) going.1,
    )

pub parse_exprs-all-preserved : goal.parse_exprs-all-preserved
parse_exprs-all-preserved t c =
    let going = takes_none c.all.self c.take_close.new.self _ c.in_ok-take_close.field-0 c.if-not-branch.true c.in_ok-take_close.ensures.taken in
    let less = expr_shorter c.args.depth_left c.take_close.new.self.left c.parse_expr.new.self.left _ c.in_ok-parse_expr.ensures.0 in
    let found = ap (map expr_of) c.in_ok-push.ensures.items ∙ map-append expr_of c.all.exprs.items (c.in_ok-parse_expr.field-0 ∷ []) in
    record {
      turns = rw found (turn_adds after_close (expr c.args.depth_left) _ c.all.self c.take_close.new.self c.parse_expr.new.self _ _
          c.all.invariant.turns going c.in_ok-parse_expr.ensures.0 less);
      same = c.in_ok-parse_expr.ensures.1 ∙ ap bounds going.1 ∙ c.all.invariant.same;
    }

pub parse_exprs-returns : goal.parse_exprs-returns
parse_exprs-returns t c =
    let taken = takes_some c.all.self c.take_close.new.self _ c.in_ok-take_close.field-0 c.if-not-branch.false c.in_ok-take_close.ensures.taken in (
      turns_end after_close (expr c.args.depth_left) _ _ c.all.self.left _ c.all.invariant.turns taken.0,
      taken.1 ∙ c.all.invariant.same,
    )
