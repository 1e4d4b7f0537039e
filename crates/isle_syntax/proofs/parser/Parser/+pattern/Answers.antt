use Rattle.std.proofs.Common.{◌≡◌, [], ◌∷◌, ◌-◌, map, length, true, false, refl, sym, ap, ◌∙◌, arith}
use Rattle.std.specs.Prelude.{codes}
use Rattle.std.proofs.lemmas.List.{map-append}
use Rattle.std.proofs.lemmas.Result.{err_from_is_err_and}
use Rattle.isle_syntax.specs.declared.kind.Kind.TheVariants.{End, Open, Close, At, Int, True, False, Const, Wildcard, Other}
use Rattle.isle_syntax.specs.Tokens.Names.{is_word}
use Rattle.isle_syntax.specs.Tokens.RemainingTokens.{RemainingTokens}
use Rattle.isle_ast.specs.Trees.Chain.{bound}
use Rattle.isle_ast.specs.Trees.PatternShape.{pattern_of}
use Rattle.isle_ast.specs.Trees.PatternTree.{pattern_and, pattern_term, pattern_prim}
use Rattle.isle_syntax.specs.Inside.Reading.KindReading.{pattern_on}
use Rattle.isle_syntax.specs.Inside.Reading.Parsing.{bounds}
use Rattle.isle_syntax.specs.Inside.Reading.Readers.{after_close, opened_within, read_map, done, symbol_of, rest_of}
use Rattle.isle_syntax.specs.Inside.Reading.TreeReading.{is_head, listed, pattern, pattern_list}
use Rattle.isle_syntax.specs.Inside.Reading.DefReading.{constant}
use Rattle.isle_syntax.proofs.Reading.PatternKinds.{pattern_list_opens, pattern_list_reads, listed_as}
use Rattle.isle_syntax.proofs.Reading.Unbound.{unbound_nothing, unbound_at_kind, unbound_else, unbound_alone, unbound_named, unbound_shorter}
use Rattle.isle_syntax.proofs.Productions.Patterns.{pattern_shorter}
use Rattle.isle_syntax.proofs.Reading.Leaves.{const_pattern, pattern_none, refuses_first}
use Rattle.isle_syntax.proofs.Reading.Opening.{opened_plain, pattern_list_stops, refuses_with}
use Rattle.isle_syntax.proofs.Reading.Loops.{turn_refuses, turn_adds, turn_no_token, turns_end, takes_none, takes_some, refuses_map, refuses_no_token}
use Rattle.isle_syntax.proofs.Reading.Loops.{known_unexpected, known_gives}
use Rattle.isle_syntax.proofs.parser.Parser.+pattern.Goals as goal

pub parse_pattern-names-smaller : goal.parse_pattern-names-smaller
parse_pattern-names-smaller t c =
    let taken = takes_some c.parse_unbound.new.self c.take_at.new.self _ c.in_ok-take_at-in-Var.field-0 c.if-not-branch.false
    c.in_ok-take_at-in-Var.ensures.taken in
    let read = c.in_ok-inner.ensures.0 ∙ ap (λ q. done (pattern_of q) c.parse_unbound.new.self.left) c.in-Var.is in
    unbound_shorter c.args.depth_left c.names.self.left c.parse_unbound.new.self.left c.in-Var.var c.in-Var.pos read c.take_at.new.self.left taken.0

pub parse_pattern-names-preserved : goal.parse_pattern-names-preserved
parse_pattern-names-preserved t c =
    let taken = takes_some c.parse_unbound.new.self c.take_at.new.self _ c.in_ok-take_at-in-Var.field-0 c.if-not-branch.false
    c.in_ok-take_at-in-Var.ensures.taken in
    let left = c.names.self.left in
    let r = c.parse_unbound.new.self.left in
    let q = c.take_at.new.self.left in
    let var = c.in-Var.var in
    let pos = c.in-Var.pos in
    let read = c.in_ok-inner.ensures.0 ∙ ap (λ q. done (pattern_of q) r) c.in-Var.is in
    record {
      reads = c.names.invariant.reads ∙ unbound_named c.args.depth_left left r var pos read q taken.0 c.names.names.items c.push.new.self.items
          c.in_ok-push-in-Var.ensures.items;
      same = taken.1 ∙ c.in_ok-inner.ensures.1 ∙ c.names.invariant.same;
      less = omega (arith, unbound_shorter c.args.depth_left left r var pos read q taken.0, c.names.invariant.less);
    }

pub parse_pattern-returns-then-not-branch : goal.parse_pattern-returns-then-not-branch
parse_pattern-returns-then-not-branch t c =
    let going = takes_none c.parse_unbound.new.self c.take_at.new.self _ c.in_ok-take_at-in-Var.field-0 c.if-not-branch.true
    c.in_ok-take_at-in-Var.ensures.taken in
    let left = c.names.self.left in
    let r = c.parse_unbound.new.self.left in
    let names = c.names.names.items in
    let read = c.in_ok-inner.ensures.0 ∙ ap (λ q. done (pattern_of q) r) c.in-Var.is in (
      c.names.invariant.reads
          ∙ ap (read_map (bound names)) (unbound_alone c.args.depth_left left r c.in-Var.var c.in-Var.pos read going.0)
          ∙ ap (λ t. done t r) (sym c.in_ok-wrap-in-Var.ensures)
          ∙ ap (λ (u : RemainingTokens). done (pattern_of c.in_ok-wrap-in-Var.field-0) u.left) (sym going.1),
      ap bounds going.1 ∙ c.in_ok-inner.ensures.1 ∙ c.names.invariant.same,
    )

pub parse_unbound-returns-in_err-kind : goal.parse_unbound-returns-in_err-kind
parse_unbound-returns-in_err-kind t c =
    let e = err_from_is_err_and c.from_residual.result c.from_residual.ensures.1 in
    rw (e.1, e.2) (refuses_no_token c.args.self.now c.args.self.now c.kind.new.self _ _ refl c.in_err-kind.ensures.no_token
    (unbound_nothing c.args.depth_left c.args.self.now.left))

pub parse_unbound-returns-in-Open : goal.parse_unbound-returns-in-Open
parse_unbound-returns-in-Open t c =
    rw (unbound_else c.args.depth_left c.args.self.now.left Open (sym c.in-Open.is ∙ c.in_ok-kind.ensures.kind) refl)
    (known_gives pattern_of c.args.self.now c.kind.new.self c.parse_pattern_list.new.self c.parse_pattern_list.result
    (pattern_on c.args.depth_left Open) c.in_ok-kind.ensures.known c.parse_pattern_list.ensures)

pub parse_unbound-returns-in-Int : goal.parse_unbound-returns-in-Int
parse_unbound-returns-in-Int t c =
    rw (unbound_else c.args.depth_left c.args.self.now.left Int (sym c.in-Int.is ∙ c.in_ok-kind.ensures.kind) refl)
    (known_gives pattern_of c.args.self.now c.kind.new.self c.parse_pattern_int.new.self c.parse_pattern_int.result (pattern_on c.args.depth_left Int)
    c.in_ok-kind.ensures.known c.parse_pattern_int.ensures)

pub parse_unbound-returns-in-True : goal.parse_unbound-returns-in-True
parse_unbound-returns-in-True t c =
    rw (unbound_else c.args.depth_left c.args.self.now.left True (sym c.in-True.is ∙ c.in_ok-kind.ensures.kind) refl)
    (known_gives pattern_of c.args.self.now c.kind.new.self c.parse_pattern_bool.new.self c.parse_pattern_bool.result
    (pattern_on c.args.depth_left True) c.in_ok-kind.ensures.known c.parse_pattern_bool.ensures)

pub parse_unbound-returns-in-False : goal.parse_unbound-returns-in-False
parse_unbound-returns-in-False t c =
    rw (unbound_else c.args.depth_left c.args.self.now.left False (sym c.in-False.is ∙ c.in_ok-kind.ensures.kind) refl)
    (known_gives pattern_of c.args.self.now c.kind.new.self c.parse_pattern_bool-in-False.new.self c.parse_pattern_bool-in-False.result
    (pattern_on c.args.depth_left False) c.in_ok-kind.ensures.known c.parse_pattern_bool-in-False.ensures)

pub parse_unbound-returns-in-Wildcard : goal.parse_unbound-returns-in-Wildcard
parse_unbound-returns-in-Wildcard t c =
    rw (unbound_else c.args.depth_left c.args.self.now.left Wildcard (sym c.in-Wildcard.is ∙ c.in_ok-kind.ensures.kind) refl)
    (known_gives pattern_of c.args.self.now c.kind.new.self c.parse_pattern_wildcard.new.self c.parse_pattern_wildcard.result
    (pattern_on c.args.depth_left Wildcard) c.in_ok-kind.ensures.known c.parse_pattern_wildcard.ensures)

pub parse_unbound-returns-in-Const : goal.parse_unbound-returns-in-Const
parse_unbound-returns-in-Const t c =
    rw (
      unbound_at_kind c.args.depth_left c.args.self.now.left Const (sym c.in-Const.is
          ∙ c.in_ok-kind.ensures.kind),
      const_pattern c.args.depth_left c.args.self.now.left (sym c.in-Const.is ∙ c.in_ok-kind.ensures.kind),
    )
    (known_gives pattern_of c.args.self.now c.kind.new.self c.parse_pattern_const.new.self c.parse_pattern_const.result
    (λ ts. read_map (λ x. pattern_prim x x.1) (constant ts)) c.in_ok-kind.ensures.known c.parse_pattern_const.ensures)

pub parse_unbound-returns-in-End : goal.parse_unbound-returns-in-End
parse_unbound-returns-in-End t c =
    rw (unbound_else c.args.depth_left c.args.self.now.left End (sym c.in-End.is ∙ c.in_ok-kind.ensures.kind) refl)
    (known_unexpected c.args.self.now c.kind.new.self c.unexpected.result c.in_ok-kind.ensures.known c.unexpected.ensures)

pub parse_unbound-returns-in-Close : goal.parse_unbound-returns-in-Close
parse_unbound-returns-in-Close t c =
    rw (unbound_else c.args.depth_left c.args.self.now.left Close (sym c.in-Close.is ∙ c.in_ok-kind.ensures.kind) refl)
    (known_unexpected c.args.self.now c.kind.new.self c.unexpected-in-Close.result c.in_ok-kind.ensures.known c.unexpected-in-Close.ensures)

pub parse_unbound-returns-in-At : goal.parse_unbound-returns-in-At
parse_unbound-returns-in-At t c =
    rw (unbound_else c.args.depth_left c.args.self.now.left At (sym c.in-At.is ∙ c.in_ok-kind.ensures.kind) refl)
    (known_unexpected c.args.self.now c.kind.new.self c.unexpected-in-At.result c.in_ok-kind.ensures.known c.unexpected-in-At.ensures)

pub parse_unbound-returns-in-Other : goal.parse_unbound-returns-in-Other
parse_unbound-returns-in-Other t c =
    rw (unbound_else c.args.depth_left c.args.self.now.left Other (sym c.in-Other.is ∙ c.in_ok-kind.ensures.kind) refl)
    (known_unexpected c.args.self.now c.kind.new.self c.unexpected-in-Other.result c.in_ok-kind.ensures.known c.unexpected-in-Other.ensures)

pub parse_pattern_list-returns-in_err-pos : goal.parse_pattern_list-returns-in_err-pos
parse_pattern_list-returns-in_err-pos t c =
    let e = err_from_is_err_and c.from_residual.result c.from_residual.ensures.1 in
    rw (e.1, e.2) (refuses_with (opened_within c.args.depth_left c.args.self.now.left) (pattern_list c.args.depth_left c.args.self.now.left)
    c.args.self.now c.open.new.self _ (pattern_list_stops c.args.depth_left c.args.self.now.left) c.in_err-pos.ensures.opened)

pub parse_pattern_list-returns-in_err-sym : goal.parse_pattern_list-returns-in_err-sym
parse_pattern_list-returns-in_err-sym t c =
    let e = err_from_is_err_and c.from_residual-in_err-sym.result c.from_residual-in_err-sym.ensures.1 in
    let p = c.in_ok-pos.pos in
    let ts = c.args.self.now.left in
    let r = c.open.new.self.left in
    let opens = pattern_list_opens c.args.depth_left p ts r (c.in_ok-pos.ensures.some_depth_left)
    (opened_plain c.args.depth_left p ts r c.in_ok-pos.ensures.opened.0) in
    rw (e.1, e.2, opens)
    (refuses_first (λ x. listed (p, x)) (symbol_of is_head) (rest_of (pattern (c.args.depth_left - 1))) r c.args.self.now c.open.new.self
    c.head.new.self _ c.in_ok-pos.ensures.opened.1 c.in_err-sym.ensures)

pub parse_pattern_list-returns-in_err-args : goal.parse_pattern_list-returns-in_err-args
parse_pattern_list-returns-in_err-args t c =
    let e = err_from_is_err_and c.from_residual-in_err-args.result c.from_residual-in_err-args.ensures.1 in
    let p = c.in_ok-pos.pos in
    let x = c.in_ok-sym.sym in
    let ts = c.args.self.now.left in
    let r = c.open.new.self.left in
    let s = c.head.new.self.left in
    let reads = pattern_list_reads c.args.depth_left p x ts r s (c.in_ok-pos.ensures.some_depth_left)
    (opened_plain c.args.depth_left p ts r c.in_ok-pos.ensures.opened.0) c.in_ok-sym.ensures.0 in
    rw (e.1, e.2, reads)
    (refuses_map (λ l. listed (p, (x, l))) (rest_of (pattern (c.args.depth_left - 1)) s) c.args.self.now c.head.new.self c.parse_patterns.new.self _
    (c.in_ok-sym.ensures.1 ∙ c.in_ok-pos.ensures.opened.1) c.in_err-args.ensures)

pub parse_pattern_list-returns-then-eq : goal.parse_pattern_list-returns-then-eq
parse_pattern_list-returns-then-eq t c =
    let p = c.in_ok-pos.pos in
    let x = c.in_ok-sym.sym in
    let l = map pattern_of c.in_ok-args.args.items in
    let ts = c.args.self.now.left in
    let r = c.open.new.self.left in
    let s = c.head.new.self.left in
    let test : true ≡ is_word (codes "and") x.0 = sym c.if-eq.true ∙ c.eq.ensures ∙ ap (is_word (codes "and")) c.as_str.ensures in (
      pattern_list_reads c.args.depth_left p x ts r s (c.in_ok-pos.ensures.some_depth_left)
          (opened_plain c.args.depth_left p ts r c.in_ok-pos.ensures.opened.0) c.in_ok-sym.ensures.0
          ∙ ap (read_map (λ l. listed (p, (x, l)))) c.in_ok-args.ensures.0
          ∙ ap (λ k. done k c.parse_patterns.new.self.left) (listed_as p x l true test ∙ ap (λ k. pattern_and k p) (sym c.new-args.ensures)),
      c.in_ok-args.ensures.1 ∙ c.in_ok-sym.ensures.1 ∙ c.in_ok-pos.ensures.opened.1,
    )

pub parse_pattern_list-returns-else-eq : goal.parse_pattern_list-returns-else-eq
parse_pattern_list-returns-else-eq t c =
    let p = c.in_ok-pos.pos in
    let x = c.in_ok-sym.sym in
    let l = map pattern_of c.in_ok-args.args.items in
    let ts = c.args.self.now.left in
    let r = c.open.new.self.left in
    let s = c.head.new.self.left in
    let test : false ≡ is_word (codes "and") x.0 = sym c.if-eq.false ∙ c.eq.ensures ∙ ap (is_word (codes "and")) c.as_str.ensures in (
      pattern_list_reads c.args.depth_left p x ts r s (c.in_ok-pos.ensures.some_depth_left)
          (opened_plain c.args.depth_left p ts r c.in_ok-pos.ensures.opened.0) c.in_ok-sym.ensures.0
          ∙ ap (read_map (λ l. listed (p, (x, l)))) c.in_ok-args.ensures.0
          ∙ ap (λ k. done k c.parse_patterns.new.self.left) (listed_as p x l false test ∙ ap (λ k. pattern_term x k p) (sym c.new-args.ensures)),
      c.in_ok-args.ensures.1 ∙ c.in_ok-sym.ensures.1 ∙ c.in_ok-pos.ensures.opened.1,
    )

pub parse_patterns-returns-in_err-take_close : goal.parse_patterns-returns-in_err-take_close
parse_patterns-returns-in_err-take_close t c =
    let e = err_from_is_err_and c.from_residual.result c.from_residual.ensures.1 in
    rw (e.1, e.2) (turn_no_token after_close (pattern c.args.depth_left) _ c.all.self c.all.self c.args.self.now c.take_close.new.self _ _
    c.all.invariant.turns c.all.invariant.same c.in_err-take_close.ensures.no_token refl (pattern_none c.args.depth_left))

pub parse_patterns-returns-in_err-parse_pattern : goal.parse_patterns-returns-in_err-parse_pattern
parse_patterns-returns-in_err-parse_pattern t c =
    let e = err_from_is_err_and c.from_residual-in_err-parse_pattern.result c.from_residual-in_err-parse_pattern.ensures.1 in
    let going = takes_none c.all.self c.take_close.new.self _ c.in_ok-take_close.field-0 c.if-not-branch.true c.in_ok-take_close.ensures.taken in
    rw (e.1, e.2) (turn_refuses after_close (pattern c.args.depth_left) _ c.all.self c.take_close.new.self c.args.self.now c.parse_pattern.new.self _
    _ c.all.invariant.turns c.all.invariant.same going c.in_err-parse_pattern.ensures)

pub parse_patterns-all-smaller : goal.parse_patterns-all-smaller
parse_patterns-all-smaller t c =
    let going = takes_none c.all.self c.take_close.new.self _ c.in_ok-take_close.field-0 c.if-not-branch.true c.in_ok-take_close.ensures.taken in
    omega (
      arith,
      pattern_shorter c.args.depth_left c.take_close.new.self.left c.parse_pattern.new.self.left _ c.in_ok-parse_pattern.ensures.0,
      ap (λ u. length u.left) going.1,
    )

pub parse_patterns-all-preserved : goal.parse_patterns-all-preserved
parse_patterns-all-preserved t c =
    let going = takes_none c.all.self c.take_close.new.self _ c.in_ok-take_close.field-0 c.if-not-branch.true c.in_ok-take_close.ensures.taken in
    let less = pattern_shorter c.args.depth_left c.take_close.new.self.left c.parse_pattern.new.self.left _ c.in_ok-parse_pattern.ensures.0 in
    let found = ap (map pattern_of) c.in_ok-push.ensures.items ∙ map-append pattern_of c.all.patterns.items (c.in_ok-parse_pattern.field-0 ∷ []) in
    record {
      turns = rw found (turn_adds after_close (pattern c.args.depth_left) _ c.all.self c.take_close.new.self c.parse_pattern.new.self _ _
          c.all.invariant.turns going c.in_ok-parse_pattern.ensures.0 less);
      same = c.in_ok-parse_pattern.ensures.1 ∙ ap bounds going.1 ∙ c.all.invariant.same;
      less = omega (arith, less, ap (λ u. length u.left) going.1, c.all.invariant.less);
    }

pub parse_patterns-returns : goal.parse_patterns-returns
parse_patterns-returns t c =
    let taken = takes_some c.all.self c.take_close.new.self _ c.in_ok-take_close.field-0 c.if-not-branch.false c.in_ok-take_close.ensures.taken in (
      turns_end after_close (pattern c.args.depth_left) _ _ c.all.self.left _ c.all.invariant.turns taken.0,
      taken.1 ∙ c.all.invariant.same,
    )
