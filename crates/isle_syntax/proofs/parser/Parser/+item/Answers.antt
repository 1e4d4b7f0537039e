use Rattle.std.proofs.Common.{[], ◌∷◌, ◌-◌, map, length, refl, sym, ap, ◌∙◌, arith}
use Rattle.std.proofs.lemmas.List.{map-append}
use Rattle.std.proofs.lemmas.Result.{err_from_is_err_and}
use Rattle.isle_syntax.specs.declared.kind.Kind.TheVariants.{Open, At, Int, Close, End}
use Rattle.isle_ast.specs.Trees.ItemShape.{item_of}
use Rattle.isle_ast.specs.Trees.ItemTree.{item_list, item_at, item_list_of}
use Rattle.isle_syntax.specs.Inside.Reading.Parsing.{bounds}
use Rattle.isle_syntax.specs.Inside.Reading.Readers.{after_close, at_pos, integer, opened_within, read_map, done, rest_of}
use Rattle.isle_syntax.specs.Inside.Reading.TreeReading.{item, item_list_reader, literal_item}
use Rattle.isle_syntax.proofs.Productions.Items.{item_at_kind, item_shorter}
use Rattle.isle_syntax.proofs.Reading.Opening.{item_list_opens, item_list_stops, refuses_with}
use Rattle.isle_syntax.proofs.Reading.Loops.{turn_refuses, turn_adds, turn_no_token, turns_end, takes_none, takes_some, refuses_map, known_refuses}
use Rattle.isle_syntax.proofs.Reading.Loops.{known_unexpected, known_gives}
use Rattle.isle_syntax.proofs.parser.Parser.+item.Goals as goal

pub parse_item-returns-in_err-at_sign-in-At : goal.parse_item-returns-in_err-at_sign-in-At
parse_item-returns-in_err-at_sign-in-At t c =
    let e = err_from_is_err_and c.from_residual-in_err-at_sign-in-At.result c.from_residual-in_err-at_sign-in-At.ensures.1 in
    let ts = c.args.self.now.left in
    rw (e.1, e.2, item_at_kind c.args.depth_left ts At (sym c.in-At.is ∙ c.in_ok-kind.ensures.kind))
    (refuses_map item_at (at_pos ts) c.args.self.now c.args.self.now c.at_sign.new.self _ refl
    (known_refuses c.args.self.now c.kind.new.self c.at_sign.new.self _ c.in_ok-kind.ensures.known at_pos c.in_err-at_sign-in-At.ensures))

pub parse_item-returns-in_err-pos-in-Int : goal.parse_item-returns-in_err-pos-in-Int
parse_item-returns-in_err-pos-in-Int t c =
    let e = err_from_is_err_and c.from_residual-in_err-pos-in-Int.result c.from_residual-in_err-pos-in-Int.ensures.1 in
    let ts = c.args.self.now.left in
    rw (e.1, e.2, item_at_kind c.args.depth_left ts Int (sym c.in-Int.is ∙ c.in_ok-kind.ensures.kind))
    (refuses_map (λ x. literal_item x.0 x.1) (integer ts) c.args.self.now c.args.self.now c.integer.new.self _ refl
    (known_refuses c.args.self.now c.kind.new.self c.integer.new.self _ c.in_ok-kind.ensures.known integer c.in_err-pos-in-Int.ensures))

pub parse_item-returns-in-Open : goal.parse_item-returns-in-Open
parse_item-returns-in-Open t c =
    rw (item_at_kind c.args.depth_left c.args.self.now.left Open (sym c.in-Open.is ∙ c.in_ok-kind.ensures.kind))
    (known_gives item_of c.args.self.now c.kind.new.self c.parse_item_list.new.self c.parse_item_list.result (item_list_reader c.args.depth_left)
    c.in_ok-kind.ensures.known c.parse_item_list.ensures)

pub parse_item-returns-in-Close : goal.parse_item-returns-in-Close
parse_item-returns-in-Close t c =
    rw (item_at_kind c.args.depth_left c.args.self.now.left Close (sym c.in-Close.is ∙ c.in_ok-kind.ensures.kind))
    (known_unexpected c.args.self.now c.kind.new.self c.unexpected.result c.in_ok-kind.ensures.known c.unexpected.ensures)

pub parse_item-returns-in-End : goal.parse_item-returns-in-End
parse_item-returns-in-End t c =
    rw (item_at_kind c.args.depth_left c.args.self.now.left End (sym c.in-End.is ∙ c.in_ok-kind.ensures.kind))
    (known_unexpected c.args.self.now c.kind.new.self c.unexpected-in-End.result c.in_ok-kind.ensures.known c.unexpected-in-End.ensures)

pub parse_item_list-returns-in_err-pos : goal.parse_item_list-returns-in_err-pos
parse_item_list-returns-in_err-pos t c =
    let e = err_from_is_err_and c.from_residual.result c.from_residual.ensures.1 in
    rw (e.1, e.2) (refuses_with (opened_within c.args.depth_left c.args.self.now.left) (item_list_reader c.args.depth_left c.args.self.now.left)
    c.args.self.now c.open.new.self _ (item_list_stops c.args.depth_left c.args.self.now.left) c.in_err-pos.ensures.opened)

pub parse_item_list-returns-in_err-items : goal.parse_item_list-returns-in_err-items
parse_item_list-returns-in_err-items t c =
    let e = err_from_is_err_and c.from_residual-in_err-items.result c.from_residual-in_err-items.ensures.1 in
    let p = c.in_ok-pos.pos in
    rw (e.1, e.2, item_list_opens c.args.depth_left p c.args.self.now.left c.open.new.self.left c.in_ok-pos.ensures.opened.0)
    (refuses_map (λ l. item_list (item_list_of l) p) (rest_of (item (c.args.depth_left - 1)) c.open.new.self.left) c.args.self.now c.open.new.self
    c.parse_items.new.self _ c.in_ok-pos.ensures.opened.1 c.in_err-items.ensures)

pub parse_item_list-returns : goal.parse_item_list-returns
parse_item_list-returns t c =
    let p = c.in_ok-pos.pos in (
      item_list_opens c.args.depth_left p c.args.self.now.left c.open.new.self.left c.in_ok-pos.ensures.opened.0
          ∙ ap (read_map (λ l. item_list (item_list_of l) p)) c.in_ok-items.ensures.0
          ∙ ap (λ l. done (item_list l p) c.parse_items.new.self.left) (sym c.new.ensures),
      c.in_ok-items.ensures.1 ∙ c.in_ok-pos.ensures.opened.1,
    )

pub parse_items-returns-in_err-take_close : goal.parse_items-returns-in_err-take_close
parse_items-returns-in_err-take_close t c =
    let e = err_from_is_err_and c.from_residual.result c.from_residual.ensures.1 in
    rw (e.1, e.2) (turn_no_token after_close (item c.args.depth_left) _ c.items.self c.items.self c.args.self.now c.take_close.new.self _ _
    c.items.invariant.turns c.items.invariant.same c.in_err-take_close.ensures.no_token refl refl)

pub parse_items-returns-in_err-parse_item : goal.parse_items-returns-in_err-parse_item
parse_items-returns-in_err-parse_item t c =
    let e = err_from_is_err_and c.from_residual-in_err-parse_item.result c.from_residual-in_err-parse_item.ensures.1 in
    let going = takes_none c.items.self c.take_close.new.self _ c.in_ok-take_close.field-0 c.if-not-branch.true c.in_ok-take_close.ensures.taken in
    rw (e.1, e.2) (turn_refuses after_close (item c.args.depth_left) _ c.items.self c.take_close.new.self c.args.self.now c.parse_item.new.self _ _
    c.items.invariant.turns c.items.invariant.same going c.in_err-parse_item.ensures)

pub parse_items-items-smaller : goal.parse_items-items-smaller
parse_items-items-smaller t c =
    let going = takes_none c.items.self c.take_close.new.self _ c.in_ok-take_close.field-0 c.if-not-branch.true c.in_ok-take_close.ensures.taken in
    omega (
      arith,
      item_shorter c.args.depth_left c.take_close.new.self.left c.parse_item.new.self.left _ c.in_ok-parse_item.ensures.0,
      ap (λ u. length u.left) going.1,
    )

pub parse_items-items-preserved : goal.parse_items-items-preserved
parse_items-items-preserved t c =
    let going = takes_none c.items.self c.take_close.new.self _ c.in_ok-take_close.field-0 c.if-not-branch.true c.in_ok-take_close.ensures.taken in
    let less = item_shorter c.args.depth_left c.take_close.new.self.left c.parse_item.new.self.left _ c.in_ok-parse_item.ensures.0 in
    let found = ap (map item_of) c.in_ok-push.ensures.items ∙ map-append item_of c.items.items.items (c.in_ok-parse_item.field-0 ∷ []) in
    record {
      turns = rw found (turn_adds after_close (item c.args.depth_left) _ c.items.self c.take_close.new.self c.parse_item.new.self _ _
          c.items.invariant.turns going c.in_ok-parse_item.ensures.0 less);
      same = c.in_ok-parse_item.ensures.1 ∙ ap bounds going.1 ∙ c.items.invariant.same;
    }

pub parse_items-returns : goal.parse_items-returns
parse_items-returns t c =
    let taken = takes_some c.items.self c.take_close.new.self _ c.in_ok-take_close.field-0 c.if-not-branch.false c.in_ok-take_close.ensures.taken in (
      turns_end after_close (item c.args.depth_left) _ _ c.items.self.left _ c.items.invariant.turns taken.0,
      taken.1 ∙ c.items.invariant.same,
    )
