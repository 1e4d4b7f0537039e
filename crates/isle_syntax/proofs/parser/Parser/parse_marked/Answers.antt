use Rattle.std.proofs.Common.{[], ◌∷◌, ◌++◌, refl, sym, ap, subst, ◌∙◌}
use Rattle.std.specs.Prelude.{codes}
use Rattle.std.proofs.lemmas.Result.{err_from_is_err_and}
use Rattle.isle_syntax.specs.declared.kind.Keyword.TheVariants.{Extern, NoDebug}
use Rattle.isle_syntax.specs.Inside.Reading.KindOf.{keyword_at}
use Rattle.isle_syntax.specs.Grammar.DefGrammar.{extern_mark, nodebug_mark}
use Rattle.isle_syntax.specs.Inside.Reading.DefReading.{no_mark, mark, marks, marked_of, type_value}
use Rattle.isle_syntax.specs.Inside.Reading.Parsing.{bounds, stop_of, RefusesAt}
use Rattle.isle_syntax.specs.Inside.Reading.Readers.{read_map, done, says, seq}
use Rattle.isle_syntax.proofs.Reading.Loops.{turn_refuses, turn_adds, refuses_map, refuses_no_token, known_refuses}
use Rattle.isle_syntax.proofs.Productions.Marks.{goes_on, ends, reads_mark, extern_more, extern_same, nodebug_more, nodebug_same, says_less}
use Rattle.isle_syntax.proofs.Productions.Marks.{marked_at_end, marks_end}
use Rattle.isle_syntax.proofs.Reading.Opening.{refuses_with, first_stops}
use Rattle.isle_syntax.proofs.Reading.ReadSteps.{map_seq_done}
use Rattle.isle_syntax.proofs.parser.Parser.parse_marked.Goals as goal

pub returns-in_err-keyword : goal.returns-in_err-keyword
returns-in_err-keyword c =
    let e = err_from_is_err_and c.from_residual.result c.from_residual.ensures.1 in
    let old = c.args.self.now in
    let begun = c.marks.self in
    let all = seq marks (type_value c.args.depth_left) in
    rw (e.1, e.2) (refuses_no_token old begun c.keyword.new.self _ (stop_of (read_map marked_of (all old.left))) c.marks.invariant.same
    c.in_err-keyword.ensures.no_token
    (λ none. sym (marked_at_end c.args.depth_left old.left begun.left c.marks.invariant.found c.marks.invariant.turns none)))

pub returns-in_err-says-in-Extern : goal.returns-in_err-says-in-Extern
returns-in_err-says-in-Extern c =
    let e = err_from_is_err_and c.from_residual-in_err-says-in-Extern.result c.from_residual-in_err-says-in-Extern.ensures.1 in
    let old = c.args.self.now in
    let begun = c.marks.self in
    let now = c.keyword.new.self in
    let known = c.in_ok-keyword.ensures.known.same in
    let here = sym c.in-Extern.is ∙ c.in_ok-keyword.ensures.keyword in
    let reads = reads_mark now.left Extern (here ∙ ap (λ u. keyword_at u.left) (sym known)) in
    let turn = refuses_map (λ x. extern_mark) (says (codes "extern") now.left) now now c.says.new.self _ refl c.in_err-says-in-Extern.ensures in
    rw (e.1, e.2) (refuses_with (marks old.left) (read_map marked_of (seq marks (type_value c.args.depth_left) old.left)) old c.says.new.self _
    (first_stops marked_of marks (type_value c.args.depth_left) old.left)
    (turn_refuses no_mark mark (marks old.left) begun now old c.says.new.self _ _ c.marks.invariant.turns c.marks.invariant.same
    (goes_on begun.left Extern here refl, known)
    (subst (λ x. RefusesAt now c.says.new.self c.in_err-says-in-Extern.field-0.0 (stop_of x)) (sym reads) turn)))

pub marks-preserved-in-Extern : goal.marks-preserved-in-Extern
marks-preserved-in-Extern c =
    let begun = c.marks.self in
    let now = c.keyword.new.self in
    let known = c.in_ok-keyword.ensures.known.same in
    let here = sym c.in-Extern.is ∙ c.in_ok-keyword.ensures.keyword in
    let reads = reads_mark now.left Extern (here ∙ ap (λ u. keyword_at u.left) (sym known))
    ∙ ap (read_map (λ x. extern_mark)) c.in_ok-says-in-Extern.ensures.0 in
    let less = says_less (codes "extern") now.left c.says.new.self.left c.in_ok-says-in-Extern.ensures.0 in
    record {
      found = c.marks.invariant.found ++ extern_mark ∷ [];
      turns = turn_adds no_mark mark (marks c.args.self.now.left) begun now c.says.new.self c.marks.invariant.found extern_mark
          c.marks.invariant.turns (goes_on begun.left Extern here refl, known) reads less;
      externs = sym (extern_more c.marks.invariant.found);
      nodebugs = c.marks.invariant.nodebugs ∙ sym (nodebug_same c.marks.invariant.found);
      same = c.in_ok-says-in-Extern.ensures.1 ∙ ap bounds known ∙ c.marks.invariant.same;
    }

pub returns-in_err-says-in-NoDebug : goal.returns-in_err-says-in-NoDebug
returns-in_err-says-in-NoDebug c =
    let e = err_from_is_err_and c.from_residual-in_err-says-in-NoDebug.result c.from_residual-in_err-says-in-NoDebug.ensures.1 in
    let old = c.args.self.now in
    let begun = c.marks.self in
    let now = c.keyword.new.self in
    let known = c.in_ok-keyword.ensures.known.same in
    let here = sym c.in-NoDebug.is ∙ c.in_ok-keyword.ensures.keyword in
    let reads = reads_mark now.left NoDebug (here ∙ ap (λ u. keyword_at u.left) (sym known)) in
    let turn = refuses_map (λ x. nodebug_mark) (says (codes "nodebug") now.left) now now c.says-in-NoDebug.new.self _ refl
    c.in_err-says-in-NoDebug.ensures in
    rw (e.1, e.2) (refuses_with (marks old.left) (read_map marked_of (seq marks (type_value c.args.depth_left) old.left)) old
    c.says-in-NoDebug.new.self _ (first_stops marked_of marks (type_value c.args.depth_left) old.left)
    (turn_refuses no_mark mark (marks old.left) begun now old c.says-in-NoDebug.new.self _ _ c.marks.invariant.turns c.marks.invariant.same
    (goes_on begun.left NoDebug here refl, known)
    (subst (λ x. RefusesAt now c.says-in-NoDebug.new.self c.in_err-says-in-NoDebug.field-0.0 (stop_of x)) (sym reads) turn)))

pub marks-preserved : goal.marks-preserved
marks-preserved c =
    let begun = c.marks.self in
    let now = c.keyword.new.self in
    let known = c.in_ok-keyword.ensures.known.same in
    let here = sym c.in-NoDebug.is ∙ c.in_ok-keyword.ensures.keyword in
    let reads = reads_mark now.left NoDebug (here ∙ ap (λ u. keyword_at u.left) (sym known))
    ∙ ap (read_map (λ x. nodebug_mark)) c.in_ok-says-in-NoDebug.ensures.0 in
    let less = says_less (codes "nodebug") now.left c.says-in-NoDebug.new.self.left c.in_ok-says-in-NoDebug.ensures.0 in
    record {
      found = c.marks.invariant.found ++ nodebug_mark ∷ [];
      turns = turn_adds no_mark mark (marks c.args.self.now.left) begun now c.says-in-NoDebug.new.self c.marks.invariant.found nodebug_mark
          c.marks.invariant.turns (goes_on begun.left NoDebug here refl, known) reads less;
      externs = c.marks.invariant.externs ∙ sym (extern_same c.marks.invariant.found);
      nodebugs = sym (nodebug_more c.marks.invariant.found);
      same = c.in_ok-says-in-NoDebug.ensures.1 ∙ ap bounds known ∙ c.marks.invariant.same;
    }

pub returns-in_err-parse_typevalue-in_default : goal.returns-in_err-parse_typevalue-in_default
returns-in_err-parse_typevalue-in_default c =
    let e = err_from_is_err_and c.from_residual-in_err-parse_typevalue-in_default.result c.from_residual-in_err-parse_typevalue-in_default.ensures.1
    in
    let old = c.args.self.now in
    let begun = c.marks.self in
    let found = c.marks.invariant.found in
    let ended =
    marks_end old.left begun.left found c.marks.invariant.turns
    (ends begun.left c.in_ok-keyword.field-0 c.in_ok-keyword.ensures.keyword c.in_default.not-Extern c.in_default.not-NoDebug) in
    rw (e.1, e.2, map_seq_done marks (type_value c.args.depth_left) old.left begun.left marked_of found ended)
    (refuses_map (λ b. marked_of (found, b)) (type_value c.args.depth_left begun.left) old begun c.parse_typevalue.new.self _ c.marks.invariant.same
    (known_refuses begun c.keyword.new.self c.parse_typevalue.new.self _ c.in_ok-keyword.ensures.known (type_value c.args.depth_left)
    c.in_err-parse_typevalue-in_default.ensures))

pub returns-in_default : goal.returns-in_default
returns-in_default c =
    let old = c.args.self.now in
    let begun = c.marks.self in
    let found = c.marks.invariant.found in
    let known = c.in_ok-keyword.ensures.known.same in
    let ended =
    marks_end old.left begun.left found c.marks.invariant.turns
    (ends begun.left c.in_ok-keyword.field-0 c.in_ok-keyword.ensures.keyword c.in_default.not-Extern c.in_default.not-NoDebug) in (
      map_seq_done marks (type_value c.args.depth_left) old.left begun.left marked_of found ended
          ∙ ap (λ u. read_map (λ b. marked_of (found, b)) (type_value c.args.depth_left u.left)) (sym known)
          ∙ ap (read_map (λ b. marked_of (found, b))) c.in_ok-parse_typevalue-in_default.ensures.0
          ∙ (λ i. done (sym c.marks.invariant.externs i, sym c.marks.invariant.nodebugs i, c.in_ok-parse_typevalue-in_default.field-0)
          c.parse_typevalue.new.self.left),
      c.in_ok-parse_typevalue-in_default.ensures.1 ∙ ap bounds known ∙ c.marks.invariant.same,
    )
