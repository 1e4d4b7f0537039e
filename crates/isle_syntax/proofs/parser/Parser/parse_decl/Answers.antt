use Rattle.std.proofs.Common.{sym, subst, ◌∙◌}
use Rattle.std.proofs.lemmas.Result.{err_from_is_err_and}
use Rattle.isle_syntax.specs.Inside.Reading.Parsing.{RefusesAt}
use Rattle.isle_syntax.specs.Inside.Reading.Readers.{done}
use Rattle.isle_syntax.proofs.Reading.Loops.{refuses_later}
use Rattle.isle_syntax.proofs.Reading.Beginnings.{decl_stop, decl_bounds, decl_reads}
use Rattle.isle_syntax.proofs.parser.Parser.parse_decl.Goals as goal

pub returns-in_err-term : goal.returns-in_err-term
returns-in_err-term c =
    let e = err_from_is_err_and c.from_residual-in_err-term.result c.from_residual-in_err-term.ensures.1 in
    let u0 = c.args.self.now in
    let u4 = c.take_word-4.new.self in
    let stop = decl_stop c.args.depth_left u0 c.take_word.new.self c.take_word-2.new.self c.take_word-3.new.self u4 _ _ _ _ c.in_ok-pure.ensures.taken
    c.in_ok-multi.ensures.taken c.in_ok-partial.ensures.taken c.in_ok-rec.ensures.taken in
    let same = decl_bounds c.args.depth_left u0 c.take_word.new.self c.take_word-2.new.self c.take_word-3.new.self u4 _ _ _ _
    c.in_ok-pure.ensures.taken c.in_ok-multi.ensures.taken c.in_ok-partial.ensures.taken c.in_ok-rec.ensures.taken in
    rw (e.1, e.2) (refuses_later u0 u4 c.parse_signature.new.self _ _ same
    (subst (RefusesAt u4 c.parse_signature.new.self c.in_err-term.field-0.0) (sym stop) c.in_err-term.ensures))

pub returns : goal.returns
returns c =
    let u0 = c.args.self.now in
    let u4 = c.take_word-4.new.self in
    let reads = decl_reads c.args.depth_left u0 c.take_word.new.self c.take_word-2.new.self c.take_word-3.new.self u4 _ _ _ _
    c.in_ok-pure.ensures.taken c.in_ok-multi.ensures.taken c.in_ok-partial.ensures.taken c.in_ok-rec.ensures.taken c.parse_signature.new.self.left
    _ c.in_ok-term.ensures.0 in
    let same = decl_bounds c.args.depth_left u0 c.take_word.new.self c.take_word-2.new.self c.take_word-3.new.self u4 _ _ _ _
    c.in_ok-pure.ensures.taken c.in_ok-multi.ensures.taken c.in_ok-partial.ensures.taken c.in_ok-rec.ensures.taken in (
      reads ∙ (λ i. done (record {
        term = c.in_ok-term.term;
        arg_tys = sym c.new.ensures i;
        ret_ty = c.in_ok-term.ret_ty;
        pure = c.in_ok-pure.pure;
        multi = c.in_ok-multi.multi;
        partial = c.in_ok-partial.partial;
        rec = c.in_ok-rec.rec;
        pos = sym c.pos-pos.ensures i;
      }) c.parse_signature.new.self.left),
      c.in_ok-term.ensures.1 ∙ same,
    )
