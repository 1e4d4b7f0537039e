use Rattle.std.proofs.Common.{◌++◌, codes, List, ℕ, OnErr, OnOk, subst}
use Rattle.std.specs.Io.KnownBytes.{Appends}
use Rattle.islec.specs.Causes.{line_of_two}
use Rattle.islec.specs.Writing.{AppendsBeginning}
use Rattle.islec.proofs.cause.write_unwritten.Goals as goal

pub returns-clause-ok : goal.returns-clause-ok
returns-clause-ok g c =
    subst (λ (cause : List ℕ). OnOk c.write_cause.result
    (Appends (g.W.Write.contents c.args.output.now) (g.W.Write.contents c.write_cause.new.output)
    (line_of_two (codes "cannot write ") c.args.name.now ++ line_of_two (codes "  ") cause))) c.written_kind_words.ensures
    c.write_cause.ensures.ok

pub returns-clause-err : goal.returns-clause-err
returns-clause-err g c =
    subst (λ (cause : List ℕ). OnErr c.write_cause.result
    (AppendsBeginning (g.W.Write.contents c.args.output.now) (g.W.Write.contents c.write_cause.new.output)
    (line_of_two (codes "cannot write ") c.args.name.now ++ line_of_two (codes "  ") cause))) c.written_kind_words.ensures
    c.write_cause.ensures.err
