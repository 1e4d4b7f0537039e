use Rattle.std.proofs.Common.{◌≡◌, ◌∙◌, List, ℕ, [], sym, subst}
use Rattle.std.specs.Io.{StopsAt, appended_bytes}
use Rattle.std.specs.Io.KnownBytes.{Consumes}
use Rattle.islec.proofs.LineLemmas.{ended_takes, ended_some}
use Rattle.islec.proofs.serve.read_line.Goals as goal

pub returns-in-Err-clause-line : goal.returns-in-Err-clause-line
returns-in-Err-clause-line g c =
    let items = c.read_until.new.buf.items in
    let none : c.new-line.result.items ≡ [] = c.new-line.ensures.items in
    let took = subst (λ (l : List ℕ). Consumes (g.B.Read.remaining c.args.input.now) (g.B.Read.remaining c.read_until.new.self)
    (appended_bytes l items))
    none c.in-Err.ensures.none_lost in
    let stops = subst (λ (l : List ℕ). StopsAt (appended_bytes l items) 10) none c.in-Err.ensures.stops in
    let (front, ended) = c.has_ended.ensures.0 c.if-has_ended.true in
    let is = sym c.as_slice.ensures.value ∙ ended in
    ended_takes (g.B.Read.remaining c.args.input.now) (g.B.Read.remaining c.read_until.new.self) items front took stops is (ended_some items front is)
