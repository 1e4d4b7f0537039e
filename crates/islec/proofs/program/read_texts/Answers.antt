use Rattle.std.proofs.Common.{arith, length, map, sym, ◌∙◌}
use Rattle.std.proofs.lemmas.Grind.{common_steps}
use Rattle.std.proofs.lemmas.Iterator.Adapters.{YieldsList-from_vec}
use Rattle.std.proofs.lemmas.Iterator.Consumers.{YieldsList-turn}
use Rattle.std.proofs.lemmas.Result.{err_from_is_err_and}
use Rattle.isle_ast.specs.Positions.Files.{source_file}
use Rattle.islec.proofs.EndingLemmas.{unread_among}
use Rattle.islec.proofs.InputLemmas.{ReadsFiles-pushed}
use Rattle.islec.proofs.program.read_texts.Goals as goal

pub loop-name-preserved : goal.loop-name-preserved
loop-name-preserved g c =
    let inputs = ReadsFiles-pushed (g.S.Sources.gives c.args.sources.now) c.args.reads_input
    c.loop-name.texts.items c.push.new.self.items _ _ _ _ c.in_ok-push.ensures.items
    c.loop-name.invariant.inputs c.in_ok-read_file.ensures.inputs in
    record { named = grind (arith, common_steps); inputs = inputs }

pub returns-in_err-read_file-clause-refused : goal.returns-in_err-read_file-clause-refused
returns-in_err-read_file-clause-refused g c =
    let source = c.into_iter-name-iterator.ensures.into_iter_gives in
    let road = YieldsList-from_vec {s = c.into_iter-name-iterator.result} c.args.names.items source.0 (source.1 ∙ c.args.names.ok.0) in
    let turn = YieldsList-turn road c.loop-name.yielded c.loop-name.name-iterator c.loop-name.yielded_by c.next.result c.next.new.self c.in-Some.name
    c.in-Some.is c.next.ensures.steps in
    let e = err_from_is_err_and c.from_residual.result c.from_residual.ensures.1 in
    rw (e.1, e.2) (unread_among (g.S.Sources.gives c.args.sources.now) c.args.reads_input (map source_file c.loop-name.texts.items)
    c.args.names.items c.in-Some.name c.in_err-read_file.field-0.0 _ _ (length c.loop-name.yielded, turn.0, sym turn.1)
    c.loop-name.invariant.inputs c.in_err-read_file.ensures.refused)
