use Rattle.std.proofs.Common.{◌<◌, length, arith, rules, slice_get, IfSome}
use Rattle.std.proofs.lemmas.Result.{err_from_is_err_and}
use Rattle.std.proofs.lemmas.List.Elements.{All-same, All-append}
use Rattle.isle_ast.specs.Positions.Printable.{IsPrintablePos}
use Rattle.isle_ast.specs.Positions.DefPositions.{DefAt}
use Rattle.isle_ast.specs.Trees.MacroArgs.{HasNoMacroArgs}
use Rattle.isle_syntax.specs.Grammar.Verdict.{Spells}
use Rattle.isle_program.proofs.Compiling.FirstFaults.{first_fault_alone}
use Rattle.isle_program.proofs.Compiling.SpeltFiles.{AreSpelt-pushed}
use Rattle.isle_program.proofs.compiler.parse_files.Goals as goal

pub returns-in_err-parsed-clause-fault : goal.returns-in_err-parsed-clause-fault
returns-in_err-parsed-clause-fault c =
    let p = err_from_is_err_and c.from_residual.result c.from_residual.ensures.1 in
    let within : c.loop-file.file < length c.args.files.now = grind arith in
    rw (p.1, p.2) (first_fault_alone c.args.files.now c.loop-file.file
    (c.loop-file.defs.items, c.loop-file.invariant.spelt) c.in_err-parsed.field-0.0 within c.in_err-parsed.ensures.fault)

pub loop-file-preserved : goal.loop-file-preserved
loop-file-preserved c =
    let within : c.loop-file.file < length c.args.files.now = grind arith in
    let next : IfSome (slice_get c.args.files.now c.loop-file.file)
    (λ file. Spells c.loop-file.file file.text c.in_ok-parsed.parsed.items) = search rules in
    record {
      no_macro_args =
          All-same HasNoMacroArgs _ _ c.in_ok-append.ensures
          (All-append HasNoMacroArgs c.loop-file.defs.items c.in_ok-parsed.parsed.items c.loop-file.invariant.no_macro_args
          c.in_ok-parsed.ensures.no_macro_args);
      placed =
          All-same (DefAt (IsPrintablePos c.args.files.now)) _ _ c.in_ok-append.ensures
          (All-append (DefAt (IsPrintablePos c.args.files.now)) c.loop-file.defs.items c.in_ok-parsed.parsed.items c.loop-file.invariant.placed
          c.in_ok-parsed.ensures.placed);
      spelt = AreSpelt-pushed c.loop-file.file c.args.files.now c.loop-file.defs.items c.in_ok-parsed.parsed.items c.append.new.defs.items within
          c.loop-file.invariant.spelt next c.in_ok-append.ensures;
    }
