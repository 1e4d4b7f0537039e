use Rattle.std.proofs.Common.{refl, sym, true≢false, codes, map, subst}
use Rattle.std.proofs.lemmas.Result.{IfOk-weaker}
use Rattle.clap.specs.Words.{found_of, rows_of}
use Rattle.islec.proofs.CommandLemmas.{EntersOne, as_islec, blocks_fills, check_fills, fmt_fills, met_rows, misuse_refuses, none_met, parses, reads_line, refused, run_fills}
use Rattle.islec.proofs.line.line_of.Goals as goal

-- no fault, but what is found in the words
pub returns-in_err-matches-clause-refused : goal.returns-in_err-matches-clause-refused
returns-in_err-matches-clause-refused g c =
    let words = map g.S.AsStr.text c.args.words.now in
    let kinds = as_islec c.in_ok-command.command words c.in_err-matches.field-0.0 c.in_ok-command.ensures c.in_err-matches.ensures.kinds in
    refused words c.in_err-matches.field-0.0 c.from_residual-in_err-matches.result c.from_residual-in_err-matches.ensures.1 kinds

pub run_line-requires : goal.run_line-requires
run_line-requires g c =
    let m = c.in_ok-matches.matches in
    let parsed = parses c.in_ok-command.command
    (map g.S.AsStr.text c.args.words.now) m c.in_ok-command.ensures c.in_ok-matches.ensures.ok.2 c.in_ok-matches.ensures.kinds in
    let rows = rows_of (found_of c.in-Some.run'.now) in
    let met = met_rows m (codes "run") rows (c.in-Some.ensures.found.0 refl) c.in-Some.ensures.rows in
    run_fills rows (subst EntersOne met parsed.one)

pub returns-in-Some-clause-reads : goal.returns-in-Some-clause-reads
returns-in-Some-clause-reads g c =
    let m = c.in_ok-matches.matches in
    let words = map g.S.AsStr.text c.args.words.now in
    let parsed = parses c.in_ok-command.command words m c.in_ok-command.ensures c.in_ok-matches.ensures.ok.2 c.in_ok-matches.ensures.kinds in
    let rows = rows_of (found_of c.in-Some.run'.now) in
    let met = met_rows m (codes "run") rows (c.in-Some.ensures.found.0 refl) c.in-Some.ensures.rows in
    reads_line words m (codes "run") rows c.in_ok-run_line.field-0 parsed met c.in_ok-run_line.ensures.says

pub check_line-requires : goal.check_line-requires
check_line-requires g c =
    let m = c.in_ok-matches.matches in
    let parsed = parses c.in_ok-command.command
    (map g.S.AsStr.text c.args.words.now) m c.in_ok-command.ensures c.in_ok-matches.ensures.ok.2 c.in_ok-matches.ensures.kinds in
    let rows = rows_of (found_of c.in-Some-subcommand_matches.check.now) in
    let met = met_rows m (codes "check") rows (c.in-Some-subcommand_matches.ensures.found.0 refl) c.in-Some-subcommand_matches.ensures.rows in
    check_fills rows (subst EntersOne met parsed.one)

pub returns-in-Some-subcommand_matches-clause-reads : goal.returns-in-Some-subcommand_matches-clause-reads
returns-in-Some-subcommand_matches-clause-reads g c =
    let m = c.in_ok-matches.matches in
    let words = map g.S.AsStr.text c.args.words.now in
    let parsed = parses c.in_ok-command.command words m c.in_ok-command.ensures c.in_ok-matches.ensures.ok.2 c.in_ok-matches.ensures.kinds in
    let rows = rows_of (found_of c.in-Some-subcommand_matches.check.now) in
    let met = met_rows m (codes "check") rows (c.in-Some-subcommand_matches.ensures.found.0 refl) c.in-Some-subcommand_matches.ensures.rows in
    IfOk-weaker c.check_line.result _ _ (λ line says. reads_line words m (codes "check") rows line parsed met says) c.check_line.ensures.says

pub returns-in-Some-subcommand_matches-clause-refused : goal.returns-in-Some-subcommand_matches-clause-refused
returns-in-Some-subcommand_matches-clause-refused g c =
    let m = c.in_ok-matches.matches in
    let words = map g.S.AsStr.text c.args.words.now in
    let parsed = parses c.in_ok-command.command words m c.in_ok-command.ensures c.in_ok-matches.ensures.ok.2 c.in_ok-matches.ensures.kinds in
    let rows = rows_of (found_of c.in-Some-subcommand_matches.check.now) in
    let met = met_rows m (codes "check") rows (c.in-Some-subcommand_matches.ensures.found.0 refl) c.in-Some-subcommand_matches.ensures.rows in
    misuse_refuses words m (codes "check") rows c.check_line.result parsed met c.check_line.ensures.misused

pub blocks_line-requires : goal.blocks_line-requires
blocks_line-requires g c =
    let m = c.in_ok-matches.matches in
    let parsed = parses c.in_ok-command.command
    (map g.S.AsStr.text c.args.words.now) m c.in_ok-command.ensures c.in_ok-matches.ensures.ok.2 c.in_ok-matches.ensures.kinds in
    let rows = rows_of (found_of c.in-Some-subcommand_matches-2.blocks.now) in
    let met = met_rows m (codes "blocks") rows (c.in-Some-subcommand_matches-2.ensures.found.0 refl) c.in-Some-subcommand_matches-2.ensures.rows in
    blocks_fills rows (subst EntersOne met parsed.one)

pub returns-in-Some-subcommand_matches-2-clause-reads : goal.returns-in-Some-subcommand_matches-2-clause-reads
returns-in-Some-subcommand_matches-2-clause-reads g c =
    let m = c.in_ok-matches.matches in
    let words = map g.S.AsStr.text c.args.words.now in
    let parsed = parses c.in_ok-command.command words m c.in_ok-command.ensures c.in_ok-matches.ensures.ok.2 c.in_ok-matches.ensures.kinds in
    let rows = rows_of (found_of c.in-Some-subcommand_matches-2.blocks.now) in
    let met = met_rows m (codes "blocks") rows (c.in-Some-subcommand_matches-2.ensures.found.0 refl) c.in-Some-subcommand_matches-2.ensures.rows in
    reads_line words m (codes "blocks") rows c.in_ok-blocks_line.field-0 parsed met c.in_ok-blocks_line.ensures.says

pub fmt_line-requires : goal.fmt_line-requires
fmt_line-requires g c =
    let m = c.in_ok-matches.matches in
    let parsed = parses c.in_ok-command.command
    (map g.S.AsStr.text c.args.words.now) m c.in_ok-command.ensures c.in_ok-matches.ensures.ok.2 c.in_ok-matches.ensures.kinds in
    let rows = rows_of (found_of c.in-Some-subcommand_matches-3.fmt.now) in
    let met = met_rows m (codes "fmt") rows (c.in-Some-subcommand_matches-3.ensures.found.0 refl) c.in-Some-subcommand_matches-3.ensures.rows in
    fmt_fills rows (subst EntersOne met parsed.one)

pub returns-clause-reads : goal.returns-clause-reads
returns-clause-reads g c =
    let m = c.in_ok-matches.matches in
    let words = map g.S.AsStr.text c.args.words.now in
    let parsed = parses c.in_ok-command.command words m c.in_ok-command.ensures c.in_ok-matches.ensures.ok.2 c.in_ok-matches.ensures.kinds in
    let rows = rows_of (found_of c.in-Some-subcommand_matches-3.fmt.now) in
    let met = met_rows m (codes "fmt") rows (c.in-Some-subcommand_matches-3.ensures.found.0 refl) c.in-Some-subcommand_matches-3.ensures.rows in
    IfOk-weaker c.fmt_line.result _ _ (λ line says. reads_line words m (codes "fmt") rows line parsed met says) c.fmt_line.ensures.says

pub returns-clause-refused : goal.returns-clause-refused
returns-clause-refused g c =
    let m = c.in_ok-matches.matches in
    let words = map g.S.AsStr.text c.args.words.now in
    let parsed = parses c.in_ok-command.command words m c.in_ok-command.ensures c.in_ok-matches.ensures.ok.2 c.in_ok-matches.ensures.kinds in
    let rows = rows_of (found_of c.in-Some-subcommand_matches-3.fmt.now) in
    let met = met_rows m (codes "fmt") rows (c.in-Some-subcommand_matches-3.ensures.found.0 refl) c.in-Some-subcommand_matches-3.ensures.rows in
    misuse_refuses words m (codes "fmt") rows c.fmt_line.result parsed met c.fmt_line.ensures.misused

pub unreachable-requires : goal.unreachable-requires
unreachable-requires g c =
    let m = c.in_ok-matches.matches in
    let parsed = parses c.in_ok-command.command
    (map g.S.AsStr.text c.args.words.now) m c.in_ok-command.ensures c.in_ok-matches.ensures.ok.2 c.in_ok-matches.ensures.kinds in
    none_met m parsed.one (λ e. true≢false (sym (c.in_default.ensures.found.1 e)))
    (λ e. true≢false (sym (c.in_default-subcommand_matches.ensures.found.1 e)))
    (λ e. true≢false (sym (c.in_default-subcommand_matches-2.ensures.found.1 e)))
    (λ e. true≢false (sym (c.in_default-subcommand_matches-3.ensures.found.1 e)))
