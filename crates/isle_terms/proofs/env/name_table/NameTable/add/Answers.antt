use Rattle.std.proofs.Common.{sym, ◌∙◌}
use Rattle.isle_terms.proofs.Collections.NameTables.{placed_new, placed_old, missing_from}
use Rattle.isle_terms.proofs.env.name_table.NameTable.add.Goals as goal

pub returns-then-has-clause-added : goal.returns-then-has-clause-added
returns-then-has-clause-added c = λ names table last. record {
  placed = λ other. table.placed other ∙ placed_old names c.args.name.now (sym (c.has.ensures names table) ∙ c.if-has.true) other;
}

pub returns-clause-added : goal.returns-clause-added
returns-clause-added c = λ names table last. record {
  placed =
      placed_new names c.args.self.now.places c.insert.new.self c.in_ok-key.key c.args.name.now c.args.place table.placed c.in_ok-key.ensures.ok
      (missing_from _ (sym (c.has.ensures names table) ∙ c.if-has.false)) last c.in_ok-insert.ensures.values c.in_ok-insert.ensures.others;
}
