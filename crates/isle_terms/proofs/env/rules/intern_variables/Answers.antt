use Rattle.std.proofs.Common.{refl, sym, ◌∙◌, length, zero-add}
use Rattle.isle_rules.specs.declared.rules.BoundVar.{BoundVar}
use Rattle.isle_types.proofs.Tables.{more_then}
use Rattle.isle_types.proofs.FieldReadings.{count_more}
use Rattle.isle_terms.proofs.Showing.RulesShown.{variable_more}
use Rattle.isle_terms.proofs.env.rules.intern_variables.Goals as goal

pub loop-variable-preserved : goal.loop-variable-preserved
loop-variable-preserved c =
    let made = c.loop-variable.made in
    record {
      shown = rw c.in_ok-push.ensures.items
          (variable_more c.loop-variable.tyenv.names c.intern_mut.new.self.names c.intern_mut.ensures.same.kept c.loop-variable.yielded made.items
          c.in-Some.variable _ c.loop-variable.invariant.shown (record { name = c.in_ok-name.ensures.symbol; type = refl }));
      numbers = rw c.in_ok-push.ensures.items
          (count_more (λ (variable : BoundVar). variable.id.0) 0 made.items _ c.loop-variable.invariant.numbers
          (c.len.ensures ∙ made.ok.0 ∙ sym (zero-add (length made.items))));
      same = more_then _ _ _ c.loop-variable.invariant.same c.intern_mut.ensures.same;
    }
