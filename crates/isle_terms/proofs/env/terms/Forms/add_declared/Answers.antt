use Rattle.std.proofs.Common.{refl, subst, ◌∙◌}
use Rattle.std.proofs.lemmas.Result.{IfErr-weaker}
use Rattle.isle_types.proofs.Tables.{ok_then}
use Rattle.isle_rules.specs.Shown.ShownTerms.{term_at}
use Rattle.isle_terms.specs.Inside.Collecting.DeclaredTerms.{IsDeclaredTerm, NamesUnknownType, AddsDeclaredTerm}
use Rattle.isle_terms.proofs.Collections.AddedErrors.{adds_none}
use Rattle.isle_terms.proofs.Collections.DeclaredTerms.{fault_kept, fault_alone}
use Rattle.isle_terms.proofs.env.terms.Forms.add_declared.Goals as goal

pub returns-in_ok-push-in-Ok-clause-added : goal.returns-in_ok-push-in-Ok-clause-added
returns-in_ok-push-in-Ok-clause-added c = λ types defs shows forms.
    let decl = c.args.decl.now in
    let names = c.declared_term.new.tyenv.names in
    adds_none (NamesUnknownType types decl) (AddsDeclaredTerm types defs names decl c.args.terms.now.items c.push.new.self.items)
    c.args.errors.now.items c.args.errors.now.items refl (record {
      term = c.in-Ok.term;
      all = c.in_ok-push-in-Ok.ensures.items;
      meant = subst (λ n. IsDeclaredTerm types defs names (term_at n) decl c.in-Ok.term) (c.len.ensures ∙ c.args.terms.now.ok.0)
          (c.in-Ok.ensures.made types defs shows forms);
    })

pub returns-in-Err-clause-added : goal.returns-in-Err-clause-added
returns-in-Err-clause-added c = λ types defs shows forms.
    ok_then c.keep.result (fault_kept types c.args.decl.now _ c.in-Err.refusal c.args.errors.now.items c.keep.new.errors.items
    (c.in-Err.ensures.fault types shows)) c.keep.ensures.kept

pub returns-in-Err-clause-large : goal.returns-in-Err-clause-large
returns-in-Err-clause-large c = λ types shows.
    IfErr-weaker c.keep.result _ _ (λ answer alone. fault_alone types c.args.decl.now c.in-Err.refusal answer (c.in-Err.ensures.fault types shows)
    alone) c.keep.ensures.alone
