use Rattle.std.proofs.Common.{refl, ap}
use Rattle.isle_rules.specs.Signatures.{declared_form}
use Rattle.isle_rules.specs.Definitions.{flags_in, constructor_for, extractor_for}
use Rattle.isle_rules.specs.Shown.ShownTerms.{numbers_of}
use Rattle.isle_terms.proofs.env.terms.Forms.declared_term.Goals as goal

pub returns-clause-made : goal.returns-clause-made
returns-clause-made c = λ types defs shows forms.
    let decl = c.args.decl.now in
    record {
      signature = record {
        name = decl.term.0;
        args = numbers_of c.in-Ok.types.arguments.items;
        ret = c.in-Ok.types.value.0;
        form = declared_form (flags_in decl) (constructor_for defs decl.term.0) (extractor_for defs decl.term.0);
        pos = decl.pos;
      };
      meant = record {
        name = refl;
        args = c.in-Ok.ensures.arguments types shows;
        ret = c.in-Ok.ensures.value types shows;
        form = refl;
        pos = refl;
      };
      shown = record {
        name = c.kind_of.ensures.more.kept c.in_ok-name.name.0 decl.term.0 c.in_ok-name.ensures.symbol;
        args = ap numbers_of c.new.ensures;
        ret = refl;
        form = c.in_ok-kind.ensures.made defs forms;
        pos = refl;
      };
      numbered = refl;
      within = c.in-Ok.ensures.within;
    }
