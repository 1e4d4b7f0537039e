use Rattle.std.proofs.Common.{subst}
use Rattle.isle_rules.specs.Definitions.{constructor_for, extractor_for}
use Rattle.isle_terms.specs.Inside.Collecting.DeclaredTerms.{AreShownAs, IsShownConstructor, IsShownExtractor}
use Rattle.isle_terms.proofs.Collections.DeclaredTerms.{constructor_kept}
use Rattle.isle_terms.proofs.env.terms.Forms.kind_of.Goals as goal

pub returns-clause-made : goal.returns-clause-made
returns-clause-made c = λ defs forms. (
  c.flags_of.ensures,
  constructor_kept c.constructor_kind.new.tyenv.names c.extractor_kind.new.tyenv.names c.extractor_kind.ensures.more.kept
      (constructor_for defs c.args.decl.now.term.0) c.in_ok-constructor_kind.constructor_kind
      (subst (λ name. AreShownAs (IsShownConstructor c.constructor_kind.new.tyenv.names) (constructor_for defs name)
      c.in_ok-constructor_kind.constructor_kind) c.as_str.ensures (c.in_ok-constructor_kind.ensures.made defs forms)),
  subst (λ name. AreShownAs (IsShownExtractor c.extractor_kind.new.tyenv.names) (extractor_for defs name) c.in_ok-extractor_kind.extractor_kind)
      c.as_str-2.ensures (c.in_ok-extractor_kind.ensures.made defs forms),
)
