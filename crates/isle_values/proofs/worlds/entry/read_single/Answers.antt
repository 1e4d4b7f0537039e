use Rattle.std.proofs.Common.{false, ◌≡◌, ◌++◌, List, ◌∙◌, subst, arith, append_assoc}
use Rattle.std.specs.Prelude.{IfNone}
use Rattle.isle_syntax.specs.declared.lexer.Token.{Token}
use Rattle.isle_rules.specs.Values.{ValueTrees, no_trees, more_trees}
use Rattle.isle_values.specs.Values.Tokens.{tokens_of, tokens_all, HaveNoValue}
use Rattle.isle_values.specs.Worlds.Entries.{AreSpeltAs, values_tokens}
use Rattle.isle_values.proofs.worlds.entry.read_single.Goals as goal

-- one value isn't there
no_single : (tokens : List Token) → HaveNoValue tokens → (vs : ValueTrees) (rest : List Token) → AreSpeltAs false vs
    → tokens ≡ values_tokens false vs ++ rest → ⊥
no_single tokens never no_trees rest fine is = let one = fine.1 in omega (arith, one)
no_single tokens never (more_trees v vs) rest fine is = never v (tokens_all vs ++ rest) fine.0.0
    (is ∙ append_assoc (tokens_of v) (tokens_all vs) rest)

pub returns-in-None-clause-none : goal.returns-in-None-clause-none
returns-in-None-clause-none c = no_single c.args.tokens.now
    (subst (λ o. IfNone o (HaveNoValue c.args.tokens.now)) c.in-None.is c.in_ok-value.ensures.none)
