use Rattle.std.proofs.Common.{◌≡◌, List, [], ◌∷◌, ◌++◌, append_assoc, ap, ◌∙◌}
use Rattle.isle_layout.specs.SExprTree.{SExprTree}
use Rattle.isle_layout.specs.Spellings.{listed}
use Rattle.isle_layout.proofs.to_sexpr.rules.RuleToSExpr.to_sexpr.Goals as goal

-- the parts of a rule in a row
rule_parts : (word pattern expr : SExprTree) (name priority iflets : List SExprTree)
    → (((((word ∷ []) ++ name) ++ priority) ++ pattern ∷ []) ++ iflets) ++ expr ∷ []
    ≡ word ∷ (name ++ (priority ++ (pattern ∷ (iflets ++ expr ∷ []))))
rule_parts word pattern expr name priority iflets = simp append_assoc

pub returns-clause-spelt : goal.returns-clause-spelt
returns-clause-spelt c =
    let list = rw (
      c.in_ok-list-4.ensures,
      c.in_ok-list-3.ensures,
      c.in_ok-list-2.ensures,
      c.in_ok-add_name.ensures,
      c.in_ok-list.ensures,
      c.new.ensures,
      c.as_slice.ensures,
    ) at c.in_ok-add_expr.ensures in
    c.build.ensures ∙ ap listed (list ∙ rule_parts _ _ _ _ _ _)
