use Rattle.std.proofs.Common.{◌≡◌, List, [], ◌∷◌, ◌++◌, append_assoc, ap, ◌∙◌}
use Rattle.isle_layout.specs.SExprTree.{SExprTree}
use Rattle.isle_layout.specs.Spellings.{listed}
use Rattle.isle_layout.proofs.to_sexpr.terms.DeclToSExpr.to_sexpr.Goals as goal

-- the parts of a declaration in a row
decl_parts : (word term args ret : SExprTree) (flags : List SExprTree)
    → ((((word ∷ []) ++ flags) ++ term ∷ []) ++ args ∷ []) ++ ret ∷ [] ≡ word ∷ (flags ++ (term ∷ args ∷ ret ∷ []))
decl_parts word term args ret flags = simp append_assoc

pub returns-clause-spelt : goal.returns-clause-spelt
returns-clause-spelt c =
    let list = rw (
      c.in_ok-list-2.ensures,
      c.in_ok-name.ensures,
      c.in_ok-list.ensures,
      c.in_ok-word.ensures,
      c.new.ensures,
      c.as_slice.ensures,
    ) at c.in_ok-name-2.ensures in
    c.build.ensures ∙ ap listed (list ∙ decl_parts _ _ _ _ _)
