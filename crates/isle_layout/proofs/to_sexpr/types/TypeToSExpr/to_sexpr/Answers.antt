use Rattle.std.proofs.Common.{◌≡◌, List, [], ◌∷◌, ◌++◌, append_assoc, ap, ◌∙◌}
use Rattle.isle_layout.specs.SExprTree.{SExprTree}
use Rattle.isle_layout.specs.Spellings.{listed}
use Rattle.isle_layout.proofs.to_sexpr.types.TypeToSExpr.to_sexpr.Goals as goal

-- the parts of a type's definition in a row
type_parts : (word name value : SExprTree) (extern_mark nodebug_mark : List SExprTree)
    → ((((word ∷ []) ++ name ∷ []) ++ extern_mark) ++ nodebug_mark) ++ value ∷ []
    ≡ word ∷ name ∷ (extern_mark ++ (nodebug_mark ++ value ∷ []))
type_parts word name value extern_mark nodebug_mark = simp append_assoc

pub returns-clause-spelt : goal.returns-clause-spelt
returns-clause-spelt c =
    let list = rw (
      c.in_ok-spell_type_value.ensures,
      c.in_ok-list-2.ensures,
      c.in_ok-flag.ensures,
      c.in_ok-list.ensures,
      c.in_ok-word.ensures,
      c.new.ensures,
    ) at c.in_ok-item.ensures in
    c.build.ensures ∙ ap listed (list ∙ type_parts _ _ _ _ _)
