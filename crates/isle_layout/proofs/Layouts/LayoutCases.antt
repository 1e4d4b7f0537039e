-- The layout of some S-expressions.
use Rattle.std.proofs.Common.{◌≡◌, [], ◌∷◌, refl, codes}
use Rattle.std.specs.Fmt.{char_count}
use Rattle.isle_layout.specs.SExprTree.{SExprTree, sexpr_atom, sexpr_binding, sexpr_list, no_sexprs, more_sexprs}
use Rattle.isle_layout.specs.Layout.{layout}

abbrev rule : SExprTree
rule =
    sexpr_list
    (more_sexprs (sexpr_atom (codes "rule"))
    (more_sexprs (sexpr_list
    (more_sexprs (sexpr_atom (codes "simp"))
    (more_sexprs (sexpr_list
    (more_sexprs (sexpr_atom (codes "Op.Add"))
    (more_sexprs (sexpr_atom (codes "x"))
    (more_sexprs (sexpr_atom (codes "0")) no_sexprs))))
    no_sexprs)))
    (more_sexprs (sexpr_atom (codes "x")) no_sexprs)))

rule_at_28 : layout 28 0 rule ≡ codes "(rule (simp (Op.Add x 0)) x)"
unfolding char_count
rule_at_28 = refl

rule_at_20 : layout 20 0 rule ≡ codes "(rule\n    (simp (Op.Add x 0))\n    x\n)"
unfolding char_count
rule_at_20 = refl

rule_at_18 : layout 18 0 rule ≡ codes "(rule\n    (simp\n        (Op.Add x 0)\n    )\n    x\n)"
unfolding char_count
rule_at_18 = refl

-- a list of one item stays on one line at each width
one_item : layout 0 0 (sexpr_list (more_sexprs rule no_sexprs)) ≡ codes "((rule (simp (Op.Add x 0)) x))"
unfolding char_count
one_item = refl

-- a binding's pattern is laid out at the binding's indentation
binding : layout 3 4 (sexpr_binding (codes "x")
    (sexpr_list (more_sexprs (sexpr_atom (codes "and")) (more_sexprs (sexpr_atom (codes "a")) (more_sexprs (sexpr_atom (codes "b")) no_sexprs)))))
    ≡ codes "x @ (and\n        a\n        b\n    )"
unfolding char_count
binding = refl

-- characters are counted, and not bytes
accents : layout 7 0 (sexpr_list (more_sexprs (sexpr_atom (110 ∷ 195 ∷ 169 ∷ [])) (more_sexprs (sexpr_atom (100 ∷ 195 ∷ 169 ∷ [])) no_sexprs)))
    ≡ 40 ∷ 110 ∷ 195 ∷ 169 ∷ 32 ∷ 100 ∷ 195 ∷ 169 ∷ 41 ∷ []
unfolding char_count
accents = refl

abbrev decl : SExprTree
decl =
    sexpr_list
    (more_sexprs (sexpr_atom (codes "decl"))
    (more_sexprs (sexpr_atom (codes "foo"))
    (more_sexprs (sexpr_list (more_sexprs (sexpr_atom (codes "A")) no_sexprs))
    (more_sexprs (sexpr_atom (codes "B")) no_sexprs))))

decl_at_16 : layout 16 0 decl ≡ codes "(decl foo (A) B)"
unfolding char_count
decl_at_16 = refl

decl_at_5 : layout 5 0 decl ≡ codes "(decl\n    foo\n    (A)\n    B\n)"
unfolding char_count
decl_at_5 = refl
