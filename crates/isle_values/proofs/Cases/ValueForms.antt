-- The values (Op.Add 1 (Op.Nop)) and (Op.Add $A (Op.Nop)): texts, tokens and nodes.
use Rattle.std.proofs.Common.{◌≡◌, [], ◌∷◌, pos, true, refl}
use Rattle.std.specs.Prelude.{codes}
use Rattle.isle_syntax.specs.declared.lexer.Token.TheVariants.{LParen, RParen, At, Symbol, Int}
use Rattle.isle_rules.specs.Values.{ValueTree, bool_tree, int_tree, const_tree, data_tree, no_trees, more_trees}
use Rattle.isle_values.specs.declared.values.Node.TheVariants.{Int as IntNode, Data}
use Rattle.isle_values.specs.Values.Nodes.{nodes_of, value_in}
use Rattle.isle_values.specs.Values.Text.{value_text}
use Rattle.isle_values.specs.Values.Tokens.{tokens_of}
use Rattle.isle_values.specs.Values.Lists.{no_items, a_word, a_list, Closes}

abbrev nop : ValueTree
nop = data_tree (codes "Op.Nop") no_trees

abbrev sum : ValueTree
sum = data_tree (codes "Op.Add") (more_trees (int_tree (pos 1)) (more_trees nop no_trees))

abbrev named : ValueTree
named = data_tree (codes "Op.Add") (more_trees (const_tree (codes "A")) (more_trees nop no_trees))

text : value_text named ≡ codes "(Op.Add $A (Op.Nop))"
text = refl

truth : value_text (bool_tree true) ≡ codes "true"
truth = refl

constant : value_text (const_tree (codes "NAME")) ≡ codes "$NAME"
constant = refl

tokens : tokens_of sum ≡ LParen ∷ Symbol (codes "Op.Add") ∷ Int (pos 1) ∷ LParen ∷ Symbol (codes "Op.Nop") ∷ RParen ∷ RParen ∷ []
tokens = refl

-- a node before its fields
nodes : nodes_of sum ≡ Data (codes "Op.Add") 2 2 ∷ IntNode (pos 1) ∷ Data (codes "Op.Nop") 0 0 ∷ []
nodes = refl

back : value_in (nodes_of sum) ≡ sum
back = refl

-- behind an open parenthesis these tokens close it, and with one parenthesis less they don't
closes : Closes 1 (Int (pos 1) ∷ LParen ∷ At ∷ RParen ∷ RParen ∷ [])
closes = (
  Int (pos 1) ∷ LParen ∷ At ∷ RParen ∷ [],
  [],
  a_word (Int (pos 1)) tt (a_list (a_word At tt no_items) no_items),
  refl,
  refl,
)
