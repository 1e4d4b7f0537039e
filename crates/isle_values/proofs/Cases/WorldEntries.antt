-- Worked cases: the world (constructor emit (1) 2) (constructor emit else 0) (extractor add 1 (2 3)): its tokens.
use Rattle.std.proofs.Common.{◌≡◌, [], ◌∷◌, pos, Some, None, refl}
use Rattle.std.specs.Prelude.{codes}
use Rattle.isle_syntax.specs.declared.lexer.Token.TheVariants.{LParen, RParen, Symbol, Int}
use Rattle.isle_rules.specs.Values.{int_tree, no_trees, more_trees}
use Rattle.isle_values.specs.declared.worlds.entry.Side.TheVariants.{Constructor, Extractor}
use Rattle.isle_values.specs.Worlds.Entries.{EntryTree, entry_tokens}

abbrev of_one : EntryTree
of_one = record {
  side = Constructor;
  term = codes "emit";
  call = Some (more_trees (int_tree (pos 1)) no_trees);
  answer = Some (more_trees (int_tree (pos 2)) no_trees);
}

abbrev of_others : EntryTree
of_others = record { side = Constructor; term = codes "emit"; call = None; answer = Some (more_trees (int_tree (pos 0)) no_trees) }

abbrev taken_apart : EntryTree
taken_apart = record {
  side = Extractor;
  term = codes "add";
  call = Some (more_trees (int_tree (pos 1)) no_trees);
  answer = Some (more_trees (int_tree (pos 2)) (more_trees (int_tree (pos 3)) no_trees));
}

of_a_call : entry_tokens of_one
    ≡ LParen ∷ Symbol (codes "constructor") ∷ Symbol (codes "emit") ∷ LParen ∷ Int (pos 1) ∷ RParen ∷ Int (pos 2) ∷ RParen ∷ []
of_a_call = refl

of_an_else : entry_tokens of_others
    ≡ LParen ∷ Symbol (codes "constructor") ∷ Symbol (codes "emit") ∷ Symbol (codes "else") ∷ Int (pos 0) ∷ RParen ∷ []
of_an_else = refl

of_an_extractor : entry_tokens taken_apart
    ≡ LParen ∷ Symbol (codes "extractor") ∷ Symbol (codes "add") ∷ Int (pos 1) ∷ LParen ∷ Int (pos 2) ∷ Int (pos 3)
    ∷ RParen ∷ RParen ∷ []
of_an_extractor = refl

of_no_answer : entry_tokens (record of_others { answer = None })
    ≡ LParen ∷ Symbol (codes "constructor") ∷ Symbol (codes "emit") ∷ Symbol (codes "else") ∷ Symbol (codes "none") ∷ RParen ∷ []
of_no_answer = refl
