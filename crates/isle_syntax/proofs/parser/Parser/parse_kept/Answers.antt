use Rattle.std.proofs.Common.{sym, ap, ◌∙◌}
use Rattle.isle_syntax.specs.Grammar.DefGrammar.{is_kept_word}
use Rattle.isle_syntax.specs.Inside.Reading.DefReading.{kept_of}
use Rattle.isle_syntax.specs.Grammar.Phrases.{first_pos}
use Rattle.isle_syntax.specs.Inside.Reading.Readers.{done, read_map, from, rest_of, symbol_of}
use Rattle.isle_syntax.specs.Inside.Reading.TreeReading.{item}
use Rattle.isle_syntax.proofs.Reading.Beginnings.{stands_at, items_filled}
use Rattle.isle_syntax.proofs.Reading.ReadSteps.{map_seq_done, fuse}
use Rattle.isle_syntax.proofs.parser.Parser.parse_kept.Goals as goal

pub returns : goal.returns
returns c =
    let old = c.args.self.now.left in
    let mid = c.kept_word.new.self in
    let word = c.in_ok-word.word in
    let here = stands_at mid (items_filled c.args.depth_left mid.left _ _ c.in_ok-items.ensures.0) in (
      map_seq_done (symbol_of is_kept_word) (from (rest_of (item c.args.depth_left))) old mid.left kept_of word c.in_ok-word.ensures.0
          ∙ fuse (λ b. kept_of (word, b)) (λ a. (first_pos mid.left, a)) (rest_of (item c.args.depth_left) mid.left)
          ∙ ap (read_map (λ a. kept_of (word, (first_pos mid.left, a)))) c.in_ok-items.ensures.0
          ∙ (λ i. done (record { word = word; items = sym c.new.ensures i; pos = (sym here ∙ sym c.pos-pos.ensures) i }) c.parse_items.new.self.left),
      c.in_ok-items.ensures.1 ∙ c.in_ok-word.ensures.1,
    )
