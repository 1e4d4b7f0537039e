use Rattle.std.proofs.Common.{◌≡◌, ◌≤◌, ◌+◌, ◌++◌, ℕ, Bool, List, [], ◌∷◌, Option, Vec, Global, length, take, drop, ap, sym, ◌∙◌, subst, arith, true, false}
use Rattle.std.specs.Prelude.{IfSome, codes}
use Rattle.std.proofs.lemmas.List.{length-drop, take_rest}
use Rattle.isle_syntax.specs.declared.lexer.Token.{Token}
use Rattle.isle_syntax.specs.declared.lexer.Token.TheVariants.{RParen}
use Rattle.isle_rules.specs.Values.{ValueTree}
use Rattle.isle_values.specs.Worlds.Entries.{IsSpeltPart, part_tokens, part_shown, lists_answers}
use Rattle.isle_values.proofs.TableWorlds.EntryParts.{no_none, behind_part, joined_takes, take_first}
use Rattle.isle_values.proofs.worlds.entry.read_answer.Goals as goal

abbrev IsReadAs : Bool → List Token → Option (Vec ValueTree Global) → ℕ → Type 0
IsReadAs listed tokens part count = (count ≤ length tokens) × IsSpeltPart listed (part_shown part)
    × (take count tokens ≡ part_tokens listed (codes "none") (part_shown part))

abbrev IsClosed : Bool → List Token → Option (Vec ValueTree Global) → ℕ → Type 0
IsClosed listed tokens part count = (count + 1 ≤ length tokens) × IsSpeltPart listed (part_shown part)
    × (take (count + 1) tokens ≡ part_tokens listed (codes "none") (part_shown part) ++ RParen ∷ [])

-- an answer before a closing parenthesis
closed : (listed : Bool) (tokens : List Token) (part : Option (Vec ValueTree Global)) (count : ℕ) (rest : List Token)
    → IsReadAs listed tokens part count
    → drop count tokens ≡ RParen ∷ rest → IsClosed listed tokens part count
closed listed tokens part count rest (fits, fine, is) closes = (
  let behind = ap length closes in let len = length-drop count tokens in omega (arith, behind, len, fits),
  fine,
  joined_takes tokens (part_tokens listed (codes "none") (part_shown part)) (RParen ∷ []) count 1 is
      (take_first (drop count tokens) RParen rest closes),
)

pub returns-then-begins_closing-clause-some : goal.returns-then-begins_closing-clause-some
returns-then-begins_closing-clause-some c =
    let tokens = c.args.tokens.now in let count = c.in-Some.count in
    let read = subst (λ o. IfSome o (λ (p : Option (Vec ValueTree Global) × ℕ). IsReadAs c.lists_answers.result tokens p.0 p.1))
    c.in-Some.is c.in_ok-answer.ensures.some in
    let (rest, closes) = c.begins_closing.ensures.yes c.if-begins_closing.true in
    subst (λ l. IsClosed l tokens c.in-Some.answer count) c.lists_answers.ensures
    (closed c.lists_answers.result tokens c.in-Some.answer count rest read (sym (take_rest tokens count) ∙ closes))

pub returns-else-begins_closing-clause-none : goal.returns-else-begins_closing-clause-none
returns-else-begins_closing-clause-none c = λ answer rest fine is.
    let tokens = c.args.tokens.now in let count = c.in-Some.count in
    let read = subst (λ o. IfSome o (λ (p : Option (Vec ValueTree Global) × ℕ). IsReadAs c.lists_answers.result tokens p.0 p.1))
    c.in-Some.is c.in_ok-answer.ensures.some in
    let mine = subst (λ l. IsReadAs l tokens c.in-Some.answer count) c.lists_answers.ensures read in
    let (same, behind) = behind_part (lists_answers c.args.side) (codes "none") no_none tokens count (part_shown c.in-Some.answer) answer
    (RParen ∷ rest) mine.1 fine mine.2 is in
    let yes = c.begins_closing.ensures.no rest (take_rest tokens count ∙ behind) in
    let no = c.if-begins_closing.false in let never : true ≡ false = sym yes ∙ no in absurd cc
