use Rattle.std.proofs.Common.{◌≡◌, ◌≤◌, ◌-◌, ◌++◌, ℕ, Bool, List, [], ◌∷◌, Option, Vec, Global, length, take, drop, ◌∙◌, subst, arith}
use Rattle.std.specs.Prelude.{IfSome, IfNone, codes}
use Rattle.std.proofs.lemmas.List.{length-drop, take_rest}
use Rattle.isle_syntax.specs.declared.lexer.Token.{Token}
use Rattle.isle_syntax.specs.declared.lexer.Token.TheVariants.{RParen}
use Rattle.isle_rules.specs.Values.{ValueTree, ValueTrees}
use Rattle.isle_values.specs.Worlds.Entries.{IsSpeltPart, part_tokens, part_shown, lists_calls, lists_answers}
use Rattle.isle_values.proofs.TableWorlds.EntryParts.{no_else, behind_part, joined_takes}
use Rattle.isle_values.proofs.worlds.entry.read_parts.Goals as goal

abbrev IsCallAs : Bool → List Token → Option (Vec ValueTree Global) × ℕ → Type 0
IsCallAs listed tokens p = (p.1 ≤ length tokens) × IsSpeltPart listed (part_shown p.0)
    × (take p.1 tokens ≡ part_tokens listed (codes "else") (part_shown p.0))

abbrev IsAnswerAs : Bool → List Token → Option (Vec ValueTree Global) × ℕ → Type 0
IsAnswerAs listed tokens p = (p.1 ≤ length tokens) × IsSpeltPart listed (part_shown p.0)
    × (take p.1 tokens ≡ part_tokens listed (codes "none") (part_shown p.0) ++ RParen ∷ [])

pub returns-in-Some-2-clause-some : goal.returns-in-Some-2-clause-some
returns-in-Some-2-clause-some c =
    let tokens = c.args.tokens.now in let n = c.in-Some.of_call in let m = c.in-Some-2.count in
    let call = subst (λ l. IsCallAs l tokens (c.in-Some.call, n)) c.lists_calls.ensures
    (subst (λ o. IfSome o (IsCallAs c.lists_calls.result tokens)) c.in-Some.is c.in_ok-call.ensures.some) in
    let answer : IsAnswerAs (lists_answers c.args.side) (drop n tokens) (c.in-Some-2.answer, m) =
    subst (λ o. IfSome o (IsAnswerAs (lists_answers c.args.side) (drop n tokens))) c.in-Some-2.is
    (subst (λ l. IfSome c.in_ok-answer.field-0 (IsAnswerAs (lists_answers c.args.side) l)) (take_rest tokens n) c.in_ok-answer.ensures.some) in
    let len = length-drop n tokens in let fits = answer.0 in let within = call.0 in (
      omega (arith, len, fits, within),
      call.1,
      answer.1,
      joined_takes tokens (part_tokens (lists_calls c.args.side) (codes "else") (part_shown c.in-Some.call))
          (part_tokens (lists_answers c.args.side) (codes "none") (part_shown c.in-Some-2.answer) ++ RParen ∷ []) n m call.2 answer.2,
    )

pub returns-in-None-clause-none : goal.returns-in-None-clause-none
returns-in-None-clause-none c = λ call answer rest fine also is.
    let tokens = c.args.tokens.now in let n = c.in-Some.of_call in
    let mine = subst (λ l. IsCallAs l tokens (c.in-Some.call, n)) c.lists_calls.ensures
    (subst (λ o. IfSome o (IsCallAs c.lists_calls.result tokens)) c.in-Some.is c.in_ok-call.ensures.some) in
    let (same, behind) = behind_part (lists_calls c.args.side) (codes "else") no_else tokens n (part_shown c.in-Some.call) call
    (part_tokens (lists_answers c.args.side) (codes "none") answer ++ (RParen ∷ rest)) mine.1 fine mine.2 is in
    let never = subst (λ o. IfNone o ((a : Option ValueTrees) (r : List Token) → IsSpeltPart (lists_answers c.args.side) a
    → take (length tokens - n) (drop n tokens) ≡ part_tokens (lists_answers c.args.side) (codes "none") a ++ (RParen ∷ r) → ⊥)) c.in-None.is
    c.in_ok-answer.ensures.none in
    never answer rest also (take_rest tokens n ∙ behind)
