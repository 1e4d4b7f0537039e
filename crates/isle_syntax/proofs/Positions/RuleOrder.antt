-- The rules of a text stand one behind the other, since its tokens do.
use Rattle.std.proofs.Common.{◌<◌, List, [], ◌∷◌, subst, arith}
use Rattle.std.specs.Prelude.{Result, Ok, Err, IfOk, Vec}
use Rattle.std.specs.Global.{Global}
use Rattle.std.specs.List.{All}
use Rattle.std.proofs.lemmas.List.Elements.{All-nil, All-cons, All-head, All-tail}
use Rattle.std.proofs.lemmas.List.Kept.{AllPairs-cons}
use Rattle.isle_ast.specs.declared.pos.Pos.{Pos}
use Rattle.isle_ast.specs.declared.error.Error.{Error}
use Rattle.isle_ast.specs.declared.refusal.Refusal.{Refusal}
use Rattle.isle_ast.specs.declared.ast.Def.{Def}
use Rattle.isle_ast.specs.declared.ast.Def.TheVariants.{Rule}
use Rattle.isle_syntax.specs.Tokens.PlacedTokens.{Placed, pos_of}
use Rattle.isle_syntax.specs.Tokens.RemainingTokens.{RemainingTokens}
use Rattle.isle_syntax.specs.Tokens.LexerCalls.{IsRemaining, TokensAscend}
use Rattle.isle_syntax.specs.Grammar.DefGrammar.{SpellsText}
use Rattle.isle_ast.specs.Positions.DefPositions.{DefAt, RuleAt}
use Rattle.isle_syntax.specs.Grammar.Verdict.{IsSpelt}
use Rattle.isle_syntax.specs.Positions.RuleOrder.{rule_places, RulesAscend}
use Rattle.isle_syntax.proofs.Tokens.TokenOrder.{later_ascend, all_before}
use Rattle.isle_syntax.proofs.Positions.SpeltPositions.{def_places, text_places}

rules_at : (At : Pos → Type 0) (defs : List Def) → All (DefAt At) defs → All At (rule_places defs)
rules_at At [] h = All-nil At
rules_at At (Rule r ∷ defs) h =
    let here : RuleAt At r = All-head (DefAt At) (Rule r) defs h in
    All-cons At r.pos (rule_places defs) here.pos (rules_at At defs (All-tail (DefAt At) (Rule r) defs h))
rules_at At (def ∷ defs) h = rules_at At defs (All-tail (DefAt At) def defs h)

rules_ascend : (defs : List Def) (ts : List Placed) → SpellsText defs ts → TokensAscend ts → RulesAscend defs
rules_ascend [] ts l h = λ i j d less within. absurd (omega arith)
rules_ascend (Rule r ∷ defs) ts l h =
    let u = l.0 in
    let v = l.1 in
    let ordered = subst TokensAscend l.2 h in
    let here : RuleAt (λ p. All (λ t. p.offset < (pos_of t).offset) v) r =
    def_places (λ p. All (λ t. p.offset < (pos_of t).offset) v) (Rule r) u l.3 (all_before u v ordered) in
    let behind = rules_at (λ q. r.pos.offset < q.offset) defs (text_places (λ q. r.pos.offset < q.offset) defs v l.4 here.pos) in
    AllPairs-cons (λ (p : Pos) (q : Pos). p.offset < q.offset) r.pos (rule_places defs) behind (rules_ascend defs v l.4 (later_ascend u v ordered))
rules_ascend (def ∷ defs) ts l h = rules_ascend defs l.1 l.4 (later_ascend l.0 l.1 (subst TokensAscend l.2 h))

pub spelt_ascends : (u : RemainingTokens) → IsRemaining u → (res : Result (Vec Def Global) (Refusal Error)) → IfOk res (λ defs. IsSpelt u defs.items)
    → IfOk res (λ defs. RulesAscend defs.items)
spelt_ascends u remaining (Ok defs) spelt = rules_ascend defs.items u.left spelt.spelt remaining.ascending
spelt_ascends u remaining (Err r) spelt = tt
