-- The positions of what a text spells, and of its fault, lie in it.
use Rattle.std.proofs.Common.{◌≡◌, zero, suc, List, [], ◌∷◌, ◌++◌, refl, sym, subst, arith}
use Rattle.std.specs.Prelude.{Result, Ok, Err, IfOk, IfErr, Vec}
use Rattle.std.specs.Global.{Global}
use Rattle.std.specs.List.{All}
use Rattle.std.proofs.lemmas.List.Elements.{All-head, All-tail}
use Rattle.isle_ast.specs.declared.pos.Pos.{Pos}
use Rattle.isle_ast.specs.declared.ast.Def.{Def}
use Rattle.isle_ast.specs.declared.error.Span.{Span}
use Rattle.isle_ast.specs.declared.error.Error.{Error}
use Rattle.isle_ast.specs.declared.error.Error.TheVariants.{ParseError, SizeError}
use Rattle.isle_ast.specs.declared.refusal.Refusal.{Refusal}
use Rattle.isle_ast.specs.declared.refusal.Refusal.TheVariants.{Fault, Memory}
use Rattle.isle_ast.specs.Errors.{ErrorAt, IfFault, RefusalAt}
use Rattle.isle_syntax.specs.Tokens.RemainingTokens.{IsIn, RemainingTokens, next_pos}
use Rattle.isle_syntax.specs.Tokens.PlacedTokens.{Placed, opening, pos_of}
use Rattle.isle_syntax.specs.Tokens.LexerCalls.{IsRemaining}
use Rattle.isle_ast.specs.Positions.DefPositions.{DefAt}
use Rattle.isle_ast.specs.Trees.MacroArgs.{HasNoMacroArgs}
use Rattle.isle_syntax.specs.Grammar.Verdict.{IsSpelt, IsFaultOf}
use Rattle.isle_syntax.proofs.Positions.SpeltPositions.{text_places}
use Rattle.isle_syntax.proofs.Trees.MacroArgs.{text_no_macro_args}

all_behind : {A : Type 0} (P : A → Type 0) (xs : List A) (y : A) (ys : List A) → All P (xs ++ y ∷ ys) → P y
all_behind P [] y ys h = All-head P y ys h
all_behind P (x ∷ xs) y ys h = all_behind P xs y ys (All-tail P x (xs ++ y ∷ ys) h)

one_span : (At : Pos → Type 0) (span : Span) → At span.from → All (λ s. At s.from) (span ∷ [])
one_span At span p zero d h = p
one_span At span p (suc k) d h = absurd (omega arith)

module _ (u : RemainingTokens) (remaining : IsRemaining u) where
  stands : (before from : List Placed) → u.left ≡ before ++ from → IsIn u.source (next_pos u.source u.end from)
  stands before [] e = record { same_file = refl; within = remaining.within }
  stands before (t ∷ r) e = all_behind (λ k. IsIn u.source (pos_of k)) before t r (subst (All (λ k. IsIn u.source (pos_of k))) e remaining.placed)

  fault_places : (error : Error) → IsFaultOf u error → ErrorAt (IsIn u.source) error
  fault_places (ParseError m p) f = record {
    named = omega arith;
    placed = one_span (IsIn u.source) p (subst (λ (s : Span). IsIn u.source s.from) (sym f.place) (stands f.before f.from f.split));
  }
  fault_places (SizeError m p) f = record {
    named = omega arith;
    placed = one_span (IsIn u.source) p (subst (λ (s : Span). IsIn u.source s.from) (sym f.at) (stands f.before (opening f.place ∷ f.rest) f.split));
  }
  fault_places _ f = absurd f

  pub spelt_places : (res : Result (Vec Def Global) (Refusal Error)) → IfOk res (λ defs. IsSpelt u defs.items)
      → IfOk res (λ defs. All (DefAt (IsIn u.source)) defs.items)
  spelt_places (Ok defs) spelt = text_places (IsIn u.source) defs.items u.left spelt.spelt remaining.placed
  spelt_places (Err r) spelt = tt

  pub refusal_places : (res : Result (Vec Def Global) (Refusal Error)) → IfErr res (λ refusal. IfFault refusal (IsFaultOf u))
      → IfErr res (RefusalAt (IsIn u.source))
  refusal_places (Ok defs) fault = tt
  refusal_places (Err (Fault e)) fault = fault_places e fault
  refusal_places (Err (Memory e)) fault = tt

pub spelt_no_macro_args : (u : RemainingTokens) (res : Result (Vec Def Global) (Refusal Error)) → IfOk res (λ defs. IsSpelt u defs.items)
    → IfOk res (λ defs. All HasNoMacroArgs defs.items)
spelt_no_macro_args u (Ok defs) spelt = text_no_macro_args defs.items u.left spelt.spelt
spelt_no_macro_args u (Err r) spelt = tt
