-- Terms that reach hindered ones, by marks that spread to callers.
use Rattle.std.proofs.Common.{◌≡◌, ◌<◌, ◌↔◌, inl, inr, ℕ, Bool, true, false, List, Vec, length, get_or, sym, ◌∙◌, subst, arith}
use Rattle.std.specs.Prelude.{All}
use Rattle.std.specs.Global.{Global}
use Rattle.std.proofs.lemmas.List.Elements.{All-contains}
use Rattle.isle_types.specs.TypeTables.{TypeTables}
use Rattle.isle_rules.specs.declared.rules.Rule.{Rule}
use Rattle.isle_rules.specs.Shown.TermTables.{TermTables}
use Rattle.isle_blocks.specs.Inside.Building.Contents.{Marked}
use Rattle.isle_program.specs.Inside.Facts.Spreading.{SpreadsTo, is_marked, is_listed, IsSpread}
use Rattle.isle_program.specs.Facts.Reach.{is_hindered, MakesValues, Reaches, at_once, onwards, IsBarred}
use Rattle.isle_program.specs.Inside.Facts.Callers.{AreCallers}
use Rattle.isle_program.proofs.ProgramFacts.Spreading.{marked_within}

module _ (tyenv : TypeTables) (env : TermTables) (rooted : All (λ (rule : Rule). rule.root_term.0 < length env.terms) env.rules) (first : List Bool)
    (fits : length first ≡ length env.terms) (hindered : (n : ℕ) → get_or first n false ≡ is_hindered tyenv env n)
    (lists : List (Vec ℕ Global)) (callers : AreCallers tyenv.names (length env.terms) env.rules lists) where
  -- a term that makes values has rules
  makes_within : (from to : ℕ) → MakesValues tyenv env from to → from < length env.terms
  makes_within from to makes = subst (λ (n : ℕ). n < length env.terms) makes.root
      (All-contains (λ (rule : Rule). rule.root_term.0 < length env.terms) env.rules makes.rule rooted makes.among)

  -- marks spread to terms that reach hindered ones only
  spread_barred : (n : ℕ) → SpreadsTo lists first n → IsBarred tyenv env n
  spread_barred n (is_marked h) = inl (sym (hindered n) ∙ h)
  spread_barred m (is_listed {n} from there) =
      let makes = callers.listed n m there in
      elim (spread_barred n from) [
        | inl here ↦ inr (n, at_once makes, here)
        | inr (to, reaches, here) ↦ inr (to, onwards makes reaches, here)
      ]

  -- and to all of these
  reaches_spread : (from to : ℕ) → Reaches tyenv env from to → is_hindered tyenv env to ≡ true → (from < length env.terms)
      × SpreadsTo lists first from
  reaches_spread from to (at_once makes) here =
      let marked : Marked first to = hindered to ∙ here in
      let within : to < length env.terms = (let low = marked_within first to marked in omega arith) in
      (makes_within from to makes, is_listed (is_marked marked) (callers.all to from makes within))
  reaches_spread from to (onwards {middle = middle} makes reaches) here =
      let (within, spreads) = reaches_spread middle to reaches here in
      (makes_within from middle makes, is_listed spreads (callers.all middle from makes within))

  pub spread_marks : (marks : List Bool) → IsSpread lists first marks → (n : ℕ) → Marked marks n ↔ IsBarred tyenv env n
  spread_marks marks spread n = (
    λ h. spread_barred n (spread.marked n h),
    λ h. elim h [
      | inl here ↦ let marked : Marked first n = hindered n ∙ here in spread.all n (marked_within first n marked) (is_marked marked)
      | inr (to, reaches, here) ↦ let (within, spreads) = reaches_spread n to reaches here in spread.all n (omega arith) spreads
    ],
  )
