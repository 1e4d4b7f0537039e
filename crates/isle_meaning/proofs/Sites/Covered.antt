-- Completions that cover a rule answer all that its demands ask.
use Rattle.std.proofs.Common.{ℕ, inl, inr, [], sym, subst}
use Rattle.isle_rules.specs.TypedRules.{TypedRule}
use Rattle.isle_meaning.specs.Values.{Values}
use Rattle.isle_meaning.specs.Facts.{TermFacts}
use Rattle.isle_meaning.specs.Answers.{Completion}
use Rattle.isle_meaning.specs.Sites.{Site, bool_site, int_site, prim_site, argument, extractor_call, constructor_call, iterator}
use Rattle.isle_meaning.specs.Sites.{make_variant, match_variant, make_struct, extract_struct, make_some, match_some, match_tuple}
use Rattle.isle_meaning.specs.Sites.{Sites, no_sites, more_sites}
use Rattle.isle_meaning.specs.AboutSites.Parts.{parts_of, IsOneOf}
use Rattle.isle_meaning.specs.Held.{IsAnswered, AreAnswered}
use Rattle.isle_meaning.specs.Demands.{vars_of}
use Rattle.isle_meaning.specs.Scopes.{Covers}
use Rattle.isle_meaning.specs.Laws.Sites.{DemandsAreAnswered}
use Rattle.isle_meaning.proofs.Sites.Parts.{of_only}
use Rattle.isle_meaning.proofs.Sites.Carried.{IsCarried, rule_carries, variables_carry}

module _ (facts : TermFacts) (c : Completion) (args : Values) where
  -- all that the site asks is answered
  abbrev A : Site → Type 0
  A s = IsAnswered facts c args [] s

  -- of one of some sites
  answered_in : (ss : Sites) (u : Site) → AreAnswered facts c args [] ss → IsOneOf ss u → A u
  answered_in no_sites u h m = absurd m
  answered_in (more_sites s ss) u h (inl e) = subst A (sym e) (h.0)
  answered_in (more_sites s ss) u h (inr m) = answered_in ss u (h.1) m

  -- What is answered has parts that are.
  pub answered_part : (s u : Site) → IsAnswered facts c args [] s → IsOneOf (parts_of s) u → IsAnswered facts c args [] u
  answered_part (bool_site b ty) u h m = absurd m
  answered_part (int_site n ty) u h m = absurd m
  answered_part (prim_site n) u h m = absurd m
  answered_part (argument i) u h m = absurd m
  answered_part (extractor_call t s) u h m = of_only A s u (h.0) m
  answered_part (constructor_call t ss i) u h m = answered_in ss u (h.0) m
  answered_part (iterator s) u h m = of_only A s u h m
  answered_part (make_variant ty k ss) u h m = answered_in ss u h m
  answered_part (match_variant s k i) u h m = of_only A s u h m
  answered_part (make_struct ty ss) u h m = answered_in ss u h m
  answered_part (extract_struct s i) u h m = of_only A s u h m
  answered_part (make_some s) u h m = of_only A s u h m
  answered_part (match_some s) u h m = of_only A s u h m
  answered_part (match_tuple s i) u h m = of_only A s u h m

  -- so it passes on
  answered_carried : IsCarried (IsAnswered facts c args [])
  answered_carried = record {
    down = answered_part;
    argument = λ i. tt;
    nothing = λ k. tt;
    variant = λ s k i h. h;
    struct = λ s i h. h;
    content = λ s h. h;
    item = λ s h. h;
    output = λ s i h. h;
  }

pub demands_are_answered : DemandsAreAnswered
demands_are_answered facts c args rule h d e =
    rule_carries facts (IsAnswered facts c args []) (answered_carried facts c args) rule (h.0) (h.1) d e
