-- The impure calls that a site has, and sites and if-lets without any.
use Rattle.std.specs.Prelude.{◌≡◌, zero, suc, List, [], ◌∷◌}
use Rattle.isle_rules.specs.TypedRules.{TypedIfLet}
use Rattle.isle_meaning.specs.Facts.{TermFacts}
use Rattle.isle_meaning.specs.Words.{steps_of}
use Rattle.isle_meaning.specs.Sites.{Site, bool_site, int_site, prim_site, argument, extractor_call, constructor_call, iterator}
use Rattle.isle_meaning.specs.Sites.{make_variant, match_variant, make_struct, extract_struct, make_some, match_some, match_tuple}
use Rattle.isle_meaning.specs.Subtrees.{IsSubtree}

-- the site is an impure call, which has a number above 0
abbrev pub IsImpureCall : Site → Type 0
IsImpureCall (bool_site b ty) = ⊥
IsImpureCall (int_site n ty) = ⊥
IsImpureCall (prim_site n) = ⊥
IsImpureCall (argument i) = ⊥
IsImpureCall (extractor_call t s) = ⊥
IsImpureCall (constructor_call t ss zero) = ⊥
IsImpureCall (constructor_call t ss (suc i)) = Unit {0}
IsImpureCall (iterator s) = ⊥
IsImpureCall (make_variant ty k ss) = ⊥
IsImpureCall (match_variant s k i) = ⊥
IsImpureCall (make_struct ty ss) = ⊥
IsImpureCall (extract_struct s i) = ⊥
IsImpureCall (make_some s) = ⊥
IsImpureCall (match_some s) = ⊥
IsImpureCall (match_tuple s i) = ⊥

-- each impure call that is a subtree of the site is one of these
abbrev pub ImpureCallsAre : (Site → Type 0) → Site → Type 0
ImpureCallsAre Q s = (call : Site) → IsSubtree call s → IsImpureCall call → Q call

-- the site has no impure call
abbrev pub IsPure : Site → Type 0
IsPure s = ImpureCallsAre (λ call. ⊥) s

-- the expressions of if-lets make no impure calls
abbrev pub IfLetsArePure : TermFacts → List TypedIfLet → Type 0
IfLetsArePure facts [] = Unit {0}
IfLetsArePure facts (x ∷ xs) = (steps_of facts x.value ≡ []) × IfLetsArePure facts xs
