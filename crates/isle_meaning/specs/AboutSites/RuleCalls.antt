-- The calls that a rule's patterns and if-lets have.
use Rattle.isle_rules.specs.TypedRules.{TypedRule}
use Rattle.isle_meaning.specs.Facts.{TermFacts}
use Rattle.isle_meaning.specs.Sites.{Site, bool_site, int_site, prim_site, argument, extractor_call, constructor_call, iterator}
use Rattle.isle_meaning.specs.Sites.{make_variant, match_variant, make_struct, extract_struct, make_some, match_some, match_tuple}
use Rattle.isle_meaning.specs.Subtrees.{IsSubtree}
use Rattle.isle_meaning.specs.Asking.{IsSiteOfRule}

-- the site is a call of an extractor or of a constructor
abbrev pub IsCall : Site → Type 0
IsCall (bool_site b ty) = ⊥
IsCall (int_site n ty) = ⊥
IsCall (prim_site n) = ⊥
IsCall (argument i) = ⊥
IsCall (extractor_call t s) = Unit {0}
IsCall (constructor_call t ss i) = Unit {0}
IsCall (iterator s) = ⊥
IsCall (make_variant ty k ss) = ⊥
IsCall (match_variant s k i) = ⊥
IsCall (make_struct ty ss) = ⊥
IsCall (extract_struct s i) = ⊥
IsCall (make_some s) = ⊥
IsCall (match_some s) = ⊥
IsCall (match_tuple s i) = ⊥

-- the site is a subtree of one of the rule's patterns or if-lets
abbrev pub IsWithinRule : TermFacts → TypedRule → Site → Type 0
IsWithinRule facts rule u = (site : Site) × IsSiteOfRule facts rule site × IsSubtree u site

-- each call that is a subtree of the site is one that the rule has
abbrev pub ItsCallsAreHad : TermFacts → TypedRule → Site → Type 0
ItsCallsAreHad facts rule s = (call : Site) → IsSubtree call s → IsCall call → IsWithinRule facts rule call
