-- A part that may be absent, which the next token shows.
use Rattle.std.proofs.Common.{◌≡◌, ℕ, List, [], ◌++◌, Bool, true, false, Option, Some, None, refl, sym, ap, subst, ◌∙◌}
use Rattle.std.proofs.lemmas.Bool.{false≢true}
use Rattle.isle_syntax.specs.Tokens.PlacedTokens.{Placed}
use Rattle.isle_syntax.specs.Grammar.Phrases.{Both}
use Rattle.isle_syntax.specs.Inside.Reading.Readers.{Reader, read_map, seq}
use Rattle.isle_syntax.proofs.Reading.Follows.{Begins, FollowsAt, Follows, Any, follows_seq}
use Rattle.isle_syntax.proofs.Reading.Cases.{Looks, follows_case}
use Rattle.isle_syntax.proofs.Reading.Basics.{both_filled}

-- what a part may be, of which Part is one that is there, and what follows it
module _ {X Y A : Type 0} (next : List Placed → Bool) (looks : Looks next) (Maybe : Option X → List Placed → Type 0) (Part : Y → List Placed
    → Type 0) (f : Y → X)
    (absent : (ts : List Placed) → Maybe None ts → ts ≡ []) (nothing : Maybe None [])
    (first : (x : X) (u v : List Placed) → Maybe (Some x) u → next (u ++ v) ≡ true)
    (into : (y : Y) (u v : List Placed) → Part y u → next (u ++ v) ≡ true → Maybe (Some (f y)) u)
    (back : (x : X) (u : List Placed) → Maybe (Some x) u → (y : Y) × (x ≡ f y) × Part y u)
    (part_filled : (y : Y) (u : List Placed) → Part y u → u ≡ [] → ⊥)
    (L : A → List Placed → Type 0) (filled : (b : A) (v : List Placed) → L b v → v ≡ [] → ⊥) (other : (b : A) (v : List Placed) → L b v
    → next v ≡ false) (some : Begins L []) where
  rest_alone : (o : Option X) (b : A) (v : List Placed) (l : Both Maybe L (o, b) v) → o ≡ None → l.1 ≡ v
  rest_alone None b v l e = sym (l.2 ∙ ap (λ k. k ++ l.1) (absent l.0 l.3))
  rest_alone (Some x) b v l e = absurd (cc)

  pub option_filled : (b : Option X × A) (v : List Placed) → Both Maybe L b v → v ≡ [] → ⊥
  option_filled (None, b) v l e = filled b l.1 l.4 (rest_alone None b v l refl ∙ e)
  option_filled (Some x, b) v l e = let y = back x l.0 l.3 in both_filled Part L part_filled (y.0, b) v (l.0, l.1, l.2, y.2, l.4) e

  present_back : (b : Option X × A) (v : List Placed) → Both Maybe L b v → next v ≡ true → (a : Y × A) × (b ≡ (Some (f a.0), a.1)) × Both Part L a v
  present_back (None, b) v l at = absurd (false≢true (sym (other b l.1 l.4) ∙ ap next (rest_alone None b v l refl) ∙ at))
  present_back (Some x, b) v l at = let y = back x l.0 l.3 in ((y.0, b), (λ i. (Some (y.1 i), b)), (l.0, l.1, l.2, y.2, l.4))

  absent_back : (b : Option X × A) (v : List Placed) → Both Maybe L b v → next v ≡ false → (a : A) × (b ≡ (None, a)) × L a v
  absent_back (None, b) v l at = (b, refl, subst (L b) (rest_alone None b v l refl) l.4)
  absent_back (Some x, b) v l at = absurd (false≢true (sym at ∙ ap next l.2 ∙ first x l.0 l.1 l.3))

  pub some_option : Begins (Both Maybe L) []
  some_option = ((None, some.0), some.1, ([], some.1, refl, nothing, some.2))

  module _ (F : List Placed → Type 0) (d e : ℕ) (p : Reader Y) (q : Reader A) (follows_part : Follows Part Any d d p)
      (follows_rest : Follows L F d e q) where
    pub follows_present : (ts : List Placed) → next ts ≡ true → FollowsAt (Both Maybe L) F d e ts (read_map (λ x. (Some (f x.0), x.1)) (seq p q ts))
    follows_present ts at =
        follows_case next looks (Both Part L) (Both Maybe L) F d e ts true at (λ x. (Some (f x.0), x.1))
        (λ a u l h. (l.0, l.1, l.2, into a.0 l.0 l.1 l.3 (sym (ap next l.2) ∙ h), l.4)) present_back
        (both_filled Part L part_filled) option_filled some_option (seq p q ts) ((follows_seq some follows_part follows_rest).reads ts)

    pub follows_absent : (ts : List Placed) → next ts ≡ false → FollowsAt (Both Maybe L) F d e ts (read_map (λ b. (None, b)) (q ts))
    follows_absent ts at =
        follows_case next looks L (Both Maybe L) F d e ts false at (λ b. (None, b)) (λ a u l h. ([], u, refl, nothing, l)) absent_back filled
        option_filled some_option (q ts) (follows_rest.reads ts)
