-- A loop that reads one after another, a turn at a time.
use Rattle.std.proofs.Common.{◌≡◌, ℕ, zero, suc, ◌-◌, ◌<◌, List, [], ◌∷◌, ◌++◌, length, Bool, true, false, Option, Some, None, refl, sym, ap, subst}
use Rattle.std.proofs.Common.{◌∙◌, append_assoc, append-nil, arith}
use Rattle.isle_ast.specs.declared.error.Error.{Error}
use Rattle.isle_ast.specs.declared.error.Error.TheVariants.{ParseError, SizeError}
use Rattle.isle_ast.specs.declared.refusal.Refusal.{Refusal}
use Rattle.isle_ast.specs.declared.refusal.Refusal.TheVariants.{Fault, Memory}
use Rattle.std.specs.Prelude.{Result}
use Rattle.isle_syntax.specs.Tokens.PlacedTokens.{Placed}
use Rattle.isle_syntax.specs.Tokens.RemainingTokens.{RemainingTokens}
use Rattle.isle_syntax.specs.Inside.Reading.Parsing.{Stop, nowhere, at_fault, stop_of, bounds, TellsStop, RefusesAt, NoToken, Gives, IsKnown, TakesOr}
use Rattle.isle_syntax.specs.Inside.Reading.Readers.{Read, done, fault, deep, Reader, after, read_map, seq, many}

-- ---- refusals

-- what fails inside fails outside
pub stop_map : {A B : Type 0} (f : A → B) (x : Read A) → stop_of (read_map f x) ≡ stop_of x
stop_map f (done a r) = refl
stop_map f (fault r) = refl
stop_map f (deep r) = refl

tells_later : (old mid new : RemainingTokens) (e : Error) (s : Stop) → bounds mid ≡ bounds old → TellsStop mid new e s → TellsStop old new e s
tells_later old mid new (ParseError m p) s same t = (t.0, t.1, t.2 ∙ same)
tells_later old mid new (SizeError m p) s same t = (t.0, t.1, t.2 ∙ same)
tells_later old mid new _ s same t = t

-- what stops first stops all
pub stop_after : {A B : Type 0} (x : Read A) (f : A → List Placed → Read B) (s : Stop) → stop_of x ≡ s → (s ≡ nowhere → ⊥) → stop_of (after x f) ≡ s
stop_after (done a r) f s e some = absurd (some (sym e))
stop_after (fault r) f s e some = e
stop_after (deep r) f s e some = e

-- a refusal after some tokens
pub refuses_later : (old mid new : RemainingTokens) (r : Refusal Error) (s : Stop) → bounds mid ≡ bounds old → RefusesAt mid new r s
    → RefusesAt old new r s
refuses_later old mid new (Fault e) s same t = tells_later old mid new e s same t
refuses_later old mid new (Memory e) s same t = tt

-- the same inside a reading
pub refuses_map : {A B : Type 0} (f : A → B) (x : Read A) (old mid new : RemainingTokens) (r : Refusal Error) → bounds mid ≡ bounds old
    → RefusesAt mid new r (stop_of x) → RefusesAt old new r (stop_of (read_map f x))
refuses_map f x old mid new r same t = refuses_later old mid new r _ same (subst (RefusesAt mid new r) (sym (stop_map f x)) t)

tells_at : (old new : RemainingTokens) (e : Error) (s : Stop) → at_fault [] ≡ s → TellsStop old new e (at_fault []) → TellsStop old new e s
tells_at old new e s same t = subst (TellsStop old new e) same t

-- a refusal since no token stands next, where reading stops then
pub refuses_no_token : (old mid new : RemainingTokens) (r : Refusal Error) (s : Stop) → bounds mid ≡ bounds old → NoToken mid new r
    → (mid.left ≡ [] → at_fault [] ≡ s) → RefusesAt old new r s
refuses_no_token old mid new (Fault e) s same t stops = tells_later old mid new e s same (tells_at mid new e s (stops t.0) t.1)
refuses_no_token old mid new (Memory e) s same t stops = tt

-- the same of a lexer whose next token was looked at
module _ (old mid new : RemainingTokens) (r : Refusal Error) (known : IsKnown old mid) where
  pub known_refuses : {A : Type 0} (p : Reader A) → RefusesAt mid new r (stop_of (p mid.left)) → RefusesAt old new r (stop_of (p old.left))
  known_refuses p h = subst (λ u. RefusesAt u new r (stop_of (p u.left))) known.same h

pub known_unexpected : (old mid : RemainingTokens) (r : Refusal Error) → IsKnown old mid → RefusesAt mid mid r (at_fault mid.left)
    → RefusesAt old mid r (at_fault old.left)
known_unexpected old mid r known h = subst (λ u. RefusesAt u mid r (at_fault u.left)) known.same h

-- where nothing was looked at, a call gives the same
pub known_gives : {X Y : Type 0} (view : X → Y) (old mid new : RemainingTokens) (res : Result X (Refusal Error)) (p : Reader Y) → IsKnown old mid
    → Gives view mid new res (p mid.left) → Gives view old new res (p old.left)
known_gives view old mid new res p known h = subst (λ u. Gives view u new res (p u.left)) known.same h

-- what a test that takes has told
pub takes_none : (old new : RemainingTokens) (rest : Option (List Placed)) (b : Bool) → b ≡ false → TakesOr old new rest b
    → (rest ≡ None) × (new ≡ old)
takes_none old new rest b e t = subst (TakesOr old new rest) e t

pub takes_some : (old new : RemainingTokens) (rest : Option (List Placed)) (b : Bool) → b ≡ true → TakesOr old new rest b
    → (rest ≡ Some new.left) × (bounds new ≡ bounds old)
takes_some old new rest b e t = subst (TakesOr old new rest) e t

-- ---- turns

-- what was found before goes in front
abbrev pub found_before : {A : Type 0} → List A → Read (List A) → Read (List A)
found_before xs read = read_map (λ ys. xs ++ ys) read

pub none_before : {A : Type 0} (r : Read (List A)) → r ≡ found_before [] r
none_before (done a r) = refl
none_before (fault r) = refl
none_before (deep r) = refl

one_more : {A : Type 0} (xs : List A) (a : A) (x : Read (List A))
    → found_before xs (read_map (λ (y : A × List A). y.0 ∷ y.1) (read_map (λ b. (a, b)) x)) ≡ found_before (xs ++ a ∷ []) x
one_more xs a (done ys r) = ap (λ l. done l r) (sym (append_assoc xs (a ∷ []) ys))
one_more xs a (fault r) = refl
one_more xs a (deep r) = refl

module _ {A : Type 0} (stop : List Placed → Option (List Placed)) (p : Reader A) where
  pub many_stop : (n : ℕ) (ts r : List Placed) → length ts < n → stop ts ≡ Some r → many stop p n ts ≡ done [] r
  unfolding many
  many_stop zero ts r fits e = absurd (omega arith)
  many_stop (suc n) ts r fits e = rw e refl

  pub many_stops : (n : ℕ) (ts : List Placed) (s : Stop) → length ts < n → stop ts ≡ None → stop_of (p ts) ≡ s → (s ≡ nowhere → ⊥)
      → stop_of (many stop p n ts) ≡ s
  unfolding many
  many_stops zero ts s fits e h some = absurd (omega arith)
  many_stops (suc n) ts s fits e h some = rw e (stop_map (λ x. x.0 ∷ x.1) (seq p (many stop p n) ts) ∙ stop_after (p ts) _ s h some)

  pub many_more : (n : ℕ) (ts r : List Placed) (xs : List A) (a : A) → length ts < n → stop ts ≡ None → p ts ≡ done a r
      → found_before xs (many stop p n ts) ≡ found_before (xs ++ a ∷ []) (many stop p (n - 1) r)
  unfolding many
  many_more zero ts r xs a fits e h = absurd (omega arith)
  many_more (suc n) ts r xs a fits e h = rw (e, h) (one_more xs a (many stop p n r)
      ∙ ap (λ k. found_before (xs ++ a ∷ []) (many stop p k r)) (let k : n ≡ suc n - 1 = omega arith in k))

-- what a loop has read and what is left, against all that there is to read
pub record Turns {A : Type 0} (stop : List Placed
    → Option (List Placed)) (p : Reader A) (all : Read (List A)) (xs : List A) (left : List Placed) : Type 0 where
  pub turns : ℕ
  pub enough : length left < turns
  pub same : all ≡ found_before xs (many stop p turns left)

pub tells_some : (old new : RemainingTokens) (e : Error) (s : Stop) → TellsStop old new e s → s ≡ nowhere → ⊥
tells_some old new (ParseError m p) s t e = cc (t.0, e)
tells_some old new (SizeError m p) s t e = cc (t.0, e)
tells_some old new _ s t e = t

module _ {A : Type 0} (stop : List Placed → Option (List Placed)) (p : Reader A) (all : Read (List A)) (begun now : RemainingTokens) where
  -- a turn that fails
  pub turn_refuses : (old new : RemainingTokens) (xs : List A) (r : Refusal Error) → Turns stop p all xs begun.left → bounds begun ≡ bounds old
      → (stop begun.left ≡ None) × (now ≡ begun) → RefusesAt now new r (stop_of (p now.left)) → RefusesAt old new r (stop_of all)
  turn_refuses old new xs (Memory e) t same going g = tt
  turn_refuses old new xs (Fault e) t same going g =
      let inner : TellsStop begun new e (stop_of (p begun.left)) = subst (λ u. TellsStop u new e (stop_of (p u.left))) going.1 g in
      let stops = many_stops stop p t.turns begun.left (stop_of (p begun.left)) t.enough going.0 refl (tells_some begun new e _ inner) in
      tells_later old begun new e _ same (subst (TellsStop begun new e) (sym (ap stop_of t.same
      ∙ stop_map (λ ys. xs ++ ys) (many stop p t.turns begun.left) ∙ stops)) inner)

  -- a turn that adds one
  pub turn_adds : (new : RemainingTokens) (xs : List A) (a : A) → Turns stop p all xs begun.left → (stop begun.left ≡ None) × (now ≡ begun)
      → p now.left ≡ done a new.left → length new.left < length now.left → Turns stop p all (xs ++ a ∷ []) new.left
  turn_adds new xs a t going g less = record {
    turns = t.turns - 1;
    enough = omega (arith, t.enough, ap (λ u. length u.left) going.1);
    same = t.same ∙ many_more stop p t.turns begun.left new.left xs a t.enough going.0 (ap (λ u. p u.left) (sym going.1) ∙ g);
  }

  -- a turn at which no token stands next
  pub turn_no_token : (old new : RemainingTokens) (xs : List A) (r : Refusal Error) → Turns stop p all xs begun.left → bounds begun ≡ bounds old
      → NoToken begun new r → stop [] ≡ None → p [] ≡ fault [] → RefusesAt old new r (stop_of all)
  turn_no_token old new xs (Memory e) t same none going g = tt
  turn_no_token old new xs (Fault e) t same none going g =
      let stops = many_stops stop p t.turns begun.left (at_fault []) t.enough (ap stop none.0 ∙ going) (ap (λ l. stop_of (p l)) none.0
      ∙ ap stop_of g) (λ h. cc h) in
      tells_later old begun new e _ same (subst (TellsStop begun new e) (sym (ap stop_of t.same
      ∙ stop_map (λ ys. xs ++ ys) (many stop p t.turns begun.left) ∙ stops)) none.1)

-- the last turn
pub turns_end : {A : Type 0} (stop : List Placed → Option (List Placed)) (p : Reader A) (all : Read (List A)) (xs : List A) (left r : List Placed)
    → Turns stop p all xs left → stop left ≡ Some r → all ≡ done xs r
turns_end stop p all xs left r t e = t.same ∙ ap (found_before xs) (many_stop stop p t.turns left r t.enough e) ∙ ap (λ l. done l r) (append-nil xs)
