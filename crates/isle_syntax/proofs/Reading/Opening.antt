-- Reading that begins with a parenthesis, step by step.
use Rattle.std.proofs.Common.{◌≡◌, ℕ, zero, suc, ◌-◌, ◌<◌, List, [], ◌∷◌, refl, sym, subst, ◌∙◌, arith}
use Rattle.isle_ast.specs.declared.pos.Pos.{Pos}
use Rattle.isle_ast.specs.declared.error.Error.{Error}
use Rattle.isle_ast.specs.declared.refusal.Refusal.{Refusal}
use Rattle.isle_ast.specs.declared.refusal.Refusal.TheVariants.{Fault, Memory}
use Rattle.isle_syntax.specs.Tokens.PlacedTokens.{Placed, opening, closing, at_sign, symbol, int}
use Rattle.isle_syntax.specs.Tokens.RemainingTokens.{RemainingTokens}
use Rattle.isle_syntax.specs.Inside.Reading.Parsing.{Stop, nowhere, stop_of, TellsStop, RefusesAt}
use Rattle.isle_syntax.specs.Inside.Reading.Readers.{Read, done, Reader, read_map, seq, rest_of, opened, shut, opened_within}
use Rattle.isle_ast.specs.Trees.ItemTree.{item_list, item_list_of}
use Rattle.isle_syntax.specs.Inside.Reading.TreeReading.{item, item_list_reader, pattern_list, expr_list, let_list, let_binding}
use Rattle.isle_syntax.proofs.Productions.Items.{item_list_reads}
use Rattle.isle_syntax.proofs.Reading.Loops.{stop_map, stop_after, tells_some}

shut_done : {A : Type 0} (ts r : List Placed) (a : A) → shut ts ≡ done a r → ⊥
shut_done [] r a e = cc
shut_done (opening p ∷ ts) r a e = cc
shut_done (closing p ∷ ts) r a e = cc
shut_done (at_sign p ∷ ts) r a e = cc
shut_done (symbol p s ∷ ts) r a e = cc
shut_done (int p n ∷ ts) r a e = cc

-- where the parenthesis was read, there was room for it
pub opened_depth_left : (d : ℕ) (p : Pos) (ts r : List Placed) → opened_within d ts ≡ done p r → 0 < d
opened_depth_left zero p ts r e = absurd (shut_done ts r p e)
opened_depth_left (suc d) p ts r e = omega arith

pub opened_plain : (d : ℕ) (p : Pos) (ts r : List Placed) → opened_within d ts ≡ done p r → opened ts ≡ done p r
opened_plain zero p ts r e = absurd (shut_done ts r p e)
opened_plain (suc d) p ts r e = e

shut_stop : (A B : Type 0) (ts : List Placed) → stop_of (shut {A = A} ts) ≡ stop_of (shut {A = B} ts)
shut_stop A B [] = refl
shut_stop A B (opening p ∷ ts) = refl
shut_stop A B (closing p ∷ ts) = refl
shut_stop A B (at_sign p ∷ ts) = refl
shut_stop A B (symbol p s ∷ ts) = refl
shut_stop A B (int p n ∷ ts) = refl

-- reading y stops where reading x does
abbrev pub StopsWith : {A B : Type 0} → Read A → Read B → Type 0
StopsWith x y = (s : Stop) → stop_of x ≡ s → (s ≡ nowhere → ⊥) → stop_of y ≡ s

pub refuses_with : {A B : Type 0} (x : Read A) (y : Read B) (old new : RemainingTokens) (r : Refusal Error) → StopsWith x y
    → RefusesAt old new r (stop_of x) → RefusesAt old new r (stop_of y)
refuses_with x y old new (Fault e) with h = subst (TellsStop old new e) (sym (with (stop_of x) refl (tells_some old new e _ h))) h
refuses_with x y old new (Memory e) with h = tt

opens_stops : {A B : Type 0} (f : Pos × A → B) (q : Reader A) (ts : List Placed) → StopsWith (opened ts) (read_map f (seq opened q ts))
opens_stops f q ts s e some = stop_map f (seq opened q ts) ∙ stop_after (opened ts) _ s e some

-- what stops first stops all
pub first_stops : {A B C : Type 0} (f : A × B → C) (p : Reader A) (q : Reader B) (ts : List Placed) → StopsWith (p ts) (read_map f (seq p q ts))
first_stops f p q ts s e some = stop_map f (seq p q ts) ∙ stop_after (p ts) _ s e some

-- ---- items

pub item_list_opens : (d : ℕ) (p : Pos) (ts r : List Placed) → opened_within d ts ≡ done p r
    → item_list_reader d ts ≡ read_map (λ l. item_list (item_list_of l) p) (rest_of (item (d - 1)) r)
item_list_opens d p ts r e = item_list_reads d p ts r (opened_depth_left d p ts r e) (opened_plain d p ts r e)

pub item_list_stops : (d : ℕ) (ts : List Placed) → StopsWith (opened_within d ts) (item_list_reader d ts)
unfolding item_list_reader
item_list_stops zero ts s e some = shut_stop _ _ ts ∙ e
item_list_stops (suc d) ts s e some = opens_stops _ _ ts s e some

-- ---- patterns, expressions and bindings

pub pattern_list_stops : (d : ℕ) (ts : List Placed) → StopsWith (opened_within d ts) (pattern_list d ts)
unfolding pattern_list
pattern_list_stops zero ts s e some = shut_stop _ _ ts ∙ e
pattern_list_stops (suc d) ts s e some = opens_stops _ _ ts s e some

pub expr_list_stops : (d : ℕ) (ts : List Placed) → StopsWith (opened_within d ts) (expr_list d ts)
unfolding expr_list
expr_list_stops zero ts s e some = shut_stop _ _ ts ∙ e
expr_list_stops (suc d) ts s e some = opens_stops _ _ ts s e some

pub let_list_stops : (d : ℕ) (ts : List Placed) → StopsWith (opened_within d ts) (let_list d ts)
unfolding let_list
let_list_stops zero ts s e some = shut_stop _ _ ts ∙ e
let_list_stops (suc d) ts s e some = stop_after (opened ts) _ s e some

pub let_binding_stops : (d : ℕ) (ts : List Placed) → StopsWith (opened_within d ts) (let_binding d ts)
unfolding let_binding
let_binding_stops zero ts s e some = shut_stop _ _ ts ∙ e
let_binding_stops (suc d) ts s e some = stop_after (opened ts) _ s e some
