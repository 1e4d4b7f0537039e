-- Reading a `let` and its bindings, part by part.
use Rattle.std.proofs.Common.{◌≡◌, ℕ, zero, suc, ◌-◌, ◌<◌, List, [], ◌∷◌, map, refl, sym, ap, ◌∙◌}
use Rattle.std.specs.Prelude.{Result, Ok, Err, codes}
use Rattle.isle_ast.specs.declared.error.Error.{Error}
use Rattle.isle_ast.specs.declared.refusal.Refusal.{Refusal}
use Rattle.isle_ast.specs.declared.pos.Pos.{Pos}
use Rattle.isle_ast.specs.declared.ast.LetDef.{LetDef}
use Rattle.isle_syntax.specs.Tokens.PlacedTokens.{Placed}
use Rattle.isle_syntax.specs.Tokens.RemainingTokens.{RemainingTokens}
use Rattle.isle_syntax.specs.Tokens.Names.{is_word}
use Rattle.isle_syntax.specs.Inside.Reading.Parsing.{bounds, Gives}
use Rattle.isle_syntax.specs.Inside.Reading.Readers.{Read, done, fault, deep, read_map, seq, rest_of, opened, closed, word, symbol_of, says}
use Rattle.isle_syntax.specs.Inside.Reading.Bindings.{binding_of}
use Rattle.isle_ast.specs.Trees.ExprShape.{expr_of, lets_of}
use Rattle.isle_ast.specs.Trees.ExprTree.{ExprTree, expr_let, more_lets}
use Rattle.isle_syntax.specs.Inside.Reading.TreeReading.{LetBinding, let_trees, expr, let_list, let_binding}
use Rattle.isle_syntax.proofs.Reading.ReadSteps.{fuse, map_seq_done}
use Rattle.isle_syntax.proofs.Reading.ExprKinds.{let_list_opens}
use Rattle.isle_syntax.proofs.Reading.Loops.{refuses_later}

-- the trees of bindings are those of their variables
pub bindings_trees : (ds : List LetDef) → lets_of ds ≡ let_trees (map binding_of ds)
bindings_trees [] = refl
bindings_trees (d ∷ ds) = ap (more_lets d.var d.ty (expr_of d.val) d.pos) (bindings_trees ds)

-- the same of a lexer some tokens before
pub gives_later : {X Y : Type 0} (view : X → Y) (old mid new : RemainingTokens) (res : Result X (Refusal Error)) (read : Read Y)
    → bounds mid ≡ bounds old → Gives view mid new res read → Gives view old new res read
gives_later view old mid new (Ok x) read same h = (h.0, h.1 ∙ same)
gives_later view old mid new (Err refusal) read same h = refuses_later old mid new refusal _ same h

map_same : {A : Type 0} (x : Read A) → read_map (λ a. a) x ≡ x
map_same (done a r) = refl
map_same (fault r) = refl
map_same (deep r) = refl

-- bindings in parentheses, without their place
pub let_list_inside : (d : ℕ) (p : Pos) (ts r : List Placed) → 0 < d → opened ts ≡ done p r
    → read_map (λ x. x.1) (let_list d ts) ≡ rest_of (let_binding (d - 1)) r
let_list_inside d p ts r some e =
    ap (read_map (λ x. x.1)) (let_list_opens d p ts r some e) ∙ fuse (λ x. x.1) (λ l. (p, l)) (rest_of (let_binding (d - 1)) r)
    ∙ map_same (rest_of (let_binding (d - 1)) r)

pub none_bound : (d : ℕ) → let_binding d [] ≡ fault []
unfolding let_binding
none_bound zero = refl
none_bound (suc d) = refl

-- ---- a `let`

says_done : (w : List ℕ) (p : Pos) (ts r : List Placed) → word w ts ≡ done p r → says w ts ≡ done tt r
says_done w p ts r e = sym (fuse (λ q. tt) (λ x. x.1) (symbol_of (is_word w) ts)) ∙ ap (read_map (λ q. tt)) e

-- a reading of both whose second is known
second_done : {A B : Type 0} (y : Read (A × B)) (b : B) (r : List Placed) → read_map (λ x. x.1) y ≡ done b r → (a : A) × (y ≡ done (a, b) r)
second_done (done x s) b r e =
    let second : x.1 ≡ b = cc in let rest : s ≡ r = cc in (x.0, ap (λ b. done (x.0, b) s) second ∙ ap (done (x.0, b)) rest)
second_done (fault s) b r e = cc
second_done (deep s) b r e = cc

pub let_reads : (d : ℕ) (p q : Pos) (l : List LetBinding) (body : ExprTree) (ts r s t : List Placed) → word (codes "let") ts ≡ done q r
    → read_map (λ x. x.1) (let_list d r) ≡ done l s → seq (expr d) closed s ≡ done (body, tt) t
    → read_map (λ x. expr_let (let_trees x.1.0.1) x.1.1.0 p) (seq (says (codes "let")) (seq (let_list d) (seq (expr d) closed)) ts)
    ≡ done (expr_let (let_trees l) body p) t
let_reads d p q l body ts r s t e f g =
    let lets = second_done (let_list d r) l s f in
    map_seq_done (says (codes "let")) (seq (let_list d) (seq (expr d) closed)) ts r (λ x. expr_let (let_trees x.1.0.1) x.1.1.0 p) tt
    (says_done (codes "let") q ts r e)
    ∙ map_seq_done (let_list d) (seq (expr d) closed) r s (λ x. expr_let (let_trees x.0.1) x.1.0 p) (lets.0, l) lets.1
    ∙ ap (read_map (λ x. expr_let (let_trees l) x.0 p)) g
