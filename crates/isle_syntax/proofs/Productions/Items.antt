-- Reading an item follows the grammar.
use Rattle.std.proofs.Common.{◌≡◌, ℕ, zero, suc, ◌-◌, List, [], ◌∷◌, ◌++◌, length, ◌<◌, refl, sym, ap, subst, ◌∙◌, arith}
use Rattle.isle_syntax.specs.declared.kind.Kind.{Kind}
use Rattle.isle_syntax.specs.declared.kind.Kind.TheVariants.{True, False, Const, Wildcard, Name, Other}
use Rattle.isle_ast.specs.declared.pos.Pos.{Pos}
use Rattle.isle_syntax.specs.Tokens.PlacedTokens.{Placed, opening, closing, at_sign, symbol, int, Literal, small, large}
use Rattle.isle_syntax.specs.Grammar.Phrases.{◌⊙◌, Both, Opens, Closes, Each, Closed}
use Rattle.isle_syntax.specs.Inside.Reading.KindOf.{kind_at, symbol_kind}
use Rattle.isle_syntax.specs.Inside.Reading.Readers.{done, read_map, seq, rest_of, opened, shut}
use Rattle.isle_syntax.specs.Inside.Reading.KindReading.{item_on}
use Rattle.isle_ast.specs.Trees.ItemTree.{ItemTree, ItemTrees, item_int, item_big, item_symbol, item_at, item_list, no_items, more_items}
use Rattle.isle_syntax.specs.Grammar.TreeGrammar.{SpellsItem, SpellsItems}
use Rattle.isle_syntax.specs.Inside.Reading.TreeReading.{ident, item_trees, literal_item, item_list_reader, item}
use Rattle.isle_syntax.proofs.Reading.Follows.{start, SameNext, Begins, FollowsAt, Follows, Any, Starts, follows_refusal, follows_token}
use Rattle.isle_syntax.proofs.Reading.Follows.{follows_image, follows_seq, follows_rest_of, shorter_after}
use Rattle.isle_syntax.proofs.Reading.SymbolKinds.{Known, symbol_known}
use Rattle.isle_syntax.proofs.Reading.ReadSteps.{map_seq_done}
use Rattle.isle_syntax.proofs.Reading.Basics.{first_is, follows_opened, some_closed}

pub items_from_each : (l : List ItemTree) (ts : List Placed) → Each SpellsItem l ts → SpellsItems (item_trees l) ts
items_from_each [] ts e = e
items_from_each (i ∷ l) ts e = (e.0, e.1, e.2, e.3, items_from_each l e.1 e.4)

pub each_from_items : (is : ItemTrees) (ts : List Placed) → SpellsItems is ts → (l : List ItemTree) × (is ≡ item_trees l) × Each SpellsItem l ts
each_from_items no_items ts e = ([], refl, e)
each_from_items (more_items i is) ts e = let r = each_from_items is e.1 e.4 in (i ∷ r.0, ap (more_items i) r.1, (e.0, e.1, e.2, e.3, r.2))

-- what an item is that begins with a token
abbrev ItemAt : Placed → ItemTree → List Placed → Type 0
ItemAt (opening p) b v = (is : ItemTrees) × (b ≡ item_list is p) × (Opens p ⊙ (SpellsItems is ⊙ Closes tt)) v
ItemAt (closing p) b v = ⊥
ItemAt (at_sign p) b v = (b ≡ item_at p) × (v ≡ at_sign p ∷ [])
ItemAt (symbol p s) b v = (b ≡ item_symbol (ident p s)) × (v ≡ symbol p s ∷ [])
ItemAt (int p n) b v = (b ≡ literal_item p n) × (v ≡ int p n ∷ [])

item_at_first : (b : ItemTree) (v w y : List Placed) (t : Placed) → SpellsItem b v → v ++ w ≡ t ∷ y → ItemAt t b v
item_at_first (item_int z p) v w y t l e = subst (λ k. ItemAt k (item_int z p) v) (first_is t _ [] v w y l e) (refl, l)
item_at_first (item_big n p) v w y t l e = subst (λ k. ItemAt k (item_big n p) v) (first_is t _ [] v w y l e) (refl, l)
item_at_first (item_symbol x) v w y t l e = subst (λ k. ItemAt k (item_symbol x) v) (first_is t _ [] v w y l e) (refl, l)
item_at_first (item_at p) v w y t l e = subst (λ k. ItemAt k (item_at p) v) (first_is t _ [] v w y l e) (refl, l)
item_at_first (item_list is p) v w y t l e =
    subst (λ k. ItemAt k (item_list is p) v) (first_is t (opening p) l.1 v w y (l.2 ∙ ap (λ x. x ++ l.1) l.3) e) (is, refl, l)

pub item_filled : (b : ItemTree) (v : List Placed) → SpellsItem b v → v ≡ [] → ⊥
item_filled (item_int z p) v l e = cc
item_filled (item_big n p) v l e = cc
item_filled (item_symbol x) v l e = cc
item_filled (item_at p) v l e = cc
item_filled (item_list is p) v l e = let k : [] ≡ opening p ∷ l.1 = sym e ∙ l.2 ∙ ap (λ x. x ++ l.1) l.3 in cc

pub item_starts : Starts SpellsItem
item_starts = record { filled = item_filled; inside = λ b v w y q l e. item_at_first b v w y (closing q) l e }

pub some_item : Begins SpellsItem []
some_item = (item_at start, at_sign start ∷ [], refl)

nothing_at_end : (b : ItemTree) (v w x : List Placed) → SameNext [] x → SpellsItem b v → v ++ w ≡ x → ⊥
nothing_at_end b [] w x same_next l e = item_filled b [] l refl
nothing_at_end b (t ∷ v) w x same_next l e = cc (same_next, e)

follows_items_of : (d : ℕ) → Follows SpellsItem Any d d (item d) → Follows (Closed SpellsItem) Any d (suc d) (rest_of (item d))
follows_items_of d g = follows_rest_of SpellsItem Any Any d (item d) g item_starts (λ b v w l. tt) (λ q w. tt)

-- a list of items where a parenthesis opens
follows_item_list : (d : ℕ) (p : Pos) (ts : List Placed) → Follows SpellsItem Any d d (item d)
    → FollowsAt SpellsItem Any (suc d) (suc d) (opening p ∷ ts) (item_list_reader (suc d) (opening p ∷ ts))
unfolding item_list_reader
follows_item_list d p ts ih =
    follows_image (Both Opens (Closed SpellsItem)) SpellsItem Any (suc d) (suc d) (opening p ∷ ts) (λ x. item_list (item_trees x.1) x.0)
    (λ a u l. (l.0, l.1, l.2, l.3, (l.4.0, l.4.1, l.4.2, items_from_each a.1 l.4.0 l.4.3, l.4.4)))
    (λ b v w x same_next l fw e.
    let h = item_at_first b v w same_next.0 (opening p) l (e ∙ same_next.1) in
    let each = each_from_items h.0 h.2.4.0 h.2.4.3 in
    ((p, each.0), h.1 ∙ ap (λ is. item_list is p) each.1, (h.2.0, h.2.1, h.2.2, h.2.3, (h.2.4.0, h.2.4.1, h.2.4.2, each.2, h.2.4.4))))
    (seq opened (rest_of (item d)) (opening p ∷ ts))
    ((follows_seq (some_closed SpellsItem) (follows_opened d) (follows_items_of d ih)).reads (opening p ∷ ts))

follows_item_list_shut : (p : Pos) (ts : List Placed) → FollowsAt SpellsItem Any 0 0 (opening p ∷ ts) (item_list_reader zero (opening p ∷ ts))
unfolding item_list_reader
follows_item_list_shut p ts = record {
  used = [];
  split = refl;
  pos = p;
  rest = ts;
  parenthesis = refl;
  nests = refl;
  begins = (
    item_list no_items p,
    closing start ∷ [],
    (
      opening p ∷ [],
      closing start ∷ [],
      refl,
      refl,
      ([], closing start ∷ [], refl, refl, (start, refl)),
    ),
  );
}

spelt_literal : (p : Pos) (n : Literal) → SpellsItem (literal_item p n) (int p n ∷ [])
spelt_literal p (small z) = refl
spelt_literal p (large n) = refl

follows_item_at : (d : ℕ) (ts : List Placed) → FollowsAt SpellsItem Any d d ts (item d ts)
follows_item_at d [] = follows_refusal d [] some_item nothing_at_end
follows_item_at zero (opening p ∷ ts) = follows_item_list_shut p ts
follows_item_at (suc d) (opening p ∷ ts) = follows_item_list d p ts (record { reads = follows_item_at d })
follows_item_at d (closing p ∷ ts) = follows_refusal d _ some_item (λ b v w x same_next l e. item_at_first b v w same_next.0 (closing p) l (e
    ∙ same_next.1))
follows_item_at d (at_sign p ∷ ts) = follows_token _ ts (item_at p) refl refl (λ b v w y l fw e. item_at_first b v w y (at_sign p) l e)
follows_item_at d (symbol p s ∷ ts) =
    follows_token _ ts (item_symbol (ident p s)) refl refl (λ b v w y l fw e. item_at_first b v w y (symbol p s) l e)
follows_item_at d (int p n ∷ ts) =
    follows_token _ ts (literal_item p n) (spelt_literal p n) refl (λ b v w y l fw e. item_at_first b v w y (int p n) l e)

pub follows_item : (d : ℕ) → Follows SpellsItem Any d d (item d)
follows_item d = record { reads = follows_item_at d }

-- items up to the closing parenthesis
pub follows_items : (d : ℕ) → Follows (Closed SpellsItem) Any d (suc d) (rest_of (item d))
follows_items d = follows_items_of d (follows_item d)

pub item_shorter : (d : ℕ) (ts r : List Placed) (a : ItemTree) → item d ts ≡ done a r → length r < length ts
item_shorter d ts r a h = shorter_after SpellsItem Any d d ts item_starts (item d ts) (follows_item_at d ts) a r h

-- ---- the same by kinds

symbol_item : (d : ℕ) (p : Pos) (s : List ℕ) (ts : List Placed) (k : Kind) → Known s k
    → done (item_symbol (ident p s)) ts ≡ item_on d k (symbol p s ∷ ts)
symbol_item d p s ts True h = refl
symbol_item d p s ts False h = refl
symbol_item d p s ts Const h = refl
symbol_item d p s ts Wildcard h = refl
symbol_item d p s ts Name h = refl
symbol_item d p s ts Other h = refl
symbol_item d p s ts _ h = absurd h

item_by_kind : (d : ℕ) (ts : List Placed) → item d ts ≡ item_on d (kind_at ts) ts
item_by_kind d [] = refl
item_by_kind d (opening p ∷ ts) = refl
item_by_kind d (closing p ∷ ts) = refl
item_by_kind d (at_sign p ∷ ts) = refl
item_by_kind d (symbol p s ∷ ts) = symbol_item d p s ts (symbol_kind s) (symbol_known s)
item_by_kind d (int p n ∷ ts) = refl

pub item_at_kind : (d : ℕ) (ts : List Placed) (k : Kind) → k ≡ kind_at ts → item d ts ≡ item_on d k ts
item_at_kind d ts k e = item_by_kind d ts ∙ ap (λ k. item_on d k ts) (sym e)

-- a list read in two steps
pub item_list_reads : (d : ℕ) (p : Pos) (ts r : List Placed) → 0 < d → opened ts ≡ done p r
    → item_list_reader d ts ≡ read_map (λ l. item_list (item_trees l) p) (rest_of (item (d - 1)) r)
unfolding item_list_reader
item_list_reads zero p ts r h e = absurd (omega arith)
item_list_reads (suc d) p ts r h e =
    let same : d ≡ suc d - 1 = omega arith in
    map_seq_done opened (rest_of (item d)) ts r (λ x. item_list (item_trees x.1) x.0) p e
    ∙ ap (λ n. read_map (λ l. item_list (item_trees l) p) (rest_of (item n) r)) same

pub item_list_shut : (ts : List Placed) → item_list_reader 0 ts ≡ shut ts
unfolding item_list_reader
item_list_shut ts = refl
