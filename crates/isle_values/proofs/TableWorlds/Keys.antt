-- The keys of a world's table stand for calls.
use Rattle.std.proofs.Common.{rules, ◌≡◌, ◌⊎◌, ◌↔◌, inl, inr, ℕ, suc, arith, Bool, true, false, List, [], ◌∷◌, Option, Some, None, All, cond, map, refl, sym, ◌∙◌, ap, subst, Ordering, Less, Equal, Greater, Vec, Global}
use Rattle.std.specs.Prelude.{IfSome, IsSome, IsTrue, is_some}
use Rattle.std.specs.Bool.{Decides}
use Rattle.std.specs.Option.{option_map, option_eq}
use Rattle.std.specs.Ordering.{is_eq, match_ordering}
use Rattle.std.specs.Map.{lookup}
use Rattle.std.specs.BTreeMap.{is_at, insert_entry}
use Rattle.std.specs.Cmp.{Equal-is}
use Rattle.std.specs.Cmp.Lexicographic.{pointwise}
use Rattle.std.specs.Coded.{coded_option}
use Rattle.std.proofs.lemmas.Bool.Decides.{Decides-eqb}
use Rattle.std.proofs.lemmas.Bool.{false≢true}
use Rattle.std.proofs.lemmas.List.{append-nil}
use Rattle.std.proofs.lemmas.List.Elements.{All-cons}
use Rattle.std.proofs.lemmas.Option.{same_Some}
use Rattle.std.proofs.lemmas.Slice.Eq.{bytes_eq-Decides}
use Rattle.isle_ast.specs.Trees.Equality.{same_coded-decides}
use Rattle.isle_rules.specs.Values.{ValueTree, ValueTrees, no_trees, more_trees}
use Rattle.isle_containers.proofs.LevelEntries.{lookup-inserted, lookup-kept}
use Rattle.isle_values.specs.declared.values.Node.{Node}
use Rattle.isle_values.specs.declared.worlds.entry.Side.{Side}
use Rattle.isle_values.specs.declared.worlds.entry.Side.TheVariants.{Constructor, Extractor}
use Rattle.isle_values.specs.declared.worlds.table.Key.{Key}
use Rattle.isle_values.specs.contracts.values.NodePartialEq.TheImpl as node_of
use Rattle.isle_values.specs.contracts.worlds.entry.SidePartialEq.TheImpl as side_of
use Rattle.isle_values.specs.contracts.worlds.table.KeyPartialEq.TheImpl as key_eq
use Rattle.isle_values.specs.contracts.worlds.table.KeyOrd.TheImpl as order
use Rattle.isle_values.specs.contracts.worlds.table.KeyOrd.TheImpl.Laws as order_laws
use Rattle.isle_values.specs.Values.Code.{value_trees_code}
use Rattle.isle_values.specs.Worlds.EntryCode.{side_number, side_number_inj}
use Rattle.isle_values.specs.Worlds.Entries.{EntryTree, IsSameCall, part_shown}
use Rattle.isle_values.specs.Values.Nodes.{nodes_all, values_in, joined}
use Rattle.isle_values.specs.Worlds.Tables.{is_call, entry_at, entry_of, key_of, row_shown, IsKey, IsAdded}
use Rattle.isle_values.proofs.GroundValues.EqualNodes.{both, through, one_answer, nodes-decide}
use Rattle.isle_values.proofs.GroundValues.Laying.{all_before}

joined_none : (vs : ValueTrees) → joined vs no_trees ≡ vs
joined_none no_trees = refl
joined_none (more_trees v vs) = ap (more_trees v) (joined_none vs)

-- nodes of values stand for them
pub values_laid : (vs : ValueTrees) → values_in (nodes_all vs) ≡ vs
values_laid vs = ap values_in (sym (append-nil (nodes_all vs))) ∙ all_before vs [] ∙ joined_none vs

side-decides : (a b : Side) → Decides ((side_of.ghosts).eq a b) (a ≡ b)
side-decides Constructor Constructor = (λ e. refl, λ e. refl)
side-decides Constructor Extractor = (λ e. cc, λ e. cc)
side-decides Extractor Constructor = (λ e. cc, λ e. cc)
side-decides Extractor Extractor = (λ e. refl, λ e. refl)

calls-decide : (a b : Option (List Node)) → Decides (option_eq (pointwise (node_of.ghosts).eq) a b) (a ≡ b)
calls-decide None None = (λ e. refl, λ e. refl)
calls-decide None (Some b) = (λ e. cc, λ e. cc)
calls-decide (Some a) None = (λ e. cc, λ e. cc)
calls-decide (Some a) (Some b) = through (nodes-decide a b) (λ h. ap Some h) (λ e. same_Some a b e)

key-decides : (a b : Key) → Decides ((key_eq.ghosts).eq a b) (a ≡ b)
key-decides a b = through (both _ _ (calls-decide a.call b.call) (both _ _ (bytes_eq-Decides a.term b.term) (side-decides a.side b.side)))
    (λ h i. record { call = h.0 i; term = h.1.0 i; side = h.1.1 i })
    (λ e. (ap (λ (k : Key). k.call) e, (ap (λ (k : Key). k.term) e, ap (λ (k : Key). k.side) e)))

-- the order of keys
abbrev pub cmp : Key → Key → Ordering
cmp = (order.ghosts).cmp

-- keys are level exactly where they are one
pub key-level : (a b : Key) → (cmp a b ≡ Equal) ↔ (a ≡ b)
key-level a b = (
  λ e. (key-decides a b).0 (order_laws.matches_eq-law a b ∙ (Equal-is (cmp a b)).1 e),
  λ e. (Equal-is (cmp a b)).0 (sym (order_laws.matches_eq-law a b) ∙ (key-decides a b).1 e),
)

level-decides : (a b : Key) → Decides (is_eq (cmp a b)) (a ≡ b)
level-decides a b = through (λ e. (Equal-is (cmp a b)).0 e, λ e. (Equal-is (cmp a b)).1 e) (key-level a b).0 (key-level a b).1

abbrev pub Row : Type 0
Row = Key × Option (Vec ValueTree Global)

-- a call is that of a row where its key is
call_shown : (call : Option ValueTrees) (nodes : Option (List Node)) → IfSome nodes (λ l. l ≡ nodes_all (values_in l))
    → call ≡ option_map values_in nodes
    → option_map nodes_all call ≡ nodes
call_shown None None is e = refl
call_shown None (Some l) is e = cc
call_shown (Some vs) None is e = cc
call_shown (Some vs) (Some l) is e = ap Some (ap nodes_all (same_Some vs (values_in l) e) ∙ sym is)

pub shown_call : (call : Option ValueTrees) → option_map values_in (option_map nodes_all call) ≡ call
shown_call None = refl
shown_call (Some vs) = ap Some (values_laid vs)

is_call-decides : (side : Side) (term : List ℕ) (call : Option ValueTrees) (row : Row) → IsKey row
    → Decides (is_call side term call (row_shown row)) (key_of side term call ≡ row.0)
is_call-decides side term call row is =
    through (both _ _ (Decides-eqb (side_number side) (side_number row.0.side))
    (both _ _ (bytes_eq-Decides term row.0.term) (same_coded-decides (coded_option value_trees_code) call (option_map values_in row.0.call))))
    (λ h i. record { side = side_number_inj side row.0.side h.0 i; term = h.1.0 i; call = call_shown call row.0.call is h.1.1 i })
    (λ e. (
      ap (λ (k : Key). side_number k.side) e,
      (
        ap (λ (k : Key). k.term) e,
        sym (shown_call call) ∙ ap
            (λ (k : Key). option_map values_in k.call) e,
      ),
    ))

head_all : (row : Row) (rows : List Row) → All IsKey (row ∷ rows) → IsKey row
head_all row rows are = are 0 row (omega arith)

tail_all : (row : Row) (rows : List Row) → All IsKey (row ∷ rows) → All IsKey rows
tail_all row rows are = λ k d p. are (suc k) d (omega (arith, p))

-- what a table has by keys is what its entries have by calls
pub lookup_shown : (side : Side) (term : List ℕ) (call : Option ValueTrees) (rows : List Row) → All IsKey rows
    → option_map part_shown (lookup (is_at (cmp (key_of side term call))) rows) ≡ entry_at (map row_shown rows) side term call
lookup_shown side term call [] are = refl
lookup_shown side term call (row ∷ rows) are =
    let one : is_eq (cmp (key_of side term call) row.0) ≡ is_call side term call (row_shown row) =
    one_answer _ _ (level-decides (key_of side term call) row.0) (is_call-decides side term call row (head_all row rows are)) in
    let rest = lookup_shown side term call rows (tail_all row rows are) in
    ap (λ b. option_map part_shown (cond b (Some row.1) (lookup (is_at (cmp (key_of side term call))) rows))) one
    ∙ elim (is_call side term call (row_shown row)) as (λ b. option_map part_shown
    (cond b (Some row.1) (lookup (is_at (cmp (key_of side term call))) rows))
    ≡ cond b (Some (part_shown row.1)) (entry_at (map row_shown rows) side term call)) [
      | true ↦ refl
      | false ↦ rest
    ]

-- one more key
pub keys_more : (rows : List Row) (key : Key) (answer : Option (Vec ValueTree Global)) → All IsKey rows → IsKey (key, answer)
    → All IsKey (insert_entry cmp rows key answer)
keys_more [] key answer are is = All-cons IsKey (key, answer) [] is are
keys_more (row ∷ rows) key answer are is = elim (cmp key row.0) as
    (λ o. All IsKey (match_ordering o ((key, answer) ∷ row ∷ rows) ((row.0, answer) ∷ rows) (row ∷ insert_entry cmp rows key answer))) [
      | Less ↦ All-cons IsKey (key, answer) (row ∷ rows) is are
      | Equal ↦ All-cons IsKey (row.0, answer) rows (head_all row rows are) (tail_all row rows are)
      | Greater ↦ All-cons IsKey row (insert_entry cmp rows key answer) (head_all row rows are) (keys_more rows key answer (tail_all row rows are) is)
    ]

-- the key of a call is one
pub key_is : (side : Side) (term : List ℕ) (call : Option ValueTrees) (answer : Option (Vec ValueTree Global)) → IsKey (key_of side term call, answer)
key_is side term None answer = tt
key_is side term (Some vs) answer = ap nodes_all (sym (values_laid vs))

same_keys : (d e : EntryTree) → key_of d.side d.term d.call ≡ key_of e.side e.term e.call → IsSameCall d e
same_keys d e is = record {
  side = ap (λ (k : Key). k.side) is;
  term = ap (λ (k : Key). k.term) is;
  call = sym (shown_call d.call) ∙ ap (λ (k : Key). option_map values_in k.call) is ∙ shown_call e.call;
}

-- a table with one more row
pub added_row : (rows new : List Row) (e : EntryTree) (answer : Option (Vec ValueTree Global)) → All IsKey rows → part_shown answer ≡ e.answer
    → lookup (is_at (cmp (key_of e.side e.term e.call))) rows ≡ None → new ≡ insert_entry cmp rows (key_of e.side e.term e.call) answer
    → IsAdded (map row_shown rows) e (map row_shown new)
added_row rows new e answer are shown absent is =
    let key = key_of e.side e.term e.call in
    let more : All IsKey new = subst (All IsKey) (sym is) (keys_more rows key answer are (key_is e.side e.term e.call answer)) in
    record {
      absent = sym (lookup_shown e.side e.term e.call rows are) ∙ ap (option_map part_shown) absent;
      there = sym (lookup_shown e.side e.term e.call new more)
          ∙ ap (λ l. option_map part_shown (lookup (is_at (cmp key)) l)) is
          ∙ ap (option_map part_shown) (lookup-inserted cmp key-level key answer rows) ∙ ap Some shown;
      kept = λ d.
          let other = key_of d.side d.term d.call in
          elim ((key_eq.ghosts).eq other key) as (λ b. (key_eq.ghosts).eq other key ≡ b
          → IsSameCall d e ⊎ (entry_of (map row_shown new) d ≡ entry_of (map row_shown rows) d)) [
            | true ↦ λ yes. inl (same_keys d e ((key-decides other key).0 yes))
            | false ↦ λ no. inr (sym (lookup_shown d.side d.term d.call new more)
                ∙ ap (λ l. option_map part_shown (lookup (is_at (cmp other)) l)) is
                ∙ ap (option_map part_shown) (lookup-kept cmp key-level key answer other
                (λ same. false≢true (sym no ∙ (key-decides other key).1 same)) rows)
                ∙ lookup_shown d.side d.term d.call rows are)
          ] refl;
    }

-- what is found by the key of a call is what entries have at it
pub got_at : (rows : List Row) (entries : List EntryTree) (side : Side) (term : List ℕ) (call : Option ValueTrees) (key : Key)
    → All IsKey rows → map row_shown rows ≡ entries
    → key ≡ key_of side term call → option_map part_shown (lookup (is_at (cmp key)) rows) ≡ entry_at entries side term call
got_at rows entries side term call key are view is =
    ap (λ k. option_map part_shown (lookup (is_at (cmp k)) rows)) is ∙ lookup_shown side term call rows are ∙ ap
    (λ es. entry_at es side term call) view

some_shown : {X Y : Type 0} (f : X → Y) (o : Option X) → (IsTrue (is_some o) → IsSome (option_map f o))
    × (IsSome (option_map f o) → IsTrue (is_some o))
some_shown f None = (λ e. cc, λ some. absurd (let no : ⊥ = search rules in no))
some_shown f (Some x) = (λ e. search rules, λ some. refl)

-- whether there is an entry at a call
pub has_at : (rows : List Row) (entries : List EntryTree) (side : Side) (term : List ℕ) (call : Option ValueTrees) (key : Key) (found : Bool)
    → All IsKey rows
    → map row_shown rows ≡ entries → key ≡ key_of side term call → found ≡ is_some (lookup (is_at (cmp key)) rows)
    → (IsTrue found → IsSome (entry_at entries side term call)) × (IsSome (entry_at entries side term call) → IsTrue found)
has_at rows entries side term call key found are view is told =
    let both = some_shown part_shown (lookup (is_at (cmp key)) rows) in let same = got_at rows entries side term call key are view is in
    (λ yes. subst IsSome same (both.0 (subst IsTrue told yes)), λ some. subst IsTrue (sym told) (both.1 (subst IsSome (sym same) some)))

nothing_there : {X : Type 0} (o : Option X) (found : Bool) → found ≡ is_some o → found ≡ false → o ≡ None
nothing_there None found told gone = refl
nothing_there (Some x) found told gone = absurd (let yes : true ≡ false = sym told ∙ gone in cc)

-- a table after a key that it hadn't is put in
pub added_by : (rows new : List Row) (entries : List EntryTree) (e : EntryTree) (answer : Option (Vec ValueTree Global)) (key : Key) (found : Bool)
    → All IsKey rows
    → map row_shown rows ≡ entries → key ≡ key_of e.side e.term e.call → part_shown answer ≡ e.answer
    → found ≡ is_some (lookup (is_at (cmp key)) rows) → found ≡ false
    → new ≡ insert_entry cmp rows key answer → IsAdded entries e (map row_shown new)
added_by rows new entries e answer key found are view is shown told gone put =
    subst (λ es. IsAdded es e (map row_shown new)) view
    (added_row rows new e answer are shown (subst (λ k. lookup (is_at (cmp k)) rows ≡ None) is (nothing_there _ found told gone))
    (subst (λ k. new ≡ insert_entry cmp rows k answer) is put))
