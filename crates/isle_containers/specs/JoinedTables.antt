-- Tables that have the representative of each member as its value.
use Rattle.std.specs.Prelude.{◌≡◌, Bool, true, not, cond, ◌&&◌, List, ◌∷◌, filter, map, is_some, Contains, IsPermutation, Some}
use Rattle.std.specs.List.{list_any, IsDistinct}
use Rattle.std.specs.Map.{keys_of, lookup}

module _ {K V : Type 0} (eq : V → V → Bool) where
  -- the table with `to` in the place of each value that equals `from`
  abbrev pub relabeled : List (K × V) → V → V → List (K × V)
  relabeled table from to = map (λ e. (e.0, cond (eq e.1 from) to e.1)) table

  -- the table without the entries whose value equals r
  abbrev pub without : List (K × V) → V → List (K × V)
  without table r = filter (λ e. not (eq e.1 r)) table

module _ {T : Type 0} (eq : T → T → Bool) where
  -- the members that represent themselves
  abbrev pub roots : List (T × T) → List T
  roots table = keys_of (filter (λ e. eq e.0 e.1) table)

  -- the members that r represents, but for r itself
  abbrev pub others_of : List (T × T) → T → List T
  others_of table r = keys_of (filter (λ e. eq e.1 r && not (eq e.0 r)) table)

  -- the sets of a table
  abbrev pub sets_of : List (T × T) → List (List T)
  sets_of table = map (λ r. r ∷ others_of table r) (roots table)

  -- the members with a value that equals r
  abbrev pub members_at : List (T × T) → T → List T
  members_at table r = keys_of (filter (λ e. eq e.1 r) table)

  -- no member stands twice, and each value is a member that represents itself
  pub record IsRooted (table : List (T × T)) : Type 0 where
    pub distinct : IsDistinct eq (keys_of table)
    pub rooted : (x r : T) → lookup (eq x) table ≡ Some r → Contains table (r, r)

  -- a rooted table in which each value represents another member too
  pub record IsJoinedTable (table : List (T × T)) : Type 0 where
    pub is_rooted : IsRooted table
    pub paired : (x r : T) → lookup (eq x) table ≡ Some r → list_any (λ e. eq e.1 r && not (eq e.0 r)) table ≡ true

  -- the table with x as its own representative, where it had none
  abbrev pub entered : List (T × T) → T → List (T × T)
  entered table x = cond (is_some (lookup (eq x) table)) table ((x, x) ∷ table)

  -- the entries in another order
  pub record IsReorderedTable (old new : List (T × T)) : Type 0 where
    pub moved : IsPermutation old new
    pub same : (x : T) → lookup (eq x) new ≡ lookup (eq x) old
