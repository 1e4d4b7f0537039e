-- The classes of sites while a rule's demands are closed, and what is still to be made equal.
use Rattle.std.specs.Prelude.{◌≡◌, ◌≢◌, ◌<◌, ◌≤◌, ◌⊎◌, ◌++◌, ◌∷◌, ℕ, List, [], Bool, true, false, Contains, Option, Some, None, length, slice_get, slice_index}
use Rattle.std.specs.Prelude.{slice_index_or}
use Rattle.isle_types.specs.declared.ids.Sym.{Sym}
use Rattle.isle_meaning.specs.Sites.{Site}
use Rattle.isle_meaning.specs.Demands.{Demand}
use Rattle.isle_meaning.specs.Derived.{AreEqual}
use Rattle.isle_meaning.specs.Numbered.{At, Recorded}
use Rattle.isle_blocks.specs.declared.ids.BindingId.{BindingId}
use Rattle.isle_blocks.specs.declared.binding.Binding.{Binding}
use Rattle.isle_blocks.specs.declared.constraint.Constraint.{Constraint}
use Rattle.isle_blocks.specs.Rows.{IsInjective, rows_of, constraints_of, pairs_of}
use Rattle.isle_blocks.specs.Tables.{IsAbsent}
use Rattle.isle_blocks.specs.Inside.ClosureFields.{Opens, field_binding}
use Rattle.isle_blocks.specs.Tables.{IsTable}

-- the table has the field of a site
abbrev pub HasField : List Binding → Option ℕ → ℕ → ℕ → Type 0
HasField table kind a i = (f : ℕ) × (slice_get table f ≡ Some (field_binding kind a i))

-- What closing asks: the sites stand behind their parts, what is demanded is demanded of them, and each has its fields.
pub record IsReady (table : List Binding) (has : List (BindingId × Constraint)) (same : List (BindingId × BindingId)) : Type 0 where
  pub sites : IsTable table
  pub constrained : (a : BindingId) (c : Constraint) → Contains has (a, c) → a.0 < length table
  pub one : (a b : BindingId) → Contains same (a, b) → a.0 < length table
  pub other : (a b : BindingId) → Contains same (a, b) → b.0 < length table
  pub fields : (a : BindingId) (c : Constraint) (kind : Option ℕ) (i : ℕ) → Contains has (a, c) → Opens c kind i → HasField table kind a.0 i

-- the site's own test
abbrev pub HasOwn : List (Option Constraint) → ℕ → Constraint → Type 0
HasOwn own a c = slice_index_or own a None ≡ Some c

-- the site's own test opens the field
abbrev pub IsOpened : List (Option Constraint) → ℕ → Option ℕ → ℕ → Type 0
IsOpened own a kind i = (c : Constraint) × HasOwn own a c × Opens c kind i

-- each site's one test
pub record AreOwn (count : ℕ) (has : List (BindingId × Constraint)) (own : List (Option Constraint)) : Type 0 where
  pub fits : length own ≡ count
  pub demanded : (a : ℕ) (c : Constraint) → HasOwn own a c → (id : BindingId) × (id.0 ≡ a) × Contains has (id, c)
  pub all : (a : BindingId) (c : Constraint) → Contains has (a, c) → HasOwn own a.0 c

-- each site's representative
pub record AreClasses (count : ℕ) (class : List ℕ) : Type 0 where
  pub fits : length class ≡ count
  pub below : (a : ℕ) → a < count → slice_index class a < count
  pub flat : (a : ℕ) → a < count → slice_index class (slice_index class a) ≡ slice_index class a

-- equal under each naming of the sites that respects the classes and the pairs still to be made equal
abbrev pub Linked : List ℕ → List (ℕ × ℕ) → ℕ → ℕ → Type 0
Linked class pending x y = (label : ℕ → ℕ) → ((a : ℕ) → a < length class → label a ≡ label (slice_index class a))
    → ((a b : ℕ) → Contains pending (a, b) → label a ≡ label b) → label x ≡ label y

-- what is merged follows from the demands
abbrev pub IsSound : (Sym → List ℕ) → List Binding → (Demand → Type 0) → List ℕ → Type 0
IsSound name table D class = (a : ℕ) → a < length table → (t u : Site) → At (rows_of name table) t a → At (rows_of name table) u (slice_index class a)
    → AreEqual D t u

-- what is to be made equal follows from the demands
abbrev pub AreImplied : (Sym → List ℕ) → List Binding → (Demand → Type 0) → List (ℕ × ℕ) → Type 0
AreImplied name table D pending = (a b : ℕ) → Contains pending (a, b) → (t u : Site) → At (rows_of name table) t a → At (rows_of name table) u b
    → AreEqual D t u

-- what is demanded of a table's sites
abbrev pub demanded_in : (Sym → List ℕ) → List Binding → List (BindingId × Constraint) → List (ℕ × ℕ) → Demand → Type 0
demanded_in name table has equals = Recorded (rows_of name table) (constraints_of name has) equals

-- what holds of the demands with these own tests, by whatever names
abbrev pub ForDemands : List Binding → List (ℕ × ℕ) → List (Option Constraint) → ((Sym → List ℕ) → (Demand → Type 0) → Type 0) → Type 0
ForDemands table equals own P = (name : Sym → List ℕ) → IsInjective name → (has : List (BindingId × Constraint)) → AreOwn (length table) has own
    → P name (demanded_in name table has equals)

-- what the demands ask for is done, or will be by what is pending
pub record IsCovered (table : List Binding) (equals : List (ℕ × ℕ)) (own : List (Option Constraint)) (class : List ℕ)
    (pending : List (ℕ × ℕ)) : Type 0 where
  pub given : (a b : ℕ) → Contains equals (a, b) → Linked class pending a b
  pub shared : (a : ℕ) (c : Constraint) → a < length table → HasOwn own a c → HasOwn own (slice_index class a) c
  pub like : (a : ℕ) (c : Constraint) (kind : Option ℕ) (i f g : ℕ) → a < length table → HasOwn own (slice_index class a) c → Opens c kind i
      → slice_get table f ≡ Some (field_binding kind a i) → slice_get table g ≡ Some (field_binding kind (slice_index class a) i)
      → Linked class pending f g

-- the same with nothing pending: like fields are in one class
pub record IsClosed (table : List Binding) (equals : List (ℕ × ℕ)) (own : List (Option Constraint)) (class : List ℕ) : Type 0 where
  pub given : (a b : ℕ) → Contains equals (a, b) → slice_index class a ≡ slice_index class b
  pub shared : (a : ℕ) (c : Constraint) → a < length table → HasOwn own a c → HasOwn own (slice_index class a) c
  pub like : (a : ℕ) (c : Constraint) (kind : Option ℕ) (i f g : ℕ) → a < length table → HasOwn own (slice_index class a) c → Opens c kind i
      → slice_get table f ≡ Some (field_binding kind a i) → slice_get table g ≡ Some (field_binding kind (slice_index class a) i)
      → slice_index class f ≡ slice_index class g

-- a naming of two classes by one number
abbrev pub IsJoined : List ℕ → List ℕ → ℕ → ℕ → Type 0
IsJoined class joined drop keep = (a : ℕ) → a < length class → ((slice_index class a ≡ drop) × (slice_index joined a ≡ keep))
    ⊎ ((slice_index class a ≡ drop → ⊥) × (slice_index joined a ≡ slice_index class a))

-- two numbers are the like fields of two sites
abbrev pub HaveLikeFields : List Binding → Option ℕ → ℕ → ℕ → ℕ → ℕ → ℕ → Type 0
HaveLikeFields table kind member keep i f g = (slice_get table f ≡ Some (field_binding kind member i))
    × (slice_get table g ≡ Some (field_binding kind keep i))

abbrev pub LackLikeFields : List Binding → Option ℕ → ℕ → ℕ → ℕ → Type 0
LackLikeFields table kind member keep i = (f g : ℕ) → HaveLikeFields table kind member keep i f g → ⊥

-- like fields of two sites, under a test
pub record AreLikeFields (table : List Binding) (member keep : ℕ) (test : Constraint) (f g : ℕ) : Type 0 where
  pub kind : Option ℕ
  pub index : ℕ
  pub opened : Opens test kind index
  pub field : slice_get table f ≡ Some (field_binding kind member index)
  pub kept : slice_get table g ≡ Some (field_binding kind keep index)

-- like fields of a member of one class and the representative of another
abbrev pub IsLike : List Binding → List ℕ → ℕ → ℕ → Constraint → ℕ → ℕ → Type 0
IsLike table class drop keep test f g = (member : ℕ) × (slice_index class member ≡ drop) × AreLikeFields table member keep test f g

-- the same, of a site that is listed
abbrev pub IsLikeAmong : List Binding → List ℕ → ℕ → Constraint → ℕ → ℕ → Type 0
IsLikeAmong table members keep test f g = (member : ℕ) × Contains members member × AreLikeFields table member keep test f g

-- the sites that a site represents
pub record AreMembers (class : List ℕ) (root : ℕ) (members : List ℕ) : Type 0 where
  pub inside : (a : ℕ) → Contains members a → (a < length class) × (slice_index class a ≡ root)
  pub all : (a : ℕ) → a < length class → slice_index class a ≡ root → Contains members a

-- each site's list has the sites that it represents
pub record ListMembers (class : List ℕ) (lists : List (List ℕ)) : Type 0 where
  pub fits : length lists ≡ length class
  pub each : (root : ℕ) → root < length class → AreMembers class root (slice_index_or lists root [])

-- a site with two different tests
pub record HasTwo (has : List (BindingId × Constraint)) : Type 0 where
  pub site : BindingId
  pub one : Constraint
  pub other : Constraint
  pub has_one : Contains has (site, one)
  pub has_other : Contains has (site, other)
  pub differ : one ≢ other

abbrev pub AllPairs : List (ℕ × ℕ) → (ℕ → ℕ → Type 0) → Type 0
AllPairs pairs P = (a b : ℕ) → Contains pairs (a, b) → P a b

-- the choice of the representative to keep: no test is lost
pub record IsChoice (own : List (Option Constraint)) (a b drop keep : ℕ) : Type 0 where
  pub which : ((drop ≡ a) × (keep ≡ b)) ⊎ ((drop ≡ b) × (keep ≡ a))
  pub shared : (c : Constraint) → HasOwn own drop c → HasOwn own keep c

-- two sites have different tests
pub record IsClash (own : List (Option Constraint)) (a b : ℕ) : Type 0 where
  pub one : Constraint
  pub other : Constraint
  pub has_one : HasOwn own a one
  pub has_other : HasOwn own b other
  pub differ : one ≢ other

-- a pair was listed, or is like
abbrev pub WasPushed : List Binding → List (Option Constraint) → List ℕ → ℕ → ℕ → List (ℕ × ℕ) → ℕ → ℕ → Type 0
WasPushed table own class drop keep pending a b =
    Contains pending (a, b) ⊎ ((c : Constraint) × HasOwn own keep c × IsLike table class drop keep c a b)

abbrev pub LikesAreIn : List Binding → List (Option Constraint) → List ℕ → ℕ → ℕ → List (ℕ × ℕ) → Type 0
LikesAreIn table own class drop keep pending = (c : Constraint) (a b : ℕ) → HasOwn own keep c → IsLike table class drop keep c a b
    → Contains pending (a, b)

abbrev pub ArePairsBelow : List (ℕ × ℕ) → ℕ → Type 0
ArePairsBelow pairs n = (a b : ℕ) → Contains pairs (a, b) → (a < n) × (b < n)

-- the class of a field of a site under its own test
pub record IsChildAt (table : List Binding) (own : List (Option Constraint)) (class : List ℕ) (r g k : ℕ) : Type 0 where
  pub test : Constraint
  pub kind : Option ℕ
  pub index : ℕ
  pub has : HasOwn own r test
  pub opened : Opens test kind index
  pub field : slice_get table g ≡ Some (field_binding kind r index)
  pub leads : slice_index class g ≡ k

-- a child, its child, and so on
pub data Reaches (table : List Binding) (own : List (Option Constraint)) (class : List ℕ) : ℕ → ℕ → Type 0 where
  Once : {r k : ℕ} (g : ℕ) → IsChildAt table own class r g k → Reaches table own class r k
  Further : {r k m : ℕ} (g : ℕ) → Reaches table own class r k → IsChildAt table own class k g m → Reaches table own class r m

-- each child ranks below its site
pub record IsRanked (table : List Binding) (own : List (Option Constraint)) (class : List ℕ) : Type 0 where
  pub rank : ℕ → ℕ
  pub falls : (r g k : ℕ) → IsChildAt table own class r g k → rank k < rank r

-- a site that reaches itself
pub record HasLoop (table : List Binding) (own : List (Option Constraint)) (class : List ℕ) : Type 0 where
  pub at : ℕ
  pub inside : at < length table
  pub round : Reaches table own class at at

abbrev pub is_marked : List Bool → ℕ → Bool
is_marked marks k = slice_index_or marks k false

-- a child of a site isn't marked
pub record IsUnmarkedChild (table : List Binding) (own : List (Option Constraint)) (class : List ℕ) (marks : List Bool) (r child : ℕ) : Type 0 where
  pub field : ℕ
  pub is_child : IsChildAt table own class r field child
  pub unmarked : is_marked marks child ≡ false

abbrev pub ChildrenAreMarked : List Binding → List (Option Constraint) → List ℕ → List Bool → ℕ → Type 0
ChildrenAreMarked table own class marks r = (g k : ℕ) → IsChildAt table own class r g k → is_marked marks k ≡ true

-- the class of a site that is there
abbrev pub IsRootOf : List Binding → List ℕ → Binding → ℕ → Type 0
IsRootOf table class site k = (g : ℕ) × (slice_get table g ≡ Some site) × (slice_index class g ≡ k)

-- a field below a number is in this class, which isn't marked
abbrev pub IsUnmarkedField : List Binding → List ℕ → List Bool → ℕ → Option ℕ → ℕ → ℕ → Type 0
IsUnmarkedField table class marks r kind n k = (i : ℕ) × (i < n) × IsRootOf table class (field_binding kind r i) k × (is_marked marks k ≡ false)

abbrev pub FieldsAreMarked : List Binding → List ℕ → List Bool → ℕ → Option ℕ → ℕ → Type 0
FieldsAreMarked table class marks r kind n = (i k : ℕ) → i < n → IsRootOf table class (field_binding kind r i) k → is_marked marks k ≡ true

-- what holds of the sites, their classes and tests while fields are added: new sites have no test of their own
pub record IsState (own : List (Option Constraint)) (equals : List (ℕ × ℕ)) (table : List Binding) (class : List ℕ) : Type 0 where
  pub table_ok : IsTable table
  pub classes : AreClasses (length table) class
  pub roots : (a : ℕ) → a < length table → slice_index class a < length own
  pub own_fits : length own ≤ length table
  pub within : ArePairsBelow equals (length table)
  pub closed : IsClosed table equals own class
  pub fields : (a : ℕ) (kind : Option ℕ) (i : ℕ) → IsOpened own a kind i → HasField table kind a i

-- a missing field of a site under its class's test, and the like field of the representative
pub record IsMissingField (own : List (Option Constraint)) (table : List Binding) (class : List ℕ) (s : ℕ) (kind : Option ℕ) (i f : ℕ) : Type 0 where
  pub site_in : s < length table
  pub opened : IsOpened own (slice_index class s) kind i
  pub missing : IsAbsent table (field_binding kind s i)
  pub like : slice_get table f ≡ Some (field_binding kind (slice_index class s) i)

-- missing fields are added one by one, each in the class of its like field
pub data Grows (own : List (Option Constraint)) : List Binding → List ℕ → List Binding → List ℕ → Type 0 where
  Still : {t : List Binding} {c : List ℕ} → Grows own t c t c
  Added : {t u : List Binding} {c d : List ℕ} (s : ℕ) (kind : Option ℕ) (i f : ℕ) → Grows own t c u d → IsMissingField own u d s kind i f
      → Grows own t c (u ++ field_binding kind s i ∷ []) (d ++ slice_index d f ∷ [])

-- the site has its fields
abbrev pub HasFields : List (Option Constraint) → List Binding → List ℕ → ℕ → Type 0
HasFields own table class a = (kind : Option ℕ) (i : ℕ) → IsOpened own (slice_index class a) kind i → HasField table kind a i

-- some site lacks a field
pub record HasNeed (own : List (Option Constraint)) (table : List Binding) (class : List ℕ) : Type 0 where
  pub site : ℕ
  pub kind : Option ℕ
  pub index : ℕ
  pub field : ℕ
  pub needed : IsMissingField own table class site kind index field

-- missing fields are added until no number is left, though some site lacks a field
pub record RunsOut (own : List (Option Constraint)) (t : List Binding) (c : List ℕ) (u : List Binding) (d : List ℕ) : Type 0 where
  pub grows : Grows own t c u d
  pub full : length u ≡ 65536
  pub need : HasNeed own u d

-- Closed classes: what is merged follows from the demands, what they ask is merged, and each child ranks below its site.
pub record AreClosedClasses (table : List Binding) (equals : List (ℕ × ℕ)) (own : List (Option Constraint)) (class : List ℕ) : Type 0 where
  pub classes : AreClasses (length table) class
  pub sound : ForDemands table equals own (λ name D. IsSound name table D class)
  pub closed : IsClosed table equals own class
  pub ranked : IsRanked table own class

-- the demands by number: each site's own test, and the classes of sites
pub record IsReduced (table : List Binding) (has : List (BindingId × Constraint)) (same : List (BindingId × BindingId))
    (own : List (Option Constraint))
    (class : List ℕ) : Type 0 where
  pub tests : AreOwn (length table) has own
  pub classes : AreClosedClasses table (pairs_of same) own class

-- all missing fields are added, and each site has the test of its representative
pub record IsFinished (own : List (Option Constraint)) (old : List Binding) (first : List ℕ) (table : List Binding) (each : List (Option Constraint))
    (class : List ℕ) : Type 0 where
  pub grows : Grows own old first table class
  pub full : (a : ℕ) → a < length table → HasFields own table class a
  pub each_fits : length each ≡ length class
  pub tested : (a : ℕ) → a < length class → slice_index_or each a None ≡ slice_index_or own (slice_index class a) None
