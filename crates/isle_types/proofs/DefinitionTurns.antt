-- Definitions of one kind, as a loop over definitions comes to them.
use Rattle.std.proofs.Common.{◌≡◌, ℕ, ◌+◌, ◌<◌, List, [], ◌∷◌, ◌++◌, map, length, take, drop, get_or, Option, Some, None, refl, ap, sym, subst}
use Rattle.std.proofs.Common.{◌∙◌, slice_get}
use Rattle.std.specs.List.{filter_map, cons_option}
use Rattle.std.proofs.lemmas.List.{take-append-drop, drop_more, take_more, append-nil, append_assoc, map-append, length-append, length-map}
use Rattle.std.proofs.lemmas.List.Elements.{filter_map-append}
use Rattle.std.proofs.lemmas.Option.{slice_get_within}
use Rattle.isle_ast.specs.declared.ast.Def.{Def}
use Rattle.isle_ast.specs.declared.ast.«Type».{«Type» as TypeTree}
use Rattle.isle_ast.specs.declared.ast.Def.TheVariants.{TypeDef, Decl, Rule, Extractor, Extern, Converter, Pragma, Kept}
use Rattle.isle_types.specs.IntTypes.{builtin_names}
use Rattle.isle_types.specs.Names.{position_of, IsDuplicate}
use Rattle.isle_types.specs.Environment.{as_type, type_definitions, type_names}
use Rattle.isle_types.specs.TypeFaults.{Breaks, name_taken}
use Rattle.isle_containers.proofs.Lists.{slice_get-kept}
use Rattle.isle_types.proofs.NamePlaces.{place_found}

-- a definition that is none of a type
pub no_type : (def : Def) → ((tree : TypeTree) → def ≡ TypeDef tree → ⊥) → as_type def ≡ None
no_type (TypeDef tree) other = absurd (other tree refl)
no_type (Decl _) other = refl
no_type (Rule _) other = refl
no_type (Extractor _) other = refl
no_type (Extern _) other = refl
no_type (Converter _) other = refl
no_type (Pragma _) other = refl
no_type (Kept _) other = refl

-- the item after the first ones
pub slice_get-middle : {X : Type 0} (xs ys : List X) (x : X) → slice_get (xs ++ x ∷ ys) (length xs) ≡ Some x
slice_get-middle [] ys x = refl
slice_get-middle (y ∷ xs) ys x = slice_get-middle xs ys x

-- the item that a loop comes to, between those before and those behind it
pub split_here : {X : Type 0} (xs : List X) (i : ℕ) (x : X) → i < length xs → x ≡ get_or xs i x → xs ≡ take i xs ++ x ∷ drop (i + 1) xs
split_here xs i x low is =
    sym (take-append-drop i xs) ∙ ap (λ ys. take i xs ++ ys) (drop_more xs i x low) ∙ ap (λ y. take i xs ++ y ∷ drop (i + 1) xs) (sym is)

pub take_here : {X : Type 0} (xs : List X) (i : ℕ) (x : X) → i < length xs → x ≡ get_or xs i x → take (i + 1) xs ≡ take i xs ++ x ∷ []
take_here xs i x low is = take_more xs i x low ∙ ap (λ y. take i xs ++ y ∷ []) (sym is)

-- what is made of the items, where this one is passed over
pub passed_over : {X Y : Type 0} (h : X → Option Y) (xs : List X) (i : ℕ) (x : X) → i < length xs → x ≡ get_or xs i x → h x ≡ None
    → filter_map h (take (i + 1) xs) ≡ filter_map h (take i xs)
passed_over h xs i x low is none =
    ap (filter_map h) (take_here xs i x low is) ∙ filter_map-append h (take i xs) (x ∷ [])
    ∙ ap (λ o. filter_map h (take i xs) ++ cons_option o []) none ∙ append-nil (filter_map h (take i xs))

-- where it isn't
pub taken_up : {X Y : Type 0} (h : X → Option Y) (xs : List X) (i : ℕ) (x : X) (y : Y) → i < length xs → x ≡ get_or xs i x → h x ≡ Some y
    → filter_map h (take (i + 1) xs) ≡ filter_map h (take i xs) ++ y ∷ []
taken_up h xs i x y low is some =
    ap (filter_map h) (take_here xs i x low is) ∙ filter_map-append h (take i xs) (x ∷ [])
    ∙ ap (λ o. filter_map h (take i xs) ++ cons_option o []) some

pub taken_between : {X Y : Type 0} (h : X → Option Y) (xs : List X) (i : ℕ) (x : X) (y : Y) → i < length xs → x ≡ get_or xs i x → h x ≡ Some y
    → filter_map h xs ≡ filter_map h (take i xs) ++ y ∷ filter_map h (drop (i + 1) xs)
taken_between h xs i x y low is some =
    ap (filter_map h) (split_here xs i x low is) ∙ filter_map-append h (take i xs) (x ∷ drop (i + 1) xs)
    ∙ ap (λ o. filter_map h (take i xs) ++ cons_option o (filter_map h (drop (i + 1) xs))) some

-- its place among what is made of the items
pub taken_place : {X Y : Type 0} (h : X → Option Y) (xs : List X) (i : ℕ) (x : X) (y : Y) → i < length xs → x ≡ get_or xs i x → h x ≡ Some y
    → slice_get (filter_map h xs) (length (filter_map h (take i xs))) ≡ Some y
taken_place h xs i x y low is some =
    ap (λ ys. slice_get ys (length (filter_map h (take i xs)))) (taken_between h xs i x y low is some)
    ∙ slice_get-middle (filter_map h (take i xs)) (filter_map h (drop (i + 1) xs)) y

-- the names of the types so far, with one more
pub names_more : (defs : List Def) (i : ℕ) (def : Def) (tree : TypeTree) → i < length defs → def ≡ get_or defs i def → as_type def ≡ Some tree
    → type_names (take (i + 1) defs) ≡ type_names (take i defs) ++ tree.name.0 ∷ []
names_more defs i def tree low is some =
    ap (λ (trees : List TypeTree). builtin_names ++ map (λ (type : TypeTree). type.name.0) trees) (taken_up as_type defs i def tree low is some)
    ∙ ap (λ (names : List (List ℕ)). builtin_names ++ names)
    (map-append (λ (type : TypeTree). type.name.0) (type_definitions (take i defs)) (tree ∷ []))
    ∙ sym (append_assoc builtin_names (map (λ (type : TypeTree). type.name.0) (type_definitions (take i defs))) (tree.name.0 ∷ []))

pub names_between : (defs : List Def) (i : ℕ) (def : Def) (tree : TypeTree) → i < length defs → def ≡ get_or defs i def → as_type def ≡ Some tree
    → type_names defs ≡ type_names (take i defs) ++ tree.name.0 ∷ map (λ (type : TypeTree). type.name.0) (type_definitions (drop (i + 1) defs))
names_between defs i def tree low is some =
    ap (λ (trees : List TypeTree). builtin_names ++ map (λ (type : TypeTree). type.name.0) trees) (taken_between as_type defs i def tree low is some)
    ∙ ap (λ (names : List (List ℕ)). builtin_names ++ names)
    (map-append (λ (type : TypeTree). type.name.0) (type_definitions (take i defs)) (tree ∷ type_definitions (drop (i + 1) defs)))
    ∙ sym (append_assoc builtin_names (map (λ (type : TypeTree). type.name.0) (type_definitions (take i defs)))
    (tree.name.0 ∷ map (λ (type : TypeTree). type.name.0) (type_definitions (drop (i + 1) defs))))

-- a name that stands before already is a twin
pub middle_duplicate : (names known rest : List (List ℕ)) (name : List ℕ) (j : ℕ) → names ≡ known ++ name ∷ rest
    → position_of known name ≡ Some j → IsDuplicate names (length known)
middle_duplicate names known rest name j is found =
    let there = place_found known name j found in
    record {
      item = name;
      earlier = j;
      before = slice_get_within known j name there;
      first = ap (λ ns. slice_get ns j) is ∙ slice_get-kept known (name ∷ rest) j name there;
      second = ap (λ ns. slice_get ns (length known)) is ∙ slice_get-middle known rest name;
    }

names_length : (b : List (List ℕ)) (trees : List TypeTree) → length (b ++ map (λ (type : TypeTree). type.name.0) trees) ≡ length b + length trees
names_length b trees =
    length-append b (map (λ (type : TypeTree). type.name.0) trees) ∙ ap (λ n. length b + n) (length-map trees (λ (type : TypeTree). type.name.0))

-- a definition of a type whose name is taken breaks a rule
pub taken_breaks : (defs : List Def) (i : ℕ) (def : Def) (tree : TypeTree) (j : ℕ) → i < length defs → def ≡ get_or defs i def
    → as_type def ≡ Some tree → position_of (type_names (take i defs)) tree.name.0 ≡ Some j → Breaks defs tree.pos
taken_breaks defs i def tree j low is some found =
    name_taken (length (type_definitions (take i defs))) tree (taken_place as_type defs i def tree low is some)
    (subst (IsDuplicate (type_names defs)) (names_length builtin_names (type_definitions (take i defs)))
    (middle_duplicate (type_names defs) (type_names (take i defs))
    (map (λ (type : TypeTree). type.name.0) (type_definitions (drop (i + 1) defs))) tree.name.0 j
    (names_between defs i def tree low is some) found))
