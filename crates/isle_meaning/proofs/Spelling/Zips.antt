-- Lists whose items are mapped.
use Rattle.std.proofs.Common.{◌≡◌, List, [], ◌∷◌, map, Option, None, Some, refl, ◌∙◌}
use Rattle.std.specs.List.{All, AllZip, AllByRecursion, filter_map, cons_option}
use Rattle.std.specs.Option.{option_map}
use Rattle.std.proofs.lemmas.List.Elements.{All-nil, All-cons, All-head, All-tail}

-- items that are picked from mapped ones
picked : {X Y : Type 0} (g : X → Y) (o : Option X) (xs : List X) → cons_option (option_map g o) (map g xs) ≡ map g (cons_option o xs)
picked g None xs = refl
picked g (Some x) xs = refl

pub filter_mapped : {A X Y : Type 0} (e : A → A) (f : A → Option Y) (k : A → Option X) (g : X → Y) → ((a : A) → f (e a) ≡ option_map g (k a))
    → (as' : List A) → filter_map f (map e as') ≡ map g (filter_map k as')
filter_mapped e f k g same [] = refl
filter_mapped {A} {X} {Y} e f k g same (a ∷ as') =
    let rest = filter_mapped e f k g same as' in
    let first : filter_map f (map e (a ∷ as')) ≡ cons_option (option_map g (k a)) (map g (filter_map k as')) =
    (λ i. cons_option (same a i) (rest i)) in
    first ∙ picked g (k a) (filter_map k as')

pub filter_same : {A Y : Type 0} (e : A → A) (f : A → Option Y) → ((a : A) → f (e a) ≡ f a) → (as' : List A)
    → filter_map f (map e as') ≡ filter_map f as'
filter_same e f same [] = refl
filter_same e f same (a ∷ as') = (λ i. cons_option (same a i) (filter_same e f same as' i))

-- a map of what is mapped
pub map_same : {A B Y : Type 0} (e : A → B) (f : B → Y) (g : A → Y) → ((a : A) → f (e a) ≡ g a) → (as' : List A) → map f (map e as') ≡ map g as'
map_same e f g same [] = refl
map_same e f g same (a ∷ as') = (λ i. same a i ∷ map_same e f g same as' i)

-- all of the items that are mapped
pub all_mapped : {X Y : Type 0} (P : X → Type 0) (Q : Y → Type 0) (f : X → Y) → ((x : X) → P x → Q (f x))
    → (xs : List X) → All P xs → All Q (map f xs)
all_mapped P Q f step [] each = All-nil Q
all_mapped P Q f step (x ∷ xs) each =
    All-cons Q (f x) (map f xs) (step x (All-head P x xs each)) (all_mapped P Q f step xs (All-tail P x xs each))

pub all_unmapped : {X Y : Type 0} (P : X → Type 0) (Q : Y → Type 0) (f : X → Y) → ((x : X) → Q (f x) → P x)
    → (xs : List X) → All Q (map f xs) → All P xs
all_unmapped P Q f step [] each = All-nil P
all_unmapped P Q f step (x ∷ xs) each =
    All-cons P x xs (step x (All-head Q (f x) (map f xs) each)) (all_unmapped P Q f step xs (All-tail Q (f x) (map f xs) each))

pub each_mapped : {X Y : Type 0} (P : X → Type 0) (Q : Y → Type 0) (f : X → Y) → ((x : X) → P x → Q (f x)) → (xs : List X) → AllByRecursion P xs
    → AllByRecursion Q (map f xs)
each_mapped P Q f step [] each = tt
each_mapped P Q f step (x ∷ xs) each = (step x each.0, each_mapped P Q f step xs each.1)

pub each_unmapped : {X Y : Type 0} (P : X → Type 0) (Q : Y → Type 0) (f : X → Y) → ((x : X) → Q (f x) → P x) → (xs : List X)
    → AllByRecursion Q (map f xs) → AllByRecursion P xs
each_unmapped P Q f step [] each = tt
each_unmapped P Q f step (x ∷ xs) each = (step x each.0, each_unmapped P Q f step xs each.1)

-- pairs whose items are mapped
pub zip_mapped : {A B X Y : Type 0} (R : A → B → Type 0) (S : X → Y → Type 0) (f : A → X) (g : B → Y)
    → ((a : A) (b : B) → R a b → S (f a) (g b)) → (as' : List A) (bs : List B) → AllZip R as' bs → AllZip S (map f as') (map g bs)
zip_mapped R S f g step [] [] each = tt
zip_mapped R S f g step [] (b ∷ bs) each = absurd each
zip_mapped R S f g step (a ∷ as') [] each = absurd each
zip_mapped R S f g step (a ∷ as') (b ∷ bs) each = (step a b each.0, zip_mapped R S f g step as' bs each.1)

-- pairs whose first items are mapped
pub zip_first : {A B X : Type 0} (R : A → B → Type 0) (S : X → B → Type 0) (f : A → X) → ((a : A) (b : B) → R a b → S (f a) b) → (as' : List A)
    (bs : List B) → AllZip R as' bs → AllZip S (map f as') bs
zip_first R S f step [] [] each = tt
zip_first R S f step [] (b ∷ bs) each = absurd each
zip_first R S f step (a ∷ as') [] each = absurd each
zip_first R S f step (a ∷ as') (b ∷ bs) each = (step a b each.0, zip_first R S f step as' bs each.1)

pub zip_first_back : {A B X : Type 0} (R : A → B → Type 0) (S : X → B → Type 0) (f : A → X) → ((a : A) (b : B) → S (f a) b → R a b) → (as' : List A)
    (bs : List B) → AllZip S (map f as') bs → AllZip R as' bs
zip_first_back R S f step [] [] each = tt
zip_first_back R S f step [] (b ∷ bs) each = absurd each
zip_first_back R S f step (a ∷ as') [] each = absurd each
zip_first_back R S f step (a ∷ as') (b ∷ bs) each = (step a b each.0, zip_first_back R S f step as' bs each.1)

-- pairs whose second items are made anew
pub zip_back : {A B X Y : Type 0} (R : A → B → Type 0) (S : X → Y → Type 0) (f : A → X) (g : B → Y)
    → ((a : A) (y : Y) → S (f a) y → (b : B) × R a b × (g b ≡ y)) → (as' : List A) (ys : List Y) → AllZip S (map f as') ys
    → (bs : List B) × AllZip R as' bs × (map g bs ≡ ys)
zip_back R S f g step [] [] each = ([], tt, refl)
zip_back R S f g step [] (y ∷ ys) each = absurd each
zip_back R S f g step (a ∷ as') [] each = absurd each
zip_back R S f g step (a ∷ as') (y ∷ ys) each =
    let one = step a y each.0 in
    let others = zip_back R S f g step as' ys each.1 in
    (one.0 ∷ others.0, (one.1, others.1), (λ i. one.2 i ∷ others.2 i))
