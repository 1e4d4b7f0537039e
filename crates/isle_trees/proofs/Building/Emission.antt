-- Sites are bound in order.
use Rattle.std.proofs.Common.{◌≡◌, ◌≢◌, inl, inr, ℕ, ◌<◌, ◌==◌, ◌||◌, ◌++◌, List, [], ◌∷◌, Bool, true, false, refl, sym, ◌∙◌, ap, subst, arith, append_assoc, append-nil, eqb-true, eq-eqb}
use Rattle.std.specs.List.{filter}
use Rattle.isle_trees.specs.Builds.{IsOrder, Binds, BindsEach, own}
use Rattle.isle_trees.specs.Ranking.{PartsAreLower, AllBelow, Emits, EmitsOne, EmitsEach}
use Rattle.isle_trees.specs.Rules.{Rules, Elem, IsPartOf}
use Rattle.isle_trees.specs.Scopes.{Scope, emit, emit_all}
use Rattle.isle_trees.proofs.Asking.{elem_append}
use Rattle.isle_trees.proofs.Basics.{true_or}
use Rattle.isle_trees.proofs.Building.Lists.{elem_left, elem_right, filter_append}
use Rattle.isle_trees.proofs.Leaf.{part_more}
use Rattle.isle_trees.proofs.Path.{still_emitted}

-- one order after another
pub order_append : {C V : Type 0} (R : Rules C V) (sc : Scope C) (xs ys : List ℕ) → IsOrder R sc xs → IsOrder R (emit_all sc xs) ys
    → IsOrder R sc (xs ++ ys)
order_append R sc [] ys h g = g
order_append R sc (x ∷ xs) ys h g = (h.0, h.1, order_append R (emit sc x) xs ys (h.2) g)

pub emit_append : {C : Type 0} (sc : Scope C) (xs ys : List ℕ) → emit_all sc (xs ++ ys) ≡ emit_all (emit_all sc xs) ys
emit_append sc [] ys = refl
emit_append sc (x ∷ xs) ys = emit_append (emit sc x) xs ys

-- parts are below what bounds the sites
pub part_below : {C V : Type 0} (R : Rules C V) (xs : List ℕ) (n x : ℕ) → PartsAreLower R → AllBelow xs n → IsPartOf R xs x → x < n
part_below R xs n _ low b (IsPartOf.itself s m) = b s m
part_below R xs n _ low b (IsPartOf.of_part s p h m) =
    let one : s < n = part_below R xs n s low b h in let two : p < s = low s p m in omega arith

pub own_filter : {C V : Type 0} (R : Rules C V) (s : ℕ) → filter R.stands (s ∷ []) ≡ own R s
own_filter R s = elim (true_or (R.stands s)) [ inl e ↦ rw e refl | inr e ↦ rw e refl ]

other_or : (s x : ℕ) (b : Bool) → s ≢ x → b ≡ false → ((s == x) || b) ≡ false
other_or s x b n e = elim (true_or (s == x)) [ inl y ↦ absurd (n (eqb-true s x y)) | inr f ↦ rw (f, e) refl ]

or_left : (a b : Bool) → a ≡ true → (a || b) ≡ true
or_left true b e = refl
or_left false b e = cc

pub not_emitted : {C : Type 0} (sc : Scope C) (xs : List ℕ) (s : ℕ) → sc.emitted s ≡ false → ((x : ℕ) → Elem x xs → x < s)
    → (emit_all sc xs).emitted s ≡ false
not_emitted sc [] s e b = e
not_emitted sc (x ∷ xs) s e b =
    let l : x < s = b x (inl refl) in
    not_emitted (emit sc x) xs s (other_or s x (sc.emitted s) (λ p. omega arith) e) (λ y m. b y (inr m))

part_of : {C V : Type 0} (R : Rules C V) (s : ℕ) (parts : List ℕ) (x : ℕ) → parts ≡ R.parts s → IsPartOf R parts x → IsPartOf R (s ∷ []) x
part_of R s parts _ same (IsPartOf.itself p m) =
    IsPartOf.of_part s p (IsPartOf.itself s (inl refl)) (let Q : List ℕ → Type 0 = λ l. Elem p l in subst Q same m)
part_of R s parts _ same (IsPartOf.of_part q p h m) = IsPartOf.of_part q p (part_of R s parts q same h) m

-- a site after its parts
pub emits_one : {C V : Type 0} (R : Rules C V) (sc mid after : Scope C) (s : ℕ) (parts a b c : List ℕ) → PartsAreLower R → parts ≡ R.parts s
    → sc.emitted s ≡ false
    → Emits R sc parts a b mid → c ≡ b ++ own R s → after ≡ emit mid s → Emits R sc (s ∷ []) a c after
emits_one R sc mid after s parts a b c low same e p w f =
    let P : Scope _ → Type 0 = λ x. IsOrder R x (s ∷ []) in
    let below : (x : ℕ) → Elem x (p.all) → x < s = λ x m. part_below R parts s x low (λ y n. let Q : List ℕ
    → Type 0 = λ l. Elem y l in low s y (subst Q same n)) (p.only x m) in
    let fresh : mid.emitted s ≡ false = let Q : Scope _ → Type 0 = λ x. x.emitted s ≡ false in
    subst Q (sym (p.ending)) (not_emitted sc (p.all) s e below) in
    let last : IsOrder R mid (s ∷ []) = (fresh, (λ x m. p.bound x (let Q : List ℕ → Type 0 = λ l. Elem x l in subst Q (sym same) m)), tt) in
    record {
      all = p.all ++ s ∷ [];
      order = order_append R sc (p.all) (s ∷ []) (p.order) (subst P (p.ending) last);
      only = λ y m. elim (elem_append y (p.all) (s ∷ []) m) [
        | inl n ↦ part_of R s parts y same (p.only y n)
        | inr n ↦ IsPartOf.itself y n
      ];
      ending = f ∙ ap (λ (x : Scope _). emit x s) (p.ending) ∙ sym (emit_append sc (p.all) (s ∷ []));
      bound = λ y m. elim m [
        | inl q ↦ let Q : Scope _ → Type 0 = λ x. x.emitted y ≡ true in subst Q (sym f) (or_left (y == s) (mid.emitted y) (eq-eqb y s q))
        | inr n ↦ absurd n
      ];
      written = w ∙ ap (λ (l : List ℕ). l ++ own R s) (p.written) ∙ append_assoc a (filter R.stands (p.all)) (own R s)
          ∙ ap (λ (l : List ℕ). a ++ l) (ap (λ (l : List ℕ). filter R.stands (p.all) ++ l) (sym (own_filter R s)) ∙ sym
          (filter_append R.stands (p.all) (s ∷ [])));
    }

pub binds_from : {C V : Type 0} (R : Rules C V) (sc after : Scope C) (sites old binds : List ℕ) → old ≡ [] → Emits R sc sites old binds after
    → Binds R sc sites binds after
binds_from R sc after sites old binds none e =
    record {
      all = e.all;
      order = e.order;
      only = e.only;
      ending = e.ending;
      bound = e.bound;
      written =
          e.written ∙ ap (λ (l : List ℕ). l ++ filter R.stands (e.all)) none;
    }

pub one_new : {C V : Type 0} (R : Rules C V) (sc mid after : Scope C) (s : ℕ) (parts a b c : List ℕ) → parts ≡ R.parts s → sc.emitted s ≡ false
    → Emits R sc parts a b mid → c ≡ b ++ own R s → after ≡ emit mid s → EmitsOne R sc s a c after
one_new R sc mid after s parts a b c same e p w f =
    let Q : List ℕ → Type 0 = λ l. Emits R sc l a b mid in
    let q : Emits R sc (R.parts s) a b mid = subst Q same p in
    inr (
      e,
      filter R.stands (q.all),
      mid,
      record { all = q.all; order = q.order; only = q.only; ending = q.ending; bound = q.bound; written = refl },
      f,
      w ∙ ap (λ (l : List ℕ). l ++ own R s) (q.written) ∙ append_assoc a (filter R.stands (q.all)) (own R s),
    )

-- sites after others
each_more : (us : List ℕ) {C V : Type 0} (R : Rules C V) (sc mid after : Scope C) (s : ℕ) (binds more : List ℕ) → BindsEach R sc us binds mid
    → EmitsOne R mid s [] more after
    → BindsEach R sc (us ++ s ∷ []) (binds ++ more) after
each_more [] R sc mid after s binds more (none, same) (inl (e, n, f)) =
    let P : Scope _ → Type 0 = λ x. x.emitted s ≡ true in
    inl (subst P same e, (ap (λ (l : List ℕ). l ++ more) none ∙ n, f ∙ same))
each_more [] R sc mid after s binds more (none, same) (inr (e, front, end, bs, f, w)) =
    let P : Scope _ → Type 0 = λ x. x.emitted s ≡ false in
    let Q : Scope _ → Type 0 = λ x. Binds R x (R.parts s) front end in
    inr (
      subst P same e,
      (
        front,
        [],
        end,
        subst Q same bs,
        (refl, f),
        ap (λ (l : List ℕ). l ++ more) none ∙ w ∙ ap
            (λ (l : List ℕ). front ++ l) (sym (append-nil (own R s))),
      ),
    )
each_more (u ∷ us) R sc mid after s binds more (inl (e, b)) one = inl (e, each_more us R sc mid after s binds more b one)
each_more (u ∷ us) R sc mid after s binds more (inr (e, (front, rest, m, bs, b, w))) one =
    inr (
      e,
      (
        front,
        rest ++ more,
        m,
        bs,
        each_more us R (emit m u) mid after s rest more b one,
        ap (λ (l : List ℕ). l ++ more) w ∙ append_assoc front (own R u ++ rest) more ∙ ap (λ (l : List ℕ). front ++ l)
            (append_assoc (own R u) rest more),
      ),
    )

pub emits_each_none : {C V : Type 0} (R : Rules C V) (sc : Scope C) (old : List ℕ) → EmitsEach R sc [] old old sc
emits_each_none R sc old = ([], (refl, refl), sym (append-nil old))

one_shift : {C V : Type 0} (R : Rules C V) (sc after : Scope C) (s : ℕ) (old new : List ℕ) → EmitsOne R sc s old new after
    → (more : List ℕ) × EmitsOne R sc s [] more after × (new ≡ old ++ more)
one_shift R sc after s old new (inl (e, n, f)) = ([], inl (e, refl, f), n ∙ sym (append-nil old))
one_shift R sc after s old new (inr (e, front, mid, bs, f, w)) = (front ++ own R s, inr (e, front, mid, bs, f, refl), w)

pub emits_each_more : {C V : Type 0} (R : Rules C V) (sc mid after : Scope C) (us : List ℕ) (s : ℕ) (a b c : List ℕ) → EmitsEach R sc us a b mid
    → EmitsOne R mid s b c after
    → EmitsEach R sc (us ++ s ∷ []) a c after
emits_each_more R sc mid after us s a b c (binds, each, w) one =
    let sh = one_shift R mid after s b c one in
    (binds ++ sh.0, each_more us R sc mid after s binds (sh.0) each (sh.1), sh.2 ∙ ap (λ (l : List ℕ). l ++ sh.0) w ∙ append_assoc a binds (sh.0))

pub each_from : {C V : Type 0} (R : Rules C V) (sc after : Scope C) (us vs old new : List ℕ) → us ≡ vs → old ≡ [] → EmitsEach R sc us old new after
    → BindsEach R sc vs new after
each_from R sc after us vs old new same none (binds, each, w) =
    let P : List ℕ → Type 0 = λ l. BindsEach R sc us l after in
    let Q : List ℕ → Type 0 = λ l. BindsEach R sc l new after in
    subst Q same (subst P (sym (w ∙ ap (λ (l : List ℕ). l ++ binds) none)) each)
