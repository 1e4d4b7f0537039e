-- Calls that are functions into lists make a model.
use Rattle.std.proofs.Common.{◌≡◌, ◌≢◌, inl, inr, ℕ, zero, suc, ◌<◌, List, [], ◌∷◌, Bool, true, Option, Some, None, refl, sym, ◌∙◌, ap, arith}
use Rattle.isle_trees.specs.Got.{Got, unknown, fails, gives}
use Rattle.isle_trees.specs.Answers.{HasValue}
use Rattle.isle_trees.specs.Bag.{Picks, pick, IsModel}
use Rattle.isle_trees.specs.Calls.{Lists, taken_from, taken, made_from, site_value, value_of, listed, model_of, AreFunctions}
use Rattle.isle_trees.specs.Machine.{Makes, both_of, gather, read_or}
use Rattle.isle_trees.specs.Premises.{IsWellMade}
use Rattle.isle_trees.specs.Rules.{Want, has, one_value, Source, Rules, Elem, passes_got, Meets}

gather_same : {V : Type 0} (f g : ℕ → Got V) (ps : List ℕ) → ((p : ℕ) → Elem p ps → f p ≡ g p) → gather f ps ≡ gather g ps
gather_same f g [] h = refl
gather_same {V = V} f g (p ∷ ps) h =
    ap (λ (x : Got V). both_of x (gather f ps)) (h p (inl refl)) ∙ ap (λ (o : Option (List V)). both_of (g p) o)
    (gather_same f g ps (λ q m. h q (inr m)))

gather_valued : {V : Type 0} (f : ℕ → Got V) (ps : List ℕ) → ((p : ℕ) → Elem p ps → HasValue (f p)) → (xs : List V) × (gather f ps ≡ Some xs)
gather_valued f [] h = ([], refl)
gather_valued f (p ∷ ps) h =
    let one = h p (inl refl) in
    let rest = gather_valued f ps (λ q m. h q (inr m)) in
    (one.0 ∷ rest.0, rw (one.1, rest.1) refl)

-- a site below has its value with any fuel that reaches it
same_fuel : {C V : Type 0} (R : Rules C V) (makes : Makes V) (h : Picks V) → IsWellMade R → (n m x : ℕ) → x < n
    → x < m → site_value R makes h n x ≡ site_value R makes h m x
same_fuel R makes h w zero m x l k = absurd (omega arith)
same_fuel R makes h w (suc n) zero x l k = absurd (omega arith)
same_fuel {V = V} R makes h w (suc n) (suc m) x l k =
    ap (λ (o : Option (List V)). read_or (taken h (R.made x)) (made_from makes x o))
    (gather_same (site_value R makes h n) (site_value R makes h m) (R.parts x) (λ p q. let j : p < x = w.lower x p q in
    same_fuel R makes h w n m p (omega arith) (omega arith)))

-- a site by its parts
by_value : {C V : Type 0} (R : Rules C V) (makes : Makes V) (h : Picks V) (s : ℕ) → IsWellMade R
    → value_of R makes h s ≡ read_or (taken h (R.made s)) (made_from makes s (gather (value_of R makes h) (R.parts s)))
by_value {V = V} R makes h s w =
    ap (λ (o : Option (List V)). read_or (taken h (R.made s)) (made_from makes s o))
    (gather_same (site_value R makes h s) (value_of R makes h) (R.parts s) (λ p q. let j : p < s = w.lower s p q in
    same_fuel R makes h w s (suc p) p (omega arith) (omega arith)))

taken_same_by : {C V : Type 0} (h g : Picks V) (s : ℕ) (w : Want C) → (w ≡ one_value → h s ≡ g s) → taken_from h s w ≡ taken_from g s w
taken_same_by h g s (has c) f = refl
taken_same_by h g s one_value f = ap Some (f refl)

taken_same : {C V : Type 0} (h g : Picks V) (o : Option (Source C)) → ((m : Source C) → o ≡ Some m → m.want ≡ one_value → h m.site ≡ g m.site)
    → taken h o ≡ taken g o
taken_same h g None f = refl
taken_same h g (Some m) f = taken_same_by h g m.site m.want (λ e. f m refl e)

read_known : {V : Type 0} (o : Option V) (g : Got V) → g ≢ unknown → read_or o g ≢ unknown
read_known None g n e = n e
read_known (Some x) g n e = cc

known_value : {C V : Type 0} (R : Rules C V) (makes : Makes V) (h : Picks V) (s : ℕ) → IsWellMade R → ((s : ℕ) (xs : List V) → makes s xs ≢ unknown)
    → value_of R makes h s ≢ unknown
known_value {V = V} R makes h s w f e =
    let known : (o : Option (List V)) → made_from makes s o ≢ unknown = elim [ None ↦ λ q. cc | Some xs ↦ f s xs ] in
    read_known (taken h (R.made s)) _ (known (gather (value_of R makes h) (R.parts s))) (sym (by_value R makes h s w) ∙ e)

fit_listed : {C V : Type 0} (R : Rules C V) (makes : Makes V) (lists : Lists V) (fits : Picks V → Bool) (h : Picks V) (s : ℕ) (x : V)
    → AreFunctions R makes lists fits → fits h ≡ true
    → (o : Option (List V)) → Elem x (listed lists s o) → fits (pick h s x) ≡ true
fit_listed R makes lists fits h s x fs ok None m = absurd m
fit_listed R makes lists fits h s x fs ok (Some xs) m = fs.fit h s xs x ok m

passes_given : {C V : Type 0} (R : Rules C V) (c : C) (g : Got V) → passes_got R c g ≡ true → (x : V) × (g ≡ gives x) × (R.tests.passes c x ≡ true)
passes_given R c unknown e = cc
passes_given R c fails e = cc
passes_given R c (gives x) e = (x, refl, e)

field_there : {C V : Type 0} (R : Rules C V) (makes : Makes V) (lists : Lists V) (fits : Picks V → Bool) (h : Picks V) (s t : ℕ) (w : Want C)
    → IsWellMade R
    → AreFunctions R makes lists fits → R.made s ≡ Some (record { site = t; want = w }) → Meets R w (value_of R makes h t)
    → HasValue (value_of R makes h s)
field_there {V = V} R makes lists fits h s t (has c) w fs e p =
    let x = passes_given R c (value_of R makes h t) p in
    let f = fs.field s _ c (x.0) e refl (x.2) in
    let g : gather (value_of R makes h) (R.parts s) ≡ Some (x.0 ∷ []) =
    ap (gather (value_of R makes h)) (w.source s _ e) ∙ ap (λ (g : Got V). both_of g (Some [])) (x.1) in
    (f.0, by_value R makes h s w ∙ rw (e, g) (f.1))
field_there R makes lists fits h s t one_value w fs e p = (h t, by_value R makes h s w ∙ rw e refl)

pub calls_model : {C V : Type 0} (R : Rules C V) (makes : Makes V) (lists : Lists V) (fits : Picks V → Bool)
    → IsWellMade R → AreFunctions R makes lists fits
    → IsModel R (model_of R makes lists fits)
calls_model {C = C} {V = V} R makes lists fits w fs =
    let val = value_of R makes in
    let known : (h : Picks V) (s : ℕ) → val h s ≢ unknown = λ h s. known_value R makes h s w fs.answers in
    record {
      respects = λ h ok. record {
        field = λ s m e p. field_there R makes lists fits h s m.site m.want w fs e p;
        whole = λ s e parts a.
            let g = gather_valued (val h) (R.parts s) parts in
            fs.whole s (g.0) e (sym (by_value R makes h s w ∙ rw (e, g.1) refl) ∙ a);
        plain = λ s n parts. known h s;
      };
      answered = λ h ok s. known h s;
      taken = λ h s x ok m. fit_listed R makes lists fits h s x fs ok (gather (val h) (R.parts s)) m;
      by_parts = λ h g s p f.
          by_value R makes h s w
          ∙ ap (λ (o : Option V). read_or o (made_from makes s (gather (val h) (R.parts s)))) (taken_same h g (R.made s) f)
          ∙ ap (λ (o : Option (List V)). read_or (taken g (R.made s)) (made_from makes s o)) (gather_same (val h) (val g) (R.parts s) p)
          ∙ sym (by_value R makes g s w);
      many_by_parts = λ h g s p. ap (listed lists s) (gather_same (val h) (val g) (R.parts s) p);
    }
