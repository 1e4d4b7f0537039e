-- What is known stays known under more answers, and what isn't known can't but become known.
use Rattle.std.proofs.Common.{◌≡◌, ◌≢◌, ◌⊎◌, inl, inr, ℕ, zero, suc, List, [], Bool, true, false, Option, length, slice_get}
use Rattle.std.proofs.Common.{refl, sym, ◌∙◌, ap, subst}
use Rattle.std.specs.Prelude.{if◌then◌else◌}
use Rattle.isle_meaning.specs.Facts.{TermFacts}
use Rattle.isle_meaning.specs.Got.{Got, unknown, fails, gives}
use Rattle.isle_meaning.specs.Values.{Value, made_variant, made_struct, Values, more, made, built, ask}
use Rattle.isle_meaning.specs.Words.{Word, var_word, bool_word, int_word, prim_word, variant_word, struct_word, call_word, Words}
use Rattle.isle_meaning.specs.Words.{no_words, more_words, Step}
use Rattle.isle_meaning.specs.Answers.{Completion, answer_of}
use Rattle.isle_meaning.specs.Matching.{word_value, word_values}
use Rattle.isle_meaning.specs.Sites.{Site, bool_site, int_site, prim_site, argument, extractor_call, constructor_call, iterator}
use Rattle.isle_meaning.specs.Sites.{make_variant, match_variant, make_struct, extract_struct, make_some, match_some, match_tuple}
use Rattle.isle_meaning.specs.Sites.{Sites, no_sites, more_sites}
use Rattle.isle_meaning.specs.Held.{Held, held_value, held_outputs, held_none, held_some, held_answers, plain_of, plain, several_of}
use Rattle.isle_meaning.specs.Held.{extracted, constructed, extract_held, construct_held, variant_field, struct_field, content_of}
use Rattle.isle_meaning.specs.Held.{output_of, item_of, value, values, IsAnswered, AreAnswered}
use Rattle.isle_meaning.specs.Worlds.{CheckedProgram, Answers, Event}
use Rattle.isle_meaning.specs.Calls.{Agrees}
use Rattle.isle_meaning.proofs.Matching.Basics.{more_unknown}
use Rattle.isle_meaning.proofs.Matching.Known.{known, known_all}
use Rattle.isle_meaning.specs.Laws.Calls.{Surely, Extends}
use Rattle.isle_meaning.proofs.Chains.Asks.{Asks, AskAll, WordCalls, WordsCall}
use Rattle.isle_meaning.proofs.Chains.Causing.{Cites, CitesAll}
use Rattle.isle_meaning.proofs.Chains.Growing.{extends_self, extends_on}
use Rattle.isle_meaning.proofs.Chains.Surely.{surely, follows}
use Rattle.isle_meaning.proofs.Chains.Unique.{known_more, known_ask, known_answered, also_there}

-- what needs a known thing is the same of the same
ask_same : {A B : Type 0} (f h : A → Got B) (g g' : Got A) → ask f g ≢ unknown → (g ≢ unknown → g' ≡ g)
    → ((x : A) → g ≡ gives x → f x ≢ unknown → h x ≡ f x) → ask h g' ≡ ask f g
ask_same f h unknown g' n e k = absurd (n refl)
ask_same f h fails g' n e k = ap (ask h) (e (λ z. cc))
ask_same f h (gives x) g' n e k = ap (ask h) (e (λ z. cc)) ∙ k x refl n

-- a plain value of the same is the same
plain_same : (g g' : Got Held) → plain g ≢ unknown → (g ≢ unknown → g' ≡ g) → plain g' ≡ plain g
plain_same g g' n e = ask_same plain_of plain_of g g' n e (λ x z m. refl)

-- what needs something that isn't given, but known
ask_none : {A B : Type 0} (f : A → Got B) (g : Got A) → g ≢ unknown → ((x : A) → g ≡ gives x → ⊥) → ask f g ≢ unknown
ask_none f unknown n h = λ e. n refl
ask_none f fails n h = λ e. cc
ask_none f (gives x) n h = absurd (h x refl)

-- values of the same are the same
more_same : (g g' : Got Value) (gs gs' : Got Values) → more g gs ≢ unknown → (g ≢ unknown → g' ≡ g) → (gs ≢ unknown → gs' ≡ gs)
    → more g' gs' ≡ more g gs
more_same g g' gs gs' n e k =
    let first : g' ≡ g = e (λ z. n (ap (λ (y : Got Value). more y gs) z)) in
    let rest : gs' ≡ gs = k (λ z. n (ap (more g) z ∙ more_unknown g)) in
    rw (first, rest) refl

-- it is known or not
pub is_known : {A : Type 0} (g : Got A) → (g ≡ unknown) ⊎ (g ≢ unknown)
is_known unknown = inl refl
is_known fails = inr (λ e. cc)
is_known (gives x) = inr (λ e. cc)

-- it gives something, or not
gives_or_not : {A : Type 0} (g : Got A) → ((x : A) × (g ≡ gives x)) ⊎ ((x : A) → g ≡ gives x → ⊥)
gives_or_not unknown = inr (λ x e. cc)
gives_or_not fails = inr (λ x e. cc)
gives_or_not (gives x) = inl (x, refl)

-- it holds a value, or not
value_or_not : (g : Got Held) → ((v : Value) × (g ≡ gives (held_value v))) ⊎ ((v : Value) → g ≡ gives (held_value v) → ⊥)
value_or_not unknown = inr (λ v e. cc)
value_or_not fails = inr (λ v e. cc)
value_or_not (gives (held_value v)) = inl (v, refl)
value_or_not (gives (held_outputs vs)) = inr (λ v e. cc)
value_or_not (gives held_none) = inr (λ v e. cc)
value_or_not (gives (held_some h)) = inr (λ v e. cc)
value_or_not (gives (held_answers l)) = inr (λ v e. cc)

-- an extractor's known answer is held
pub extracted_known : (b : Bool) (g : Got Values) → g ≢ unknown → extracted b g ≢ unknown
extracted_known b unknown h = λ e. h refl
extracted_known true fails h = λ e. cc
extracted_known false fails h = λ e. cc
extracted_known true (gives vs) h = λ e. cc
extracted_known false (gives vs) h = λ e. cc

-- a constructor's known answer is held
pub constructed_known : (b : Bool) (g : Got Value) → g ≢ unknown → constructed b g ≢ unknown
constructed_known b unknown h = λ e. h refl
constructed_known true fails h = λ e. cc
constructed_known false fails h = λ e. cc
constructed_known true (gives v) h = λ e. cc
constructed_known false (gives v) h = λ e. cc

-- of one of two, the same
one_same : (b : Bool) (x x' y y' : Got Held) → x' ≡ x → (y ≢ unknown → y' ≡ y) → (if b then x else y) ≢ unknown
    → (if b then x' else y') ≡ (if b then x else y)
one_same true x x' y y' e k n = e
one_same false x x' y y' e k n = k n

module _ (c d : Completion) (h : Extends c d) where
  -- an answer stays
  answer_more : (done : List (Option Value)) (t i : ℕ) (vs : Values) → answer_of c done t i vs ≢ unknown
      → answer_of d done t i vs ≡ answer_of c done t i vs
  answer_more done t zero vs n = h.construct t vs n
  answer_more done t (suc i) vs n = refl

  module _ (a : ℕ → Value) (done : List (Option Value)) where
    mutual
      -- A word that is known stays so.
      pub word_more : (w : Word) → word_value c a done w ≢ unknown → word_value d a done w ≡ word_value c a done w
      word_more (var_word k) n = refl
      word_more (bool_word ty b) n = refl
      word_more (int_word ty k) n = refl
      word_more (prim_word k) n = refl
      word_more (variant_word ty k ws) n =
          ask_same (λ xs. gives (made_variant ty k xs)) (λ xs. gives (made_variant ty k xs)) (word_values c a done ws)
          (word_values d a done ws) n (words_more ws) (λ x e m. refl)
      word_more (struct_word ty ws) n =
          ask_same (λ xs. gives (made_struct ty xs)) (λ xs. gives (made_struct ty xs)) (word_values c a done ws) (word_values d a done ws)
          n (words_more ws) (λ x e m. refl)
      word_more (call_word t ws i) n =
          ask_same (answer_of c done t i) (answer_of d done t i) (word_values c a done ws) (word_values d a done ws) n (words_more ws)
          (λ x e m. answer_more done t i x m)

      -- So do words.
      pub words_more : (ws : Words) → word_values c a done ws ≢ unknown → word_values d a done ws ≡ word_values c a done ws
      words_more no_words n = refl
      words_more (more_words w ws) n =
          more_same (word_value c a done w) (word_value d a done w) (word_values c a done ws) (word_values d a done ws) n (word_more w)
          (words_more ws)

  module _ (facts : TermFacts) (args : Values) where
    -- what an extractor's call holds stays
    extract_more : (t : ℕ) (v : Value) → extract_held facts c t v ≢ unknown → extract_held facts d t v ≡ extract_held facts c t v
    extract_more t v n =
        one_same (facts.multi t) (several_of (c.extracts t v)) (several_of (d.extracts t v)) (extracted (facts.infallible t) (c.extract t v))
        (extracted (facts.infallible t) (d.extract t v)) (ap several_of (h.extracts t v))
        (λ k. ap (extracted (facts.infallible t)) (h.extract t v (λ e. k (ap (extracted (facts.infallible t)) e)))) n

    -- what a constructor's call holds stays
    construct_more : (t i : ℕ) (vs : Values) → construct_held facts c [] t i vs ≢ unknown
        → construct_held facts d [] t i vs ≡ construct_held facts c [] t i vs
    construct_more t i vs n =
        one_same (facts.multi t) (several_of (c.constructs t vs)) (several_of (d.constructs t vs))
        (constructed (facts.partial t) (answer_of c [] t i vs)) (constructed (facts.partial t) (answer_of d [] t i vs))
        (ap several_of (h.constructs t vs))
        (λ k. ap (constructed (facts.partial t)) (answer_more [] t i vs (λ e. k (ap (constructed (facts.partial t)) e)))) n

    mutual
      -- A site that is known stays so.
      pub site_more : (s : Site) → value facts c args [] s ≢ unknown → value facts d args [] s ≡ value facts c args [] s
      site_more (bool_site b ty) n = refl
      site_more (int_site k ty) n = refl
      site_more (prim_site k) n = refl
      site_more (argument i) n = refl
      site_more (extractor_call t s) n =
          ask_same (extract_held facts c t) (extract_held facts d t) (plain (value facts c args [] s)) (plain (value facts d args [] s)) n
          (λ m. plain_same (value facts c args [] s) (value facts d args [] s) m (site_more s)) (λ v e m. extract_more t v m)
      site_more (constructor_call t ss i) n =
          ask_same (construct_held facts c [] t i) (construct_held facts d [] t i) (values facts c args [] ss)
          (values facts d args [] ss) n (sites_more ss) (λ vs e m. construct_more t i vs m)
      site_more (iterator s) n =
          ask_same (item_of (c.place s)) (item_of (d.place s)) (value facts c args [] s) (value facts d args [] s) n (site_more s)
          (λ x e m. ap (λ (j : ℕ). item_of j x) (h.place s))
      site_more (make_variant ty k ss) n =
          ask_same (λ v. gives (held_value v)) (λ v. gives (held_value v)) (made ty k (values facts c args [] ss))
          (made ty k (values facts d args [] ss)) n
          (λ m. ask_same (λ xs. gives (made_variant ty k xs)) (λ xs. gives (made_variant ty k xs)) (values facts c args [] ss)
          (values facts d args [] ss) m (sites_more ss) (λ x e o. refl)) (λ x e m. refl)
      site_more (match_variant s k i) n =
          ask_same (variant_field k i) (variant_field k i) (plain (value facts c args [] s)) (plain (value facts d args [] s)) n
          (λ m. plain_same (value facts c args [] s) (value facts d args [] s) m (site_more s)) (λ x e m. refl)
      site_more (make_struct ty ss) n =
          ask_same (λ v. gives (held_value v)) (λ v. gives (held_value v)) (built ty (values facts c args [] ss))
          (built ty (values facts d args [] ss)) n
          (λ m. ask_same (λ xs. gives (made_struct ty xs)) (λ xs. gives (made_struct ty xs)) (values facts c args [] ss)
          (values facts d args [] ss) m (sites_more ss) (λ x e o. refl)) (λ x e m. refl)
      site_more (extract_struct s i) n =
          ask_same (struct_field i) (struct_field i) (plain (value facts c args [] s)) (plain (value facts d args [] s)) n
          (λ m. plain_same (value facts c args [] s) (value facts d args [] s) m (site_more s))
          (λ x e m. refl)
      site_more (make_some s) n =
          ask_same (λ x. gives (held_some x)) (λ x. gives (held_some x)) (value facts c args [] s) (value facts d args [] s) n
          (site_more s) (λ x e m. refl)
      site_more (match_some s) n =
          ask_same content_of content_of (value facts c args [] s) (value facts d args [] s) n (site_more s) (λ x e m. refl)
      site_more (match_tuple s i) n =
          ask_same (output_of i) (output_of i) (value facts c args [] s) (value facts d args [] s) n (site_more s) (λ x e m. refl)

      -- So do sites.
      pub sites_more : (ss : Sites) → values facts c args [] ss ≢ unknown → values facts d args [] ss ≡ values facts c args [] ss
      sites_more no_sites n = refl
      sites_more (more_sites s ss) n =
          more_same (plain (value facts c args [] s)) (plain (value facts d args [] s)) (values facts c args [] ss)
          (values facts d args [] ss)
          n (λ m. plain_same (value facts c args [] s) (value facts d args [] s) m (site_more s)) (sites_more ss)

    mutual
      -- What is answered stays so.
      pub answered_more : (s : Site) → IsAnswered facts c args [] s → IsAnswered facts d args [] s
      answered_more (bool_site b ty) a = tt
      answered_more (int_site k ty) a = tt
      answered_more (prim_site k) a = tt
      answered_more (argument i) a = tt
      answered_more (extractor_call t s) a =
          let same : value facts d args [] s ≡ value facts c args [] s = site_more s (known facts c args [] s (a.0)) in
          (answered_more s (a.0), λ v e u. a.1 v (sym same ∙ e) (sym (extract_more t v (a.1 v (sym same ∙ e))) ∙ u))
      answered_more (constructor_call t ss i) a =
          let same : values facts d args [] ss ≡ values facts c args [] ss = sites_more ss (known_all facts c args [] ss (a.0)) in
          (all_answered_more ss (a.0), λ vs e u. a.1 vs (sym same ∙ e) (sym (construct_more t i vs (a.1 vs (sym same ∙ e))) ∙ u))
      answered_more (iterator s) a = answered_more s a
      answered_more (make_variant ty k ss) a = all_answered_more ss a
      answered_more (match_variant s k i) a = answered_more s a
      answered_more (make_struct ty ss) a = all_answered_more ss a
      answered_more (extract_struct s i) a = answered_more s a
      answered_more (make_some s) a = answered_more s a
      answered_more (match_some s) a = answered_more s a
      answered_more (match_tuple s i) a = answered_more s a

      -- so does what sites ask
      pub all_answered_more : (ss : Sites) → AreAnswered facts c args [] ss → AreAnswered facts d args [] ss
      all_answered_more no_sites a = tt
      all_answered_more (more_sites s ss) a = (answered_more s (a.0), all_answered_more ss (a.1))

-- a completion that agrees, with more answers, of which this holds
pub record More (p : CheckedProgram) (w : Answers) (below : ℕ → Values → List Event → Option Value → Type 0) (c : Completion)
    (P : Completion → Type 0) : Type 0 where
  pub next : Completion
  pub agrees : Agrees p w below next
  pub extends : Extends c next
  pub holds : P next

-- calls of these constructors and extractors can't but be answered
pub record CanGrow (p : CheckedProgram) (w : Answers) (below : ℕ → Values → List Event → Option Value → Type 0) (C E : ℕ → Type 0) :
    Type 0 where
  pub construct : (c : Completion) → Agrees p w below c → (t : ℕ) (vs : Values) → C t → c.construct t vs ≡ unknown
      → Surely (More p w below c (λ d. d.construct t vs ≢ unknown))
  pub extract : (c : Completion) → Agrees p w below c → (t : ℕ) (v : Value) → E t → c.extract t v ≡ unknown
      → Surely (More p w below c (λ d. d.extract t v ≢ unknown))
  pub single_construct : (t : ℕ) → C t → p.terms.multi t ≡ false
  pub single_extract : (t : ℕ) → E t → p.terms.multi t ≡ false

module _ (p : CheckedProgram) (w : Answers) (below : ℕ → Values → List Event → Option Value → Type 0) (C E : ℕ → Type 0)
    (grow : CanGrow p w below C E) where
  -- nothing more is needed
  pub stay : (P : Completion → Type 0) (c : Completion) → Agrees p w below c → P c → Surely (More p w below c P)
  stay P c ag h = surely (record { next = c; agrees = ag; extends = extends_self c; holds = h })

  -- one after the other
  pub on : (P Q : Completion → Type 0) (c : Completion) → Surely (More p w below c P)
      → ((d : Completion) → Agrees p w below d → Extends c d → P d → Surely (More p w below d Q)) → Surely (More p w below c Q)
  on P Q c h f = follows h (λ m. follows (f (m.next) (m.agrees) (m.extends) (m.holds)) (λ k. surely (record {
    next = k.next;
    agrees = k.agrees;
    extends = extends_on c (m.next) (k.next) (m.extends) (k.extends);
    holds = k.holds;
  })))

  module _ (a : ℕ → Value) (before : List Step) (done : List (Option Value)) (l : length done ≡ length before) where
    -- a call on known arguments
    know_call : (c : Completion) → Agrees p w below c → (t : ℕ) (ws : Words) → C t → word_values c a done ws ≢ unknown
        → Surely (More p w below c (λ d. word_value d a done (call_word t ws zero) ≢ unknown))
    know_call c ag t ws q n = elim (gives_or_not (word_values c a done ws)) [
      | inr none ↦ stay _ c ag (ask_none (c.construct t) (word_values c a done ws) n none)
      | inl its ↦ elim (is_known (c.construct t (its.0))) [
        | inr k ↦ stay _ c ag (rw (its.1) k)
        | inl u ↦ on (λ d. d.construct t (its.0) ≢ unknown) _ c (grow.construct c ag t (its.0) q u) (λ d agd ex k.
            stay _ d agd (let same : word_values d a done ws ≡ gives (its.0) = words_more c d ex a done ws n ∙ its.1 in rw same k))
      ]
    ]

    mutual
      -- A word can't but become known.
      pub know_word : (x : Word) → WordCalls C x → Cites before x → (c : Completion) → Agrees p w below c
          → Surely (More p w below c (λ d. word_value d a done x ≢ unknown))
      know_word (var_word k) q h c ag = stay _ c ag (λ e. cc)
      know_word (bool_word ty b) q h c ag = stay _ c ag (λ e. cc)
      know_word (int_word ty k) q h c ag = stay _ c ag (λ e. cc)
      know_word (prim_word k) q h c ag = stay _ c ag (λ e. cc)
      know_word (variant_word ty k ws) q h c ag = on (λ d. word_values d a done ws ≢ unknown) _ c (know_words ws q h c ag)
          (λ d agd ex n. stay _ d agd (known_ask (λ xs. gives (made_variant ty k xs)) (word_values d a done ws) (λ xs e. cc) n))
      know_word (struct_word ty ws) q h c ag = on (λ d. word_values d a done ws ≢ unknown) _ c (know_words ws q h c ag)
          (λ d agd ex n. stay _ d agd (known_ask (λ xs. gives (made_struct ty xs)) (word_values d a done ws) (λ xs e. cc) n))
      know_word (call_word t ws zero) q h c ag = on (λ d. word_values d a done ws ≢ unknown) _ c (know_words ws (q.1) h c ag)
          (λ d agd ex n. know_call d agd t ws (q.0) n)
      know_word (call_word t ws (suc i)) q h c ag = on (λ d. word_values d a done ws ≢ unknown) _ c (know_words ws (q.1) (h.1) c ag)
          (λ d agd ex n. stay _ d agd (known_ask (answer_of d done t (suc i)) (word_values d a done ws)
          (λ vs. known_answered (slice_get done i) (also_there before done i _ l (h.0))) n))

      -- So can't words.
      pub know_words : (xs : Words) → WordsCall C xs → CitesAll before xs → (c : Completion) → Agrees p w below c
          → Surely (More p w below c (λ d. word_values d a done xs ≢ unknown))
      know_words no_words q h c ag = stay _ c ag (λ e. cc)
      know_words (more_words x xs) q h c ag = on (λ d. word_value d a done x ≢ unknown) _ c (know_word x (q.0) (h.0) c ag) (λ d agd ex n.
          on (λ e. word_values e a done xs ≢ unknown) _ d (know_words xs (q.1) (h.1) d agd) (λ e age ex' m.
          stay _ e age (known_more (word_value e a done x) (word_values e a done xs)
          (λ z. n (sym (word_more d e ex' a done x n) ∙ z)) m)))

  module _ (args : Values) where
    -- where an extractor's call is answered on its site's value
    opening_is : (d : Completion) (t : ℕ) (s : Site) → p.terms.multi t ≡ false → IsAnswered p.terms d args [] s
        → ((v : Value) → value p.terms d args [] s ≡ gives (held_value v) → d.extract t v ≢ unknown)
        → IsAnswered p.terms d args [] (extractor_call t s)
    opening_is d t s m a k = (a, λ v e u. extracted_known (p.terms.infallible t) (d.extract t v) (k v e) (rw m at u))

    -- where a constructor's call is answered on its sites' values
    call_is : (d : Completion) (t : ℕ) (ss : Sites) → p.terms.multi t ≡ false → AreAnswered p.terms d args [] ss
        → ((vs : Values) → values p.terms d args [] ss ≡ gives vs → d.construct t vs ≢ unknown)
        → IsAnswered p.terms d args [] (constructor_call t ss zero)
    call_is d t ss m a k = (a, λ vs e u. constructed_known (p.terms.partial t) (d.construct t vs) (k vs e) (rw m at u))

    -- an extractor's call can't but be answered
    know_opening : (c : Completion) → Agrees p w below c → (t : ℕ) (s : Site) → E t → IsAnswered p.terms c args [] s
        → Surely (More p w below c (λ d. IsAnswered p.terms d args [] (extractor_call t s)))
    know_opening c ag t s q a = elim (value_or_not (value p.terms c args [] s)) [
      | inr none ↦ stay _ c ag (opening_is c t s (grow.single_extract t q) a (λ v e. absurd (none v e)))
      | inl its ↦ elim (is_known (c.extract t (its.0))) [
        | inr k ↦ stay _ c ag (opening_is c t s (grow.single_extract t q) a
            (λ v e. (let same : its.0 ≡ v = (let z = sym (its.1) ∙ e in cc) in subst (λ (y : Value). c.extract t y ≢ unknown) same k)))
        | inl u ↦ on (λ d. d.extract t (its.0) ≢ unknown) _ c (grow.extract c ag t (its.0) q u) (λ d agd ex k.
            stay _ d agd (opening_is d t s (grow.single_extract t q) (answered_more c d ex p.terms args s a)
            (λ v e. (let same : its.0 ≡ v = (let z = sym (site_more c d ex p.terms args s (known p.terms c args [] s a) ∙ its.1) ∙ e in
            cc) in
            subst (λ (y : Value). d.extract t y ≢ unknown) same k))))
      ]
    ]

    -- a constructor's call can't but be answered
    know_made : (c : Completion) → Agrees p w below c → (t : ℕ) (ss : Sites) → C t → AreAnswered p.terms c args [] ss
        → Surely (More p w below c (λ d. IsAnswered p.terms d args [] (constructor_call t ss zero)))
    know_made c ag t ss q a = elim (gives_or_not (values p.terms c args [] ss)) [
      | inr none ↦ stay _ c ag (call_is c t ss (grow.single_construct t q) a (λ v e. absurd (none v e)))
      | inl its ↦ elim (is_known (c.construct t (its.0))) [
        | inr k ↦ stay _ c ag (call_is c t ss (grow.single_construct t q) a
            (λ v e. (let same : its.0 ≡ v = (let z = sym (its.1) ∙ e in cc) in subst (λ (y : Values). c.construct t y ≢ unknown) same k)))
        | inl u ↦ on (λ d. d.construct t (its.0) ≢ unknown) _ c (grow.construct c ag t (its.0) q u) (λ d agd ex k.
            stay _ d agd (call_is d t ss (grow.single_construct t q) (all_answered_more c d ex p.terms args ss a)
            (λ v e. (let same : its.0 ≡ v =
            (let z = sym (sites_more c d ex p.terms args ss (known_all p.terms c args [] ss a) ∙ its.1) ∙ e in cc) in
            subst (λ (y : Values). d.construct t y ≢ unknown) same k))))
      ]
    ]

    mutual
      -- What a site asks can't but be answered.
      pub know_site : (s : Site) → Asks C E s → (c : Completion) → Agrees p w below c
          → Surely (More p w below c (λ d. IsAnswered p.terms d args [] s))
      know_site (bool_site b ty) q c ag = stay _ c ag tt
      know_site (int_site k ty) q c ag = stay _ c ag tt
      know_site (prim_site k) q c ag = stay _ c ag tt
      know_site (argument i) q c ag = stay _ c ag tt
      know_site (extractor_call t s) q c ag = on (λ d. IsAnswered p.terms d args [] s) _ c (know_site s (q.1) c ag)
          (λ d agd ex a. know_opening d agd t s (q.0) a)
      know_site (constructor_call t ss zero) q c ag = on (λ d. AreAnswered p.terms d args [] ss) _ c (know_sites ss (q.1) c ag)
          (λ d agd ex a. know_made d agd t ss (q.0) a)
      know_site (constructor_call t ss (suc i)) q c ag = absurd q
      know_site (iterator s) q c ag = know_site s q c ag
      know_site (make_variant ty k ss) q c ag = know_sites ss q c ag
      know_site (match_variant s k i) q c ag = know_site s q c ag
      know_site (make_struct ty ss) q c ag = know_sites ss q c ag
      know_site (extract_struct s i) q c ag = know_site s q c ag
      know_site (make_some s) q c ag = know_site s q c ag
      know_site (match_some s) q c ag = know_site s q c ag
      know_site (match_tuple s i) q c ag = know_site s q c ag

      -- So can't what sites ask.
      pub know_sites : (ss : Sites) → AskAll C E ss → (c : Completion) → Agrees p w below c
          → Surely (More p w below c (λ d. AreAnswered p.terms d args [] ss))
      know_sites no_sites q c ag = stay _ c ag tt
      know_sites (more_sites s ss) q c ag = on (λ d. IsAnswered p.terms d args [] s) _ c (know_site s (q.0) c ag) (λ d agd ex a.
          on (λ e. AreAnswered p.terms e args [] ss) _ d (know_sites ss (q.1) d agd) (λ e age ex' b.
          stay _ e age (answered_more d e ex' p.terms args s a, b)))
