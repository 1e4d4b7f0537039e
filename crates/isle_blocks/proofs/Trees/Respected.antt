-- The answers of a rule set keep to fields and calls, and agree where completions do.
use Rattle.std.proofs.Common.{◌≡◌, ◌≢◌, inl, inr, ℕ, suc, ◌<◌, true, List, [], length, Option, Some, None, slice_get, refl, ap, sym, subst}
use Rattle.std.proofs.Common.{◌∙◌, ◌==◌, arith, eqb-true}
use Rattle.std.specs.Prelude.{nat_lt}
use Rattle.std.proofs.lemmas.Bool.Decides.{nat_tests}
use Rattle.std.proofs.lemmas.Option.{same_Some}
use Rattle.isle_types.specs.declared.ids.Sym.{Sym}
use Rattle.isle_rules.specs.declared.rules.Rule as source
use Rattle.isle_rules.specs.TypedRules.{TypedRule}
use Rattle.isle_meaning.specs.Values.{Value, Values, made_variant, made_struct, nth, count, ask}
use Rattle.isle_meaning.specs.Facts.{TermFacts}
use Rattle.isle_meaning.specs.Answers.{Completion, IsAllowed}
use Rattle.isle_meaning.specs.Held.{Held, held_value, held, content_of, value}
use Rattle.isle_meaning.specs.Held as holding
use Rattle.isle_meaning.specs.Sites.{Site, Sites, constructor_call, prim_site, match_variant, extract_struct}
use Rattle.isle_meaning.specs.Numbered.{At}
use Rattle.isle_meaning.proofs.Matching.Basics.{field_at, struct_at}
use Rattle.isle_blocks.specs.declared.binding.Binding.{Binding}
use Rattle.isle_blocks.specs.declared.binding.Binding.TheVariants as sites
use Rattle.isle_blocks.specs.declared.constraint.Constraint.{Constraint}
use Rattle.isle_blocks.specs.declared.constraint.Constraint.TheVariants as tests
use Rattle.isle_blocks.specs.Rows.{rows_of, test_of}
use Rattle.isle_blocks.specs.RuleSets.{RulesOverSites}
use Rattle.isle_trees.specs.Got.{Got, unknown, fails, gives}
use Rattle.isle_trees.specs.Answers.{Answers, HasValue, Agree}
use Rattle.isle_trees.specs.Rules.{Source, Rules, Elem, Meets, passes_got}
use Rattle.isle_trees.specs.Premises.{Respects}
use Rattle.isle_trees.proofs.Basics.{none_or, and_both}
use Rattle.isle_blocks.specs.Trees.Compare.{meets}
use Rattle.isle_blocks.specs.Trees.View.{read_or, made_by, opening, opens_field, rules_of}
use Rattle.isle_blocks.specs.Trees.SiteTrees.{trees_of, tree_from, tree_to, tree_of, held_by}
use Rattle.isle_blocks.specs.Trees.Makes.{AllowsDone}
use Rattle.isle_meaning.specs.AboutSites.Kinds.{IsKinded}
use Rattle.isle_blocks.specs.Trees.Premises.{IsRunnableSet}
use Rattle.isle_meaning.specs.AboutSites.Agreeing.{AgreeIfKnown, AgreeOnCalls}
use Rattle.isle_meaning.proofs.Sites.Agreeing.{agrees}
use Rattle.isle_meaning.proofs.Sites.Singly.{singly, same_singly}
use Rattle.isle_blocks.proofs.Trees.Exact.{passed_meets}
use Rattle.isle_blocks.proofs.Trees.Reading.{read_some}
use Rattle.isle_blocks.proofs.Trees.Standing.{tree_at, tree_is, from_at, part_at}
use Rattle.isle_meaning.proofs.Sites.HeldKinds.{nth_there, whole, IsWhole}
use Rattle.isle_blocks.proofs.Trees.Answered.{parts_valued, held_plain}
use Rattle.isle_blocks.proofs.Trees.Listed.{site_kinded, no_iterator, opening_opens}

-- What meets a test that opens a field has the field.
pub variant_there : (name : Sym → List ℕ) (k i : ℕ) (c : Constraint) (x : Held) → opens_field (Some k) i c ≡ true → holding.Meets (test_of name c) x
    → (ty : ℕ) × (vs : Values) × (y : Value) × (x ≡ held_value (made_variant ty k vs)) × (nth vs i ≡ gives y)
variant_there name k i (tests.Variant ty v n) x o (vs, p, q) =
    let b = and_both (v.0 == k) (nat_lt i n.0) o in
    let e : v.0 ≡ k = eqb-true v.0 k (b.0) in
    let l : i < n.0 = let t = b.1 in grind (arith, nat_tests) in
    let (y, at) = nth_there vs i (omega arith) in
    (ty.0, vs, y, p ∙ ap (λ (j : ℕ). held_value (made_variant ty.0 j vs)) e, at)
variant_there name k i c x o m = absurd cc

-- What meets one of a struct has its field.
pub struct_there : (name : Sym → List ℕ) (i : ℕ) (c : Constraint) (x : Held) → opens_field None i c ≡ true → holding.Meets (test_of name c) x
    → (ty : ℕ) × (vs : Values) × (y : Value) × (x ≡ held_value (made_struct ty vs)) × (nth vs i ≡ gives y)
struct_there name i (tests.Struct ty n) x o (vs, p, q) =
    let l : i < n.0 = grind (arith, nat_tests) in
    let (y, at) = nth_there vs i (omega arith) in (ty.0, vs, y, p, at)
struct_there name i c x o m = absurd cc

module _ (name : Sym → List ℕ) (facts : TermFacts) (sources : List source.Rule) (rules : List TypedRule) (term : ℕ) (set : RulesOverSites)
    (h : IsRunnableSet name facts sources rules term set) where
  -- the set as trees see it
  abbrev R : Rules Constraint Held
  R = rules_of name set

  -- a number's tree
  abbrev tree : ℕ → Site
  tree = tree_of name set.sites

  -- Each number's tree is of its kind.
  pub tree_kinded : (s : ℕ) → IsKinded facts h.runnable.types (tree_of name set.sites s)
  tree_kinded s = elim (none_or (slice_get set.sites s)) [
    | inl q ↦
        let t : tree s ≡ prim_site [] = ap (tree_from name (tree_to name set.sites s)) q in
        subst (IsKinded facts h.runnable.types) (sym t) tt
    | inr q ↦ site_kinded name facts sources rules term set h (tree s) s (tree_at name set.sites h.is.table s (q.0) (q.1))
  ]

  module _ (c : Completion) (args : Values) (done : List (Option Value)) where
    -- what a site holds
    abbrev val : Site → Got Held
    val s = value facts c args done s

    -- what a number's does
    abbrev r : Answers Held
    r = held_by name set.sites facts c args done

    -- what passes is there
    passed : (d : Constraint) (g : Got Held) → passes_got R d g ≡ true → (x : Held) × (g ≡ gives x) × (meets name d x ≡ true)
    passed d unknown e = absurd cc
    passed d fails e = absurd cc
    passed d (gives x) e = (x, refl, e)

    -- A field is there where its test passes.
    pub field_there : (s : ℕ) (b : Binding) (m : Source Constraint) → slice_get set.sites s ≡ Some b → made_by set.rules b ≡ Some m
        → Meets R m.want (r m.site) → HasValue (r s)
    field_there s (sites.MatchVariant a v i) m at is e =
        let d = opening set.rules (Some v.0) a.0 i.0 in
        let e' : passes_got R d (r a.0) ≡ true = subst (λ (k : Source Constraint). Meets R k.want (r k.site)) (sym (same_Some _ m is)) e in
        let (x, g, p) = passed d (r a.0) e' in
        let (ty, vs, y, q, n) = variant_there name v.0 i.0 d x (opening_opens set.rules (Some v.0) a.0 i.0) (passed_meets name d x p) in
        let w : val (match_variant (tree a.0) v.0 i.0) ≡ held (nth vs i.0) =
        field_at (val (tree a.0)) ty v.0 i.0 vs (g ∙ ap (λ (z : Held). gives z) q) in (
          held_value y,
          ap val (tree_is name set.sites h.is.table s (sites.MatchVariant a v i) at)
              ∙ w ∙ ap held n,
        )
    field_there s (sites.ExtractStruct a i) m at is e =
        let d = opening set.rules None a.0 i.0 in
        let e' : passes_got R d (r a.0) ≡ true = subst (λ (k : Source Constraint). Meets R k.want (r k.site)) (sym (same_Some _ m is)) e in
        let (x, g, p) = passed d (r a.0) e' in
        let (ty, vs, y, q, n) = struct_there name i.0 d x (opening_opens set.rules None a.0 i.0) (passed_meets name d x p) in
        let w : val (extract_struct (tree a.0) i.0) ≡ held (nth vs i.0) =
        struct_at (val (tree a.0)) ty i.0 vs (g ∙ ap (λ (z : Held). gives z) q) in (
          held_value y,
          ap val (tree_is name set.sites h.is.table s (sites.ExtractStruct a i) at)
              ∙ w ∙ ap held n,
        )
    field_there s (sites.MatchSome a) m at is e =
        let e' : passes_got R tests.Some (r a.0) ≡ true = subst (λ (k : Source Constraint). Meets R k.want (r k.site)) (sym (same_Some _ m is)) e in
        let (x, g, p) = passed tests.Some (r a.0) e' in
        let (y, q) = passed_meets name tests.Some x p in (
          y,
          ap val (tree_is name set.sites h.is.table s (sites.MatchSome a) at)
              ∙ ap (ask content_of) (g ∙ ap (λ (z : Held). gives z) q),
        )
    field_there s (sites.Iterator a) m at is e = absurd (no_iterator name facts sources rules term set h s a at)
    field_there s b m at is e = absurd cc

    module _ (allowed : IsAllowed facts c) (takes : count args ≡ length h.runnable.types) where
      -- if the site is an impure call that was answered none, its term may fail
      abbrev pub MayFailAt : ℕ → Type 0
      MayFailAt s = (f n : ℕ) (ss : Sites) → At (rows_of name set.sites) (constructor_call f ss (suc n)) s → slice_get done n ≡ Some None
          → facts.partial f ≡ true

      -- what no test makes is no field, content, or value of a multi call
      is_whole : (s : ℕ) (b : Binding) → MayFailAt s → slice_get set.sites s ≡ Some b → made_by set.rules b ≡ None
          → IsWhole facts h.runnable.types c args done allowed (tree_from name tree (Some b))
      is_whole s (sites.ConstBool v t) fine at e = tt
      is_whole s (sites.ConstInt v t) fine at e = tt
      is_whole s (sites.ConstPrim v) fine at e = tt
      is_whole s (sites.Argument i) fine at e = tt
      is_whole s (sites.Extractor t a) fine at e = tt
      is_whole s (sites.Constructor t ps i) fine at e = λ n q z.
          let there = from_at name set.sites tree s (sites.Constructor t ps i) at
          (λ part inside. part_at name set.sites h.is.table s (sites.Constructor t ps i) part at inside) in
          fine t.0 n (trees_of tree ps)
          (subst (λ (j : ℕ). At (rows_of name set.sites) (constructor_call t.0 (trees_of tree ps) j) s) q there) z
      is_whole s (sites.Iterator a) fine at e = absurd (no_iterator name facts sources rules term set h s a at)
      is_whole s (sites.MakeVariant t v fs) fine at e = tt
      is_whole s (sites.MatchVariant a v i) fine at e = absurd cc
      is_whole s (sites.MakeStruct t fs) fine at e = tt
      is_whole s (sites.ExtractStruct a i) fine at e = absurd cc
      is_whole s (sites.MakeSome a) fine at e = tt
      is_whole s (sites.MatchSome a) fine at e = absurd cc
      is_whole s (sites.MatchTuple a i) fine at e = tt

      -- So it doesn't fail where its parts have values.
      pub made_whole : (s : ℕ) → MayFailAt s → R.made s ≡ None → ((p : ℕ) → Elem p (R.parts s) → HasValue (r p)) → r s ≢ fails
      made_whole s fine n g e = elim (none_or (slice_get set.sites s)) [
        | inl q ↦
            let t : tree s ≡ prim_site [] = ap (tree_from name (tree_to name set.sites s)) q in
            let v : val (prim_site []) ≡ fails = subst (λ (z : Site). val z ≡ fails) t e in cc
        | inr q ↦
            let (b, at) = q in
            let free : made_by set.rules b ≡ None = subst (λ (o : Option Binding). read_or None (made_by set.rules) o ≡ None) at n in
            whole facts h.runnable.types c args done allowed takes (tree s) (tree_kinded s)
            (subst (IsWhole facts h.runnable.types c args done allowed) (sym (tree_is name set.sites h.is.table s b at)) (is_whole s b fine at free))
            (parts_valued name set.sites h.is.table facts c args done s b at g) e
      ]

      -- Answers keep to fields and calls.
      pub respects : AllowsDone name set.sites facts done → Respects R r
      respects fine = record {
        field = λ s m e w. let (b, at, is) = read_some (made_by set.rules) (slice_get set.sites s) m e in field_there s b m at is w;
        whole = λ s. made_whole s (fine s);
        plain = held_plain name set.sites h.is.table facts c args done;
      }

  -- Under completions that agree on calls that aren't `multi` what both know is the same.
  pub held_agree : (c d : Completion) (args : Values) (done : List (Option Value))
      → ((t : ℕ) (vs : Values) → AgreeIfKnown (c.construct t vs) (d.construct t vs))
      → ((t : ℕ) (v : Value) → AgreeIfKnown (c.extract t v) (d.extract t v))
      → Agree (held_by name set.sites facts c args done) (held_by name set.sites facts d args done)
  held_agree c d args done f g s a b =
      let like = same_singly facts h.runnable.types d c args done (tree s) (tree_kinded s) in
      let on : AgreeOnCalls c (singly d c) = record {
        construct = f;
        extract = g;
        constructs = λ t vs x y. refl;
        extracts = λ t v x y. refl;
        place = λ z. refl;
      } in
      let same = agrees facts c (singly d c) args done on (tree s) in
      sym like ∙ same a (subst (λ (z : Got Held). z ≢ unknown) (sym like) b)
