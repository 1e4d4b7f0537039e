-- What holds of each rule set that `check` gives.
use Rattle.std.proofs.Common.{◌≡◌, inl, inr, ℕ, List, Some, slice_get, sym, ap, subst, ◌∙◌}
use Rattle.std.specs.Option.{option_map}
use Rattle.std.proofs.lemmas.Option.{slice_get-map, slice_get_within}
use Rattle.isle_types.specs.declared.ids.TermId.{TermId}
use Rattle.isle_types.proofs.Zipped.{all_at}
use Rattle.isle_rules.specs.Shown.TermTables.{TermTables}
use Rattle.isle_rules.specs.SoundRules.WellTyped.{IsTypedRule}
use Rattle.isle_rules.proofs.Sound.RuleTypes.{rules_typed}
use Rattle.isle_meaning.specs.Derived.{FieldOf, of_variant, of_struct}
use Rattle.isle_meaning.specs.Demands.{Demand}
use Rattle.isle_meaning.specs.Sites.{Site, bool_site, int_site, prim_site, argument, extractor_call, constructor_call, iterator}
use Rattle.isle_meaning.specs.Sites.{make_variant, match_variant, make_struct, extract_struct, make_some, match_some, match_tuple}
use Rattle.isle_meaning.specs.Numbered.{Row, make_variant_row, At}
use Rattle.isle_blocks.specs.declared.binding.Binding.{Binding}
use Rattle.isle_blocks.specs.declared.binding.Binding.TheVariants.{ConstBool, ConstInt, ConstPrim, Argument, Extractor, Constructor, Iterator}
use Rattle.isle_blocks.specs.declared.binding.Binding.TheVariants.{MakeVariant, MatchVariant, MakeStruct, ExtractStruct, MakeSome, MatchSome}
use Rattle.isle_blocks.specs.declared.binding.Binding.TheVariants.{MatchTuple}
use Rattle.isle_blocks.specs.Bindings.{MakesKnownVariant}
use Rattle.isle_blocks.specs.DefinedSets.{AreDefined, name_of, facts_by, rules_by, IsSiteOf, IsTermSet}
use Rattle.isle_blocks.specs.RuleSets.{RulesOverSites}
use Rattle.isle_blocks.specs.Rows.{row_of, rows_of, numbers_of}
use Rattle.isle_blocks.specs.SetLaws.{OfEachSet, EachNumberStands, EachSiteOnce, EachVariantKnown}
use Rattle.isle_blocks.proofs.Building.Naming.{name_by_injective}
use Rattle.isle_blocks.proofs.Closure.Trees.{stands, one_number}
use Rattle.isle_blocks.proofs.MadeVariants.{IsVariantTerm, Known, rule_known}
use Rattle.isle_blocks.proofs.Sets.SetsOfTerms.{all_places}
use Rattle.isle_blocks.proofs.VariantTerms.{declared, variant_has_term}

-- what holds of each term's rule set holds of each set
of_each : (P : (env : TermTables) → AreDefined env → RulesOverSites → Type 0)
    → ((env : TermTables) (d : AreDefined env) (pair : TermId × RulesOverSites) → IsTermSet env d pair → P env d pair.1) → OfEachSet P
of_each P f env d sets are =
    all_places (λ pair. P env d pair.1) sets (λ i pair at. f env d pair (all_at (IsTermSet env d) sets are.each i pair at))

pub numbers_stand : OfEachSet EachNumberStands
numbers_stand = of_each EachNumberStands (λ env d pair is k within. stands (name_of env d) pair.1.sites is.1.table k within)

pub sites_once : OfEachSet EachSiteOnce
sites_once = of_each EachSiteOnce (λ env d pair is s k l one other.
    one_number (name_of env d) pair.1.sites (name_by_injective d.tyenv.names d.once) is.1.table s k l one other)

-- a made variant's entry is that of a made variant
made_variant : (K : ℕ → ℕ → Type 0) (rows : List Row) (s : Site) (k ty variant : ℕ) (parts : List ℕ) → At rows s k
    → slice_get rows k ≡ Some (make_variant_row ty variant parts) → Known K s → K ty variant
made_variant K rows (bool_site b t) k ty variant parts at is known = absurd (let e = sym at ∙ is in cc)
made_variant K rows (int_site n t) k ty variant parts at is known = absurd (let e = sym at ∙ is in cc)
made_variant K rows (prim_site n) k ty variant parts at is known = absurd (let e = sym at ∙ is in cc)
made_variant K rows (argument i) k ty variant parts at is known = absurd (let e = sym at ∙ is in cc)
made_variant K rows (extractor_call t s) k ty variant parts at is known = absurd (let e = sym at.1 ∙ is in cc)
made_variant K rows (constructor_call t ss i) k ty variant parts at is known = absurd (let e = sym at.1 ∙ is in cc)
made_variant K rows (iterator s) k ty variant parts at is known = absurd (let e = sym at.1 ∙ is in cc)
made_variant K rows (make_variant t v ss) k ty variant parts at is known =
    let e = sym at.1 ∙ is in let type : t ≡ ty = cc in let place : v ≡ variant = cc in
    subst (λ (x : ℕ). K x variant) type (subst (λ (x : ℕ). K t x) place known)
made_variant K rows (match_variant s v i) k ty variant parts at is known = absurd (let e = sym at.1 ∙ is in cc)
made_variant K rows (make_struct t ss) k ty variant parts at is known = absurd (let e = sym at.1 ∙ is in cc)
made_variant K rows (extract_struct s i) k ty variant parts at is known = absurd (let e = sym at.1 ∙ is in cc)
made_variant K rows (make_some s) k ty variant parts at is known = absurd (let e = sym at.1 ∙ is in cc)
made_variant K rows (match_some s) k ty variant parts at is known = absurd (let e = sym at.1 ∙ is in cc)
made_variant K rows (match_tuple s i) k ty variant parts at is known = absurd (let e = sym at.1 ∙ is in cc)

-- a field is no made variant
field_known : (K : ℕ → ℕ → Type 0) (D : Demand → Type 0) (t s : Site) → FieldOf D t s → Known K s
field_known K D t s (of_variant is less) = tt
field_known K D t s (of_struct is less) = tt

module _ (env : TermTables) (d : AreDefined env) where
  -- a site of a term's rule makes no variant but that of a term
  site_known : (term : ℕ) (s : Site) → IsSiteOf (facts_by env d) (rules_by env d) term s → Known (IsVariantTerm (declared env d)) s
  site_known term s is =
      let rule = is.reached.rule in
      let typed = all_at (IsTypedRule (declared env d)) (rules_by env d)
      (rules_typed d.types env.expands d.levels d.max d.defs d.shows.environment d.shows.makes) is.place rule is.reached.at in
      let all = rule_known (declared env d) rule typed ((facts_by env d).partial rule.root) in
      elim is.from [
        | inl needed ↦ all.0.each s needed
        | inr (inl result) ↦ subst (λ (u : Site). Known (IsVariantTerm (declared env d)) u) (sym result) all.1
        | inr (inr (t, field)) ↦ field_known (IsVariantTerm (declared env d)) _ t s field
      ]

  -- nor does any at a number
  known_at : (pair : TermId × RulesOverSites) → IsTermSet env d pair → (k : ℕ) (site : Binding) → slice_get pair.1.sites k ≡ Some site
      → MakesKnownVariant d.tyenv env site
  known_at pair is k (ConstBool val ty) at = tt
  known_at pair is k (ConstInt val ty) at = tt
  known_at pair is k (ConstPrim val) at = tt
  known_at pair is k (Argument index) at = tt
  known_at pair is k (Extractor term parameter) at = tt
  known_at pair is k (Constructor term parameters instance) at = tt
  known_at pair is k (Iterator source) at = tt
  known_at pair is k (MakeVariant ty variant fields) at =
      let name = name_of env d in let rows = rows_of name pair.1.sites in
      let (s, stands_at) = stands name pair.1.sites is.1.table k (slice_get_within pair.1.sites k _ at) in
      let row : slice_get rows k ≡ Some (make_variant_row ty.0 variant.0 (numbers_of fields)) =
      slice_get-map (row_of name) pair.1.sites k ∙ ap (option_map (row_of name)) at in
      variant_has_term env d ty.0 variant.0
      (made_variant (IsVariantTerm (declared env d)) rows s k ty.0 variant.0 (numbers_of fields) stands_at row
      (site_known pair.0.0 s (is.1.explained s (k, stands_at))))
  known_at pair is k (MatchVariant source variant field) at = tt
  known_at pair is k (MakeStruct ty fields) at = tt
  known_at pair is k (ExtractStruct source field) at = tt
  known_at pair is k (MakeSome inner) at = tt
  known_at pair is k (MatchSome source) at = tt
  known_at pair is k (MatchTuple source field) at = tt

pub sites_have_terms : OfEachSet EachVariantKnown
sites_have_terms = of_each EachVariantKnown (λ env d pair is. all_places (MakesKnownVariant d.tyenv env) pair.1.sites
    (λ k site at. known_at env d pair is k site at))
