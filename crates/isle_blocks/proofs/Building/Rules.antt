-- What the visit of a rule gathers is what the rule needs and demands.
use Rattle.std.proofs.Common.{◌≡◌, ℕ, List, [], ◌++◌, map, length, Option, Some, None, Ok, slice_get, refl, sym, ap, ◌∙◌, subst, append_assoc, arith}
use Rattle.isle_types.specs.declared.ids.Sym.{Sym}
use Rattle.isle_rules.specs.declared.rules.Rule.{Rule}
use Rattle.isle_rules.specs.declared.terms.Term.{Term}
use Rattle.isle_rules.specs.TypedRules.{TypedRule}
use Rattle.isle_rules.specs.Signatures.{Declared}
use Rattle.isle_rules.specs.SoundRules.WellTyped.{IsTypedRule}
use Rattle.isle_rules.specs.SoundRules.KeptScopes.{nothing_bound, KeepsScopes}
use Rattle.isle_rules.specs.Visits.Runs.{in_turn, on_some, stuck}
use Rattle.isle_rules.specs.Visits.VisitScopes.{no_values}
use Rattle.isle_rules.specs.Visits.InternedTrees.{listed_patterns, pattern_of, expr_of}
use Rattle.isle_rules.specs.Visits.RuleEvents.{visits_args, visits_rest}
use Rattle.isle_meaning.specs.Facts.{TermFacts, facts_of}
use Rattle.isle_meaning.specs.Sites.{Site, argument}
use Rattle.isle_meaning.specs.Demands.{Demand, nothing, demands_all, iflets_demands, args_bound, vars_of}
use Rattle.isle_meaning.specs.Needs.{no_log, visit, args_needs, iflets_needs, needs_of}
use Rattle.isle_meaning.specs.Numbered.{Row, At, AreRecorded}
use Rattle.isle_meaning.proofs.Matching.Visited.{visit_is_written}
use Rattle.isle_blocks.specs.declared.ids.BindingId.{BindingId}
use Rattle.isle_blocks.specs.declared.constraint.Constraint.{Constraint}
use Rattle.isle_blocks.specs.Rows.{IsInjective, rows_of, constraints_of, pairs_of}
use Rattle.isle_blocks.specs.Inside.Building.Gathering.{Gathered, nothing_gathered}
use Rattle.isle_blocks.specs.Building.Standing.{Adds, StandEach}
use Rattle.isle_blocks.specs.Inside.Building.Steps.{pattern_adds, expr_adds, rule_adds}
use Rattle.isle_blocks.specs.Inside.Building.Named.{named_patterns, named_expr, named_iflet, AreKnownTerms, AreFilled, IfLetsAreFilled, CallNothingImpure}
use Rattle.isle_blocks.specs.Inside.Building.Named.{IsNamedRule}
use Rattle.isle_blocks.specs.Inside.Building.Building.{gathers}
use Rattle.isle_blocks.specs.Inside.Building.Built.{IsBuiltOf}
use Rattle.isle_blocks.specs.Inside.Building.Contents.{PartsAreBefore}
use Rattle.isle_blocks.proofs.Building.Entries.{adds_then, recorded_grown}
use Rattle.isle_blocks.proofs.Building.Told.{told_then}
use Rattle.isle_blocks.proofs.Building.Exprs.{visited_rows}
use Rattle.isle_blocks.proofs.Building.RuleVisits.{follow_args}
use Rattle.isle_blocks.proofs.Building.Tables.{stands_before, parts_before}
use Rattle.isle_blocks.proofs.Building.WellTyped.{all_filled, iflets_filled, typed_calls}
use Rattle.isle_blocks.proofs.Building.IfLets.{visited_adds, follow_value, follow_iflets}

-- what is recorded, under another name
recorded_as : (name : Sym → List ℕ) (rows : List Row) (has tests : List (BindingId × Constraint)) (same pairs : List (BindingId × BindingId))
    (ds : List Demand) → has ≡ tests → same ≡ pairs → AreRecorded rows (constraints_of name tests) (pairs_of pairs) ds
    → AreRecorded rows (constraints_of name has) (pairs_of same) ds
recorded_as name rows has tests same pairs ds h e is =
    subst (λ z. AreRecorded rows (constraints_of name z) (pairs_of same) ds) (sym h)
    (subst (λ z. AreRecorded rows (constraints_of name tests) (pairs_of z) ds) (sym e) is)

-- a typed rule with the arguments, conditions and right side of another
abbrev plain : (Sym → List ℕ) → TypedRule → Rule → TypedRule
plain name typed rule = record {
  root = typed.root;
  args = named_patterns name (listed_patterns (map pattern_of rule.args));
  iflets = map (named_iflet name) rule.iflets;
  right = named_expr name (expr_of rule.rhs);
  variables = typed.variables;
  priority = typed.priority;
  pos = typed.pos;
  name = typed.name;
}

module _ (name : Sym → List ℕ) (injective : IsInjective name) (names : List (List ℕ)) (facts : TermFacts) (terms : List Term)
    (known : AreKnownTerms names facts terms) where
  rooted : (o : Option Term) (rule : Rule) (other : TypedRule) (value : BindingId) (s' : Gathered) → KeepsScopes (plain name other rule)
      → AreFilled facts (plain name other rule).args → IfLetsAreFilled facts (plain name other rule).iflets
      → CallNothingImpure facts (plain name other rule).iflets
      → on_some o (λ root. in_turn (visits_args rule_adds pattern_adds terms rule.args root.arg_tys 0 no_values)
      (λ scope. visits_rest rule_adds pattern_adds expr_adds terms rule scope)) stuck nothing_gathered (Ok value) s'
      → IsBuiltOf name facts (plain name other rule) s' value
  rooted None rule other value s' keeps filled met pure run = absurd run
  rooted (Some root) rule other value s' keeps filled met pure run =
      let typed = plain name other rule in
      let start = nothing_gathered in
      let a = run.1 in
      let rest = run.3 in
      let b = rest.1 in
      let own = args_bound facts typed in
      let vars = vars_of facts typed in
      let xs = args_needs facts typed.args 0 in
      let ys = iflets_needs facts typed.iflets own in
      let ds = demands_all facts typed.args argument nothing in
      let es = iflets_demands facts typed.iflets own in
      let args = follow_args name injective names facts terms known rule.args root.arg_tys 0 argument nothing_bound keeps.matched no_values run.0
      nothing start a (λ i. ap argument (omega arith)) (λ var id u e. absurd u) (λ var u. absurd u) keeps.args filled run.2 in
      let lets = follow_iflets name injective names facts terms known typed rule.iflets (length rule.vars) [] keeps.matched keeps.met run.0 rest.0
      own xs a b refl args.told.adds args.told.impure args.stand args.low keeps.iflets met pure rest.2 in
      let none : b.impure ≡ [] = lets.told.impure ∙ args.told.impure in
      let each = subst (λ (z : List BindingId). StandEach (rows_of name b.sites) z []) (sym none) tt in
      let last = follow_value name injective names facts terms known (length rule.vars) rule.rhs keeps.met (length other.variables) rest.0 vars no_log
      b s' value lets.stand each keeps.right rest.3 in
      let r = visit facts vars no_log typed.right in
      let is = visit_is_written facts typed in
      let both = told_then name injective start a b xs ys ds es args.told lets.told in
      let new = rows_of name s'.sites in
      let added = adds_then [] (rows_of name b.sites) new (xs ++ ys) r.1.needed both.adds (visited_adds name injective b s' r.1 last.0) in
      let recorded = recorded_grown (rows_of name b.sites) new (constraints_of name both.has_more) (pairs_of both.same_more) (ds ++ es)
      (visited_rows name injective b s' no_log r.1 last.0) both.recorded in
      record {
        sites = subst (λ z. Adds [] z new) (append_assoc xs ys r.1.needed) added;
        demands = recorded_as name new s'.has both.has_more s'.same both.same_more (ds ++ es) (last.0.grew.has ∙ both.has)
            (last.0.grew.same ∙ both.same)
            recorded;
        result = subst (λ (z : Site). At new z value.0) is.0 last.1;
        impure = subst (λ z. StandEach new s'.impure z) is.1 last.0.impure;
      }

  -- a rule that keeps scopes, whose terms have all their parts and whose conditions call nothing impure
  pub follow_rule : (rule : Rule) (typed : TypedRule) (value : BindingId) (s' : Gathered) → IsNamedRule name typed rule → KeepsScopes typed
      → AreFilled facts typed.args → IfLetsAreFilled facts typed.iflets → CallNothingImpure facts typed.iflets
      → gathers terms rule nothing_gathered (Ok value) s' → IsBuiltOf name facts typed s' value
  follow_rule rule typed value s' h keeps filled met pure run =
      let same : typed ≡ plain name typed rule = (λ i. record {
        root = typed.root;
        args = h.args i;
        iflets = h.iflets i;
        right = h.right i;
        variables = typed.variables;
        priority = typed.priority;
        pos = typed.pos;
        name = typed.name;
      }) in
      subst (λ z. IsBuiltOf name facts z s' value) (sym same)
      (rooted (slice_get terms rule.root_term.0) rule typed value s' (subst KeepsScopes same keeps)
      (subst (λ (z : TypedRule). AreFilled facts z.args) same filled) (subst (λ (z : TypedRule). IfLetsAreFilled facts z.iflets) same met)
      (subst (λ (z : TypedRule). CallNothingImpure facts z.iflets) same pure) run)

-- a well typed rule that keeps scopes
pub follow_typed : (name : Sym → List ℕ) → IsInjective name → (names : List (List ℕ)) (declared : Declared) (terms : List Term)
    → AreKnownTerms names (facts_of declared) terms → (rule : Rule) (typed : TypedRule) (value : BindingId) (s' : Gathered)
    → IsNamedRule name typed rule → IsTypedRule declared typed → KeepsScopes typed → gathers terms rule nothing_gathered (Ok value) s'
    → IsBuiltOf name (facts_of declared) typed s' value
follow_typed name injective names declared terms known rule typed value s' h is keeps run =
    follow_rule name injective names (facts_of declared) terms known rule typed value s' h keeps
    (all_filled declared typed.variables is.root.args typed.args is.args) (iflets_filled declared typed.variables is.flags typed.iflets is.iflets)
    (typed_calls declared typed.variables is.flags typed.iflets is.iflets) run

-- in the table that is left, parts stand before what is made of them, and each site has one number
pub built_before : (name : Sym → List ℕ) (facts : TermFacts) (rule : TypedRule) (left : Gathered) (value : BindingId)
    → IsBuiltOf name facts rule left value → PartsAreBefore left.sites
built_before name facts rule left value h = parts_before name left.sites (stands_before (needs_of facts rule) (rows_of name left.sites) h.sites)
