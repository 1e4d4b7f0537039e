-- Where a rule that is tried ends, the end is that of a call that its patterns or if-lets have.
use Rattle.std.proofs.Common.{◌≡◌, inl, inr, ℕ, List, [], ◌∷◌, refl, ◌∙◌, ap, subst}
use Rattle.isle_rules.specs.TypedRules.{TypedIfLet, TypedRule}
use Rattle.isle_meaning.specs.Got.{gives}
use Rattle.isle_meaning.specs.Values.{Value, Values}
use Rattle.isle_meaning.specs.GroundValues.{AreValuesOf}
use Rattle.isle_meaning.specs.Words.{word_of}
use Rattle.isle_meaning.specs.Answers.{Completion}
use Rattle.isle_meaning.specs.Matching.{word_value}
use Rattle.isle_meaning.specs.Sites.{Site, argument}
use Rattle.isle_meaning.specs.Held.{held_value, held, value, IsAnswered}
use Rattle.isle_meaning.specs.Demands.{bound, iflet_site, args_bound, nothing}
use Rattle.isle_meaning.specs.Typing.{IfLetsTyped}
use Rattle.isle_meaning.specs.Scopes.{scope, scope_all, IfLetsAreWellScoped, none, OfIfLets, Covers}
use Rattle.isle_meaning.specs.Worlds.{CheckedProgram, Answers, Event}
use Rattle.isle_meaning.specs.Calls.{Says, Agrees, Means}
use Rattle.isle_meaning.specs.Asking.{Asked, IsSiteOfIfLets, IsSiteOfRule, IsCallOn, Ended}
use Rattle.isle_meaning.specs.Subtrees.{IsSubtree}
use Rattle.isle_meaning.proofs.Matching.Children.{Agree}
use Rattle.isle_meaning.proofs.Matching.Known.{known}
use Rattle.isle_meaning.proofs.Matching.Scoping.{word_reads}
use Rattle.isle_meaning.proofs.Matching.Written.{word_site}
use Rattle.isle_meaning.specs.Outcomes.{Outcome, given, ended, After}
use Rattle.isle_meaning.specs.PlainRuns.{WordRuns, PatternRuns, PatternsRun, IfLetsRun, RuleRuns, no_variables}
use Rattle.isle_meaning.specs.SoundPrograms.{HasSoundData, AreSoundIfLets, IsSoundRule}
use Rattle.isle_meaning.specs.Inside.TypedWords.{IsTypedWord, AreTypedVariables, GivesTyped}
use Rattle.isle_meaning.proofs.Calls.Giving.{words_give_typed, patterns_give_typed, patterns_give_typed_all}
use Rattle.isle_meaning.proofs.Calls.RuleGiving.{none_answered}
use Rattle.isle_meaning.proofs.Calls.Saying.{GivesMeant, word_says}
use Rattle.isle_meaning.proofs.Calls.WordTyping.{calls_types, expr_typed}
use Rattle.isle_meaning.proofs.Chains.PatternEnds.{pattern_ends, patterns_end, pattern_agrees, patterns_agree}
use Rattle.isle_meaning.proofs.Chains.PureCalls.{calls_marked}
use Rattle.isle_meaning.proofs.Chains.Subtrees.{whole}
use Rattle.isle_meaning.proofs.Chains.WordEnds.{Ends, EndsBelow, after_ended, word_ends}

module _ (p : CheckedProgram) (w : Answers) (n : ℕ) (R : ℕ → Type 0) (data_sound : HasSoundData p)
    (below : ℕ → Values → List Event → Outcome Value → Type 0) (gives_typed : GivesTyped p R below)
    (meant : GivesMeant p R below (Means p w n)) (ends : EndsBelow p w n R below) where
  -- the site of a word that is read has its value
  site_gives : (c : Completion) → Agrees p w (Means p w n) c → (args : Values) (S : ℕ → Type 0) (G : ℕ → ℕ) (a : ℕ → Value)
      (vars : ℕ → Site) (x : TypedIfLet) (u : ℕ) (v : Value) → IfLetsAreWellScoped p.terms (x ∷ []) S → AreTypedVariables p S G a
      → IsTypedWord p R S G (calls_types p x.value) (word_of p.terms x.value) u → Agree (value p.terms c args []) a S vars
      → WordRuns p w below a [] (word_of p.terms x.value) (given v) → IsAnswered p.terms c args [] (iflet_site p.terms vars x)
      → value p.terms c args [] (iflet_site p.terms vars x) ≡ gives (held_value v)
  site_gives c ag args S G a vars x u v well variables t agree run answered =
      let same : value p.terms c args [] (iflet_site p.terms vars x) ≡ held (word_value c a [] (word_of p.terms x.value)) =
      word_site p.terms c args [] a vars S agree (word_of p.terms x.value) (word_reads p.terms S x.value (well.0)) in
      let says : Says (word_value c a [] (word_of p.terms x.value)) (gives v) =
      word_says p w (Means p w n) c ag R data_sound below gives_typed meant S G (calls_types p x.value) a [] variables (none_answered p _)
      (word_of p.terms x.value) u (given v) t run in
      same ∙ ap held (says (λ z. known p.terms c args [] (iflet_site p.terms vars x) answered (same ∙ ap held z)))

  -- the call at which if-lets end, and the site that has it, by the sites of their variables
  record IfLetsEnd (xs : List TypedIfLet) (S : ℕ → Type 0) (a : ℕ → Value) (e : Ended) : Type 0 where
    asked : Asked
    ends_so : Ends p w n asked [] e
    site : (ℕ → Site) → Site
    its : (vars : ℕ → Site) → IsSiteOfIfLets p.terms xs vars (site vars)
    call : (ℕ → Site) → Site
    within : (vars : ℕ → Site) → IsSubtree (call vars) (site vars)
    on : (c : Completion) → Agrees p w (Means p w n) c → (args : Values) (vars : ℕ → Site) → Agree (value p.terms c args []) a S vars
        → OfIfLets p.terms (IsAnswered p.terms c args []) xs vars → IsCallOn p.terms c args (call vars) asked

  -- where if-lets end, it is at a call that they have
  iflets_end : (xs : List TypedIfLet) (S : ℕ → Type 0) (G : ℕ → ℕ) (a : ℕ → Value) (e : Ended) → IfLetsAreWellScoped p.terms xs S
      → IfLetsTyped p.terms G xs → AreSoundIfLets p R xs → AreTypedVariables p S G a → IfLetsRun p w below a xs (ended e)
      → IfLetsEnd xs S a e
  iflets_end [] S G a e well t s variables run = absurd cc
  iflets_end (x ∷ xs) S G a e well t s variables run =
      let its = expr_typed p R S G x.value (t.0.0) (well.0) (t.0.1) (s.0) in
      elim (after_ended (run.0) (λ (v : Value) (r : Outcome (ℕ → Value)). (o : Outcome (ℕ → Value))
      × PatternRuns p w a x.pattern v o × After o (λ b r. IfLetsRun p w below b xs r) r) e (run.2)) [
        | inl q ↦
            let r = word_ends p w n R data_sound below gives_typed meant ends S G (calls_types p x.value) a [] variables
            (none_answered p _) (word_of p.terms x.value) (t.0.0) e (its.0) ((calls_marked p.terms x.value).0)
            (subst (WordRuns p w below a [] (word_of p.terms x.value)) q (run.1)) in
            record {
              asked = r.asked;
              ends_so = r.ends_so;
              site = λ vars. iflet_site p.terms vars x;
              its = λ vars. inl refl;
              call = r.call;
              within = r.within;
              on = λ c ag args vars agree answered. r.on c ag refl args vars agree (answered.0);
            }
        | inr h ↦
            let runs : WordRuns p w below a [] (word_of p.terms x.value) (given (h.0)) =
            subst (WordRuns p w below a [] (word_of p.terms x.value)) (h.1) (run.1) in
            elim (after_ended (h.2.0) _ e (h.2.2)) [
              | inl o ↦
                  let r = pattern_ends p w n x.pattern S a (h.0) e (well.1) (subst (PatternRuns p w a x.pattern (h.0)) o (h.2.1)) in
                  record {
                    asked = r.asked;
                    ends_so = r.ends_so;
                    site = λ vars. r.call (iflet_site p.terms vars x);
                    its = λ vars. inr (inl (r.its (iflet_site p.terms vars x)));
                    call = λ vars. r.call (iflet_site p.terms vars x);
                    within = λ vars. whole _;
                    on = λ c ag args vars agree answered. r.on c ag args (iflet_site p.terms vars x)
                        (site_gives c ag args S G a vars x (t.0.0) (h.0) (well.0, well.1, tt) variables (its.0) agree runs (answered.0))
                        (answered.1);
                  }
              | inr k ↦
                  let passes : PatternRuns p w a x.pattern (h.0) (given (k.0)) = subst (PatternRuns p w a x.pattern (h.0)) (k.1) (h.2.1) in
                  let valued = words_give_typed p w R data_sound below gives_typed S G (calls_types p x.value) a [] variables
                  (none_answered p _) (word_of p.terms x.value) (t.0.0) (h.0) (its.0) runs in
                  let next = patterns_give_typed p w data_sound x.pattern S G a (k.0) (h.0) (t.0.0) (t.0.2) variables valued passes in
                  let r = iflets_end xs (scope x.pattern S) G (k.0) e (well.2) (t.1) (s.1) next (k.2) in
                  record {
                    asked = r.asked;
                    ends_so = r.ends_so;
                    site = λ vars. r.site (bound p.terms x.pattern (iflet_site p.terms vars x) vars);
                    its = λ vars. inr (inr (r.its (bound p.terms x.pattern (iflet_site p.terms vars x) vars)));
                    call = λ vars. r.call (bound p.terms x.pattern (iflet_site p.terms vars x) vars);
                    within = λ vars. r.within (bound p.terms x.pattern (iflet_site p.terms vars x) vars);
                    on = λ c ag args vars agree answered. r.on c ag args (bound p.terms x.pattern (iflet_site p.terms vars x) vars)
                        (pattern_agrees p w n c ag args x.pattern S vars (iflet_site p.terms vars x) a (k.0) (h.0) (well.1) agree
                        (site_gives c ag args S G a vars x (t.0.0) (h.0) (well.0, well.1, tt) variables (its.0) agree runs (answered.0))
                        (answered.1) passes) (answered.2);
                  }
            ]
      ]

  -- the call at which a rule ends that is tried, and the site that has it
  pub record RuleEnds (args : Values) (rule : TypedRule) (e : Ended) : Type 0 where
    pub asked : Asked
    pub ends_so : Ends p w n asked [] e
    pub site : Site
    pub its : IsSiteOfRule p.terms rule site
    pub call : Site
    pub within : IsSubtree call site
    pub fixed : (c : Completion) → Agrees p w (Means p w n) c → Covers p.terms c args rule → IsCallOn p.terms c args call asked

  -- Where a rule that is tried ends, the end is that of a call that its patterns or if-lets have.
  pub rule_ends : (args : Values) (rule : TypedRule) (e : Ended) → IsSoundRule p R rule
      → AreValuesOf p.values args (p.terms.inputs rule.root)
      → RuleRuns p w below args rule (ended e) → RuleEnds args rule e
  rule_ends args rule e sound typed run = elim (after_ended (run.0) _ e (run.2)) [
    | inl q ↦
        let r = patterns_end p w n rule.args none no_variables args e (sound.well.args)
        (subst (PatternsRun p w no_variables rule.args args) q (run.1)) in
        record {
          asked = r.asked;
          ends_so = r.ends_so;
          site = r.call argument;
          its = inl (r.its argument);
          call = r.call argument;
          within = whole _;
          fixed = λ c ag cover. r.on c ag args argument (λ i x o. ap held o) (cover.0);
        }
    | inr h ↦
        let passes : PatternsRun p w no_variables rule.args args (given (h.0)) =
        subst (PatternsRun p w no_variables rule.args args) (h.1) (run.1) in
        let variables = patterns_give_typed_all p w data_sound rule.args none sound.var_types no_variables (h.0) args
        (p.terms.inputs rule.root) (sound.typed.args) (λ k i. absurd i) typed passes in
        let r = iflets_end rule.iflets (scope_all rule.args none) sound.var_types (h.0) e (sound.well.iflets) (sound.typed.iflets)
        (sound.iflets) variables (h.2) in
        record {
          asked = r.asked;
          ends_so = r.ends_so;
          site = r.site (args_bound p.terms rule);
          its = inr (r.its (args_bound p.terms rule));
          call = r.call (args_bound p.terms rule);
          within = r.within (args_bound p.terms rule);
          fixed = λ c ag cover. r.on c ag args (args_bound p.terms rule)
              (patterns_agree p w n c ag args rule.args none nothing argument no_variables (h.0) args (sound.well.args) (λ k i. absurd i)
              (λ i x o. ap held o) (cover.0) passes) (cover.1);
        }
  ]
