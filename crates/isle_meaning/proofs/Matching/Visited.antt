-- The visitor's road over an expression gives the site of what is written out, and its impure calls.
use Rattle.std.proofs.Common.{◌≡◌, ℕ, zero, suc, List, [], ◌∷◌, ◌++◌, map, length, Bool, true, false, ◌==◌, refl, sym, ◌∙◌, ap}
use Rattle.std.proofs.lemmas.List.{map-append, length-map}
use Rattle.isle_rules.specs.TypedRules.{TypedExpr, built_var, built_bool, built_int, built_prim, built_term, built_let, TypedExprs}
use Rattle.isle_rules.specs.TypedRules.{no_built, more_built, TypedBindings, no_typed_bindings, more_typed_bindings}
use Rattle.isle_meaning.specs.Facts.{TermShape, variant_shape, struct_shape, declared_shape, TermFacts}
use Rattle.isle_meaning.specs.Words.{Word, var_word, Words, Step, set, flat, flat_all, flat_lets, call, apply}
use Rattle.isle_meaning.specs.Sites.{Site, constructor_call, make_variant, make_struct, Sites, more_sites, answer_site, site_of}
use Rattle.isle_meaning.specs.Sites.{sites_of, step_site}
use Rattle.isle_meaning.specs.Demands.{vars_of}
use Rattle.isle_meaning.specs.Needs.{Log, no_log, called, applied, visit, visit_all, visit_lets}
use Rattle.isle_meaning.specs.Laws.Matching.{VisitIsWritten}

both : {s t : Site} {ss ts : Sites} → s ≡ t → ss ≡ ts → more_sites s ss ≡ more_sites t ts
both p q = cc

module _ (facts : TermFacts) (vars : ℕ → Site) where
  -- one more variable stands for the site of its word
  set_site : (iflets : ℕ → Word) (sites : ℕ → Site) (k : ℕ) (w : Word) (s : Site) → ((j : ℕ) → sites j ≡ site_of facts vars (iflets j))
      → s ≡ site_of facts vars w
      → (j : ℕ) → set sites k s j ≡ site_of facts vars (set iflets k w j)
  set_site iflets sites k w s h e j = go (j == k) refl
    where
      go : (b : Bool) → (j == k) ≡ b → set sites k s j ≡ site_of facts vars (set iflets k w j)
      go true q = rw q e
      go false q = rw q (h j)

  abbrev answer : ℕ → Sites → ℕ → Site
  answer t ss i = answer_site (facts.multi t) (facts.partial t) (constructor_call t ss i)

  called_site : (b : Bool) (t : ℕ) (r : Sites × Log) (q : Words × List Step) → r.0 ≡ sites_of facts vars (q.0)
      → r.1.impure ≡ map (step_site facts vars) (q.1)
      → ((called facts b t r).0 ≡ site_of facts vars ((call b t q).0))
      × ((called facts b t r).1.impure ≡ map (step_site facts vars) ((call b t q).1))
  called_site true t r q e f = (ap (λ (ss : Sites). answer t ss zero) e, f)
  called_site false t r q e f =
      let n : length (r.1.impure) ≡ length (q.1) = ap length f ∙ length-map (q.1) (step_site facts vars) in
      let g : answer t (r.0) (suc (length (r.1.impure))) ≡ answer t (sites_of facts vars (q.0)) (suc (length (q.1))) =
      ap (λ (ss : Sites). answer t ss (suc (length (r.1.impure)))) e ∙ ap (λ (i : ℕ). answer t (sites_of facts vars (q.0)) (suc i)) n in
      let more : r.1.impure ++ answer t (r.0) (suc (length (r.1.impure))) ∷ [] ≡ map (step_site facts vars) (q.1)
      ++ answer t (sites_of facts vars (q.0)) (suc (length (q.1))) ∷ [] = cc in
      (g, more ∙ sym (map-append (step_site facts vars) (q.1) (record { term = t; args = q.0; place = length (q.1) } ∷ [])))

  applied_site : (shape : TermShape) (ty t : ℕ) (r : Sites × Log) (q : Words × List Step) → r.0 ≡ sites_of facts vars (q.0)
      → r.1.impure ≡ map (step_site facts vars) (q.1)
      → ((applied facts shape ty t r).0 ≡ site_of facts vars ((apply shape (facts.pure t) ty t q).0))
      × ((applied facts shape ty t r).1.impure ≡ map (step_site facts vars) ((apply shape (facts.pure t) ty t q).1))
  applied_site (variant_shape k) ty t r q e f = (ap (make_variant ty k) e, f)
  applied_site struct_shape ty t r q e f = (ap (make_struct ty) e, f)
  applied_site declared_shape ty t r q e f = called_site (facts.pure t) t r q e f

  mutual
    pub visited : (e : TypedExpr) (iflets : ℕ → Word) (sites : ℕ → Site) → ((j : ℕ) → sites j ≡ site_of facts vars (iflets j))
        → (steps : List Step) (log : Log) → log.impure ≡ map (step_site facts vars) steps
        → ((visit facts sites log e).0 ≡ site_of facts vars ((flat facts iflets steps e).0))
        × ((visit facts sites log e).1.impure ≡ map (step_site facts vars) ((flat facts iflets steps e).1))
    visited (built_var ty k) iflets sites h steps log f = (h k, f)
    visited (built_bool ty b) iflets sites h steps log f = (refl, f)
    visited (built_int ty n) iflets sites h steps log f = (refl, f)
    visited (built_prim ty n) iflets sites h steps log f = (refl, f)
    visited (built_term ty t es) iflets sites h steps log f =
        let r = visited_all es iflets sites h steps log f in
        applied_site (facts.shape t) ty t (visit_all facts sites log es) (flat_all facts iflets steps es) (r.0) (r.1)
    visited (built_let ty bs body) iflets sites h steps log f =
        let r = visited_lets bs iflets sites h steps log f in
        visited body ((flat_lets facts iflets steps bs).0) ((visit_lets facts sites log bs).0) (r.0) ((flat_lets facts iflets steps bs).1)
        ((visit_lets facts sites log bs).1) (r.1)

    visited_all : (es : TypedExprs) (iflets : ℕ → Word) (sites : ℕ → Site) → ((j : ℕ) → sites j ≡ site_of facts vars (iflets j))
        → (steps : List Step) (log : Log) → log.impure ≡ map (step_site facts vars) steps
        → ((visit_all facts sites log es).0 ≡ sites_of facts vars ((flat_all facts iflets steps es).0))
        × ((visit_all facts sites log es).1.impure ≡ map (step_site facts vars) ((flat_all facts iflets steps es).1))
    visited_all no_built iflets sites h steps log f = (refl, f)
    visited_all (more_built e es) iflets sites h steps log f =
        let r = visited e iflets sites h steps log f in
        let q = visited_all es iflets sites h ((flat facts iflets steps e).1) ((visit facts sites log e).1) (r.1) in
        (both (r.0) (q.0), q.1)

    visited_lets : (bs : TypedBindings) (iflets : ℕ → Word) (sites : ℕ → Site) → ((j : ℕ) → sites j ≡ site_of facts vars (iflets j))
        → (steps : List Step) (log : Log) → log.impure ≡ map (step_site facts vars) steps
        → ((j : ℕ) → (visit_lets facts sites log bs).0 j ≡ site_of facts vars ((flat_lets facts iflets steps bs).0 j))
        × ((visit_lets facts sites log bs).1.impure ≡ map (step_site facts vars) ((flat_lets facts iflets steps bs).1))
    visited_lets no_typed_bindings iflets sites h steps log f = (h, f)
    visited_lets (more_typed_bindings k ty e bs) iflets sites h steps log f =
        let r = visited e iflets sites h steps log f in
        visited_lets bs (set iflets k ((flat facts iflets steps e).0)) (set sites k ((visit facts sites log e).0))
        (set_site iflets sites k _ _ h (r.0)) ((flat facts iflets steps e).1) ((visit facts sites log e).1) (r.1)

pub visit_is_written : VisitIsWritten
visit_is_written facts rule =
    visited facts (vars_of facts rule) rule.right (λ k. var_word k) (vars_of facts rule) (λ j. refl) [] no_log refl
