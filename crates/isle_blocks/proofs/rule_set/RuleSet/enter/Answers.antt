use Rattle.std.proofs.Common.{◌∙◌, ℕ, List, Bool, false, ap, arith, get_or, length, refl, subst, sym}
use Rattle.std.proofs.lemmas.List.{take_all}
use Rattle.isle_trees.specs.Rules.{Elem}
use Rattle.isle_trees.proofs.Building.Enter.{Entering, entering_none, entering_more, entered}
use Rattle.isle_blocks.specs.Rows.{numbers_of}
use Rattle.isle_blocks.specs.Inside.Trees.Builder.{rules_in, scope_of}
use Rattle.isle_blocks.specs.Trees.View.{id_of}
use Rattle.isle_blocks.proofs.Trees.Binding.{number_elem, number_get, numbers_length}
use Rattle.isle_blocks.proofs.Trees.Fields.{tests_apart, bound_at}
use Rattle.isle_blocks.proofs.Trees.Known.{fit_same, passed_fit, passed_path, same_known_trans}
use Rattle.isle_blocks.proofs.rule_set.RuleSet.enter.Goals as goal

pub loop-made-init : goal.loop-made-init
loop-made-init c = record {
  entering = λ w e. entering_none (rules_in c.args.self.now) c.args.site.0 w (scope_of c.args.self.now c.pass.new.self);
  same = record { passed = refl; labels = refl; emitted = refl };
}

pub bind_made-requires-clause-site : goal.bind_made-requires-clause-site
bind_made-requires-clause-site c =
    let items = c.made_from-made-items.result.now in
    let P : List ℕ → Type 0 = λ l. Elem (get_or items c.loop-made.made-index (id_of 0)).0 l in
    c.requires.index.is.made_within c.args.site.0 _
    (subst P c.made_from-made-items.ensures (number_elem items c.loop-made.made-index (id_of 0) c.loop-made-test.true))

pub bind_made-requires-clause-size : goal.bind_made-requires-clause-size
bind_made-requires-clause-size c = c.loop-made.invariant.same.emitted ∙ ap length c.in_ok-pass.ensures.others.1 ∙ c.requires.fit.emitted

pub loop-made-preserved : goal.loop-made-preserved
loop-made-preserved c =
    let set = c.args.self.now in
    let items = c.made_from-made-items.result.now in
    let i = c.loop-made.made-index in
    let n = numbers_length items in
    record {
      entering = λ w e. entering_more (rules_in set) c.args.site.0 w (numbers_of items) i (scope_of set c.pass.new.self)
          (scope_of set c.loop-made.known)
          (scope_of set c.bind_made.new.known) (let l = c.loop-made-test.true in omega arith)
          (bound_at (rules_in set) c.args.site.0 w _ _ _ _ (number_get items i) (c.in_ok-bind_made.ensures.scope w e))
          (c.loop-made.invariant.entering w e);
      same = same_known_trans _ _ _ c.loop-made.invariant.same c.in_ok-bind_made.ensures.known;
    }

pub returns-clause-scope : goal.returns-clause-scope
returns-clause-scope c w e =
    let set = c.args.self.now in
    let R = rules_in set in
    let old = c.args.known.now in
    let items = c.made_from-made-items.result.now in
    let s = c.args.site.0 in
    let n = numbers_length items in
    let fits = c.requires.fit.passed in
    let within = c.requires.site in
    let P : List ℕ → Type 0 = λ l. Entering R s w l (scope_of set c.pass.new.self) (scope_of set c.loop-made.known) in
    entered R s w (numbers_of items) (scope_of set old) (scope_of set c.pass.new.self) (scope_of set c.loop-made.known) (tests_apart set)
    (λ x m f g. let Q : List ℕ → Type 0 = λ l. Elem x l in subst Q (sym c.made_from-made-items.ensures) (c.requires.index.is.made_from s x m f g))
    (passed_path set old c.pass.new.self s c.args.rule w (omega arith) c.in_ok-pass.ensures.passed c.in_ok-pass.ensures.others.0 e)
    (λ y. ap (λ (l : List Bool). get_or l y false) c.in_ok-pass.ensures.others.1)
    (subst P (take_all c.loop-made.made-index (numbers_of items) (let l = c.loop-made-test.false in omega arith))
    (c.loop-made.invariant.entering w e))

pub returns-clause-fit : goal.returns-clause-fit
returns-clause-fit c =
    let set = c.args.self.now in
    fit_same set (length set.sites) c.pass.new.self c.loop-made.known
    (passed_fit set (length set.sites) c.args.known.now c.pass.new.self c.args.site.0 c.args.rule c.requires.fit c.requires.site
    c.in_ok-pass.ensures.passed c.in_ok-pass.ensures.others.0 c.in_ok-pass.ensures.others.1 c.requires.wants)
    c.loop-made.invariant.same
