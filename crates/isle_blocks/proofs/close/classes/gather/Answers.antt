use Rattle.std.proofs.Common.{◌≡◌, ◌<◌, ap, refl, sym, ◌∙◌, get_or, length, vec_len, List, Vec, Global, ◌+◌, None, Some, Option, subst, arith}
use Rattle.std.specs.Prelude.{Contains}
use Rattle.std.proofs.lemmas.List.Elements.{Contains-get_or}
use Rattle.std.proofs.lemmas.Bool.{false≢true}
use Rattle.std.proofs.Math.ListN.{set}
use Rattle.isle_blocks.specs.Inside.ClosureStates.{HasOwn}
use Rattle.isle_blocks.specs.declared.ids.BindingId.{BindingId}
use Rattle.isle_blocks.specs.declared.constraint.Constraint.{Constraint}
use Rattle.isle_blocks.specs.declared.constraint.Constraint.TheVariants.{Variant}
use Rattle.isle_blocks.proofs.Closure.Pairs.{own_read, IsRead, read_again, read_first}
use Rattle.isle_blocks.proofs.close.classes.gather.Goals as goal
use Rattle.isle_blocks.proofs.close.classes.gather.Goals.{in-Some+else-not-same, in-None}

abbrev first : BindingId × Constraint
first = (record { 0 = 0 }, Variant (record { 0 = 0 }) (record { 0 = 0 }) (record { 0 = 0 }))

pub index-requires : goal.index-requires
index-requires c =
    let p = get_or c.args.has.now c.loop-a.a-index first in
    let h : p.0.0 < c.args.count = c.requires p.0 p.1 (Contains-get_or c.args.has.now c.loop-a.a-index first c.loop-a-test.true) in
    omega arith

pub index_mut-requires : goal.index_mut-requires
index_mut-requires c =
    let p = get_or c.args.has.now c.loop-a.a-index first in
    let h : p.0.0 < c.args.count = c.requires p.0 p.1 (Contains-get_or c.args.has.now c.loop-a.a-index first c.loop-a-test.true) in
    omega arith

pub returns-then-not-same : goal.returns-then-not-same
returns-then-not-same c =
    let p = get_or c.args.has.now c.loop-a.a-index first in
    let here : Contains c.args.has.now p = Contains-get_or c.args.has.now c.loop-a.a-index first c.loop-a-test.true in
    let h : p.0.0 < c.args.count = c.requires p.0 p.1 here in
    let l : p.0.0 < length c.loop-a.own.items = let o = c.loop-a.own.ok.0 in omega arith in
    let e : HasOwn c.loop-a.own.items p.0.0 (c.in-Some.d) = own_read c.loop-a.own.items p.0.0 c.index.result.now l c.index.ensures ∙ c.in-Some.is in
    record {
      site = p.0;
      one = p.1;
      other = c.in-Some.d;
      has_one = here;
      has_other = let (id, same, inside) = c.loop-a.invariant.demanded p.0.0 c.in-Some.d e in
          subst (λ (z : BindingId). Contains c.args.has.now (z, c.in-Some.d)) (λ i. record { 0 = same i }) inside;
      differ = λ s. let t = c.same.ensures.1 s in false≢true (sym c.if-not-same.true ∙ t);
    }

pub loop-a-preserved : goal.loop-a-preserved
loop-a-preserved c =
    let p = get_or c.args.has.now c.loop-a.a-index first in
    let here : Contains c.args.has.now p = Contains-get_or c.args.has.now c.loop-a.a-index first c.loop-a-test.true in
    let h : p.0.0 < c.args.count = c.requires p.0 p.1 here in
    let l : p.0.0 < length c.loop-a.own.items = let o = c.loop-a.own.ok.0 in omega arith in
    let before : IsRead c.args.has.now c.loop-a.own.items c.loop-a.a-index =
    record { demanded = c.loop-a.invariant.demanded; all = c.loop-a.invariant.all } in
    elim c.match-index.branch [
      | in-Some+else-not-same w ↦
          let e : HasOwn c.loop-a.own.items p.0.0 (w.in-Some.d) = own_read c.loop-a.own.items p.0.0 c.index.result.now l c.index.ensures
          ∙ w.in-Some.is in
          let s : p.1 ≡ w.in-Some.d = w.if-not-same.ensures.0 refl in
          let f : HasOwn c.loop-a.own.items p.0.0 p.1 = e ∙ ap Some (sym s) in
          let r = read_again c.args.has.now c.loop-a.a-index first c.loop-a-test.true c.loop-a.own.items before f in
          let q : c.match-index.own.items ≡ c.loop-a.own.items = ap (λ (v : Vec (Option Constraint) Global). v.items) w.own-is in
          let r' = subst (λ (own : List (Option Constraint)). IsRead c.args.has.now own (c.loop-a.a-index + 1)) (sym q) r in
          let fits : vec_len c.match-index.own ≡ c.args.count = ap (λ (v : Vec (Option Constraint) Global). vec_len v) w.own-is
          ∙ c.loop-a.invariant.fits in
          record { fits = fits; demanded = r'.demanded; all = r'.all }
      | in-None w ↦
          let e : get_or c.loop-a.own.items p.0.0 None ≡ None = own_read c.loop-a.own.items p.0.0 c.index.result.now l c.index.ensures
          ∙ w.in-None.is in
          let r = read_first c.args.has.now c.loop-a.a-index first c.loop-a-test.true c.loop-a.own.items before l e in
          let q : c.match-index.own.items ≡ set c.loop-a.own.items p.0.0 (Some p.1) = ap (λ (v : Vec (Option Constraint) Global). v.items) w.own-is in
          let r' = subst (λ (own : List (Option Constraint)). IsRead c.args.has.now own (c.loop-a.a-index + 1)) (sym q) r in
          let fits : vec_len c.match-index.own ≡ c.args.count = ap (λ (v : Vec (Option Constraint) Global). vec_len v) w.own-is
          ∙ c.loop-a.invariant.fits in
          record { fits = fits; demanded = r'.demanded; all = r'.all }
    ]
