use Rattle.std.proofs.Common.{◌≡◌, ◌<◌, ◌≤◌, ◌∙◌, ℕ, length, sym, subst, arith, refl}
use Rattle.std.proofs.lemmas.Result.{err_from_is_err_and}
use Rattle.islec.proofs.PrintsLemmas.{places_all, places_pushed, places_some, places_up_to, puts_nothing}
use Rattle.islec.proofs.format.place.Goals as goal

pub loop-file-init : goal.loop-file-init
loop-file-init g c = record { put = puts_nothing _; unwritten = refl }

pub loop-file-preserved : goal.loop-file-preserved
loop-file-preserved g c =
    let within : c.loop-file.file < length c.args.files.now = grind arith in
    let inside : c.loop-file.file < length c.args.prints.now = subst (λ (n : ℕ). c.loop-file.file < n) (sym c.requires) within in
    record {
      put = places_pushed c.loop-file.file c.args.files.now c.args.prints.now within inside _ _ _ c.loop-file.invariant.put
          c.in_ok-place_file.ensures.placed;
      unwritten = c.in_ok-place_file.ensures.unwritten ∙ c.loop-file.invariant.unwritten;
    }

pub returns-in_err-place_file-clause-cut : goal.returns-in_err-place_file-clause-cut
returns-in_err-place_file-clause-cut g c =
    let within : c.loop-file.file < length c.args.files.now = grind arith in
    let inside : c.loop-file.file < length c.args.prints.now = subst (λ (n : ℕ). c.loop-file.file < n) (sym c.requires) within in
    let e = err_from_is_err_and c.from_residual.result c.from_residual.ensures.1 in
    rw (e.1, e.2)
    (λ other. places_up_to c.loop-file.file c.args.files.now c.args.prints.now within inside _ _ _ _ _ _ c.loop-file.invariant.put
    c.in_err-place_file.ensures.stays c.loop-file.invariant.unwritten c.in_err-place_file.ensures.changed (c.in_err-place_file.ensures.cut other))

pub returns-in_err-place_file-clause-memory : goal.returns-in_err-place_file-clause-memory
returns-in_err-place_file-clause-memory g c =
    let within : c.loop-file.file < length c.args.files.now = grind arith in
    let inside : c.loop-file.file < length c.args.prints.now = subst (λ (n : ℕ). c.loop-file.file < n) (sym c.requires) within in
    let e = err_from_is_err_and c.from_residual.result c.from_residual.ensures.1 in
    rw (e.1, e.2) (λ out. places_some c.loop-file.file c.args.files.now c.args.prints.now within inside _ _ _ c.loop-file.invariant.put
    c.in_err-place_file.ensures.stays)

pub returns-in_err-place_file-clause-silent : goal.returns-in_err-place_file-clause-silent
returns-in_err-place_file-clause-silent g c =
    let e = err_from_is_err_and c.from_residual.result c.from_residual.ensures.1 in
    rw (e.1, e.2) (λ out. c.in_err-place_file.ensures.silent out ∙ c.loop-file.invariant.unwritten)

pub returns-clause-placed : goal.returns-clause-placed
returns-clause-placed g c =
    let most : length c.args.files.now ≤ c.loop-file.file = grind arith in
    let also : length c.args.prints.now ≤ c.loop-file.file = subst (λ (n : ℕ). n ≤ c.loop-file.file) (sym c.requires) most in
    places_all c.loop-file.file c.args.files.now c.args.prints.now _ _ most also c.loop-file.invariant.put

pub returns-clause-unwritten : goal.returns-clause-unwritten
returns-clause-unwritten g c = c.loop-file.invariant.unwritten
