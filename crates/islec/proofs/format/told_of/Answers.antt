use Rattle.std.proofs.Common.{◌≡◌, ◌<◌, ◌≤◌, ℕ, length, sym, subst, arith}
use Rattle.islec.proofs.PrintsLemmas.{tells_all, tells_pushed}
use Rattle.islec.proofs.format.told_of.Goals as goal

pub loop-file-preserved : goal.loop-file-preserved
loop-file-preserved c =
    let within : c.loop-file.file < length c.args.files.now = grind arith in
    let inside : c.loop-file.file < length c.args.prints.now = subst (λ (n : ℕ). c.loop-file.file < n) (sym c.requires) within in
    tells_pushed c.args.output c.loop-file.file c.args.files.now c.args.prints.now _ _ within inside c.loop-file.invariant
    c.in_ok-push_file.ensures

pub returns : goal.returns
returns c =
    let most : length c.args.files.now ≤ c.loop-file.file = grind arith in
    let also : length c.args.prints.now ≤ c.loop-file.file = subst (λ (n : ℕ). n ≤ c.loop-file.file) (sym c.requires) most in
    tells_all c.args.output c.loop-file.file c.args.files.now c.args.prints.now _ most also c.loop-file.invariant
