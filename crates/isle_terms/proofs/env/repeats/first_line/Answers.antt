use Rattle.std.proofs.Common.{lit<, length, take, sym, ap, ◌∙◌, arith}
use Rattle.std.proofs.lemmas.List.{take_all}
use Rattle.std.proofs.lemmas.Str.Pattern.{split_once_first}
use Rattle.isle_terms.proofs.env.repeats.first_line.Goals as goal

pub returns-in-Some : goal.returns-in-Some
returns-in-Some c =
    let cut = split_once_first 10 c.args.text.now c.split_once.result c.split_once.ensures.cases (lit< tt) in
    let found = rw c.in-Some.is at cut in
    found.1

pub returns-in-None : goal.returns-in-None
returns-in-None c =
    let text = c.args.text.now in
    let cut = split_once_first 10 text c.split_once.result c.split_once.ensures.cases (lit< tt) in
    let none = rw c.in-None.is at cut in
    sym (ap (λ n. take n text) none ∙ take_all (length text) text (omega arith))
