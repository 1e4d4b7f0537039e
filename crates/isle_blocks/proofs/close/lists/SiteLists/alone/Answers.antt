use Rattle.std.proofs.Common.{◌≡◌, ◌++◌, ◌∷◌, [], List, Vec, Global, length, map, get_or, ℕ, ap, sym, ◌∙◌, subst, ◌+◌, arith}
use Rattle.std.proofs.lemmas.List.{length-append, length-map}
use Rattle.isle_blocks.proofs.Closure.Lists.{alone_more, items_of}
use Rattle.isle_blocks.proofs.close.lists.SiteLists.alone.Goals as goal

pub loop-site-preserved : goal.loop-site-preserved
loop-site-preserved c =
    let i = c.loop-site.invariant in let n = c.loop-site.site in
    let e : c.push.new.self.items ≡ c.loop-site.lists.items ++ c.in_ok-vec.field-0 ∷ [] = c.in_ok-push.ensures.items in
    let long : length c.push.new.self.items ≡ length c.loop-site.lists.items + 1 = ap length e ∙ length-append c.loop-site.lists.items
    (c.in_ok-vec.field-0 ∷ []) in
    record {
      fits = let f = i.fits in omega arith;
      alone = λ a low. subst (λ (l : List (Vec ℕ Global)). get_or (map items_of l) a [] ≡ a ∷ []) (sym e)
          (alone_more c.loop-site.lists.items c.in_ok-vec.field-0 n i.fits i.alone c.in_ok-vec.ensures.items a low);
    }

pub returns-clause-fits : goal.returns-clause-fits
returns-clause-fits c =
    let low = c.loop-site.auto.site-end in let high = c.loop-site-test.false in let f = c.loop-site.invariant.fits in
    length-map c.loop-site.lists.items items_of ∙ omega arith
