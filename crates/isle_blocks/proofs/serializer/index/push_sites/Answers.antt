use Rattle.std.proofs.Common.{◌≡◌, ◌≤◌, ◌++◌, ◌∷◌, [], ℕ, List, length, get_or, ap, ◌∙◌, subst, take}
use Rattle.std.proofs.Math.ListN.{length-map}
use Rattle.std.proofs.lemmas.List.{map-append, take_all}
use Rattle.isle_trees.specs.Ranking.{AllBelow}
use Rattle.isle_blocks.specs.declared.ids.BindingId.{BindingId}
use Rattle.isle_blocks.specs.Rows.{numbers_of}
use Rattle.isle_blocks.proofs.Trees.Indexed.{sites_more, low_more}
use Rattle.isle_blocks.proofs.serializer.index.push_sites.Goals as goal

pub loop-site-preserved : goal.loop-site-preserved
loop-site-preserved c =
    let sites = c.args.sites.now in
    let at = c.loop-site.site-index in
    let site : BindingId = get_or sites at (record { 0 = 0 }) in
    let step : numbers_of c.push_site.new.all.items ≡ numbers_of c.loop-site.all.items ++ site.0 ∷ [] =
    ap numbers_of c.in_ok-push_site.ensures.added ∙ map-append (λ (id : BindingId). id.0) c.loop-site.all.items (site ∷ []) in
    record {
      added = sites_more sites at (numbers_of c.args.all.now.items) (numbers_of c.loop-site.all.items) (numbers_of c.push_site.new.all.items)
          c.loop-site-test.true c.loop-site.invariant.added step;
      low = low_more sites at 65536 c.loop-site-test.true c.loop-site.invariant.low c.push_site.ensures.low;
    }

pub returns : goal.returns
returns c =
    let sites = c.args.sites.now in
    let end : length (numbers_of sites) ≤ c.loop-site.site-index = simp length-map c.loop-site-test.false in
    let all : take c.loop-site.site-index (numbers_of sites) ≡ numbers_of sites = take_all c.loop-site.site-index (numbers_of sites) end in
    let P : List ℕ → Type 0 = λ l. AllBelow l 65536 in
    record {
      added = c.loop-site.invariant.added ∙ ap (λ (l : List ℕ). numbers_of c.args.all.now.items ++ l) all;
      low = subst P all c.loop-site.invariant.low;
    }
