-- What sites are of others, level by level.
use Rattle.std.proofs.Common.{◌≡◌, ◌∙◌, ◌++◌, [], ℕ, zero, suc, List, Option, Some, None, refl, ap, codes}
use Rattle.std.specs.Prelude.{slice_get}
use Rattle.std.specs.Option.{option_map_or}
use Rattle.isle_types.specs.declared.ids.TypeId.{TypeId}
use Rattle.isle_blocks.specs.declared.binding.Binding.{Binding}
use Rattle.isle_blocks.specs.declared.ids.BindingId.{BindingId}
use Rattle.isle_program.specs.declared.program.Program.{Program}
use Rattle.isle_tell.specs.TreeTexts.DotSites.{link_words, source_of, way_end, way_words}

module _ (program : Program) (types : List (Option TypeId)) (all : List Binding) (levels : ℕ) (site : BindingId) where
  abbrev found_words : Option Binding → List ℕ
  found_words o = option_map_or (λ (found : Binding).
      option_map_or (λ (source : BindingId). link_words program types found ++ (codes " of " ++ way_words program types all levels source))
      (source_of found) []) o []

  abbrev found_end : Option Binding → Option Binding
  found_end o = option_map_or (λ (found : Binding). option_map_or (λ (source : BindingId). way_end all levels source) (source_of found) (Some found))
      o None

  abbrev source_words : Binding → Option BindingId → List ℕ
  source_words found o =
      option_map_or (λ (source : BindingId). link_words program types found ++ (codes " of " ++ way_words program types all levels source)) o []

  abbrev source_end : Binding → Option BindingId → Option Binding
  source_end found o = option_map_or (λ (source : BindingId). way_end all levels source) o (Some found)

  step_words : way_words program types all (suc levels) site ≡ found_words (slice_get all site.0)
  unfolding way_words
  step_words = refl

  step_end : way_end all (suc levels) site ≡ found_end (slice_get all site.0)
  unfolding way_end
  step_end = refl

  -- there is no such site
  pub missing_words : slice_get all site.0 ≡ None → way_words program types all (suc levels) site ≡ []
  missing_words none = step_words ∙ ap found_words none

  pub missing_end : slice_get all site.0 ≡ None → way_end all (suc levels) site ≡ None
  missing_end none = step_end ∙ ap found_end none

  module _ (found : Binding) (is : slice_get all site.0 ≡ Some found) where
    -- a site that comes from no one other
    pub last_words : source_of found ≡ None → way_words program types all (suc levels) site ≡ []
    last_words none = step_words ∙ ap found_words is ∙ ap (source_words found) none

    pub last_end : source_of found ≡ None → way_end all (suc levels) site ≡ Some found
    last_end none = step_end ∙ ap found_end is ∙ ap (source_end found) none

    -- a site that comes from another
    pub next_words : (source : BindingId) → source_of found ≡ Some source
        → way_words program types all (suc levels) site ≡ link_words program types found ++
        (codes " of " ++ way_words program types all levels source)
    next_words source some = step_words ∙ ap found_words is ∙ ap (source_words found) some

    pub next_end : (source : BindingId) → source_of found ≡ Some source → way_end all (suc levels) site ≡ way_end all levels source
    next_end source some = step_end ∙ ap found_end is ∙ ap (source_end found) some

-- no level is left
pub spent_words : (program : Program) (types : List (Option TypeId)) (all : List Binding) (site : BindingId)
    → way_words program types all zero site ≡ []
unfolding way_words
spent_words program types all site = refl

pub spent_end : (all : List Binding) (site : BindingId) → way_end all zero site ≡ None
unfolding way_end
spent_end all site = refl
