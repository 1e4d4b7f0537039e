-- A table that is full has no room for one more site.
use Rattle.std.proofs.Common.{◌≡◌, ◌<◌, ◌≤◌, ◌⊎◌, inl, inr, ℕ, List, length, refl, sym, ◌∙◌, subst, arith}
use Rattle.std.proofs.lemmas.Bool.{cases_lt}
use Rattle.isle_types.specs.declared.ids.Sym.{Sym}
use Rattle.isle_meaning.specs.Sites.{Site}
use Rattle.isle_meaning.specs.Numbered.{Row, At}
use Rattle.isle_meaning.proofs.Matching.Numbering.{one_site}
use Rattle.isle_blocks.specs.declared.binding.Binding.{Binding}
use Rattle.isle_blocks.specs.Rows.{IsInjective, rows_of}
use Rattle.isle_blocks.specs.Tables.{IsTable}
use Rattle.isle_blocks.specs.Closure.{Stands}
use Rattle.isle_blocks.proofs.Closure.Trees.{stands, one_number}
use Rattle.isle_blocks.proofs.Building.Tables.{at_within}
use Rattle.isle_blocks.proofs.Pigeonhole.{too_few_places}

-- No table that isn't longer has all sites of a table and one more.
module _ (name : Sym → List ℕ) (injective : IsInjective name) (table : List Binding) (ok : IsTable table) (last : Site)
    (missing : (k : ℕ) → At (rows_of name table) last k → ⊥) (rows : List Row) (fits : length rows ≤ length table)
    (has_all : (k : ℕ) (s : Site) → At (rows_of name table) s k → Stands rows s) (has_last : Stands rows last) where
  -- the sites of the table, and behind them one more
  abbrev IsListed : ℕ → Site → Type 0
  IsListed i s = ((i < length table) × At (rows_of name table) s i) ⊎ ((i ≡ length table) × (s ≡ last))

  placed : (x : Site) → Stands rows x → (k : ℕ) × (k < length table) × At rows x k
  placed x (k, p) = (k, let l = at_within rows x k p in omega arith, p)

  pub no_more : ⊥
  no_more =
      too_few_places (length table) (λ j k. (x : Site) × IsListed j x × At rows x k)
      (λ j h. elim (cases_lt j (length table)) [
        | inl less ↦
            let (x, p) = stands name table ok j less in
            let (k, l, q) = placed x (has_all j x p) in (k, l, (x, inl (less, p), q))
        | inr more ↦ let (k, l, q) = placed last has_last in (k, l, (last, inr (omega arith, refl), q))
      ])
      (λ j l k hj hl (x, px, qx) (y, py, qy). let same_xy : x ≡ y = one_site rows x y k qx qy in elim px [
        | inl (jl, pj) ↦ elim py [
          | inl (ll, pl) ↦ one_number name table injective ok y j l (subst (λ (z : Site). At (rows_of name table) z j) same_xy pj) pl
          | inr (e, is_last) ↦ absurd (missing j (subst (λ (z : Site). At (rows_of name table) z j) (same_xy ∙ is_last) pj))
        ]
        | inr (e, is_last) ↦ elim py [
          | inl (ll, pl) ↦ absurd (missing l (subst (λ (z : Site). At (rows_of name table) z l) (sym same_xy ∙ is_last) pl))
          | inr (e', is_last') ↦ omega arith
        ]
      ])
