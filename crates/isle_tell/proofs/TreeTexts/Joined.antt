-- Texts of items in turn, with one more behind them.
use Rattle.std.proofs.Common.{◌≡◌, ◌<◌, ◌+◌, ◌++◌, ◌∙◌, ◌∷◌, [], ℕ, zero, suc, List, Option, refl, sym, ap, subst, subst₂, length, take, get_or, arith, append_assoc, codes}
use Rattle.std.proofs.lemmas.List.{append-nil, length-take-le}
use Rattle.std.proofs.lemmas.List.Folds.{flat_map-map}
use Rattle.std.specs.Fmt.{decimal}
use Rattle.std.specs.List.{flat_map}
use Rattle.std.specs.Option.{option_map}
use Rattle.isle_types.proofs.DefinitionTurns.{take_here}
use Rattle.isle_blocks.specs.declared.binding.Binding.{Binding}
use Rattle.isle_blocks.specs.declared.ids.BindingId.{BindingId}
use Rattle.isle_blocks.specs.Rows.{numbers_of}
use Rattle.isle_blocks.specs.Trees.Nodes.{fields_of}
use Rattle.isle_program.specs.declared.program.Program.{Program}
use Rattle.isle_tell.specs.TreeTexts.Names.{AreTexts, field_text, fields_text, indent, more_texts, no_texts, numbers_text}
use Rattle.isle_tell.specs.Inside.TreeTexts.Parts.{behind_space, field_behind_space, field_shown}
use Rattle.isle_tell.specs.TreeTexts.Sites.{site_line, sites_text}

-- the text of one more item
texts_more : {X : Type 0} (Is : X → List ℕ → Type 0) (xs : List X) (x : X) (texts text : List ℕ) → AreTexts Is xs texts → Is x text
    → AreTexts Is (xs ++ x ∷ []) (texts ++ text)
texts_more Is [] x _ text no_texts is = subst (AreTexts Is (x ∷ [])) (append-nil text) (more_texts is no_texts)
texts_more Is (first ∷ xs) x _ text (more_texts {text = t} {texts = ts} one rest) is =
    subst (AreTexts Is (first ∷ (xs ++ x ∷ []))) (sym (append_assoc t ts text)) (more_texts one (texts_more Is xs x ts text rest is))

-- the texts of the items before a place, and that of the one there
pub texts_next : {X : Type 0} (Is : X → List ℕ → Type 0) (xs : List X) (i : ℕ) (x : X) → i < length xs → x ≡ get_or xs i x → (old text new : List ℕ)
    → AreTexts Is (take i xs) old → Is x text → new ≡ old ++ text → AreTexts Is (take (i + 1) xs) new
texts_next Is xs i x low at old text new before is written =
    subst₂ (AreTexts Is) (sym (take_here xs i x low at)) (sym written) (texts_more Is (take i xs) x old text before is)

-- the line of one more site
sites_more : (program : Program) (first : ℕ) (sites : List Binding) (site : Binding)
    → sites_text program first (sites ++ site ∷ []) ≡ sites_text program first sites ++ site_line program (first + length sites) site
sites_more program first [] site =
    let n : first ≡ first + 0 = omega arith in
    append-nil (site_line program first site) ∙ ap (λ k. site_line program k site) n
sites_more program first (one ∷ sites) site =
    let n : suc first + length sites ≡ first + suc (length sites) = omega arith in
    ap (λ l. site_line program first one ++ l) (sites_more program (suc first) sites site)
    ∙ sym (append_assoc (site_line program first one) (sites_text program (suc first) sites) (site_line program (suc first + length sites) site))
    ∙ ap (λ k. (site_line program first one ++ sites_text program (suc first) sites) ++ site_line program k site) n

-- the lines of the sites before a place, and that of the one there
pub sites_next : (program : Program) (sites : List Binding) (i : ℕ) (site : Binding) → i < length sites → site ≡ get_or sites i site
    → (old new : List ℕ)
    → old ≡ sites_text program 0 (take i sites) → new ≡ old ++ site_line program i site → new ≡ sites_text program 0 (take (i + 1) sites)
sites_next program sites i site low at old new before written =
    let n : i ≡ 0 + length (take i sites) = let k = length-take-le i sites (omega (arith, low)) in omega (arith, k) in
    written ∙ ap (λ l. l ++ site_line program i site) before
    ∙ ap (λ k. sites_text program 0 (take i sites) ++ site_line program k site) n
    ∙ sym (sites_more program 0 (take i sites) site)
    ∙ ap (sites_text program 0) (sym (take_here sites i site low at))

-- one more level
pub indent_more : (level : ℕ) → indent level ++ codes "  " ≡ indent (suc level)
indent_more zero = refl
indent_more (suc level) = append_assoc (codes "  ") (indent level) (codes "  ") ∙ ap (λ l. codes "  " ++ l) (indent_more level)

-- numbers of sites, the first and those behind it
pub numbers_joined : (first : BindingId) (others : List BindingId)
    → decimal first.0 ++ flat_map behind_space others ≡ numbers_text (numbers_of (first ∷ others))
numbers_joined first others =
    ap (λ l. decimal first.0 ++ l) (sym (flat_map-map (λ (n : ℕ). codes " " ++ decimal n) (λ (id : BindingId). id.0) others))

-- fields, the first and those behind it
pub fields_joined : (first : Option BindingId) (others : List (Option BindingId))
    → field_shown first ++ flat_map field_behind_space others ≡ fields_text (fields_of (first ∷ others))
fields_joined first others =
    ap (λ l. field_shown first ++ l)
    (sym (flat_map-map (λ (f : Option ℕ). codes " " ++ field_text f) (option_map (λ (id : BindingId). id.0)) others))

-- the lines of a rule, piece by piece
pub rule_lines : (a a2 b b2 c c2 d d2 e e2 : List ℕ) (n n2 : ℕ) → a ≡ a2 → b ≡ b2 → c ≡ c2 → d ≡ d2 → e ≡ e2 → n ≡ n2
    → a ++ (b ++ (c ++ (d ++ (e ++ (codes "    result " ++ (decimal n ++ codes "\n"))))))
    ≡ a2 ++ (b2 ++ (c2 ++ (d2 ++ (e2 ++ (codes "    result " ++ (decimal n2 ++ codes "\n"))))))
rule_lines a a2 b b2 c c2 d d2 e e2 n n2 p q r s t u =
    λ i. p i ++ (q i ++ (r i ++ (s i ++ (t i ++ (codes "    result " ++ (decimal (u i) ++ codes "\n"))))))

-- the line of what a step binds, piece by piece
pub bind_lines : (a a2 s s2 : List ℕ) → a ≡ a2 → s ≡ s2 → a ++ (codes "step bind [" ++ (s ++ codes "]\n")) ≡ a2 ++
    (codes "step bind [" ++ (s2 ++ codes "]\n"))
bind_lines a a2 s s2 p q = λ i. p i ++ (codes "step bind [" ++ (q i ++ codes "]\n"))

-- the lines of a rule set, piece by piece
pub set_lines : (n n2 : ℕ) (a a2 b b2 c d d2 : List ℕ) → n ≡ n2 → a ≡ a2 → b ≡ b2 → d ≡ d2
    → codes "term " ++ (decimal n ++ (codes " " ++ (a ++ (codes "\n  sites\n" ++ (b ++ (c ++ (codes "  block\n" ++ d)))))))
    ≡ codes "term " ++ (decimal n2 ++ (codes " " ++ (a2 ++ (codes "\n  sites\n" ++ (b2 ++ (c ++ (codes "  block\n" ++ d2)))))))
set_lines n n2 a a2 b b2 c d d2 p q r s =
    λ i. codes "term " ++ (decimal (p i) ++ (codes " " ++ (q i ++ (codes "\n  sites\n" ++ (r i ++ (c ++ (codes "  block\n" ++ s i)))))))
