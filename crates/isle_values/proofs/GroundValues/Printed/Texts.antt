-- A value's text has the value's tokens, where each of its parts is one.
use Rattle.std.proofs.Common.{◌≡◌, ◌++◌, ℕ, inl, inr, List, [], ◌∷◌, codes, map, Bool, true, false, refl, sym, ap, subst, ◌∙◌, append_assoc, eqb-true}
use Rattle.std.proofs.lemmas.Bool.{cases_Bool}
use Rattle.std.proofs.lemmas.List.{append-nil, map-append}
use Rattle.std.specs.Prelude.{◌==◌}
use Rattle.std.specs.Fmt.{decimal, signed_decimal}
use Rattle.isle_syntax.specs.declared.lexer.Token.{Token}
use Rattle.isle_syntax.specs.declared.lexer.Token.TheVariants.{LParen, RParen, At, Symbol, Int, Big}
use Rattle.isle_ast.specs.declared.pos.Pos.{Pos}
use Rattle.isle_syntax.specs.declared.gap.Lead.{Lead}
use Rattle.isle_syntax.specs.Tokens.PlacedTokens.{Placed, placed_at}
use Rattle.isle_syntax.specs.Tokens.Gaps.{lead_of, begins_semicolon, BeginsNoGap, IsGap, none, space}
use Rattle.isle_syntax.specs.Tokens.TokensOf.{IsToken, opening, closing, at_sign, integer, word, pos_of_rest, TokensOf, ended, stopped, token}
use Rattle.isle_syntax.specs.Tokens.RemainingTokens.{Source}
use Rattle.isle_rules.specs.Values.{ValueTree, ValueTrees, bool_tree, int_tree, big_tree, const_tree, opaque_tree, data_tree, no_trees, more_trees}
use Rattle.isle_values.specs.Values.TextTokens.{bare, alone, AreTokensOf}
use Rattle.isle_values.specs.Values.Text.{value_text, fields_text}
use Rattle.isle_values.specs.Values.Tokens.{tokens_of, tokens_all}
use Rattle.isle_values.proofs.GroundValues.Printed.Ends.{Ends}
use Rattle.isle_values.proofs.GroundValues.Printed.Symbols.{symbol_before}

-- ---- white space and tokens before others

before : {source : Source} {text blank : List ℕ} {left : List Placed} {end : ℕ} {clean : Bool}
    → ((rest : List ℕ) → IsGap text rest → IsGap blank rest) → TokensOf source text left end clean
    → TokensOf source blank left end clean
before gap (ended g) = ended (gap _ g)
before gap (stopped g some none_begins) = stopped (gap _ g) some none_begins
before gap (token g t more) = token (gap _ g) t more

behind_space : {source : Source} {text : List ℕ} {left : List Placed} {end : ℕ} {clean : Bool} → TokensOf source text left end clean
    → TokensOf source (32 ∷ text) left end clean
behind_space {text = text} t = before (λ rest g. space {text = 32 ∷ text} refl g) t

-- no gap begins where a token does
no_gap : {text more : List ℕ} {t : Token} → IsToken text t more → BeginsNoGap (lead_of text) text
no_gap (opening {text = text} e) = subst (λ k. BeginsNoGap k text) (sym e) tt
no_gap (closing {text = text} e) = subst (λ k. BeginsNoGap k text) (sym e) tt
no_gap (at_sign {text = text} e) = subst (λ k. BeginsNoGap k text) (sym e) tt
no_gap (integer {text = text} e i) = subst (λ k. BeginsNoGap k text) (sym e) tt
no_gap (word {text = text} e) = subst (λ k. BeginsNoGap k text) (sym e) tt

token_first : {source : Source} {text more : List ℕ} {t : Token} {left : List Placed} {end : ℕ} {clean : Bool} → IsToken text t more
    → TokensOf source more left end clean
    → TokensOf source text (placed_at (pos_of_rest source text) t ∷ left) end clean
token_first i rest = token (none (no_gap i)) i rest

semicolon_gap : (b : ℕ) (bs : List ℕ) → b ≡ 59 → ¬ (BeginsNoGap (lead_of (b ∷ bs)) (b ∷ bs))
semicolon_gap b bs e h = subst (λ c. BeginsNoGap (lead_of (c ∷ bs)) (c ∷ bs)) e h

no_semicolon : (text : List ℕ) → BeginsNoGap (lead_of text) text → begins_semicolon text ≡ false
no_semicolon [] h = refl
no_semicolon (b ∷ bs) h = elim (cases_Bool (b == 59)) [ inl e ↦ absurd (semicolon_gap b bs (eqb-true b 59 e) h) | inr e ↦ e ]

-- `(` is a token where what follows it doesn't begin with `;`
opens : (rest : List ℕ) → begins_semicolon rest ≡ false → lead_of (40 ∷ rest) ≡ Lead.Opening
opens rest h = rw h refl

-- ---- the parts of a value

-- a text is this token before what ends it
abbrev pub IsAtom : List ℕ → Token → Type 0
IsAtom text t = (rest : List ℕ) → Ends rest → IsToken (text ++ rest) t rest

-- each part of a value is one token
abbrev mutual
  pub HasAtoms : ValueTree → Type 0
  HasAtoms (bool_tree b) = Unit {0}
  HasAtoms (int_tree n) = IsAtom (signed_decimal n) (Int n)
  HasAtoms (big_tree n) = IsAtom (decimal n) (Big n)
  HasAtoms (const_tree name) = IsAtom (36 ∷ name) (Symbol (36 ∷ name))
  HasAtoms (opaque_tree n) = IsAtom (118 ∷ decimal n) (Symbol (118 ∷ decimal n))
  HasAtoms (data_tree name fields) = IsAtom name (Symbol name) × HaveAtoms fields

  pub HaveAtoms : ValueTrees → Type 0
  HaveAtoms no_trees = Unit {0}
  HaveAtoms (more_trees v vs) = HasAtoms v × HaveAtoms vs

bare_placed : (p : Pos) (t : Token) → bare (placed_at p t) ≡ t
bare_placed p LParen = refl
bare_placed p RParen = refl
bare_placed p At = refl
bare_placed p (Symbol s) = refl
bare_placed p (Int n) = refl
bare_placed p (Big n) = refl

module _ (source : Source) where
  -- the tokens of a rest of a text begin with these, before the tokens of what follows
  record HasTokens (tokens : List Token) (text : List ℕ) (left : List Placed) (end : ℕ) (clean : Bool) : Type 0 where
    placed : List Placed
    are : map bare placed ≡ tokens
    laid : TokensOf source text (placed ++ left) end clean

  with_text : {tokens : List Token} {text other : List ℕ} {left : List Placed} {end : ℕ} {clean : Bool} → text ≡ other
      → HasTokens tokens text left end clean → HasTokens tokens other left end clean
  with_text {tokens = tokens} {left = left} {end = end} {clean = clean} e h = subst (λ t. HasTokens tokens t left end clean) e h

  module _ {rest : List ℕ} {left : List Placed} {end : ℕ} {clean : Bool} where
    atom_first : (text : List ℕ) (t : Token) → IsAtom text t → Ends rest → TokensOf source rest left end clean
        → HasTokens (t ∷ []) (text ++ rest) left end clean
    atom_first text t atom ends tokens = record {
      placed = placed_at (pos_of_rest source (text ++ rest)) t ∷ [];
      are = ap (λ u. u ∷ []) (bare_placed (pos_of_rest source (text ++ rest)) t);
      laid = token_first (atom rest ends) tokens;
    }

  truth_atom : (b : Bool) → IsAtom (value_text (bool_tree b)) (Symbol (value_text (bool_tree b)))
  truth_atom true rest ends = symbol_before (codes "true") rest refl ends
  truth_atom false rest ends = symbol_before (codes "false") rest refl ends

  fields_end : (vs : ValueTrees) (rest : List ℕ) → Ends rest → Ends (fields_text vs ++ rest)
  fields_end no_trees rest ends = ends
  fields_end (more_trees v vs) rest ends = inl refl

  data_text : (name fields rest : List ℕ) → 40 ∷ (name ++ (fields ++ (41 ∷ rest))) ≡ (codes "(" ++ (name ++ (fields ++ codes ")"))) ++ rest
  data_text name fields rest =
      ap (λ l. 40 ∷ l) (ap (λ l. name ++ l) (sym (append_assoc fields (41 ∷ []) rest)) ∙ sym (append_assoc name (fields ++ 41 ∷ []) rest))

  -- the parentheses, the name and the fields of data
  data_first : (name rest : List ℕ) (vs : ValueTrees) (left : List Placed) (end : ℕ) (clean : Bool) → IsAtom name (Symbol name)
      → TokensOf source rest left end clean
      → ((inner : List Placed) → TokensOf source (41 ∷ rest) inner end clean
      → HasTokens (tokens_all vs) (fields_text vs ++ (41 ∷ rest)) inner end clean)
      → HasTokens (tokens_of (data_tree name vs)) (value_text (data_tree name vs) ++ rest) left end clean
  data_first name rest vs left end clean atom tokens fields =
      let shut = placed_at (pos_of_rest source (41 ∷ rest)) RParen in
      let inner = fields (shut ∷ left) (token_first (closing {text = 41 ∷ rest} refl) tokens) in
      let ends = fields_end vs (41 ∷ rest) (inr refl) in
      let behind = fields_text vs ++ (41 ∷ rest) in
      let named = token_first (atom behind ends) inner.laid in
      let shown = placed_at (pos_of_rest source (40 ∷ (name ++ behind))) LParen in
      let named_placed = placed_at (pos_of_rest source (name ++ behind)) (Symbol name) in
      with_text (data_text name (fields_text vs) rest) (record {
        placed = shown ∷ named_placed ∷ (inner.placed ++ shut ∷ []);
        are = ap (λ l. LParen ∷ Symbol name ∷ l) (map-append bare inner.placed (shut ∷ []) ∙ ap (λ l. l ++ RParen ∷ []) inner.are);
        laid = subst (λ l. TokensOf source (40 ∷ (name ++ behind)) (shown ∷ named_placed ∷ l) end clean)
            (sym (append_assoc inner.placed (shut ∷ []) left))
            (token_first (opening {text = 40 ∷ (name ++ behind)} (opens (name ++ behind) (no_semicolon (name ++ behind) (no_gap (atom behind ends)))))
            named);
      })

  mutual
    -- a value's text has its tokens before those of what ends it
    value_first : (v : ValueTree) (rest : List ℕ) (left : List Placed) (end : ℕ) (clean : Bool) → HasAtoms v
        → Ends rest → TokensOf source rest left end clean
        → HasTokens (tokens_of v) (value_text v ++ rest) left end clean
    value_first (bool_tree b) rest left end clean atoms ends tokens = atom_first (value_text (bool_tree b))
        (Symbol (value_text (bool_tree b))) (truth_atom b) ends tokens
    value_first (int_tree n) rest left end clean atoms ends tokens = atom_first (signed_decimal n) (Int n) atoms ends tokens
    value_first (big_tree n) rest left end clean atoms ends tokens = atom_first (decimal n) (Big n) atoms ends tokens
    value_first (const_tree name) rest left end clean atoms ends tokens = atom_first (36 ∷ name) (Symbol (36 ∷ name)) atoms ends tokens
    value_first (opaque_tree n) rest left end clean atoms ends tokens = atom_first (118 ∷ decimal n) (Symbol (118 ∷ decimal n)) atoms ends tokens
    value_first (data_tree name vs) rest left end clean (atom, atoms) ends tokens =
        data_first name rest vs left end clean atom tokens (λ inner shut. fields_first vs (41 ∷ rest) inner end clean atoms (inr refl) shut)

    fields_first : (vs : ValueTrees) (rest : List ℕ) (left : List Placed) (end : ℕ) (clean : Bool) → HaveAtoms vs
        → Ends rest → TokensOf source rest left end clean
        → HasTokens (tokens_all vs) (fields_text vs ++ rest) left end clean
    fields_first no_trees rest left end clean atoms ends tokens = record { placed = []; are = refl; laid = tokens }
    fields_first (more_trees v vs) rest left end clean (first, others) ends tokens =
        let behind = fields_first vs rest left end clean others ends tokens in
        let front = value_first v (fields_text vs ++ rest) (behind.placed ++ left) end clean first (fields_end vs rest ends) behind.laid in
        with_text (ap (λ l. 32 ∷ l) (sym (append_assoc (value_text v) (fields_text vs) rest))) (record {
          placed = front.placed ++ behind.placed;
          are = map-append bare front.placed behind.placed ∙ (let first = front.are in let second = behind.are in λ i. first i ++ second i);
          laid = behind_space (subst (λ l. TokensOf source (value_text v ++ (fields_text vs ++ rest)) l end clean)
              (sym (append_assoc front.placed behind.placed left)) front.laid);
        })

-- the text of a value alone
pub text_tokens : (v : ValueTree) → HasAtoms v → AreTokensOf (value_text v) (tokens_of v)
text_tokens v atoms =
    let source = alone (value_text v) in
    let has = value_first source v [] [] source.size true atoms tt (ended (none tt)) in (
      has.placed,
      source.size,
      subst (λ t. TokensOf source t has.placed source.size true) (append-nil (value_text v))
          (subst (λ l. TokensOf source (value_text v ++ []) l source.size true) (append-nil has.placed) has.laid),
      sym has.are,
    )
