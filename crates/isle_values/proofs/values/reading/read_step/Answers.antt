use Rattle.std.proofs.Common.{◌≡◌, ◌<◌, ◌+◌, ◌++◌, inl, ◌∷◌, ℕ, suc, List, [], Bool, true, false, length, drop, get_or, All, ap, subst, ◌∙◌, sym, arith, refl}
use Rattle.std.proofs.Math.Seq.{drop-cons}
use Rattle.std.proofs.lemmas.List.{drop_all}
use Rattle.isle_syntax.specs.declared.lexer.Token.{Token}
use Rattle.isle_syntax.specs.declared.lexer.Token.TheVariants.{LParen, RParen, Symbol}
use Rattle.isle_rules.specs.Values.{no_trees}
use Rattle.isle_values.specs.Values.Nodes.{count_of, nodes_of, nodes_all}
use Rattle.isle_values.specs.Values.Tokens.{HaveNoValue}
use Rattle.isle_values.specs.declared.values.Node.{Node}
use Rattle.isle_values.specs.declared.values.Node.TheVariants.{Data}
use Rattle.isle_values.specs.declared.values.reading.Open.{Open}
use Rattle.isle_values.specs.Inside.Values.Reading.{counted, IsWithin, Level, nodes_read, places_of, IsReading, GoesOn}
use Rattle.isle_values.proofs.GroundValues.Reading.{all_within, refused_open, refused_close, refused_leaf, leaf_read, data_opened, data_closed}
use Rattle.isle_values.proofs.values.reading.read_step.Goals as goal

-- the token at a place, before those that are left
token_at : (tokens : List Token) (at : ℕ) (token : Token) → at < length tokens → token ≡ get_or tokens at token
    → drop at tokens ≡ token ∷ drop (suc at) tokens
token_at tokens at token within is = drop-cons tokens at token within ∙ ap (λ t. t ∷ drop (suc at) tokens) (sym is)

-- what `close_data` ensures where data is open
abbrev ClosesLast : List Node → List Open → Bool → List Node → List Open → Type 0
ClosesLast nodes places result nodes' places' = (outer : List Open) (last : Open) (before after : List Node) (name : List ℕ)
    → places ≡ outer ++ last ∷ []
    → nodes ≡ before ++ Data name 0 0 ∷ after → length before ≡ last.node
    → (result ≡ true) × (places' ≡ counted outer) × (nodes' ≡ before ++ Data name last.fields (length after) ∷ after)

module _ (tokens : List Token) (at : ℕ) (nodes : List Node) (places : List Open) (left : List Token) (e : drop at tokens ≡ RParen ∷ left)
    (result : Bool) (nodes' : List Node) (places' : List Open) (closes : ClosesLast nodes places result nodes' places') where
  -- the innermost data is closed
  closed : (levels : List Level) → IsReading tokens at levels nodes places → (places ≡ [] → result ≡ false)
      → result ≡ true → GoesOn tokens (suc at) nodes' places'
  closed [] r none was = absurd (let never : true ≡ false = sym was ∙ none r.places in let impossible : ⊥ = cc in impossible)
  closed (level ∷ outer) r none was =
      let (_, places_are, nodes_are) = closes (places_of outer) (record { node = length (nodes_read outer); fields = count_of level.1 })
      (nodes_read outer) (nodes_all level.1) level.0 r.places r.laid refl in
      subst (λ l. GoesOn tokens (suc at) l places') (sym nodes_are)
      (subst (λ l. GoesOn tokens (suc at) (nodes_read outer ++ Data level.0 (count_of level.1) (length (nodes_all level.1)) ∷ nodes_all level.1) l)
      (sym places_are)
      (data_closed tokens at level outer nodes places r left e))

  -- no data is open
  unclosed : (levels : List Level) → IsReading tokens at levels nodes places → result ≡ false → HaveNoValue tokens
  unclosed [] r was = refused_close tokens at nodes places r left e
  unclosed (level ∷ outer) r was =
      let (is_closed, _, _) = closes (places_of outer) (record { node = length (nodes_read outer); fields = count_of level.1 })
      (nodes_read outer) (nodes_all level.1) level.0 r.places r.laid refl in
      absurd (let never : true ≡ false = sym is_closed ∙ was in let impossible : ⊥ = cc in impossible)

pub returns-in_default-get-clause-none : goal.returns-in_default-get-clause-none
returns-in_default-get-clause-none c =
    let (levels, r) = c.requires.reading in let tokens = c.args.tokens.now in let at = c.args.at in
    let e = token_at tokens at c.index-tokens-at.result c.requires.within c.index-tokens-at.is in
    let end = c.in_default-get.ensures.lookup.3 in
    refused_open tokens at levels c.args.nodes.now.items c.args.opened.now.items r (drop (suc at) tokens)
    (e ∙ ap (λ t. t ∷ drop (suc at) tokens) c.in-LParen.is)
    (λ name more ident is. let none : [] ≡ Symbol name ∷ more = sym (drop_all (suc at) tokens (omega (arith, end))) ∙ is in absurd cc)

pub close_data-closed-requires : goal.close_data-closed-requires
close_data-closed-requires c =
    let (levels, r) = c.requires.reading in
    subst (λ l. All (IsWithin (length c.args.nodes.now.items)) l) (sym r.places)
    (all_within levels (length c.args.nodes.now.items) (let same = ap length r.laid in omega (arith, same)))

pub read_leaf-requires : goal.read_leaf-requires
read_leaf-requires c =
    let (levels, r) = c.requires.reading in let nodes = c.args.nodes.now in
    let within : All (IsWithin (length nodes.items)) c.args.opened.now.items = subst (λ l. All (IsWithin (length nodes.items)) l) (sym r.places)
    (all_within levels (length nodes.items) (let same = ap length r.laid in omega (arith, same))) in
    λ k d l. let here = (within k d l).1 in let small = nodes.small in let (len, room) = nodes.ok in omega (arith, here, small, len, room)

pub returns-then-named-clause-some : goal.returns-then-named-clause-some
returns-then-named-clause-some c =
    let (levels, r) = c.requires.reading in let tokens = c.args.tokens.now in let at = c.args.at in
    let nodes = c.args.nodes.now.items in let places = c.args.opened.now.items in
    let (name, ident, is, nodes_are, places_are) = c.in_ok-named-in-LParen.ensures.opened c.if-named.true in
    let found = c.in-Some.ensures.lookup in let within = found.3.0 in
    let next : at + 1 ≡ suc at = omega arith in
    let second : drop (suc at) tokens ≡ Symbol name ∷ drop (suc (suc at)) tokens =
    token_at tokens (suc at) c.in-Some.name.now (omega (arith, within)) (found.1 ∙ ap (λ n. get_or tokens n c.in-Some.name.now) next)
    ∙ ap (λ t. t ∷ drop (suc (suc at)) tokens) is in
    let e = token_at tokens at c.index-tokens-at.result c.requires.within c.index-tokens-at.is ∙ ap (λ t. t ∷ drop (suc at) tokens) c.in-LParen.is
    ∙ ap (λ l. LParen ∷ l) second in
    let reading = data_opened tokens at levels nodes places r name (drop (suc (suc at)) tokens) ident e in
    let goes_on : GoesOn tokens (suc (suc at)) (nodes ++ Data name 0 0 ∷ []) (places ++ record { node = length nodes; fields = 0 } ∷ []) =
    inl ((name, no_trees), levels, reading) in (
      omega arith,
      omega (arith, within),
      subst (λ n. GoesOn tokens n c.open_data.new.nodes.items c.open_data.new.opened.items) (let two : suc (suc at) ≡ at + 2 = omega arith in two)
          (subst (λ l. GoesOn tokens (suc (suc at)) l c.open_data.new.opened.items) (sym nodes_are)
          (subst (λ l. GoesOn tokens (suc (suc at)) (nodes ++ Data name 0 0 ∷ []) l) (sym places_are) goes_on)),
    )

pub returns-else-named-clause-none : goal.returns-else-named-clause-none
returns-else-named-clause-none c =
    let (levels, r) = c.requires.reading in let tokens = c.args.tokens.now in let at = c.args.at in
    let found = c.in-Some.ensures.lookup in let within = found.3.0 in
    let next : at + 1 ≡ suc at = omega arith in
    let second : drop (suc at) tokens ≡ c.in-Some.name.now ∷ drop (suc (suc at)) tokens =
    token_at tokens (suc at) c.in-Some.name.now (omega (arith, within)) (found.1 ∙ ap (λ n. get_or tokens n c.in-Some.name.now) next) in
    let e = token_at tokens at c.index-tokens-at.result c.requires.within c.index-tokens-at.is in
    refused_open tokens at levels c.args.nodes.now.items c.args.opened.now.items r (drop (suc at) tokens)
    (e ∙ ap (λ t. t ∷ drop (suc at) tokens) c.in-LParen.is)
    (λ name more ident is. c.in_ok-named-in-LParen.ensures.unnamed c.if-named.false name ident
    (let both : c.in-Some.name.now ∷ drop (suc (suc at)) tokens ≡ Symbol name ∷ more = sym second ∙ is in
    let same : c.in-Some.name.now ≡ Symbol name = cc in same))

pub returns-then-closed-clause-some : goal.returns-then-closed-clause-some
returns-then-closed-clause-some c =
    let (levels, r) = c.requires.reading in let tokens = c.args.tokens.now in let at = c.args.at in let within = c.requires.within in
    let e = token_at tokens at c.index-tokens-at.result c.requires.within c.index-tokens-at.is ∙ ap (λ t. t ∷ drop (suc at) tokens) c.in-RParen.is in
    let goes_on = closed tokens at c.args.nodes.now.items c.args.opened.now.items (drop (suc at) tokens) e c.close_data-closed.result
    c.close_data-closed.new.nodes.items c.close_data-closed.new.opened.items c.close_data-closed.ensures.closed
    levels r c.close_data-closed.ensures.none c.if-closed.true in (
      omega arith,
      omega (arith, within),
      subst (λ n. GoesOn tokens n c.close_data-closed.new.nodes.items c.close_data-closed.new.opened.items)
          (let next : suc at ≡ at + 1 = omega arith in next) goes_on,
    )

pub returns-else-closed-clause-none : goal.returns-else-closed-clause-none
returns-else-closed-clause-none c =
    let (levels, r) = c.requires.reading in let tokens = c.args.tokens.now in let at = c.args.at in
    let e = token_at tokens at c.index-tokens-at.result c.requires.within c.index-tokens-at.is ∙ ap (λ t. t ∷ drop (suc at) tokens) c.in-RParen.is in
    unclosed tokens at c.args.nodes.now.items c.args.opened.now.items (drop (suc at) tokens) e c.close_data-closed.result
    c.close_data-closed.new.nodes.items c.close_data-closed.new.opened.items c.close_data-closed.ensures.closed levels r c.if-closed.false

pub returns-then-is_leaf : goal.returns-then-is_leaf
returns-then-is_leaf c =
    let (levels, r) = c.requires.reading in let tokens = c.args.tokens.now in let at = c.args.at in let within = c.requires.within in
    let (v, p, is, nodes_are, places_are) = c.in_ok-is_leaf-in_default.ensures.read c.if-is_leaf.true in
    let e = token_at tokens at c.index-tokens-at.result c.requires.within c.index-tokens-at.is in
    let goes_on = leaf_read tokens at levels c.args.nodes.now.items c.args.opened.now.items r c.index-tokens-at.result
    (drop (suc at) tokens) e v p is in
    record {
      some = (
        omega arith,
        omega (arith, within),
        subst (λ n. GoesOn tokens n c.read_leaf.new.nodes.items c.read_leaf.new.opened.items)
            (let next : suc at ≡ at + 1 = omega arith in next)
            (subst (λ l. GoesOn tokens (suc at) l c.read_leaf.new.opened.items) (sym nodes_are)
            (subst (λ l. GoesOn tokens (suc at) (c.args.nodes.now.items ++ nodes_of v) l) (sym places_are) goes_on)),
      );
      none = tt;
    }

pub returns-else-is_leaf : goal.returns-else-is_leaf
returns-else-is_leaf c =
    let (levels, r) = c.requires.reading in let tokens = c.args.tokens.now in let at = c.args.at in
    let e = token_at tokens at c.index-tokens-at.result c.requires.within c.index-tokens-at.is in
    record {
      some = tt;
      none = refused_leaf tokens at levels c.args.nodes.now.items c.args.opened.now.items r c.index-tokens-at.result (drop (suc at) tokens) e
          c.in_default.not-LParen c.in_default.not-RParen (c.in_ok-is_leaf-in_default.ensures.none c.if-is_leaf.false);
    }
