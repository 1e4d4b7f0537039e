-- Reading items, patterns and expressions by the kind of the next token.
use Rattle.std.specs.Prelude.{ℕ, List, Option, Some, None, true, false}
use Rattle.isle_syntax.specs.declared.kind.Kind.{Kind}
use Rattle.isle_syntax.specs.declared.kind.Kind.TheVariants.{End, Open, Close, At, Int, True, False, Const, Wildcard, Name, Other}
use Rattle.isle_ast.specs.declared.ast.Ident.{Ident}
use Rattle.isle_syntax.specs.Tokens.PlacedTokens.{Placed}
use Rattle.isle_syntax.specs.Inside.Reading.KindOf.{kind_at}
use Rattle.isle_syntax.specs.Grammar.TreeGrammar.{bits_of, is_large}
use Rattle.isle_syntax.specs.Inside.Reading.Readers.{done, fault, Reader, after, read_map, after_at, integer, at_pos, any_symbol}
use Rattle.isle_ast.specs.Trees.PatternTree.{PatternTree, pattern_var, pattern_bool, pattern_int, pattern_prim, pattern_wildcard}
use Rattle.isle_ast.specs.Trees.ExprTree.{ExprTree, expr_var, expr_bool, expr_int, expr_prim}
use Rattle.isle_ast.specs.Trees.ItemTree.{ItemTree, item_symbol, item_at}
use Rattle.isle_syntax.specs.Inside.Reading.TreeReading.{ident, after_dollar, literal_item, item_list_reader, named, pattern, pattern_list, expr_list}

-- an item that begins with a token of this kind
abbrev pub item_on : ℕ → Kind → Reader ItemTree
item_on d End ts = fault ts
item_on d Open ts = item_list_reader d ts
item_on d Close ts = fault ts
item_on d At ts = read_map item_at (at_pos ts)
item_on d Int ts = read_map (λ x. literal_item x.0 x.1) (integer ts)
item_on d True ts = read_map item_symbol (any_symbol ts)
item_on d False ts = read_map item_symbol (any_symbol ts)
item_on d Const ts = read_map item_symbol (any_symbol ts)
item_on d Wildcard ts = read_map item_symbol (any_symbol ts)
item_on d Name ts = read_map item_symbol (any_symbol ts)
item_on d Other ts = read_map item_symbol (any_symbol ts)

-- the pattern after an `@`, where one stands, with what follows it
abbrev pub bound_by : Reader PatternTree → Option (List Placed) → Reader (Option PatternTree)
bound_by p None ts = done None ts
bound_by p (Some r) ts = read_map Some (p r)

-- what a name begins, with what follows the name
abbrev pub named_by : Reader PatternTree → Ident → Reader PatternTree
named_by p x ts = read_map (named x) (bound_by p (after_at ts) ts)

-- a pattern that begins with a token of this kind
abbrev pub pattern_on : ℕ → Kind → Reader PatternTree
pattern_on d End ts = fault ts
pattern_on d Open ts = pattern_list d ts
pattern_on d Close ts = fault ts
pattern_on d At ts = fault ts
pattern_on d Int ts = read_map (λ x. pattern_int (bits_of x.1) (is_large x.1) x.0) (integer ts)
pattern_on d True ts = read_map (λ x. pattern_bool true x.1) (any_symbol ts)
pattern_on d False ts = read_map (λ x. pattern_bool false x.1) (any_symbol ts)
pattern_on d Const ts = read_map (λ x. pattern_prim (ident x.1 (after_dollar x.0)) x.1) (any_symbol ts)
pattern_on d Wildcard ts = read_map (λ x. pattern_wildcard x.1) (any_symbol ts)
pattern_on d Name ts = after (any_symbol ts) (named_by (pattern d))
pattern_on d Other ts = fault ts

-- a pattern that begins with a token of this kind, where a name is a variable even with an `@` behind it
abbrev pub unbound_on : ℕ → Kind → Reader PatternTree
unbound_on d Name ts = read_map (λ x. pattern_var x x.1) (any_symbol ts)
unbound_on d _ ts = pattern d ts

-- a pattern up to an `@`
abbrev pub unbound : ℕ → Reader PatternTree
unbound d ts = unbound_on d (kind_at ts) ts

-- an expression that begins with a token of this kind
abbrev pub expr_on : ℕ → Kind → Reader ExprTree
expr_on d End ts = fault ts
expr_on d Open ts = expr_list d ts
expr_on d Close ts = fault ts
expr_on d At ts = fault ts
expr_on d Int ts = read_map (λ x. expr_int (bits_of x.1) (is_large x.1) x.0) (integer ts)
expr_on d True ts = read_map (λ x. expr_bool true x.1) (any_symbol ts)
expr_on d False ts = read_map (λ x. expr_bool false x.1) (any_symbol ts)
expr_on d Const ts = read_map (λ x. expr_prim (ident x.1 (after_dollar x.0)) x.1) (any_symbol ts)
expr_on d Wildcard ts = read_map (λ x. expr_var x x.1) (any_symbol ts)
expr_on d Name ts = read_map (λ x. expr_var x x.1) (any_symbol ts)
expr_on d Other ts = fault ts
