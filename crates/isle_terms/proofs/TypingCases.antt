-- Worked cases: what patterns and expressions stand for, and where they are ill typed or too large.
use Rattle.std.proofs.Common.{◌≡◌, ℕ, pos, true, false, List, [], ◌∷◌, None, Some, refl, codes, inl, inr, arith}
use Rattle.isle_ast.specs.declared.pos.Pos.{Pos}
use Rattle.isle_ast.specs.declared.ast.Ident.{Ident}
use Rattle.isle_ast.specs.Trees.PatternTree.{PatternTree, pattern_var, pattern_int, pattern_term, pattern_macro_arg, pattern_list, no_patterns}
use Rattle.isle_types.specs.declared.types.IntType.TheVariants.{U8}
use Rattle.isle_types.specs.Environment.{NamedType, named_fields, enum}
use Rattle.isle_rules.specs.TypedRules.{typed_bind, typed_var, typed_int, typed_term, typed_wildcard, no_typed, more_typed}
use Rattle.isle_rules.specs.Signatures.{Flags, by_rules, by_template, variant_form, declared_form, Signature, Declared}
use Rattle.isle_terms.specs.Reaching.{ReachesPattern, IsTooLarge}
use Rattle.isle_terms.specs.IllTyped.{LacksArgument}
use Rattle.isle_terms.specs.RuleReaching.{IllPatternAt}
use Rattle.isle_rules.specs.Elaboration.{State, start, of_integer, Elaborates, may_call, on_lhs}

abbrev here : Pos
here = record { file = 0; offset = 0 }

abbrev name : List ℕ → Ident
name text = (text, here)

abbrev u8_number : ℕ
u8_number = 1

abbrev op_number : ℕ
op_number = 13

abbrev no_flags : Flags
no_flags = record { pure = false; multi = false; partial = false; rec = false }

-- (type Op (enum (Add (a u8) (b u8)) (Neg (a u8))))
abbrev op : NamedType
op = record {
  name = codes "Op";
  is_extern = false;
  is_nodebug = false;
  shape = enum (record { name = codes "Add"; fields = named_fields ((codes "a", 1) ∷ (codes "b", 1) ∷ []); pos = here }
      ∷ record { name = codes "Neg"; fields = named_fields ((codes "a", 1) ∷ []); pos = here } ∷ []);
  pos = here;
}

-- (extractor (two y) (Op.Add y 2)), its argument by number
abbrev two_template : PatternTree
two_template = pattern_term (name (codes "Op.Add")) (pattern_list (pattern_macro_arg 0 here ∷ pattern_int (pos 2) false here ∷ [])) here

abbrev terms : List Signature
terms =
    record { name = codes "simp"; args = 13 ∷ []; ret = 1; form = declared_form no_flags (Some by_rules) None; pos = here }
    ∷ record { name = codes "two"; args = 1 ∷ []; ret = 13; form = declared_form no_flags None (Some (by_template two_template)); pos = here }
    ∷ record { name = codes "Op.Add"; args = 1 ∷ 1 ∷ []; ret = 13; form = variant_form 0; pos = here }
    ∷ record { name = codes "Op.Neg"; args = 1 ∷ []; ret = 13; form = variant_form 1; pos = here } ∷ []

abbrev declared : Declared
declared = record { types = record { types = op ∷ []; constants = [] }; terms = terms; conversions = []; expands = true }

abbrev x_pattern : PatternTree
x_pattern = pattern_var (name (codes "x")) here

abbrev add : PatternTree → PatternTree → PatternTree
add left right = pattern_term (name (codes "Op.Add")) (pattern_list (left ∷ right ∷ [])) here

-- x: u8, as variable 0
abbrev with_x : ℕ → State
with_x nodes = record {
  scope = record { name = codes "x"; var = 0; type = 1 } ∷ [];
  variables = record { name = codes "x"; type = 1 } ∷ [];
  nodes = nodes;
}

-- a name binds, as a binding of a wildcard
x_binds : Elaborates declared 1 x_pattern 1 start (typed_bind 1 0 (typed_wildcard 1)) (with_x 1)
x_binds = inl (refl, refl, refl)

-- bound, it demands equality
x_again : Elaborates declared 1 x_pattern 1 (with_x 1) (typed_var 1 0) (with_x 2)
x_again = inr (_, refl, refl, refl, refl)

-- (Op.Add x x), in two levels and of three nodes
add_twice : Elaborates declared 2 (add x_pattern x_pattern) 13 start
    (typed_term 13 2 (more_typed (typed_bind 1 0 (typed_wildcard 1)) (more_typed (typed_var 1 0) no_typed))) (with_x 3)
add_twice = (
  2,
  _,
  refl,
  refl,
  inl (record {
    type = refl;
    usable = refl;
    arity = refl;
    taken = (_, (_, with_x 2, _, inl (refl, refl, refl), (_, with_x 3, _, inr (_, refl, refl, refl, refl), (refl, refl), refl), refl), refl);
  }),
)

-- who may call whom
impure_in_pure : may_call (record no_flags { pure = true }) no_flags ≡ false
impure_in_pure = refl

pure_in_pure : may_call (record no_flags { pure = true }) (record no_flags { pure = true }) ≡ true
pure_in_pure = refl

partial_in_total : may_call no_flags (record no_flags { partial = true }) ≡ false
partial_in_total = refl

partial_in_condition : may_call (on_lhs no_flags) (record no_flags { pure = true; partial = true }) ≡ true
partial_in_condition = refl

impure_in_condition : may_call (on_lhs no_flags) no_flags ≡ false
impure_in_condition = refl

multi_in_one : may_call no_flags (record no_flags { multi = true }) ≡ false
multi_in_one = refl

multi_in_multi : may_call (record no_flags { multi = true }) (record no_flags { multi = true }) ≡ true
multi_in_multi = refl

-- (two x): the template is put in, one level deeper
two_of_x : Elaborates declared 3 (pattern_term (name (codes "two")) (pattern_list (x_pattern ∷ [])) here) 13 start
    (typed_term 13 2 (more_typed (typed_bind 1 0 (typed_wildcard 1)) (more_typed (typed_int 1 (pos 2)) no_typed))) (with_x 4)
two_of_x = (
  1,
  _,
  refl,
  refl,
  inl (record {
    type = refl;
    usable = refl;
    arity = refl;
    taken = (
      _,
      refl,
      (
        2,
        _,
        refl,
        refl,
        inl (record {
          type = refl;
          usable = refl;
          arity = refl;
          taken = (
            _,
            (
              _,
              with_x 3,
              _,
              inl (refl, refl, refl),
              (
                _,
                with_x 4,
                _,
                (of_integer U8 refl (record { low = omega arith; high = omega arith }), refl, refl),
                (refl, refl),
                refl,
              ),
              refl,
            ),
            refl,
          );
        }),
      ),
    );
  }),
)

-- (two): an argument that is to be put in is lacking
two_of_none : LacksArgument declared
    (record {
      name = codes "two";
      args = 1 ∷ [];
      ret = 13;
      form = declared_form no_flags None
          (Some (by_template two_template));
      pos = here;
    }) no_patterns
two_of_none = (two_template, refl, refl)

-- a bound name at another type is ill typed where it stands
x_at_bool : ReachesPattern declared (IllPatternAt declared here) 1 x_pattern 0 (with_x 1)
x_at_bool = inl (_, refl, (λ e. cc (e)), refl)

-- one level is too few for (Op.Add x x), and two nodes are too few
one_level : ReachesPattern declared (λ left t ty s. IsTooLarge 9 left s) 1 (add x_pattern x_pattern) 13 start
one_level = inr (2, _, refl, refl, inl (refl, refl, refl, inl tt))

two_nodes : ReachesPattern declared (λ left t ty s. IsTooLarge 2 left s) 2 (add x_pattern x_pattern) 13 start
two_nodes = inr (2, _, refl, refl, inl (refl, refl, refl, inr (_, with_x 2, inl (refl, refl, refl), inl (inl (omega arith)))))

-- an unknown term is ill typed where it stands
unknown_term : ReachesPattern declared (IllPatternAt declared here) 1 (pattern_term (name (codes "nop")) no_patterns here) 13 start
unknown_term = inl (inl refl, refl)
