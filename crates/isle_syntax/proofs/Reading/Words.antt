-- Names that there are.
use Rattle.std.proofs.Common.{◌≡◌, true, refl}
use Rattle.std.specs.Prelude.{codes}
use Rattle.isle_syntax.specs.Tokens.Names.{is_ident, is_name, is_pname, is_const_name}
use Rattle.std.specs.Str.{chars}

pub underscores_are_ident : is_ident (codes "__") ≡ true
unfolding is_ident chars
underscores_are_ident = refl

pub underscores_are_pname : is_pname (codes "__") ≡ true
unfolding is_ident is_name is_pname chars
underscores_are_pname = refl

pub underscores_are_const_name : is_const_name (codes "__") ≡ true
unfolding is_ident is_const_name chars
underscores_are_const_name = refl
