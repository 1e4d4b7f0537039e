use Rattle.isle_ast.proofs.Trees.DefEquality.{type-decides, type_value-decides, variant-decides, fields-decides, struct_fields-decides}
use Rattle.isle_ast.proofs.Trees.DefEquality.{tuple_fields-decides}
use Rattle.isle_ast.proofs.laws.equal_types_are_the_same.Goals as goal

pub returns-clause-types : goal.returns-clause-types
returns-clause-types c = type-decides

pub returns-clause-values : goal.returns-clause-values
returns-clause-values c = type_value-decides

pub returns-clause-variants : goal.returns-clause-variants
returns-clause-variants c = variant-decides

pub returns-clause-fields : goal.returns-clause-fields
returns-clause-fields c = fields-decides

pub returns-clause-struct_fields : goal.returns-clause-struct_fields
returns-clause-struct_fields c = struct_fields-decides

pub returns-clause-tuple_fields : goal.returns-clause-tuple_fields
returns-clause-tuple_fields c = tuple_fields-decides
