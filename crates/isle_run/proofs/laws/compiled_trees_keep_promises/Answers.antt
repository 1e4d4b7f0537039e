use Rattle.isle_blocks.specs.Trees.Promises.{BindsWhatIsAsked, ChoosesAsRules, HasArmsInOrder, IsShort}
use Rattle.isle_blocks.specs.Trees.ReadPromises.{BindsFieldsByTests, BindsItsFields, ReadsWhatIsBound}
use Rattle.isle_blocks.specs.Trees.RightPromises.{AnswersAsRules}
use Rattle.isle_blocks.specs.Trees.RuleBags.{MakesItsBag}
use Rattle.isle_blocks.specs.Trees.TypedCalls.{CallsTakeTheirTypes}
use Rattle.isle_blocks.proofs.Trees.Promised.{built_ascends, built_asks, built_chooses, built_short, checked_buildable}
use Rattle.isle_blocks.proofs.Trees.Bags.RuleBags.{built_bag}
use Rattle.isle_blocks.proofs.Trees.Promises.Reads.{built_by_tests, built_fields, built_reads}
use Rattle.isle_blocks.proofs.Trees.Promises.RightSides.{built_answers}
use Rattle.isle_blocks.proofs.Trees.Promises.TypedCalls.{calls_take_their_types}
use Rattle.isle_run.proofs.Blocks.Promised.{of_each_term}
use Rattle.isle_run.proofs.laws.compiled_trees_keep_promises.Goals as goal

pub returns-clause-chooses : goal.returns-clause-chooses
returns-clause-chooses c = of_each_term ChoosesAsRules (λ set tree checked built. built_chooses set tree built)

pub returns-clause-answers : goal.returns-clause-answers
returns-clause-answers c = of_each_term AnswersAsRules (λ set tree checked built. built_answers set tree built)

pub returns-clause-bag : goal.returns-clause-bag
returns-clause-bag c = of_each_term MakesItsBag (λ set tree checked built. built_bag set tree built)

pub returns-clause-asks : goal.returns-clause-asks
returns-clause-asks c = of_each_term BindsWhatIsAsked (λ set tree checked built. built_asks set tree (checked_buildable set checked) built)

pub returns-clause-reads : goal.returns-clause-reads
returns-clause-reads c = of_each_term ReadsWhatIsBound (λ set tree checked built. built_reads set tree checked built)

pub returns-clause-fields : goal.returns-clause-fields
returns-clause-fields c = of_each_term BindsItsFields (λ set tree checked built. built_fields set tree checked built)

pub returns-clause-by_tests : goal.returns-clause-by_tests
returns-clause-by_tests c = of_each_term BindsFieldsByTests (λ set tree checked built. built_by_tests set tree built)

pub returns-clause-typed : goal.returns-clause-typed
returns-clause-typed c = of_each_term CallsTakeTheirTypes (λ set tree checked built. calls_take_their_types set tree)

pub returns-clause-ascends : goal.returns-clause-ascends
returns-clause-ascends c = of_each_term HasArmsInOrder (λ set tree checked built. built_ascends set tree (checked_buildable set checked) built)

pub returns-clause-few : goal.returns-clause-few
returns-clause-few c = of_each_term IsShort (λ set tree checked built. built_short set tree (checked_buildable set checked) built)
