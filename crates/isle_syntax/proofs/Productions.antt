-- Reading follows the grammar, production by production, up to a whole text, in reading order.
-- Reading an item follows the grammar.
pub mod Items
-- Reading a pattern follows the grammar, where no `@` comes next.
pub mod Patterns
-- Reading an expression follows the grammar.
pub mod Exprs
-- Reading the marks of a type, a turn at a time.
pub mod Marks
-- Reading a type's definition follows the grammar.
pub mod Types
-- Reading declarations, extractors, what the host provides, converters and kept definitions follows the grammar.
pub mod Terms
-- A rule's name and priority, and what follows.
pub mod RuleSteps
-- A loop that reads the clauses of a rule, a turn at a time.
pub mod BodyTurns
-- A turn of the loop that reads a rule's clauses, where each call of it may be refused.
pub mod BodyCalls
-- Reading a rule's clauses and its right side follows the grammar.
pub mod Bodies
-- Reading a rule follows the grammar.
pub mod Rules
-- Reading a definition follows the grammar.
pub mod Defs
-- What a loop over all definitions of a text promises.
pub mod Whole
-- Reading a whole text: the promises of the grammar from what reading gives.
pub mod Texts
-- Tokens that spell definitions and nest within the bound spell no others, and a text has one reading.
pub mod OneReading
