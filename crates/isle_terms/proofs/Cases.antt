-- What the tests of terms and the tables of names and converters say.
pub mod TermTests
-- The functions of the host that stand for terms.
pub mod HostFunctions
-- What visitors are told.
pub mod Visitors
-- The names of rules, and where definitions break a rule of declarations.
pub mod RuleNames
-- What definitions make, and where they break a rule of declarations or exceed a size.
pub mod Declarations
