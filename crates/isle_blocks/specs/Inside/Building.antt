-- What a rule's visit gathers: sites, tests, equalities and impure calls.
-- What is gathered so far, and how more is taken.
pub mod Gathering
-- The sites of a value's parts.
pub mod Parts
-- The contents that a site is made of.
pub mod Contents
-- What each call of a visitor adds.
pub mod Steps
-- The whole visit of a rule.
pub mod Building
-- Typed rules by their interned trees.
pub mod Named
-- What the visit of a rule leaves.
pub mod Built
