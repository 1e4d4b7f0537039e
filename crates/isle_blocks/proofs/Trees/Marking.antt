-- What is marked from step to step.
-- A list of sites is gone over, which grows by what is made of them and can be bound.
pub mod Spreading
-- Which sites are made of a site.
pub mod Dependents
-- Which sites can be tested, from step to step.
pub mod Ready
