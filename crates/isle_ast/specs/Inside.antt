-- trees of definitions, patterns, expressions and kept items, and what is computed of them
pub mod Trees
