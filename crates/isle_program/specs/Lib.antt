-- Which files are compiled, and which faults the others have.
pub mod Compiled
-- What tables of types and terms say, before a program is made of them.
pub mod Tables
-- What a program holds.
pub mod Programs
-- The trees of a program's rule sets.
pub mod Trees
-- What is known of a program before it is run.
pub mod Facts
-- What a program's tables say of its terms, types and rules, for the meaning of its calls.
pub mod Meanings
-- What tables say of terms.
pub mod Laws
-- Rules laid out, in the order in which they are tried.
pub mod Plain
-- Tables that show what files define.
pub mod ShownFiles
-- What no public contract cites.
pub mod Inside
