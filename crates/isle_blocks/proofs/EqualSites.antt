-- The `==` of sites, and of what they are made of, holds exactly where the two are the same.
pub use Rattle.isle_blocks.specs.EqualSites.{both, through, sym-decides, type-decides, variant-decides, index-decides, binding-decides}
