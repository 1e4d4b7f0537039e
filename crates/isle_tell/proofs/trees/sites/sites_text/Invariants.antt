use Rattle.std.proofs.Common.{◌≡◌, take}
use Rattle.std.specs.Prelude.{string_bytes}
use Rattle.isle_tell.specs.TreeTexts.Sites.{sites_text}
use Rattle.isle_tell.proofs.trees.sites.sites_text.Given as goal

abbrev pub invariant-loop-place : goal.invariant-loop-place
invariant-loop-place l = string_bytes l.text ≡ sites_text l.program 0 (take l.place l.sites)
