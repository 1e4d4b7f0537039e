use Rattle.std.proofs.Common.{◌≡◌, ◌++◌, ◌∙◌, ap, ap₂, string_bytes}
use Rattle.islec.proofs.explain.fault_line.Goals as goal

pub returns : goal.returns
returns c = record {
  told = string_bytes c.in_ok-below.below;
  reason = c.in_ok-below.ensures;
  is = c.in_ok-push_str.ensures.bytes ∙ ap₂ (λ l m. l ++ m) c.in_ok-line.ensures c.as_str.ensures.value;
}
