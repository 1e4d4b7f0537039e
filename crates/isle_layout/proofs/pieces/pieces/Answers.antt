use Rattle.std.proofs.Common.{sym, ◌∙◌, ap, map}
use Rattle.std.proofs.lemmas.List.{map-append}
use Rattle.isle_layout.specs.Keeping.Pieces.{piece_of}
use Rattle.isle_layout.proofs.Keeping.Cutting.{space_kept, piece_kept, rest_shorter, all_found, cut_utf8}
use Rattle.isle_layout.proofs.pieces.pieces.Goals as goal

pub rest-preserved-then-is_space : goal.rest-preserved-then-is_space
rest-preserved-then-is_space c =
    let e = sym c.as_bytes.ensures.value ∙ c.in-Some.ensures in (
      c.after_char-rest.utf8,
      space_kept _ _ c.rest.before _ c.in-Some.first c.in-Some.field-0-1.now c.rest.rest.now _ e
          (sym c.is_space.ensures ∙ c.if-is_space.true) c.after_char-rest.ensures c.with-before.ensures c.rest.invariant.1,
    )

pub rest-smaller : goal.rest-smaller
rest-smaller c =
    let e = sym c.as_bytes.ensures.value ∙ c.in-Some.ensures in
    rest_shorter c.in-Some.first c.in-Some.field-0-1.now c.rest.rest.now c.cut-kind.result.2.now e c.cut-kind.ensures.rest

pub rest-preserved : goal.rest-preserved
rest-preserved c =
    let e = sym c.as_bytes.ensures.value ∙ c.in-Some.ensures in (
      (cut_utf8 c.rest.rest.now c.cut-kind.result.2.now c.rest.invariant.0 c.cut-kind.ensures.rest).utf8,
      piece_kept _ _ _ (piece_of (record { kind = c.cut-kind.result.0; text = c.cut-kind.result.1; before = c.rest.before })) c.in-Some.first
          c.in-Some.field-0-1.now c.rest.rest.now c.cut-kind.result.2.now e (sym c.is_space.ensures ∙ c.if-is_space.false)
          (ap (map piece_of) c.in_ok-push.ensures.items ∙ map-append piece_of c.rest.found.items _)
          (λ i. record { kind = c.cut-kind.ensures.kind i; text = c.cut-kind.ensures.text i; before = c.rest.before })
          c.cut-kind.ensures.rest c.rest.invariant.1,
    )

pub returns : goal.returns
returns c = all_found _ _ c.rest.before c.rest.rest.now (sym c.as_bytes.ensures.value ∙ c.in_default.ensures) c.rest.invariant.1
