use Rattle.std.proofs.Common.{ℕ, List, [], ◌∷◌, ◌++◌, vec_items, codes, ap, ◌∙◌}
use Rattle.event_lines.specs.Told.{hex_of}
use Rattle.event_lines.proofs.Telling.{pushed_four}
use Rattle.event_lines.proofs.audit.push_line.Goals as goal

pub returns : goal.returns
returns c =
    let text = vec_items c.args.text.now in
    pushed_four text (hex_of c.args.digest) (codes "  ") c.args.line.now (10 ∷ []) _ _ _ _
    (c.in_ok-extend_from_slice.ensures.items ∙ ap (λ (digits : List ℕ). text ++ digits) c.hex.ensures)
    c.in_ok-extend_from_slice-2.ensures.items
    c.in_ok-extend_from_slice-3.ensures.items
    c.in_ok-push.ensures.items
