use Rattle.std.proofs.Common.{◌∙◌, ap, ◌∷◌, [], ◌++◌}
use Rattle.std.specs.Fmt.{decimal}
use Rattle.usp_tool.proofs.Texts.{line_refusal_text}
use Rattle.usp_tool.proofs.output.push_line_refusal.Goals as goal

pub returns : goal.returns
returns c =
    c.in_ok-push.ensures.items
    ∙ (ap (λ t. t ++ 10 ∷ []) (c.in_ok-push_number.ensures ∙ ap (λ t. t ++ decimal c.args.number) c.in_ok-extend_from_slice.ensures.items)
    ∙ line_refusal_text c.args.text.now.items (decimal c.args.number))
