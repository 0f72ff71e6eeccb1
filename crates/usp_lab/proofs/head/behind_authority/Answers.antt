use Rattle.std.proofs.Common.{ap, ◌∙◌, ◌+◌, length, drop, arith}
use Rattle.usp_uri.specs.Delimited.{from_first}
use Rattle.usp_uri.specs.Letters.{ends_authority}
use Rattle.usp_lab.proofs.Targets.{cut_target, cut_within}
use Rattle.usp_lab.proofs.head.behind_authority.Goals as goal

pub split_at-requires : goal.split_at-requires
split_at-requires c =
    omega (
      arith,
      cut_within c.args.uri.now c.args.text.now c.requires.begins.0 c.requires.normal c.requires.begins.1,
      ap length c.scheme.ensures,
    )

pub returns : goal.returns
returns c =
    c.cut_authority.ensures.back
    ∙ ap (from_first ends_authority)
    (c.split_at.ensures.back ∙ ap (λ s. drop (length s + 3) c.args.text.now) c.scheme.ensures)
    ∙ cut_target c.args.uri.now c.args.text.now c.requires.begins.0 c.requires.normal c.requires.begins.1
