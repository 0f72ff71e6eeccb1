use Rattle.std.proofs.Common.{arith}
use Rattle.usp_script.proofs.Grants.{pieces, short_text}
use Rattle.usp_script.proofs.generator.grant.grant_text.Goals as goal

pub returns-clause-text : goal.returns-clause-text
returns-clause-text c =
    pieces _ _ _ _ _ _ _ _ _ _ _ _ _ _ _ c.new-text.ensures.items c.in_ok-extend_from_slice.ensures.items c.in_ok-push_number.ensures c.in_ok-extend_from_slice-2.ensures.items c.in_ok-push_number-2.ensures c.in_ok-extend_from_slice-3.ensures.items c.in_ok-push_number-3.ensures
    c.in_ok-extend_from_slice-4.ensures.items

pub returns-clause-short : goal.returns-clause-short
returns-clause-short c = short_text _ c.args.group c.args.moment (returns-clause-text c) (omega arith) (omega arith)
