use Rattle.std.proofs.Common.{arith, ap, length}
use Rattle.usp_jws.proofs.Tokens.{is_token, length-compact}
use Rattle.usp_jws.proofs.token.seal.Goals as goal

pub invariant_of-result : goal.invariant_of-result
invariant_of-result c =
    let text = c.in_ok-text.ensures.text in
    let digest = c.in_ok-text.ensures.digest in
    let length = c.in_ok-header.ensures.length in
    is_token c.deref.result.now c.args.payload.now _ _ c.compact_of.ensures.header (λ i. omega (arith, c.type_inv.payload i)) digest.bytes (omega arith) c.requires digest.size text

pub returns-clause-length : goal.returns-clause-length
returns-clause-length c =
    let size = c.in_ok-header.ensures.length in
    length-compact c.deref.result.now c.args.payload.now _ _ (length c.args.key.now.kid) (omega (arith, size, ap length c.kid.ensures.value)) c.in_ok-text.ensures.digest.size c.in_ok-text.ensures.text
