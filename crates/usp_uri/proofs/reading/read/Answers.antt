use Rattle.std.proofs.Common.{◌≡◌, ◌+◌, length, take, drop, None, refl, sym, ap, ◌∙◌, arith}
use Rattle.usp_uri.specs.Letters.{ends_authority, ends_path, is_colon, is_hash}
use Rattle.usp_uri.specs.Delimited.{until, from_first, after_mark}
use Rattle.usp_uri.specs.Components.{authority_start, authority_in, after_authority, host_in, port_in, path_in, query_in, scheme_in}
use Rattle.usp_uri.specs.Faults.{userinfo_fault, host_fault, host_fault_at, port_fault, port_fault_in, rest_fault, rest_fault_at}
use Rattle.std.specs.Option.{option_copied}
use Rattle.usp_uri.proofs.CutLemmas.{length-until, take-length}
use Rattle.std.proofs.lemmas.List.{length-drop}
use Rattle.usp_uri.proofs.ReadLemmas.{no_fault}
use Rattle.usp_uri.proofs.reading.read.Goals as goal

pub rest_fault-requires : goal.rest_fault-requires
rest_fault-requires c =
    let after = c.split_at-2.result.1.now in
    let whole = length-until ends_authority after in
    let a = ap length c.cut_authority.ensures.front in
    let b = ap length c.cut_authority.ensures.back in
    let r = c.in-Some.ensures.room in
    let d = ap length c.split_at-2.ensures.back in
    omega (arith, length-drop (c.in-Some.len + 3) c.args.text.now)

pub returns : goal.returns
returns c =
    let text = c.args.text.now in
    let start : c.in-Some.len + 3 ≡ authority_start text = ap (λ n. n + 3) c.in-Some.ensures.value in
    let after : c.split_at-2.result.1.now ≡ drop (authority_start text) text = c.split_at-2.ensures.back ∙ ap (λ n. drop n text) start in
    let authority : c.cut_authority.result.0.now ≡ authority_in text = c.cut_authority.ensures.front ∙ ap (until ends_authority) after in
    let rest : c.cut_authority.result.1.now ≡ after_authority text = c.cut_authority.ensures.back ∙ ap (from_first ends_authority) after in
    let host : c.cut_at_colon.result.0.now ≡ host_in text = c.cut_at_colon.ensures.front ∙ ap (until is_colon) authority in
    let port : option_copied c.after_mark-port.result ≡ port_in text = c.after_mark-port.ensures ∙ ap after_mark (c.cut_at_colon.ensures.back ∙ ap (from_first is_colon) authority) in
    let path : c.cut_path.result.0.now ≡ path_in text = c.cut_path.ensures.front ∙ ap (until ends_path) rest in
    let query : option_copied c.after_mark.result ≡ query_in text =
    c.after_mark.ensures ∙ ap after_mark (c.cut_at_hash.ensures.front ∙ ap (until is_hash) (c.cut_path.ensures.back ∙ ap (from_first ends_path) rest)) in
    let scheme : c.split_at.result.0.now ≡ scheme_in text = c.split_at.ensures.front ∙ ap (λ n. take n text) c.in-Some.ensures.value ∙ take-length is_colon text in
    let no_userinfo : userinfo_fault text ≡ None = rw (← authority, ← c.has_at_sign.ensures, c.if-has_at_sign.false) refl in
    let host_good : host_fault text ≡ None =
    ap (λ n. host_fault_at n (host_in text)) (sym start) ∙ ap (host_fault_at (c.in-Some.len + 3)) (sym host) ∙ sym c.host_fault.ensures ∙ c.in_default-host_fault.is in
    let port_good : port_fault text ≡ None = ap port_fault_in (sym port) ∙ sym c.port_fault.ensures ∙ c.in_default-port_fault.is in
    let place : c.in-Some.len + 3 + length c.cut_authority.result.0.now ≡ authority_start text + length (authority_in text) = omega (arith, ap length authority) in
    let rest_good : rest_fault text ≡ None =
    ap (λ n. rest_fault_at n (after_authority text)) (sym place) ∙ ap (rest_fault_at (c.in-Some.len + 3 + length c.cut_authority.result.0.now)) (sym rest) ∙ sym c.rest_fault.ensures ∙ c.in_default-rest_fault.is in
    (no_fault text (omega arith) c.in-Some.ensures.some no_userinfo host_good port_good rest_good, rw (scheme, host, port, path, query) refl)
