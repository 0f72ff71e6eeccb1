use Rattle.std.proofs.Common.{◌≤◌, ℕ, List, length, codes, refl}
use Rattle.usp_issue.specs.declared.limits.TheConstants.{MAX_TOKEN}
use Rattle.usp_jws.specs.Keys.{KeyValue}
use Rattle.usp_script.specs.Reading.{AddsAsk, AddsKey, AddsObject, Seals, a_grant, a_key, an_ask, an_object, an_outside}
use Rattle.usp_script.specs.declared.ask.LabAsk.{LabAsk}
use Rattle.usp_script.proofs.Progress.{no_form}
use Rattle.usp_script.proofs.Words.{other_text}
use Rattle.usp_script.proofs.reading.line.take_other.Goals as goal

pub returns-in-Some : goal.returns-in-Some
returns-in-Some c =
    let adds : AddsAsk c.args.draft c.args.line.now c.in-Some.ask = rw c.in-Some.is at c.in_ok-ask.ensures in
    an_ask c.in-Some.ask adds refl c.in_ok-with_ask.ensures

pub returns-in-Some-2 : goal.returns-in-Some-2
returns-in-Some-2 c =
    let seals : Seals c.args.draft (codes "grant") c.args.line.now c.in-Some-2.token × (length c.in-Some-2.token ≤ MAX_TOKEN) = rw c.in-Some-2.is at c.in_ok-token.ensures in
    a_grant c.in-Some-2.token seals.0 refl c.in_ok-with_grant.ensures

pub returns-in-Some-3 : goal.returns-in-Some-3
returns-in-Some-3 c =
    let seals : Seals c.args.draft (codes "outside") c.args.line.now c.in-Some-3.token × (length c.in-Some-3.token ≤ MAX_TOKEN) = rw c.in-Some-3.is at c.in_ok-token-2.ensures in
    an_outside c.in-Some-3.token seals.0 refl c.in_ok-with_outside.ensures

pub returns-in-Some-4 : goal.returns-in-Some-4
returns-in-Some-4 c =
    let adds : AddsObject c.args.draft c.args.line.now c.in-Some-4.object.edge c.in-Some-4.object.uri c.in-Some-4.object.text = rw c.in-Some-4.is at c.in_ok-object.ensures in
    an_object c.in-Some-4.object.edge c.in-Some-4.object.uri c.in-Some-4.object.text adds refl c.in_ok-with_object.ensures

pub returns-in-Some-5 : goal.returns-in-Some-5
returns-in-Some-5 c =
    let adds : AddsKey c.args.draft c.args.line.now c.in-Some-5.key = rw c.in-Some-5.is at c.in_ok-key.ensures in
    a_key c.in-Some-5.key adds refl c.in_ok-with_key.ensures

pub returns : goal.returns
returns c =
    let ask : (ask : LabAsk) → AddsAsk c.args.draft c.args.line.now ask → ⊥ = rw c.in_default.is at c.in_ok-ask.ensures in
    let grant : (token : List ℕ) → Seals c.args.draft (codes "grant") c.args.line.now token → ⊥ = rw c.in_default-2.is at c.in_ok-token.ensures in
    let outside : (token : List ℕ) → Seals c.args.draft (codes "outside") c.args.line.now token → ⊥ = rw c.in_default-3.is at c.in_ok-token-2.ensures in
    let object : (place : ℕ) (uri text : List ℕ) → AddsObject c.args.draft c.args.line.now place uri text → ⊥ = rw c.in_default-4.is at c.in_ok-object.ensures in
    let key : (key : KeyValue) → AddsKey c.args.draft c.args.line.now key → ⊥ = rw c.in_default-5.is at c.in_ok-key.ensures in
    let stop = other_text c.eq.result c.args.line.now c.as_slice.result.now (codes "then") c.eq.ensures c.as_slice.ensures c.if-eq.false in
    no_form c.args.draft c.args.line.now object key grant outside ask stop
