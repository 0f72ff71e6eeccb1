use Rattle.usp_lab.proofs.Shows.{untraced_exactly}
use Rattle.usp_lab.proofs.Tracing.{each_told}
use Rattle.usp_lab.proofs.laws.brings_its_token.Goals as goal

pub returns-clause-token : goal.returns-clause-token
returns-clause-token c script run is_script is number served at admitted =
    let a = (each_told script run is_script is number served at).honest.admitted admitted in
    (a.token, a.brought)

pub returns-clause-content : goal.returns-clause-content
returns-clause-content c script run is_script is number served at admitted =
    let a = (each_told script run is_script is number served at).honest.admitted admitted in
    (a.content, a.of)

pub returns-clause-untraced : goal.returns-clause-untraced
returns-clause-untraced c = untraced_exactly
