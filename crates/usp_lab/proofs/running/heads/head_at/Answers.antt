use Rattle.std.proofs.Common.{◌≡◌, refl, sym, ap, ◌∙◌, subst, ℕ, List, [], length, Option, Some, IfSome}
use Rattle.std.proofs.lemmas.Option.{slice_get_read}
use Rattle.std.specs.Prelude.{slice_get}
use Rattle.usp_conf.specs.Values.{ConfValue}
use Rattle.usp_http.specs.Finding.{IsHead}
use Rattle.usp_lab.specs.LabHead.{lab_head, lab_parts}
use Rattle.usp_lab.specs.UnderWay.{IsShort}
use Rattle.usp_lab.proofs.Carrying.{bare_at, carried_short, confs_at}
use Rattle.usp_lab.proofs.running.heads.head_at.Goals as goal

pub text_of-requires : goal.text_of-requires
text_of-requires c =
    subst (λ (o : Option (List ℕ)). IfSome o IsShort) (sym c.carried_token-token.ensures)
    (carried_short c.args.named.now.script.now c.args.named.now.issued.now c.args.ask.now.carried
    c.edges-confs.ensures.script c.requires.issued)

pub head_of-requires-clause-bare : goal.head_of-requires-clause-bare
head_of-requires-clause-bare c =
    bare_at c.args.named.now.script.now.edges c.args.ask.now c.index-confs-ask.result c.requires.ask
    (confs_at c.args.named.now.script.now.edges c.edges-confs.result.now c.args.ask.now.edge c.index-confs-ask.result
    c.edges-confs.ensures.edges c.requires.ask.edge c.index-confs-ask.is)

pub returns : goal.returns
returns c =
    let edge : ConfValue = c.index-confs-ask.result in
    let ask = c.args.ask.now in
    let carried = c.text_of.ensures.value ∙ c.carried_token-token.ensures in
    record {
      edge = edge;
      at = confs_at c.args.named.now.script.now.edges c.edges-confs.result.now ask.edge edge c.edges-confs.ensures.edges
          c.requires.ask.edge c.index-confs-ask.is;
      is = c.in_ok-head.ensures.head ∙ ap (lab_head edge ask) carried;
      whole = subst (λ (token : Option (List ℕ)). IsHead (lab_parts edge ask token) c.in_ok-head.head.items []) carried
          c.in_ok-head.ensures.whole;
    }
