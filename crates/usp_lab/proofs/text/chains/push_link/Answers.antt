use Rattle.usp_lab.proofs.Linking.{link_put}
use Rattle.usp_lab.proofs.text.chains.push_link.Goals as goal

pub returns : goal.returns
returns c =
    link_put c.args.links.now c.args.place _ c.args.text.now.items c.push_label.new.text.items c.push_window.new.text.items c.requires c.in_ok-push_label.ensures c.in_ok-push_window.ensures
