use Rattle.std.proofs.Common.{◌≡◌, ◌<◌, ◌≤◌, ◌∙◌, ap, arith, length, rules}
use Rattle.std.specs.List.{filter}
use Rattle.std.proofs.lemmas.Fn.{filter_same}
use Rattle.usp_nonce.specs.Table.{is_above}
use Rattle.usp_nonce.proofs.CountedLemmas.{filter_on}
use Rattle.usp_nonce.proofs.cleaning.make_room.Goals as goal

pub returns-clause-kept : goal.returns-clause-kept
returns-clause-kept c = λ m le.
    let kept = filter_same _ (is_above c.args.moment) _ (λ x b f' k. search rules) _ _ c.retain.ensures.filtered in
    ap (filter (is_above m)) kept ∙ filter_on c.args.moment m le c.args.rows.now.items

pub returns-clause-space : goal.returns-clause-space
returns-clause-space c =
    let kept = filter_same _ (is_above c.args.moment) _ (λ x b f' k. search rules) _ _ c.retain.ensures.filtered in
    omega (arith, ap length kept, c.requires.held, c.retain.new.self.ok.0, c.index_rows.ensures.1)
