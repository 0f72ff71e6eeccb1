use Rattle.usp_script.proofs.Groups.{asks_for, ten_more}
use Rattle.usp_script.proofs.generator.group.push_group.Goals as goal

pub returns : goal.returns
returns c =
    ten_more _ _ _ _ _ _ _ _ _ _ _ _ _ _ _ _ _ _ _ _ _ _ _ _ _ _ _ _ _ _ _
    c.in_ok-push.ensures.items c.in_ok-push-2.ensures.items c.in_ok-push-3.ensures.items c.in_ok-push-4.ensures.items c.in_ok-push-5.ensures.items c.in_ok-push-6.ensures.items c.in_ok-push-7.ensures.items c.in_ok-push-8.ensures.items c.in_ok-push-9.ensures.items c.in_ok-push-10.ensures.items
    c.in_ok-first_round.ensures
    (asks_for _ _ _ _ _ _ _ c.in_ok-next_round.ensures c.in_ok-segment_uri.ensures)
    (asks_for _ _ _ _ _ _ _ c.in_ok-next_round-2.ensures c.in_ok-segment_uri-2.ensures)
    (asks_for _ _ _ _ _ _ _ c.in_ok-next_round-3.ensures c.in_ok-segment_uri-3.ensures)
    (asks_for _ _ _ _ _ _ _ c.in_ok-next_round-4.ensures c.in_ok-segment_uri-4.ensures)
    (asks_for _ _ _ _ _ _ _ c.in_ok-next_round-5.ensures c.in_ok-segment_uri-5.ensures)
    (asks_for _ _ _ _ _ _ _ c.in_ok-next_round-6.ensures c.in_ok-sent_uri.ensures) c.in_ok-target_round.ensures c.in_ok-target_round-2.ensures c.in_ok-last_round.ensures
