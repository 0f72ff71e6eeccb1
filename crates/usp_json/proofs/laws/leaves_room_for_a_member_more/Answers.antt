use Rattle.usp_json.proofs.WideLaws.{reading_wider, members_wider_kept, pushed_wider}
use Rattle.usp_json.proofs.laws.leaves_room_for_a_member_more.Goals as goal

pub returns-clause-read : goal.returns-clause-read
returns-clause-read c text m r = reading_wider text m r

pub returns-clause-kept : goal.returns-clause-kept
returns-clause-kept c m k = members_wider_kept m k

pub returns-clause-pushed : goal.returns-clause-pushed
returns-clause-pushed c names values name v k h utf8 fresh = pushed_wider names values name v k h utf8 fresh
