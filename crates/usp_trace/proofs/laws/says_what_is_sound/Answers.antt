use Rattle.usp_trace.proofs.Said as said
use Rattle.usp_trace.proofs.laws.says_what_is_sound.Goals as goal

pub returns-clause-used_to_renew : goal.returns-clause-used_to_renew
returns-clause-used_to_renew c = said.sound_used_to_renew

pub returns-clause-used_to_send : goal.returns-clause-used_to_send
returns-clause-used_to_send c = said.sound_used_to_send

pub returns-clause-renewed : goal.returns-clause-renewed
returns-clause-renewed c = said.sound_renewed

pub returns-clause-resigned : goal.returns-clause-resigned
returns-clause-resigned c = said.sound_resigned
