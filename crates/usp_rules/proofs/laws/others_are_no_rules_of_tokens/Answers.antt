use Rattle.usp_rules.proofs.laws.others_are_no_rules_of_tokens.Goals as goal

pub returns-clause-uri : goal.returns-clause-uri
returns-clause-uri c profile shown h = h.wants

pub returns-clause-missing : goal.returns-clause-missing
returns-clause-missing c profile shown h = h.wants

pub returns-clause-late : goal.returns-clause-late
returns-clause-late c profile shown h = h.wants

pub returns-clause-seen : goal.returns-clause-seen
returns-clause-seen c profile shown h = h.wants

pub returns-clause-room : goal.returns-clause-room
returns-clause-room c profile shown h = h.wants
