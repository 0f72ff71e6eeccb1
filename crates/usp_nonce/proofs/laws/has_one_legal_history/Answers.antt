use Rattle.usp_nonce.proofs.Legal.{legal_none, legal_more, legal_last, legal_front, next_unique}
use Rattle.usp_nonce.proofs.laws.has_one_legal_history.Goals as goal

pub returns : goal.returns
returns c = record {
  none = legal_none;
  more = legal_more;
  last = legal_last;
  front = legal_front;
  one = next_unique;
}
