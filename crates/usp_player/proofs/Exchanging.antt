-- What a request brought.
use Rattle.std.proofs.Common.{◌≡◌, subst, ℕ, List, Option, Some, Err}
use Rattle.usp_base.specs.Links.{asked_with, grown}
use Rattle.usp_base.specs.declared.link.Asked.{Asked}
use Rattle.usp_http.specs.Hearing.{AnswersReply, HearsNothing}
use Rattle.usp_http.specs.declared.heard.HeardFault.{HeardFault}
use Rattle.usp_http.specs.declared.heard.HeardFault.TheVariants as heard_fault

pub no_reply : (told now : Option (List Asked)) (address head bytes shown : List ℕ) (fault : HeardFault)
    → now ≡ grown told (asked_with address head (Some bytes)) → shown ≡ bytes → AnswersReply shown (Err fault)
    → fault ≡ heard_fault.BadReply
    → (read : List ℕ) × (now ≡ grown told (asked_with address head (Some read))) × HearsNothing read
no_reply told now address head bytes shown fault grows same answers is =
    (bytes, grows, subst HearsNothing same (subst (λ f. AnswersReply shown (Err f)) is answers))
