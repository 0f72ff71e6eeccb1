-- Texts that are URLs.
use Rattle.std.proofs.Common.{◌≡◌, ◌⊎◌, refl, sym, ap, ◌∙◌, inl, inr, ℕ, List, Bool, true, false, Option, Ok, Err, if◌then◌else◌}
use Rattle.std.specs.Str.{IsUtf8, is_utf8}
use Rattle.std.proofs.lemmas.Str.{IsUtf8-from_is_utf8, is_utf8-from_IsUtf8}
use Rattle.url.specs.Parts.{Parts}
use Rattle.url.specs.Parser.{IsOutOfRoom, parse_url}
use Rattle.url.specs.declared.error.ParseError.{ParseError}
use Rattle.url.specs.declared.error.ParseError.TheVariants.{RelativeUrlWithoutBase}
use Rattle.usp_player.specs.Calls.{GivesUrl, IsUrlFault, url_or_bad}
use Rattle.usp_player.specs.Requests.{url_of}
use Rattle.usp_player.specs.declared.fault.PlayFault.{PlayFault}
use Rattle.usp_player.specs.declared.fault.PlayFault.TheVariants as fault

text_url : (base : Option Parts) (text same : List ℕ) → (same ≡ text) × IsUtf8 text
    → url_of base text ≡ parse_url base same
text_url base text same (is, text_is) =
    unfold url_of in (ap (λ b. if b then parse_url base text else Err RelativeUrlWithoutBase)
    (is_utf8-from_IsUtf8 text text_is) ∙ ap (parse_url base) (sym is))

not_text : (text : List ℕ) (b : Bool) → is_utf8 text ≡ b → (IsUtf8 text → ⊥) → b ≡ false
not_text text true e never = absurd (never (IsUtf8-from_is_utf8 text e))
not_text text false e never = refl

no_url : (base : Option Parts) (text : List ℕ) → (IsUtf8 text → ⊥) → url_of base text ≡ Err RelativeUrlWithoutBase
no_url base text never =
    unfold url_of in ap (λ b. if b then parse_url base text else Err RelativeUrlWithoutBase)
    (not_text text (is_utf8 text) refl never)

pub no_text : (base : Option Parts) (text : List ℕ) → (IsUtf8 text → ⊥) → GivesUrl (Err fault.BadUri) (url_of base text)
no_text base text never = inr (sym (ap url_or_bad (no_url base text never)))

pub url_given : (base : Option Parts) (text same : List ℕ) (url : Parts) → (same ≡ text) × IsUtf8 text
    → parse_url base same ≡ Ok url → GivesUrl (Ok url) (url_of base text)
url_given base text same url is parsed = inr (sym (ap url_or_bad (text_url base text same is ∙ parsed)))

-- what is given where `url` refuses
pub url_refused : (base : Option Parts) (text same : List ℕ) (e : ParseError) (found : PlayFault)
    → (same ≡ text) × IsUtf8 text → (parse_url base same ≡ Err e) ⊎ IsOutOfRoom e → IsUrlFault e found
    → GivesUrl (Err found) (url_of base text)
url_refused base text same e found is refused (inl room) = inl (ap Err room.1)
url_refused base text same e found is (inl parsed) (inr bad) =
    inr (ap Err bad.1 ∙ sym (ap url_or_bad (text_url base text same is ∙ parsed)))
url_refused base text same e found is (inr room) (inr bad) = absurd (bad.0 room)
