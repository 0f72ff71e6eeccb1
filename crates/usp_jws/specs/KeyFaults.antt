-- When a key is refused.
use Rattle.std.specs.Prelude.{◌≡◌, ◌<◌, true, false, List, length, ℕ}
use Rattle.usp_jws.specs.Letters.{is_kid, is_identity}
use Rattle.usp_jws.specs.declared.limits.TheConstants.{MAX_SECRET, MIN_SECRET}
use Rattle.usp_jws.specs.declared.key.KeyFault.{KeyFault}
use Rattle.usp_jws.specs.declared.key.KeyFault.TheVariants.{BadKid, BadIssuer, ShortKey, LongKey, NoMemory}

-- What a refusal says of the name, the issuer and the secret: it is the first that applies. Want of memory is free.
abbrev pub RefusesKey : KeyFault → List ℕ → List ℕ → List ℕ → Type 0
RefusesKey BadKid kid issuer secret = is_kid kid ≡ false
RefusesKey BadIssuer kid issuer secret = (is_kid kid ≡ true) × (is_identity issuer ≡ false)
RefusesKey ShortKey kid issuer secret =
    (is_kid kid ≡ true) × (is_identity issuer ≡ true) × (length secret < MIN_SECRET)
RefusesKey LongKey kid issuer secret =
    (is_kid kid ≡ true) × (is_identity issuer ≡ true) × (MAX_SECRET < length secret)
RefusesKey NoMemory kid issuer secret = Unit {0}
