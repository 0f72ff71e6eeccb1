-- Escapes, one at a time.
use Rattle.std.proofs.Common.{◌≡◌, ℕ, ◌≤◌, false, arith}
use Rattle.std.proofs.lemmas.Bool.Decides.{nat_tests}
use Rattle.usp_uri.specs.Letters.{is_unreserved}

pub past_ascii : (c : ℕ) → 128 ≤ c → is_unreserved c ≡ false
past_ascii c h = grind (arith, nat_tests)
