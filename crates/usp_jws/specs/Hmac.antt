-- HMAC-SHA-256 (RFC 2104, with the hash of FIPS 180-4).
use Rattle.std.specs.Prelude.{◌≡◌, ℕ, ◌-◌, nat_lt, if◌then◌else◌, List, ◌++◌, map, replicate, length, bit_xor}
use Rattle.sha2.specs.Sha256.{sha256}
use Rattle.base64.specs.GeneralPurpose.{IsBytes}

-- the key as one block of 64 bytes: a longer one is replaced by its digest, and zero bytes follow it
unfoldable pub key_block : List ℕ → List ℕ
key_block key =
    if nat_lt 64 (length key) then sha256 key ++ replicate 32 0
    else key ++ replicate (64 - length key) 0

-- each byte xor the pad
abbrev pub xored : ℕ → List ℕ → List ℕ
xored pad block = map (λ b. bit_xor b pad) block

-- H((key xor 0x5c) ++ H((key xor 0x36) ++ text))
unfoldable pub hmac : List ℕ → List ℕ → List ℕ
hmac key text = sha256 (xored 0x5c (key_block key) ++ sha256 (xored 0x36 (key_block key) ++ text))

-- 32 bytes
pub record IsDigest (digest : List ℕ) : Type 0 where
  pub bytes : IsBytes digest
  pub size : length digest ≡ 32
