-- The text of a grant, its pieces put together, and how long it and its token are at most.
use Rattle.std.proofs.Common.{◌≡◌, ◌≢◌, ℕ, ◌+◌, ◌<◌, ◌≤◌, ◌^◌, true, false, List, [], ◌++◌, length, refl, arith, append_assoc, length-append}
use Rattle.std.specs.Prelude.{codes, replicate}
use Rattle.std.specs.Fmt.{decimal}
use Rattle.std.proofs.lemmas.Fmt.{length-decimal-le}
use Rattle.usp_jws.proofs.Sealing.{length-sealed}
use Rattle.usp_jws.specs.KeyFaults.{RefusesKey}
use Rattle.usp_jws.specs.declared.key.KeyFault.{KeyFault}
use Rattle.usp_jws.specs.declared.key.KeyFault.TheVariants as fault
use Rattle.usp_script.specs.Generator.{grant_text, grant_token, provider_key}

joined : (a b c d e f g : List ℕ) → (((((a ++ b) ++ c) ++ d) ++ e) ++ f) ++ g ≡ a ++ (b ++ (c ++ (d ++ (e ++ (f ++ g)))))
joined a b c d e f g = simp append_assoc

-- What is made piece by piece is the pieces together.
pub pieces : (a b c d e f g none one two three four five six seven : List ℕ)
    → none ≡ [] → one ≡ none ++ a → two ≡ one ++ b → three ≡ two ++ c → four ≡ three ++ d → five ≡ four ++ e → six ≡ five ++ f → seven ≡ six ++ g
    → seven ≡ a ++ (b ++ (c ++ (d ++ (e ++ (f ++ g)))))
pieces a b c d e f g none one two three four five six seven h i j k l m n o =
    let whole = joined a b c d e f g in
    rw (o, n, m, l, k, j, i, h) whole

-- ---- lengths

decimal_short : (number : ℕ) → number < 2 ^ 64 → length (decimal number) ≤ 20
decimal_short number small = length-decimal-le 20 number (omega arith) (omega arith) small

lengths : (a b c d e f g : List ℕ) → length (a ++ (b ++ (c ++ (d ++ (e ++ (f ++ g)))))) ≡ length a + (length b + (length c + (length d + (length e + (length f + length g)))))
lengths a b c d e f g = simp length-append

grant_short : (group moment : ℕ) → group < 2 ^ 64 → moment + 1000 < 2 ^ 64 → length (grant_text group moment) ≤ 300
grant_short group moment small early =
    let size =
    lengths (codes "{\"iss\":\"cp\",\"aud\":\"cdn-a\",\"exp\":") (decimal (moment + 1000)) (codes ",\"nbf\":") (decimal moment) (codes ",\"jti\":\"n") (decimal group)
    (codes "\",\"cdniets\":30,\"cdnistt\":1,\"cdnistd\":0,\"cdniuc\":\"regex:^https://[^/]*/\"}") in
    let expiry = decimal_short (moment + 1000) early in
    let begin = decimal_short moment (omega arith) in
    let name = decimal_short group small in
    omega arith

pub short_text : (text : List ℕ) (group moment : ℕ) → text ≡ grant_text group moment → group < 2 ^ 64 → moment + 1000 < 2 ^ 64 → length text ≤ 300
short_text text group moment is small early = rw is (grant_short group moment small early)

pub token_short : (group moment : ℕ) → group < 2 ^ 64 → moment + 1000 < 2 ^ 64 → length (grant_token group moment) ≤ 7400
token_short group moment small early =
    let size = length-sealed provider_key (grant_text group moment) in
    let short = grant_short group moment small early in
    omega arith

-- ---- the provider's key is not refused

true_false : true ≡ false → ⊥
true_false e = cc

pub key_not_refused : (found : KeyFault) → RefusesKey found (codes "kp") (codes "cp") (replicate 32 1) → found ≢ fault.NoMemory → ⊥
key_not_refused fault.BadKid is free = true_false is
key_not_refused fault.BadIssuer is free = true_false is.1
key_not_refused fault.ShortKey is free = absurd (omega arith)
key_not_refused fault.LongKey is free = absurd (omega arith)
key_not_refused fault.NoMemory is free = free refl
