-- The names of keys, one after the other.
use Rattle.std.proofs.Common.{◌≡◌, ℕ, ◌+◌, ◌<◌, ◌≤◌, List, length, take, get_or, sym, subst}
use Rattle.std.proofs.lemmas.List.{take_all, take_more}
use Rattle.std.proofs.lemmas.List.Elements.{All-push}
use Rattle.usp_jws.specs.Keys.{KeyValue}
use Rattle.usp_lab.specs.Named.{AreNamed}

pub one_named : (keys : List KeyValue) (place : ℕ) (key : KeyValue) → place < length keys → key ≡ get_or keys place key → length key.kid ≤ 64
    → AreNamed (take place keys) → AreNamed (take (place + 1) keys)
one_named keys place key below is named before =
    subst AreNamed (sym (take_more keys place key below))
    (All-push (λ (k : KeyValue). length k.kid ≤ 64) (take place keys) (get_or keys place key) before
    (subst (λ (k : KeyValue). length k.kid ≤ 64) is named))

pub all_named : (keys : List KeyValue) (place : ℕ) → length keys ≤ place → AreNamed (take place keys) → AreNamed keys
all_named keys place past named = subst AreNamed (take_all place keys past) named
