-- Texts are UTF-8.
use Rattle.std.proofs.lemmas.Str.{IsUtf8-string_bytes}

pub ruleset text_rules = (IsUtf8-string_bytes)
