-- The playlist of a text, by what the text is.
use Rattle.std.proofs.Common.{◌≡◌, ◌<◌, ◌≤◌, refl, ap, ◌∙◌, not, ℕ, List, length, Bool, true, false, Result, Err, if◌then◌else◌}
use Rattle.std.proofs.lemmas.Bool.{le-ltb}
use borrow.Author.Tests.{lt-ltb}
use Rattle.std.specs.Str.{IsUtf8, is_utf8}
use Rattle.std.specs.Str.Lossy.{utf8_valid_len}
use Rattle.std.proofs.lemmas.Str.{IsUtf8-from_is_utf8, is_utf8-from_IsUtf8}
use Rattle.usp_base.specs.Lines.{lines_of}
use Rattle.usp_player.specs.Lists.{list_in, list_of}
use Rattle.usp_player.specs.declared.fault.ListFault.{ListFault}
use Rattle.usp_player.specs.declared.fault.ListFault.TheVariants as fault
use Rattle.usp_player.specs.declared.playlist.Playlist.{Playlist}

abbrev by_text : List ℕ → Bool → Result Playlist ListFault
by_text text b = if not b then Err (fault.NotUtf8 (utf8_valid_len text)) else list_in (lines_of text)

abbrev by_length : List ℕ → Bool → Result Playlist ListFault
by_length text b = if b then Err fault.TooLong else by_text text (is_utf8 text)

pub list_of_long : (text : List ℕ) → 4194304 < length text → list_of text ≡ Err fault.TooLong
list_of_long text long = unfold list_of in ap (by_length text) (lt-ltb 4194304 (length text) long)

not_text : (text : List ℕ) (b : Bool) → is_utf8 text ≡ b → (IsUtf8 text → ⊥) → b ≡ false
not_text text true e never = absurd (never (IsUtf8-from_is_utf8 text e))
not_text text false e never = refl

pub list_of_bad : (text : List ℕ) → length text ≤ 4194304 → (IsUtf8 text → ⊥) → list_of text ≡ Err (fault.NotUtf8 (utf8_valid_len text))
list_of_bad text short never =
    unfold list_of in (ap (by_length text) (le-ltb 4194304 (length text) short) ∙ ap (by_text text) (not_text text (is_utf8 text) refl never))

pub list_of_text : (text : List ℕ) → length text ≤ 4194304 → IsUtf8 text → list_of text ≡ list_in (lines_of text)
list_of_text text short is =
    unfold list_of in (ap (by_length text) (le-ltb 4194304 (length text) short) ∙ ap (by_text text) (is_utf8-from_IsUtf8 text is))
