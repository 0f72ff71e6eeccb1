-- The addresses of authorities.
use Rattle.std.specs.Prelude.{◌≡◌, ◌⊎◌, ℕ, ◌+◌, ◌&&◌, nat_le, Bool, false, List, [], ◌∷◌, ◌++◌, Option, Some, None, Result, Ok, Err, if◌then◌else◌}
use Rattle.std.specs.List.{list_all}
use Rattle.std.specs.Str.{byte, bytes_eq}
use Rattle.usp_base.specs.Cuts.{cut_at}
use Rattle.usp_base.specs.Lines.{lines_of}
use Rattle.usp_player.specs.declared.fault.MapFault.{MapFault}
use Rattle.usp_player.specs.declared.fault.MapFault.TheVariants as fault
use Rattle.usp_player.specs.declared.map.Place.{Place}

-- the address of the first place of that authority
abbrev pub address_of : List Place → (authority : List ℕ) → Option (List ℕ)
address_of [] authority = None
address_of (place ∷ places) authority =
    if bytes_eq place.authority authority then Some place.address else address_of places authority

-- a printable character of ASCII but the space
abbrev pub is_visible : ℕ → Bool
is_visible c = nat_le (byte "!") c && nat_le c (byte "~")

-- one or more visible characters
abbrev pub is_word : List ℕ → Bool
is_word [] = false
is_word (c ∷ text) = list_all is_visible (c ∷ text)

abbrev pub place_with : (authority address : List ℕ) → Place
place_with authority address = record { authority = authority; address = address }

abbrev pub place_at : Option (List ℕ × List ℕ) → Option Place
place_at None = None
place_at (Some cut) = if is_word cut.0 && is_word cut.1 then Some (place_with cut.0 cut.1) else None

-- two words, parted by one space
abbrev pub place_of : (line : List ℕ) → Option Place
place_of line = place_at (cut_at (byte " ") line)

abbrev pub bad_or : ℕ → Option Place → Option ℕ → Option ℕ
bad_or n None other = Some n
bad_or n (Some place) other = other

-- the number of the first line that has another form, of the lines from line n on
abbrev pub first_bad : ℕ → List (List ℕ) → Option ℕ
first_bad n [] = None
first_bad n (line ∷ lines) = bad_or n (place_of line) (first_bad (n + 1) lines)

abbrev pub listed : Option Place → List Place
listed None = []
listed (Some place) = place ∷ []

abbrev pub places_in : List (List ℕ) → List Place
places_in [] = []
places_in (line ∷ lines) = listed (place_of line) ++ places_in lines

abbrev pub Places : Type 0
Places = Result (List Place) MapFault

abbrev pub map_with : Option ℕ → List Place → Places
map_with None places = Ok places
map_with (Some n) places = Err (fault.Line n)

-- the places of the lines of a text, or its first line that has another form
unfoldable pub map_of : List ℕ → Places
map_of text = map_with (first_bad 1 (lines_of text)) (places_in (lines_of text))

-- The answer is that, or there was no memory.
abbrev pub ReadsMap : Places → (found : Places) → Type 0
ReadsMap answer found = (answer ≡ Err fault.NoMemory) ⊎ (answer ≡ found)
