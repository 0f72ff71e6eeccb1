-- How the lines of a script are read, and which is the first that is refused.
use Rattle.std.specs.Prelude.{◌≡◌, ℕ, suc, zero, ◌+◌, ◌-◌, ◌<◌, ◌≤◌, true, false, if◌then◌else◌, List, [], ◌∷◌, ◌++◌, length, take, codes, position, Option, Some, None, IfSome, Result, Ok, Err, slice_get}
use Rattle.std.specs.Fmt.{decimal}
use Rattle.std.specs.List.{find}
use Rattle.std.specs.Option.{option_and_then, option_map}
use Rattle.std.specs.Str.{IsUtf8, bytes_eq}
use mathlib.Core.List.{IsPrefix}
use Rattle.usp_base.specs.Cuts.{cut_at}
use Rattle.usp_base.specs.Numbers.{number_of}
use Rattle.usp_base.specs.Outside.{file_of}
use Rattle.usp_base.specs.declared.files.MemoryFile.{MemoryFile}
use Rattle.usp_base.specs.declared.limits.TheConstants.{MOMENT_BOUND}
use Rattle.usp_conf.specs.Readings.{Configures}
use Rattle.usp_conf.specs.Values.{ConfValue}
use Rattle.usp_json.specs.Canon.{canon_members}
use Rattle.usp_json.specs.declared.value.Members.{Members}
use Rattle.usp_jws.specs.Base64url.{b64u_bytes}
use Rattle.usp_jws.specs.Keys.{KeyValue, has_kid}
use Rattle.usp_jws.specs.Letters.{is_identity, is_kid}
use Rattle.usp_jws.specs.Sealed.{sealed}
use Rattle.usp_jws.specs.declared.limits.TheConstants.{MAX_SECRET, MIN_SECRET}
use Rattle.usp_rules.specs.Tokens.{SpellsClaims}
use Rattle.usp_uri.specs.Faults.{normal_of}
use Rattle.usp_script.specs.Drafts.{Draft, nothing_read, rounds_of, script_of, with_ask, with_edge, with_grant, with_key, with_object, with_outside, with_round}
use Rattle.usp_script.specs.Script.{IsBare, ScriptValue, asks_in, attribute_of, grants_in}
use Rattle.usp_script.specs.declared.ask.Carried.{Carried}
use Rattle.usp_script.specs.declared.ask.Carried.TheVariants.{InCookie, InQuery, Nothing}
use Rattle.usp_script.specs.declared.ask.Label.{Label}
use Rattle.usp_script.specs.declared.ask.Label.TheVariants.{Granted, Issued, Outside}
use Rattle.usp_script.specs.declared.ask.LabAsk.{LabAsk}
use Rattle.usp_script.specs.declared.limits.TheConstants.{MAX_ASKS, MAX_EDGES}

-- A file that was loaded for a line.
pub record Loaded : Type 0 where
  pub name : List ℕ
  pub text : List ℕ

abbrev pub space : ℕ
space = 32

-- that many fields, a space behind each, and the rest of the line
abbrev pub fields : (count : ℕ) → (line : List ℕ) → Option (List (List ℕ))
fields zero line = Some (line ∷ [])
fields (suc count) line =
    option_and_then (λ cut. option_map (λ rest. cut.0 ∷ rest) (fields count cut.1)) (cut_at space line)

-- the place of the edge of that name
abbrev pub edge_at : List ConfValue → (name : List ℕ) → Option ℕ
edge_at edges name = position (λ edge. bytes_eq edge.edge name) edges

-- ---- lines of the head

-- The line names a file, where another edge may stand.
pub record NamesFile (draft : Draft) (line name : List ℕ) : Type 0 where
  pub fields : fields 1 line ≡ Some (codes "edge" ∷ name ∷ [])
  pub utf8 : IsUtf8 name
  pub head : draft.has_begun ≡ false
  pub before : draft.objects ≡ []
  pub few : length draft.edges < MAX_EDGES

-- `edge FILE`: the file is a configuration of an edge that has no other's name.
pub record AddsEdge (draft : Draft) (line : List ℕ) (loaded : Loaded) (edge : ConfValue) : Type 0 where
  pub names : NamesFile draft line loaded.name
  pub configures : Configures loaded.text edge
  pub unused : edge_at draft.edges edge.edge ≡ None

-- `object EDGE URI TEXT`
pub record AddsObject (draft : Draft) (line : List ℕ) (place : ℕ) (uri text : List ℕ) : Type 0 where
  pub edge : List ℕ
  pub typed : List ℕ
  pub fields : fields 3 line ≡ Some (codes "object" ∷ edge ∷ typed ∷ text ∷ [])
  pub head : draft.has_begun ≡ false
  pub at : edge_at draft.edges edge ≡ Some place
  pub normal : normal_of typed ≡ Ok uri

-- `key KID ISSUER SECRET`: a key of another name than those above, its secret in base64url (RFC 7518 section 3.2)
pub record AddsKey (draft : Draft) (line : List ℕ) (key : KeyValue) : Type 0 where
  pub secret : List ℕ
  pub fields : fields 3 line ≡ Some (codes "key" ∷ key.kid ∷ key.issuer ∷ secret ∷ [])
  pub head : draft.has_begun ≡ false
  pub kid : is_kid key.kid ≡ true
  pub issuer : is_identity key.issuer ≡ true
  pub bytes : b64u_bytes secret ≡ Some key.secret
  pub long : MIN_SECRET ≤ length key.secret
  pub short : length key.secret ≤ MAX_SECRET
  pub unused : has_kid draft.keys key.kid ≡ false

-- ---- tokens

-- `grant KID CLAIMS` and `outside KID CLAIMS`: the claims, sealed with the key of that name
pub record Seals (draft : Draft) (word line token : List ℕ) : Type 0 where
  pub kid : List ℕ
  pub claims : List ℕ
  pub key : KeyValue
  pub members : Members
  pub fields : fields 2 line ≡ Some (word ∷ kid ∷ claims ∷ [])
  pub named : find (λ key. bytes_eq key.kid kid) draft.keys ≡ Some key
  pub spells : SpellsClaims claims members
  pub sealed : token ≡ sealed key (canon_members members)

-- ---- asks

abbrev pub label_text : Label → List ℕ
label_text (Granted number) = codes "g" ++ decimal number
label_text (Outside number) = codes "x" ++ decimal number
label_text (Issued number) = codes "i" ++ decimal number

-- how many tokens of a label's kind may be named: the grants and the outside tokens above, and what the asks of earlier
-- rounds issued
abbrev pub known_of : Draft → Label → ℕ
known_of draft (Granted number) = length (grants_in (rounds_of draft))
known_of draft (Outside number) = length draft.outsides
known_of draft (Issued number) = asks_in draft.rounds

abbrev pub number_in : Label → ℕ
number_in (Granted number) = number
number_in (Outside number) = number
number_in (Issued number) = number

-- The text is a label of what may be named.
pub record IsLabel (draft : Draft) (text : List ℕ) (label : Label) : Type 0 where
  pub is : text ≡ label_text label
  pub from : 1 ≤ number_in label
  pub to : number_in label ≤ known_of draft label

-- What the last fields of an ask say: `query LABEL`, `cookie LABEL` or `none`.
pub data Carries (draft : Draft) : (words : List (List ℕ)) → Carried → Type 0 where
  in_query : (text : List ℕ) (label : Label) (words : List (List ℕ)) (carried : Carried) → IsLabel draft text label
      → words ≡ codes "query" ∷ text ∷ [] → carried ≡ InQuery label → Carries draft words carried
  in_cookie : (text : List ℕ) (label : Label) (words : List (List ℕ)) (carried : Carried) → IsLabel draft text label
      → words ≡ codes "cookie" ∷ text ∷ [] → carried ≡ InCookie label → Carries draft words carried
  without : (words : List (List ℕ)) (carried : Carried) → words ≡ codes "none" ∷ [] → carried ≡ Nothing
      → Carries draft words carried

-- These are the fields of the line, the last with the rest of it.
abbrev pub AreFields : (line : List ℕ) → List (List ℕ) → Type 0
AreFields line words = (count : ℕ) × (fields count line ≡ Some words)

-- `ask EDGE MOMENT URI query LABEL`, `ask EDGE MOMENT URI cookie LABEL` and `ask EDGE MOMENT URI none`
pub record AddsAsk (draft : Draft) (line : List ℕ) (ask : LabAsk) : Type 0 where
  pub name : List ℕ
  pub moment : List ℕ
  pub typed : List ℕ
  pub words : List (List ℕ)
  pub edge : ConfValue
  pub fields : AreFields line (codes "ask" ∷ name ∷ moment ∷ typed ∷ words)
  pub carries : Carries draft words ask.carried
  pub at : edge_at draft.edges name ≡ Some ask.edge
  pub is : slice_get draft.edges ask.edge ≡ Some edge
  pub when : number_of (MOMENT_BOUND - 1) moment ≡ Some ask.moment
  pub normal : normal_of typed ≡ Ok ask.uri
  pub bare : IsBare (attribute_of edge) ask.uri ask.carried
  pub few : asks_in (rounds_of draft) < MAX_ASKS

-- ---- the lines

-- The line is one of the table, with the files that were loaded for it, and what it adds goes with what stands above.
pub data Takes (draft : Draft) (line : List ℕ) (loads : List Loaded) (next : Draft) : Type 0 where
  an_edge : (loaded : Loaded) (edge : ConfValue) → AddsEdge draft line loaded edge → loads ≡ loaded ∷ []
      → next ≡ with_edge draft edge → Takes draft line loads next
  an_object : (place : ℕ) (uri text : List ℕ) → AddsObject draft line place uri text → loads ≡ []
      → next ≡ with_object draft (record { edge = place; uri = uri; text = text }) → Takes draft line loads next
  a_key : (key : KeyValue) → AddsKey draft line key → loads ≡ [] → next ≡ with_key draft key
      → Takes draft line loads next
  a_grant : (token : List ℕ) → Seals draft (codes "grant") line token → loads ≡ [] → next ≡ with_grant draft token
      → Takes draft line loads next
  an_outside : (token : List ℕ) → Seals draft (codes "outside") line token → loads ≡ []
      → next ≡ with_outside draft token → Takes draft line loads next
  an_ask : (ask : LabAsk) → AddsAsk draft line ask → loads ≡ [] → next ≡ with_ask draft ask
      → Takes draft line loads next
  an_end : line ≡ codes "then" → loads ≡ [] → next ≡ with_round draft → Takes draft line loads next

-- The line is refused: as it stands, whatever a file might have; or for what was loaded of the file that it names.
pub data Refuses (draft : Draft) (line : List ℕ) (loads : List Loaded) : Type 0 where
  as_it_stands : ((any : List Loaded) (next : Draft) → Takes draft line any next → ⊥) → loads ≡ []
      → Refuses draft line loads
  by_its_file : (loaded : Loaded) → NamesFile draft line loaded.name
      → ((next : Draft) → Takes draft line (loaded ∷ []) next → ⊥) → loads ≡ loaded ∷ [] → Refuses draft line loads

-- Lines behind what was read, the first of which has this number, with the files that were loaded for them: the script
-- that they make, or the number of the first that is refused.
pub data ReadsFrom : (number : ℕ) → Draft → List (List ℕ) → List Loaded → Result ScriptValue ℕ → Type 0 where
  ends : (number : ℕ) (draft : Draft) (loads : List Loaded) (result : Result ScriptValue ℕ) → loads ≡ []
      → result ≡ Ok (script_of draft) → ReadsFrom number draft [] loads result
  takes : (number : ℕ) (draft next : Draft) (line : List ℕ) (lines : List (List ℕ)) (now later loads : List Loaded)
      (result : Result ScriptValue ℕ) → Takes draft line now next → ReadsFrom (number + 1) next lines later result
      → loads ≡ now ++ later → ReadsFrom number draft (line ∷ lines) loads result
  refuses : (number : ℕ) (draft : Draft) (line : List ℕ) (lines : List (List ℕ)) (loads : List Loaded)
      (result : Result ScriptValue ℕ) → Refuses draft line loads → result ≡ Err number
      → ReadsFrom number draft (line ∷ lines) loads result

-- Lines behind what was read, of which those above one were taken, with the files that were loaded for them, and that
-- one names a file.
pub data StopsAtFile : Draft → List (List ℕ) → List Loaded → Type 0 where
  stops : (draft : Draft) (line name : List ℕ) (lines : List (List ℕ)) (loads : List Loaded) → NamesFile draft line name
      → loads ≡ [] → StopsAtFile draft (line ∷ lines) loads
  goes_on : (draft next : Draft) (line : List ℕ) (lines : List (List ℕ)) (now later loads : List Loaded)
      → Takes draft line now next → StopsAtFile next lines later → loads ≡ now ++ later
      → StopsAtFile draft (line ∷ lines) loads

-- what is read of the lines of a script
abbrev pub Reads : (lines : List (List ℕ)) → List Loaded → Result ScriptValue ℕ → Type 0
Reads lines loads result = ReadsFrom 1 nothing_read lines loads result

-- ---- the files

-- Each file that was loaded is the one of its name, where they are told.
abbrev pub AreFiles : Option (List MemoryFile) → List Loaded → Type 0
AreFiles files [] = Unit {0}
AreFiles files (loaded ∷ loads) =
    IfSome files (λ all. file_of all loaded.name ≡ Some loaded.text) × AreFiles files loads

-- the file of a line that has the form of an edge's
abbrev pub name_in : Option (List (List ℕ)) → List (List ℕ)
name_in (Some (word ∷ name ∷ [])) = if bytes_eq word (codes "edge") then name ∷ [] else []
name_in other = []

-- the files that the lines name, in order
abbrev pub names_in : List (List ℕ) → List (List ℕ)
names_in [] = []
names_in (line ∷ lines) = name_in (fields 1 line) ++ names_in lines

-- the names asked for with more, where they are told
abbrev pub asked_with : Option (List (List ℕ)) → List (List ℕ) → Option (List (List ℕ))
asked_with asked names = option_map (λ before. before ++ names) asked

-- The files that were asked for are the first of those that the lines name, in order.
pub record AsksInOrder (lines : List (List ℕ)) (before after : Option (List (List ℕ))) : Type 0 where
  pub names : List (List ℕ)
  pub first : IsPrefix names (names_in lines)
  pub asked : after ≡ asked_with before names

-- The lines stop at a file, with those that were loaded for the lines above. That file and these were asked for, and no
-- other.
pub record Unloads (files : Option (List MemoryFile)) (lines : List (List ℕ)) (before after : Option (List (List ℕ)))
    : Type 0 where
  pub loads : List Loaded
  pub loaded : AreFiles files loads
  pub stopped : StopsAtFile nothing_read lines loads
  pub asked : after ≡ asked_with before (take (length loads + 1) (names_in lines))
