-- What a run of `play` leaves.
use Rattle.std.proofs.Common.{◌≡◌, ◌⊎◌, inl, inr, ℕ, List, Option, Some, Result, Ok, Err, IfOk, IfSome, OnErr, refl, sym, ap, ◌∙◌, subst, take, ◌++◌, codes}
use Rattle.std.specs.Fmt.{decimal}
use Rattle.std.specs.Io.KnownBytes.{append_known}
use Rattle.usp_base.specs.Outside.{file_of}
use Rattle.usp_base.specs.declared.files.MemoryFile.{MemoryFile}
use Rattle.usp_base.specs.declared.fault.Status.{Status}
use Rattle.usp_base.specs.declared.fault.Status.TheVariants.{Done, Denials, Words, Refused, Outside, Memory}
use Rattle.usp_base.specs.declared.link.Asked.{Asked}
use Rattle.usp_player.specs.Maps.{Places, ReadsMap, map_of}
use Rattle.usp_player.specs.Playing.{begin}
use Rattle.usp_player.specs.Ways.{Ends}
use Rattle.usp_player.specs.declared.fault.MapFault.TheVariants as bad
use Rattle.usp_player.specs.declared.fault.PlayFault.{PlayFault}
use Rattle.usp_player.specs.declared.fault.PlayFault.TheVariants as fault
use Rattle.usp_player.specs.declared.map.Place.{Place}
use Rattle.usp_player.specs.declared.transcript.Step.{Step}
use Rattle.usp_tool.specs.Outcome.{Outcome, refusal}
use Rattle.usp_tool.specs.Play.Run.{HasOutcome, IsAnswered, PlaysFor, PlaysUnder, PutsPart, PutsWhole, Scene, Shows, no_map, plays}
use Rattle.usp_tool.specs.Play.Text.{fault_status, play_outcome}
use Rattle.usp_tool.specs.Play.Words.{PlayWords}
use Rattle.usp_tool.specs.Run.{Wrote}

link_alone : (e : PlayFault) → fault_status e ≡ Outside → e ≡ fault.LinkFault
link_alone fault.BadUri e = let differ : Refused ≡ Outside = e in cc
link_alone fault.NoAddress e = let differ : Refused ≡ Outside = e in cc
link_alone fault.LinkFault e = refl
link_alone fault.BadReply e = let differ : Refused ≡ Outside = e in cc
link_alone fault.NoLocation e = let differ : Refused ≡ Outside = e in cc
link_alone fault.TooManyHops e = let differ : Refused ≡ Outside = e in cc
link_alone fault.Denied e = let differ : Denials ≡ Outside = e in cc
link_alone (fault.List bad) e = let differ : Refused ≡ Outside = e in cc
link_alone fault.NoMemory e = let differ : Memory ≡ Outside = e in cc

-- an outcome that is a fault outside is one of the link
pub stopped_by_link : (r : Result (List Step) (List Step × PlayFault)) → (play_outcome r).status ≡ Outside
    → (steps : List Step) × (r ≡ Err (steps, fault.LinkFault))
stopped_by_link (Ok steps) e = let differ : Done ≡ Outside = e in cc
stopped_by_link (Err (steps, f)) e = (steps, ap (λ x. Err (steps, x)) (link_alone f e))

no_words : (e : PlayFault) → fault_status e ≡ Words → ⊥
no_words fault.BadUri e = let differ : Refused ≡ Words = e in cc
no_words fault.NoAddress e = let differ : Refused ≡ Words = e in cc
no_words fault.LinkFault e = let differ : Outside ≡ Words = e in cc
no_words fault.BadReply e = let differ : Refused ≡ Words = e in cc
no_words fault.NoLocation e = let differ : Refused ≡ Words = e in cc
no_words fault.TooManyHops e = let differ : Refused ≡ Words = e in cc
no_words fault.Denied e = let differ : Denials ≡ Words = e in cc
no_words (fault.List bad) e = let differ : Refused ≡ Words = e in cc
no_words fault.NoMemory e = let differ : Memory ≡ Words = e in cc

played_status : (r : Result (List Step) (List Step × PlayFault)) → (play_outcome r).status ≡ Words → ⊥
played_status (Ok steps) e = let differ : Done ≡ Words = e in cc
played_status (Err (steps, f)) e = no_words f e

not_words : (words : PlayWords) (map : List ℕ) (before after : Option (List Asked)) (o : Outcome)
    → HasOutcome words map before after o → o.status ≡ Words → ⊥
not_words words map before after o (no_map line bad is same) e = let differ : Refused ≡ Words = sym (ap (λ x. x.status) is) ∙ e in cc
not_words words map before after o (plays places result reads ends is) e = played_status result (sym (ap (λ x. x.status) is) ∙ e)

whole_shows : (words : PlayWords) (before after : Scene) (status : Status) → (status ≡ Words → ⊥) → PutsWhole words before after status
    → Shows words before after status
whole_shows words before after Done n w = w
whole_shows words before after Denials n w = w
whole_shows words before after Words n w = absurd (n refl)
whole_shows words before after Refused n w = w
whole_shows words before after Outside n w = inr (inl w)
whole_shows words before after Memory n w = inr w

-- what a put of an outcome leaves
pub play_shows : (words : PlayWords) (before after : Scene) (text : List ℕ) (status result : Status) (o : Outcome)
    → IsAnswered words before.files before.asks after.asks o → text ≡ o.text → status ≡ o.status
    → Wrote before.told after.told before.put_faults after.put_faults text status result → Shows words before after result
play_shows words before after text status result o answered t s (inl wrote) =
    let ends : result ≡ o.status = wrote.0 ∙ s in
    let whole : PutsWhole words before after o.status =
    record { outcome = o; answered = answered; written = wrote.1 ∙ ap (append_known before.told) t; ends = refl } in
    subst (λ r. Shows words before after r) (sym ends)
    (whole_shows words before after o.status (not_words words answered.map before.asks after.asks o answered.has) whole)
play_shows words before after text status result o answered t s (inr failed) =
    let part : PutsPart words before after =
    record { outcome = o; answered = answered; count = failed.2; written = failed.3 ∙ ap (λ x. append_known before.told (take failed.2 x)) t; rose = failed.1 } in
    subst (λ r. Shows words before after r) (sym failed.0) (inr (inr part))

-- ---- the outcome

read_line : (places : Places) (line : ℕ) → ReadsMap (Err (bad.Line line)) places → places ≡ Err (bad.Line line)
read_line places line (inl e) = let differ : ◌≡◌ {A = Places} (Err (bad.Line line)) (Err bad.NoMemory) = e in cc
read_line places line (inr e) = sym e

read_ok : (places : Places) (found : List Place) → ReadsMap (Ok found) places → places ≡ Ok found
read_ok places found (inl e) = let differ : ◌≡◌ {A = Places} (Ok found) (Err bad.NoMemory) = e in cc
read_ok places found (inr e) = sym e

pub has_no_map : {E : Type 0} (words : PlayWords) (map : List ℕ) (asks : Option (List Asked)) (line : ℕ) (r : Result Outcome E)
    → ReadsMap (Err (bad.Line line)) (map_of map) → IfOk r (λ o. o ≡ refusal (codes "map " ++ decimal line))
    → IfOk r (λ o. HasOutcome words map asks asks o)
has_no_map words map asks line (Ok o) reads is = no_map line (read_line (map_of map) line reads) is refl
has_no_map words map asks line (Err e) reads is = tt

pub has_played : {E : Type 0} (words : PlayWords) (map : List ℕ) (before after : Option (List Asked)) (places : List Place)
    (result : Result (List Step) (List Step × PlayFault)) (r : Result Outcome E) → ReadsMap (Ok places) (map_of map)
    → Ends places (begin places words.uri) before after result → IfOk r (λ o. o ≡ play_outcome result)
    → IfOk r (λ o. HasOutcome words map before after o)
has_played words map before after places result (Ok o) reads ends is = plays places result (read_ok (map_of map) places reads) ends is
has_played words map before after places result (Err e) reads ends is = tt

-- ---- want of memory

-- behind the playing, whatever became of its text
pub plays_under : {A E : Type 0} (words : PlayWords) (map : List ℕ) (before after : Option (List Asked)) (places : List Place)
    (result : Result (List Step) (List Step × PlayFault)) (r : Result A E) → ReadsMap (Ok places) (map_of map)
    → Ends places (begin places words.uri) before after result
    → OnErr r ((after ≡ before) ⊎ PlaysUnder words map before after)
plays_under words map before after places result (Ok a) reads ends = tt
plays_under words map before after places result (Err e) reads ends =
    inr (record { places = places; result = result; reads = read_ok (map_of map) places reads; ends = ends })

-- over a map that was loaded
pub plays_for : (words : PlayWords) (files : Option (List MemoryFile)) (map : List ℕ) (before after : Option (List Asked))
    → IfSome files (λ all. file_of all words.map ≡ Some map) → (after ≡ before) ⊎ PlaysUnder words map before after
    → (after ≡ before) ⊎ PlaysFor words files before after
plays_for words files map before after loaded (inl same) = inl same
plays_for words files map before after loaded (inr under) = inr (record { map = map; loaded = loaded; plays = under })
