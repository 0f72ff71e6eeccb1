-- Reading line by line gives the playlist of the lines.
use Rattle.std.proofs.Common.{◌≡◌, ◌+◌, refl, sym, ap, ◌∙◌, subst, ℕ, Bool, true, false, ◌&&◌, ◌||◌, not, nat_lt, List, [], ◌∷◌, ◌++◌, length, length-append, append_assoc, append-nil, Option, Some, None, Result, Ok}
use Rattle.std.specs.Option.{is_some}
use Rattle.usp_player.specs.ListLines.{ListLine, ending_line, inf_line, other_line, range_line, target_line, uri_line}
use Rattle.usp_player.specs.Lists.{duration_of, fault_or, first_fault, has_end, has_inf, has_target, is_duration, list_behind, list_with, next_uri, segment_at, segment_with, segments_in, target_in, target_of, unless, uri_count, uri_fault}
use Rattle.usp_player.specs.SoFar.{SoFar, so_far}
use Rattle.usp_player.specs.Steps.{Adds, behind, nothing_read, with_duration, with_line, with_target, with_uri}
use Rattle.usp_player.specs.declared.fault.ListFault.{ListFault}
use Rattle.usp_player.specs.declared.fault.ListFault.TheVariants as fault
use Rattle.usp_player.specs.declared.limits.TheConstants.{MAX_SEGMENTS}
use Rattle.usp_player.specs.declared.playlist.Playlist.{Playlist}
use Rattle.usp_player.specs.declared.playlist.Segment.{Segment}

abbrev Found : Type 0
Found = Result Playlist ListFault

abbrev first_target : Option ℕ → Option ℕ → Option ℕ
first_target (Some old) found = Some old
first_target None found = found

-- the segments that were read, that of a duration that waits for its URI, and those of the lines behind
abbrev all_segments : List Segment → Option (List ℕ) → List ListLine → List Segment
all_segments segments duration lines = segments ++ (segment_at (next_uri lines) duration ++ segments_in lines)

-- what is read in the end, behind what was read so far
abbrev at_last : Option ℕ → Option (List ℕ) → List Segment → Bool → Option ListFault → List ListLine → Found
at_last t d s e found lines = list_with found (first_target t (target_in lines)) (all_segments s d lines) (e || has_end lines)

-- ---- no line is left

no_segment : (text : Option (List ℕ)) → segment_at text None ≡ []
no_segment None = refl
no_segment (Some text) = refl

same_target : (t : Option ℕ) → first_target t None ≡ t
same_target None = refl
same_target (Some old) = refl

or_false : (e : Bool) → e || false ≡ e
or_false true = refl
or_false false = refl

or_true : (e : Bool) → e || true ≡ true
or_true true = refl
or_true false = refl

no_line : (t : Option ℕ) (d : Option (List ℕ)) (s : List Segment) (e : Bool) → list_with None t s e ≡ at_last t d s e None []
no_line t d s e =
    ap (λ t. list_with None t s e) (sym (same_target t))
    ∙ ap (λ s. list_with None (first_target t None) s e) (sym (append-nil s))
    ∙ ap (λ e. list_with None (first_target t None) (s ++ []) e) (sym (or_false e))

-- ---- one line

at_target : (n : ℕ) (later : List ListLine) (t found : Option ℕ) (d : Option (List ℕ)) (s : List Segment) (e has : Bool)
    (first : Option ListFault) (all : List Segment) (ended : Bool) → is_some t ≡ has
    → ((value : ℕ) → behind (n + 1) later (Ok (so_far (Some value) d s e)) ≡ list_with first (Some value) all ended)
    → behind (n + 1) later (with_target n t found (so_far t d s e))
    ≡ list_with (fault_or (unless (not has && is_some found) (fault.BadTarget n)) first) (first_target t found) all ended
at_target n later (Some old) found d s e true first all ended is next = refl
at_target n later (Some old) found d s e false first all ended is next = absurd (cc is)
at_target n later None found d s e true first all ended is next = absurd (cc is)
at_target n later None None d s e false first all ended is next = refl
at_target n later None (Some value) d s e false first all ended is next = next value

at_inf : (n : ℕ) (later : List ListLine) (sound : Bool) (duration : List ℕ) (t : Option ℕ) (d : Option (List ℕ)) (s : List Segment) (e : Bool)
    (first : Option ListFault) (last_target : Option ℕ) (all : List Segment) (ended : Bool)
    → behind (n + 1) later (Ok (so_far t (Some duration) s e)) ≡ list_with first last_target all ended
    → behind (n + 1) later (with_duration n sound duration (so_far t d s e))
    ≡ list_with (fault_or (unless sound (fault.BadInf n)) first) last_target all ended
at_inf n later true duration t d s e first last_target all ended next = next
at_inf n later false duration t d s e first last_target all ended next = refl

-- a segment put behind those that were read
one_more : (s rest : List Segment) (segment : Segment) (later : List ListLine)
    → (s ++ segment ∷ []) ++ (segment_at (next_uri later) None ++ rest) ≡ s ++ (segment ∷ rest)
one_more s rest segment later =
    ap (λ l. (s ++ segment ∷ []) ++ (l ++ rest)) (no_segment (next_uri later)) ∙ append_assoc s (segment ∷ []) rest

at_uri : (n : ℕ) (later : List ListLine) (text : List ℕ) (t : Option ℕ) (d : Option (List ℕ)) (s : List Segment) (e has few : Bool)
    (first : Option ListFault) (last_target : Option ℕ) (ended : Bool) → is_some d ≡ has → nat_lt (length s) MAX_SEGMENTS ≡ few
    → ((duration : List ℕ) → behind (n + 1) later (Ok (so_far t None (s ++ segment_with duration text ∷ []) e))
    ≡ list_with first last_target (all_segments (s ++ segment_with duration text ∷ []) None later) ended)
    → behind (n + 1) later (with_uri n d text (so_far t d s e))
    ≡ list_with (fault_or (uri_fault n has few) first) last_target (s ++ (segment_at (Some text) d ++ segments_in later)) ended
at_uri n later text t None s e true few first last_target ended is is_few next = absurd (cc is)
at_uri n later text t None s e false few first last_target ended is is_few next = refl
at_uri n later text t (Some duration) s e false few first last_target ended is is_few next = absurd (cc is)
at_uri n later text t (Some duration) s e true true first last_target ended is is_few next =
    rw is_few (next duration
    ∙ ap (λ l. list_with first last_target l ended) (one_more s (segments_in later) (segment_with duration text) later))
at_uri n later text t (Some duration) s e true false first last_target ended is is_few next = rw is_few refl

-- ---- all lines

reads : (n : ℕ) (earlier lines : List ListLine) (t : Option ℕ) (d : Option (List ℕ)) (s : List Segment) (e : Bool)
    → is_some t ≡ has_target earlier → is_some d ≡ has_inf earlier → length s ≡ uri_count earlier
    → behind n lines (Ok (so_far t d s e)) ≡ at_last t d s e (first_fault n earlier lines) lines
reads n earlier [] t d s e has_t has_d count = no_line t d s e
reads n earlier (target_line digits ∷ later) t d s e has_t has_d count =
    at_target n later t (target_of digits) d s e (has_target earlier) (first_fault (n + 1) (target_line digits ∷ earlier) later)
    (all_segments s d later) (e || has_end later) has_t
    (λ value. reads (n + 1) (target_line digits ∷ earlier) later (Some value) d s e refl has_d count)
reads n earlier (inf_line text ∷ later) t d s e has_t has_d count =
    at_inf n later (is_duration (duration_of text) && is_some (next_uri later)) (duration_of text) t d s e
    (first_fault (n + 1) (inf_line text ∷ earlier) later) (first_target t (target_in later))
    (all_segments s (Some (duration_of text)) later) (e || has_end later)
    (reads (n + 1) (inf_line text ∷ earlier) later t (Some (duration_of text)) s e has_t refl count)
reads n earlier (range_line ∷ later) t d s e has_t has_d count = refl
reads n earlier (uri_line text ∷ later) t d s e has_t has_d count =
    at_uri n later text t d s e (has_inf earlier) (nat_lt (uri_count earlier) MAX_SEGMENTS)
    (first_fault (n + 1) (uri_line text ∷ earlier) later) (first_target t (target_in later)) (e || has_end later)
    has_d (ap (λ k. nat_lt k MAX_SEGMENTS) count)
    (λ duration. reads (n + 1) (uri_line text ∷ earlier) later t None (s ++ segment_with duration text ∷ []) e has_t refl
    (length-append s (segment_with duration text ∷ []) ∙ ap (λ k. k + 1) count))
reads n earlier (ending_line ∷ later) t d s e has_t has_d count =
    reads (n + 1) (ending_line ∷ earlier) later t d s true has_t has_d count
    ∙ ap (λ ended. list_with (first_fault (n + 1) (ending_line ∷ earlier) later) (first_target t (target_in later)) (all_segments s d later) ended) (sym (or_true e))
reads n earlier (other_line ∷ later) t d s e has_t has_d count = reads (n + 1) (other_line ∷ earlier) later t d s e has_t has_d count

pub read_behind : (lines : List ListLine) → behind 2 lines (Ok nothing_read) ≡ list_behind lines
read_behind lines =
    reads 2 [] lines None None [] false refl refl refl
    ∙ ap (λ l. list_with (first_fault 2 [] lines) (target_in lines) (l ++ segments_in lines) (has_end lines)) (no_segment (next_uri lines))

-- ---- the step of a `#EXTINF:`

pub inf_step : (n : ℕ) (line : ListLine) (later : List ListLine) (read now : SoFar) (text duration : List ℕ) (done : Result Unit ListFault)
    → inf_line text ≡ line → duration ≡ duration_of text
    → Adds (with_duration n (is_duration duration && is_some (next_uri later)) duration read) now done → Adds (with_line n line later read) now done
inf_step n line later read now text duration done is same adds =
    subst (λ l. Adds (with_line n l later read) now done) is
    (subst (λ d. Adds (with_duration n (is_duration d && is_some (next_uri later)) d read) now done) same adds)
