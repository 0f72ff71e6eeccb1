-- Names, one segment at a time.
use Rattle.std.proofs.Common.{◌≡◌, ℕ, true, false, List, [], ◌∷◌, ◌++◌, map, Option, Some, None, if◌then◌else◌, refl, ap, sym, ◌∙◌}
use Rattle.std.specs.List.{list_all}
use Rattle.std.proofs.lemmas.List.{append_assoc}
use Rattle.usp_uri.specs.Letters.{is_slash}
use Rattle.usp_uri.specs.Delimited.{until, from_first}
use Rattle.usp_uri.specs.Normal.{path_from, segments_of}
use Rattle.usp_uri.proofs.DotLemmas.{pieces-cut}
use Rattle.usp.specs.Names.{decoded, is_name}

-- the name below a folder when these bytes of it are there and those segments follow
abbrev pub named_behind : List ℕ → List (List ℕ) → Option (List ℕ)
named_behind done segments =
    if list_all is_name (map decoded segments) then Some (done ++ path_from (map decoded segments)) else None

named_step : (done segment : List ℕ) (others : List (List ℕ)) → is_name (decoded segment) ≡ true
    → named_behind (done ++ 47 ∷ decoded segment) others ≡ named_behind done (segment ∷ others)
named_step done segment others is =
    rw (is, append_assoc done (47 ∷ decoded segment) (path_from (map decoded others))) refl

named_none : (done segment : List ℕ) (others : List (List ℕ)) → is_name (decoded segment) ≡ false
    → named_behind done (segment ∷ others) ≡ None
named_none done segment others is = rw is refl

-- the segments of a rest begin with its first
before_segment : (done rest after segment : List ℕ) (slash : ℕ) (whole : Option (List ℕ))
    → rest ≡ slash ∷ after → segment ≡ until is_slash after → named_behind done (segments_of rest) ≡ whole
    → named_behind done (segment ∷ segments_of (from_first is_slash after)) ≡ whole
before_segment done rest after segment slash whole e1 e2 before =
    ap (λ (s : List ℕ). named_behind done (s ∷ segments_of (from_first is_slash after))) e2
    ∙ (ap (named_behind done) (sym (pieces-cut after))
    ∙ (ap (λ (r : List ℕ). named_behind done (segments_of r)) (sym e1) ∙ before))

-- a segment that is a name
pub goes_on : (done one rest after segment others : List ℕ) (slash : ℕ) (whole : Option (List ℕ))
    → rest ≡ slash ∷ after → segment ≡ until is_slash after → others ≡ from_first is_slash after
    → one ≡ decoded segment → is_name one ≡ true → named_behind done (segments_of rest) ≡ whole
    → named_behind ((done ++ 47 ∷ []) ++ one) (segments_of others) ≡ whole
goes_on done one rest after segment others slash whole e1 e2 e3 e4 is before =
    let segments = segments_of (from_first is_slash after) in
    ap (λ (o : List ℕ). named_behind ((done ++ 47 ∷ []) ++ one) (segments_of o)) e3
    ∙ (ap (λ (o : List ℕ). named_behind ((done ++ 47 ∷ []) ++ o) segments) e4
    ∙ (ap (λ (name : List ℕ). named_behind name segments) (append_assoc done (47 ∷ []) (decoded segment))
    ∙ (named_step done segment segments (ap is_name (sym e4) ∙ is)
    ∙ before_segment done rest after segment slash whole e1 e2 before)))

-- a segment that is none
pub stops : (done one rest after segment others : List ℕ) (slash : ℕ) (whole : Option (List ℕ))
    → rest ≡ slash ∷ after → segment ≡ until is_slash after → others ≡ from_first is_slash after
    → one ≡ decoded segment → is_name one ≡ false → named_behind done (segments_of rest) ≡ whole
    → None ≡ whole
stops done one rest after segment others slash whole e1 e2 e3 e4 is before =
    sym (named_none done segment (segments_of (from_first is_slash after)) (ap is_name (sym e4) ∙ is))
    ∙ before_segment done rest after segment slash whole e1 e2 before
