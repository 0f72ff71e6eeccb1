-- What a header's parameters say.
use Rattle.std.proofs.Common.{◌≡◌, ◌≢◌, ℕ, Bool, true, false, List, Option, Some, None, refl, sym, ◌∙◌, ap, subst, codes, if◌then◌else◌}
use Rattle.base64.specs.GeneralPurpose.{IsBytes}
use Rattle.usp_json.specs.Faults.{RefusesJson}
use Rattle.usp_json.specs.Spells.{given, IsReading}
use Rattle.usp_json.proofs.FaultLaws.{reads_once}
use Rattle.usp_json.specs.declared.value.Members.{Members}
use Rattle.usp_json.specs.declared.fault.JsonFault.{JsonFault}
use Rattle.usp_json.specs.declared.fault.JsonFault.TheVariants.{Syntax, Duplicate, Deep, Many, NoMemory as NoJsonMemory}
use Rattle.usp_jws.specs.Base64url.{b64u}
use Rattle.usp_jws.proofs.Once.{b64u_once}
use Rattle.usp_jws.specs.Headers.{IsHeader, SpellsHeader, RefusesHeader, kid_of, has_bad_kid, has_parameter, header_fault, is_hs256, json_fault}
use Rattle.usp_jws.specs.declared.header.HeaderFault.{HeaderFault}
use Rattle.usp_jws.specs.declared.header.HeaderFault.TheVariants.{Json as NoJson, NoAlg, OtherAlg, Crit, Zip, Enc, BadKid, NoMemory}

pub spelled : (text bytes : List ℕ) (m : Members) → IsBytes bytes → text ≡ b64u bytes → IsReading bytes m → SpellsHeader text m
spelled text bytes m are is reads = record { bytes = bytes; are_bytes = are; encoded = is; reads = reads }

pub no_object : (text bytes : List ℕ) (fault : JsonFault) → IsBytes bytes → text ≡ b64u bytes → RefusesJson fault bytes → RefusesHeader (json_fault fault) text
no_object text bytes (Syntax at) are is r = (λ e. cc e, bytes, are, is, r)
no_object text bytes (Duplicate at) are is r = (λ e. cc e, bytes, are, is, r)
no_object text bytes (Deep at) are is r = (λ e. cc e, bytes, are, is, r)
no_object text bytes (Many at) are is r = (λ e. cc e, bytes, are, is, r)
no_object text bytes NoJsonMemory are is r = tt

-- the faults of parameters
abbrev IsOfParameters : HeaderFault → Type 0
IsOfParameters (NoJson fault) = ⊥
IsOfParameters NoMemory = ⊥
IsOfParameters _ = Unit {0}

either : (t : Bool) (x y : Option HeaderFault) (fault : HeaderFault) → (if t then x else y) ≡ Some fault → (x ≡ Some fault → IsOfParameters fault) → (y ≡ Some fault → IsOfParameters fault)
    → IsOfParameters fault
either true x y fault h l r = l h
either false x y fault h l r = r h

this : (own fault : HeaderFault) → IsOfParameters own → Some own ≡ Some fault → IsOfParameters fault
this own fault has h = let e : own ≡ fault = cc in subst (λ (f : HeaderFault). IsOfParameters f) e has

none : (fault : HeaderFault) → None ≡ Some fault → IsOfParameters fault
none fault h = cc h

which : (m : Members) (fault : HeaderFault) → header_fault m ≡ Some fault → IsOfParameters fault
which m fault h =
    either (has_parameter (codes "alg") m) _ _ fault h (λ h. either (is_hs256 m) _ _ fault h (λ h. either (has_parameter (codes "crit") m) _ _ fault h (this Crit fault tt)
    (λ h. either (has_parameter (codes "zip") m) _ _ fault h (this Zip fault tt) (λ h. either (has_parameter (codes "enc") m) _ _ fault h (this Enc fault tt)
    (λ h. either (has_bad_kid m) _ _ fault h (this BadKid fault tt) (none fault))))) (this OtherAlg fault tt)) (this NoAlg fault tt)

of_parameters : (text : List ℕ) (m : Members) (fault : HeaderFault) → SpellsHeader text m → header_fault m ≡ Some fault → IsOfParameters fault → RefusesHeader fault text
of_parameters text m (NoJson fault) s h own = absurd own
of_parameters text m NoMemory s h own = absurd own
of_parameters text m NoAlg s h own = (m, s, h)
of_parameters text m OtherAlg s h own = (m, s, h)
of_parameters text m Crit s h own = (m, s, h)
of_parameters text m Zip s h own = (m, s, h)
of_parameters text m Enc s h own = (m, s, h)
of_parameters text m BadKid s h own = (m, s, h)

pub refuses : (text : List ℕ) (m : Members) (fault : HeaderFault) → SpellsHeader text m → header_fault m ≡ Some fault → RefusesHeader fault text
refuses text m fault s h = of_parameters text m fault s h (which m fault h)

-- a header has one reading
same_members : (text : List ℕ) (m k : Members) → SpellsHeader text m → SpellsHeader text k → m ≡ k
same_members text m k s t =
    let e : t.bytes ≡ s.bytes = b64u_once t.bytes s.bytes t.are_bytes s.are_bytes (sym t.encoded ∙ s.encoded) in
    let r : IsReading s.bytes k = subst (λ (bytes : List ℕ). IsReading bytes k) e t.reads in
    reads_once given s.bytes m k s.reads r

no_reading : (bytes : List ℕ) (m : Members) (fault : JsonFault) → RefusesJson fault bytes → fault ≢ NoJsonMemory → IsReading bytes m → ⊥
no_reading bytes m (Syntax at) r n reads = r.0.no_reading m reads
no_reading bytes m (Duplicate at) r n reads = r.0.no_reading m reads
no_reading bytes m (Deep at) r n reads = r.0.no_reading m reads
no_reading bytes m (Many at) r n reads = r.0.no_reading m reads
no_reading bytes m NoJsonMemory r n reads = n refl

no_members : (text bytes : List ℕ) (m : Members) (fault : JsonFault) → fault ≢ NoJsonMemory → IsBytes bytes → text ≡ b64u bytes → RefusesJson fault bytes → SpellsHeader text m → ⊥
no_members text bytes m fault n are is r s =
    let e : s.bytes ≡ bytes = b64u_once s.bytes bytes s.are_bytes are (sym s.encoded ∙ is) in
    no_reading bytes m fault r n (subst (λ (l : List ℕ). IsReading l m) e s.reads)

clash : (text : List ℕ) (m k : Members) (fault : HeaderFault) → SpellsHeader text m → SpellsHeader text k → header_fault m ≡ Some fault → header_fault k ≡ None → ⊥
clash text m k fault s t some right =
    let e : Some fault ≡ None = sym some ∙ (ap header_fault (same_members text m k s t) ∙ right) in
    cc

pub no_header : (fault : HeaderFault) (text : List ℕ) (kid : Option (List ℕ)) → RefusesHeader fault text → fault ≢ NoMemory → IsHeader text kid → ⊥
no_header (NoJson fault) text kid r n h = no_members text r.1 h.0 fault r.0 r.2 r.3 r.4 h.1
no_header NoMemory text kid r n h = n refl
no_header NoAlg text kid r n h = clash text r.0 h.0 NoAlg r.1 h.1 r.2 h.2
no_header OtherAlg text kid r n h = clash text r.0 h.0 OtherAlg r.1 h.1 r.2 h.2
no_header Crit text kid r n h = clash text r.0 h.0 Crit r.1 h.1 r.2 h.2
no_header Zip text kid r n h = clash text r.0 h.0 Zip r.1 h.1 r.2 h.2
no_header Enc text kid r n h = clash text r.0 h.0 Enc r.1 h.1 r.2 h.2
no_header BadKid text kid r n h = clash text r.0 h.0 BadKid r.1 h.1 r.2 h.2

pub one_kid : (text : List ℕ) (kid other : Option (List ℕ)) → IsHeader text kid → IsHeader text other → kid ≡ other
one_kid text kid other h k = h.3 ∙ (ap kid_of (same_members text h.0 k.0 h.1 k.1) ∙ sym k.3)
