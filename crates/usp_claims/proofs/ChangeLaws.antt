-- What one claim changed does to the others, and to the table.
use Rattle.std.proofs.Common.{◌≡◌, ◌≢◌, ℕ, zero, suc, ◌<◌, true, false, List, [], ◌∷◌, get_or, Some, inl, inr, refl, sym, ap, ◌∙◌, arith}
use Rattle.std.specs.List.{position_or_len, slice_get}
use Rattle.std.specs.Option.{is_some}
use Rattle.std.specs.Str.{bytes_eq}
use Rattle.std.proofs.lemmas.Slice.Eq.{bytes_eq-Decides}
use Rattle.std.proofs.lemmas.Bool.Decides.{eqb_tells}
use Rattle.std.proofs.lemmas.Option.{get_or_from_slice_get, slice_get_within}
use Rattle.usp_json.specs.declared.value.Json.{Json}
use Rattle.usp_json.specs.declared.value.Members.{Members}
use Rattle.usp_json.specs.Entries.{entries, value_of}
use Rattle.usp_claims.specs.Table.{claim, name_of, rows, has_kind, in_range, fits, IsClaimSet}
use Rattle.usp_claims.specs.Changes.{with_entry, with_claim}
use Rattle.usp_claims.specs.declared.table.ClaimName.{ClaimName}
use Rattle.usp_claims.specs.declared.table.ClaimName.TheVariants.{Uc}
use Rattle.usp_claims.specs.declared.table.Row.{Row}
use Rattle.usp_claims.proofs.Lengths.{entries_back}
use Rattle.usp_claims.proofs.Rows.{tells}

same_name : (a : List ℕ) → bytes_eq a a ≡ true
same_name a = (bytes_eq-Decides a a).1 refl

other_name : (a b : List ℕ) → a ≢ b → bytes_eq a b ≡ false
other_name a b n = elim (tells (bytes_eq a b)) [
  | inl hit ↦ absurd (n ((bytes_eq-Decides a b).0 hit))
  | inr miss ↦ miss
]

this_value : (name : List ℕ) (value : Json) (es : List (List ℕ × Json)) → value_of name (with_entry name value es) ≡ Some value
this_value name value [] = rw (same_name name) refl
this_value name value (e ∷ es) = elim (tells (bytes_eq e.0 name)) [
  | inl hit ↦ rw (hit, hit) refl
  | inr miss ↦ rw (miss, miss) (this_value name value es)
]

other_value : (name other : List ℕ) (value : Json) (es : List (List ℕ × Json)) → other ≢ name → value_of other (with_entry name value es) ≡ value_of other es
other_value name other value [] n = rw (other_name name other (λ e. n (sym e))) refl
other_value name other value (e ∷ es) n = elim (tells (bytes_eq e.0 name)) [
  | inl hit ↦
      let is : e.0 ≡ name = (bytes_eq-Decides e.0 name).0 hit in
      let miss : bytes_eq e.0 other ≡ false = other_name e.0 other (λ same. n (sym same ∙ is)) in
      rw (hit, miss) refl
  | inr pass ↦ elim (tells (bytes_eq e.0 other)) [
    | inl hit ↦ rw (pass, hit) refl
    | inr miss ↦ rw (pass, miss) (other_value name other value es n)
  ]
]

pub this_claim : (name : ClaimName) (value : Json) (m : Members) → claim (name_of name) (with_claim name value m) ≡ Some value
this_claim name value m = ap (λ l. value_of (name_of name) l) (entries_back (with_entry (name_of name) value (entries m))) ∙ this_value (name_of name) value (entries m)

pub other_claim : (name : ClaimName) (other : List ℕ) (value : Json) (m : Members) → other ≢ name_of name → claim other (with_claim name value m) ≡ claim other m
other_claim name other value m n = ap (λ l. value_of other l) (entries_back (with_entry (name_of name) value (entries m))) ∙ other_value (name_of name) other value (entries m) n

-- the row of a name
abbrev row_at : List ℕ → ℕ
row_at name = position_or_len (λ (r : Row). bytes_eq (name_of r.name) name) rows

own_row : (k : ℕ) (d : Row) → k < 14 → row_at (name_of (get_or rows k d).name) ≡ k
own_row zero d lt = refl
own_row (suc zero) d lt = refl
own_row (suc (suc zero)) d lt = refl
own_row (suc (suc (suc zero))) d lt = refl
own_row (suc (suc (suc (suc zero)))) d lt = refl
own_row (suc (suc (suc (suc (suc zero))))) d lt = refl
own_row (suc (suc (suc (suc (suc (suc zero)))))) d lt = refl
own_row (suc (suc (suc (suc (suc (suc (suc zero))))))) d lt = refl
own_row (suc (suc (suc (suc (suc (suc (suc (suc zero)))))))) d lt = refl
own_row (suc (suc (suc (suc (suc (suc (suc (suc (suc zero))))))))) d lt = refl
own_row (suc (suc (suc (suc (suc (suc (suc (suc (suc (suc zero)))))))))) d lt = refl
own_row (suc (suc (suc (suc (suc (suc (suc (suc (suc (suc (suc zero))))))))))) d lt = refl
own_row (suc (suc (suc (suc (suc (suc (suc (suc (suc (suc (suc (suc zero)))))))))))) d lt = refl
own_row (suc (suc (suc (suc (suc (suc (suc (suc (suc (suc (suc (suc (suc zero))))))))))))) d lt = refl
own_row (suc (suc (suc (suc (suc (suc (suc (suc (suc (suc (suc (suc (suc (suc k)))))))))))))) d lt = absurd (omega arith)

row_fits : (m : Members) (each : Row) (value : Json) → claim (name_of each.name) m ≡ Some value → has_kind each.kind value ≡ true → in_range each.kind value ≡ true → fits m each ≡ true
row_fits m each value h kind range = rw (h, kind, range) refl

still_fits : (place k : ℕ) (changed d : Row) (value : Json) (m : Members) → slice_get rows place ≡ Some changed → has_kind changed.kind value ≡ true → in_range changed.kind value ≡ true
    → IsClaimSet m → k < 14 → fits (with_claim changed.name value m) (get_or rows k d) ≡ true
still_fits place k changed d value m there kind range set lt = elim (eqb_tells k place) [
  | inl e ↦
      let same : get_or rows k d ≡ changed = rw e.1 (get_or_from_slice_get rows place changed d there) in
      rw same (row_fits (with_claim changed.name value m) changed value (this_claim changed.name value m) kind range)
  | inr n ↦
      let within : place < 14 = slice_get_within rows place changed there in
      let is : get_or rows place d ≡ changed = get_or_from_slice_get rows place changed d there in
      let apart : name_of (get_or rows k d).name ≢ name_of changed.name
      = λ e. n.1 (sym (own_row k d lt) ∙ (ap row_at (e ∙ ap (λ (r : Row). name_of r.name) (sym is)) ∙ own_row place d within)) in
      let unchanged = other_claim changed.name (name_of (get_or rows k d).name) value m apart in
      rw unchanged (set.fitting k d lt)
]

still_contained : (name : ClaimName) (value : Json) (m : Members) → is_some (claim (name_of Uc) m) ≡ true → is_some (claim (name_of Uc) (with_claim name value m)) ≡ true
still_contained name value m h = elim (tells (bytes_eq (name_of Uc) (name_of name))) [
  | inl hit ↦
      let e : name_of Uc ≡ name_of name = (bytes_eq-Decides (name_of Uc) (name_of name)).0 hit in
      rw (ap (λ l. claim l (with_claim name value m)) e ∙ this_claim name value m) refl
  | inr miss ↦
      let n : name_of Uc ≢ name_of name = λ e. let f = rw e at miss in let g = same_name (name_of name) in let c : true ≡ false = sym g ∙ f in cc c in
      rw (other_claim name (name_of Uc) value m n) h
]

-- a value that its row allows leaves a claim set
pub still_set : (place : ℕ) (changed : Row) (value : Json) (m : Members) → slice_get rows place ≡ Some changed → has_kind changed.kind value ≡ true → in_range changed.kind value ≡ true → IsClaimSet m
    → IsClaimSet (with_claim changed.name value m)
still_set place changed value m there kind range set =
    record { fitting = λ k d lt. still_fits place k changed d value m there kind range set lt; contained = still_contained changed.name value m set.contained }
