-- How many members there are with one claim changed, and how many within the limits.
use Rattle.std.proofs.Common.{◌≡◌, ℕ, suc, ◌≤◌, true, List, [], ◌∷◌, length, inl, inr, refl, sym, ap, ◌∙◌, subst, arith}
use Rattle.std.specs.Option.{is_some}
use Rattle.std.specs.Str.{bytes_eq}
use Rattle.std.proofs.lemmas.Slice.Zip.{length-zip}
use Rattle.usp_json.specs.declared.limits.TheConstants.{MAX_MEMBERS}
use Rattle.usp_json.specs.declared.value.Json.{Json}
use Rattle.usp_json.specs.declared.value.Members.{Members}
use Rattle.usp_json.specs.Entries.{entries, members_of, value_of}
use Rattle.usp_json.specs.Kept.{Keeps, KeepMembers, members, KeepsLimits, KeepsWithin}
use Rattle.usp_json.specs.Spells.{given, with_a_member_more}
use Rattle.usp_json.proofs.KeepLaws.{set_keeps}
use Rattle.usp_json.proofs.WideLaws.{members_wider_kept, pushed_wider}
use Rattle.usp_claims.specs.Table.{claim, name_of}
use Rattle.usp_claims.specs.Changes.{with_claim, with_entry}
use Rattle.usp_claims.specs.declared.table.ClaimName.{ClaimName}
use Rattle.usp_claims.proofs.Changed.{whole}
use Rattle.usp_claims.proofs.Lengths.{entries_back}
use Rattle.usp_claims.proofs.Named.{HasShape, in_place, at_the_end, kept_named, fresh, shape, still_kept, utf8_name}
use Rattle.usp_claims.proofs.Rows.{tells}

same_entries : (name : List ℕ) (value : Json) (es : List (List ℕ × Json)) → is_some (value_of name es) ≡ true → length (with_entry name value es) ≡ length es
same_entries name value [] h = cc
same_entries name value (e ∷ es) h = elim (tells (bytes_eq e.0 name)) [
  | inl hit ↦ rw hit refl
  | inr miss ↦ let rest = rw miss at h in rw miss (ap suc (same_entries name value es rest))
]

-- a claim that is there leaves as many members
pub same_count : (name : ClaimName) (value : Json) (m : Members) → is_some (claim (name_of name) m) ≡ true → length (entries (with_claim name value m)) ≡ length (entries m)
same_count name value m there = ap length (entries_back (with_entry (name_of name) value (entries m))) ∙ same_entries (name_of name) value (entries m) there

few_kept : (n : ℕ) (names : List (List ℕ)) (values : List Json) → KeepMembers given n names values → length names ≤ MAX_MEMBERS
few_kept _ _ _ (members n names values same u apart few k) = few

-- members within the limits are few
pub few_entries : (m : Members) → KeepsLimits m → length (entries m) ≤ MAX_MEMBERS
few_entries m k =
    subst (λ (x : Members). length (entries x) ≤ MAX_MEMBERS) (sym k.is)
    (let count = length-zip k.names k.values in let few = few_kept given.levels k.names k.values k.kept in omega (arith, count, few))

pub there_kept : (name : ClaimName) (value : Json) (m : Members) → is_some (claim (name_of name) m) ≡ true → KeepsLimits m → Keeps given given.levels value → KeepsLimits (with_claim name value m)
there_kept name value m there k v = still_kept name value m k v (omega (arith, few_entries m k, same_count name value m there))

wider_shape : (name : ClaimName) (value : Json) (m : Members) → KeepsLimits (members_of m.names m.values) → Keeps given given.levels value → HasShape name value m → KeepsWithin with_a_member_more (with_claim name value m)
wider_shape name value m k v (in_place place is) = rw is (members_wider_kept (members_of m.names _) (set_keeps m.names m.values place value k v))
wider_shape name value m k v (at_the_end none is) = rw is (pushed_wider m.names m.values (name_of name) value k v (utf8_name name) (fresh name m none))

-- any claim leaves them within the limits with a member more
pub wider_kept : (name : ClaimName) (value : Json) (m : Members) → KeepsLimits m → Keeps given given.levels value → KeepsWithin with_a_member_more (with_claim name value m)
wider_kept name value m k v =
    wider_shape name value m (subst (λ (x : Members). KeepsLimits x) (sym (whole m)) k) v (shape name value m (kept_named m k).paired)
