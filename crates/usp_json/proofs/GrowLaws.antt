-- Spellings that grow at the end.
use Rattle.std.proofs.Common.{◌≡◌, ℕ, true, List, [], ◌∷◌, ◌++◌, refl, ap, ◌∙◌, append_assoc, append-nil}
use Rattle.usp_json.specs.declared.value.Json.{Json}
use Rattle.usp_json.specs.Grammar.{is_space, IsSpace}
use Rattle.usp_json.specs.Spells.{Limits, IsFresh, AreApart, SpellsItems, last_item, more_items, SpellsPadded, padded, SpellsMembers, last_member, more_members, SpellsMember, member}
use Rattle.usp_json.proofs.Numbers.{each_snoc}

pub snoc_items : (limits : Limits) (n : ℕ) (vs : List Json) (h : List ℕ) → SpellsItems limits n vs h → (v : Json) (t : List ℕ) → SpellsPadded limits n v t → SpellsItems limits n (vs ++ v ∷ []) (h ++ 44 ∷ t)
snoc_items limits _ _ _ (last_item n w h is) v t s = more_items n w (v ∷ []) h t (h ++ 44 ∷ t) is (last_item n v t s) refl
snoc_items limits _ _ _ (more_items n w ws front back text is those spelled) v t s =
    more_items n w (ws ++ v ∷ []) front (back ++ 44 ∷ t) (text ++ 44 ∷ t) is (snoc_items limits n ws back those v t s) (rw spelled (append_assoc front (44 ∷ back) (44 ∷ t)))

pub snoc_members : (limits : Limits) (n : ℕ) (ns : List (List ℕ)) (vs : List Json) (h : List ℕ) → SpellsMembers limits n ns vs h → (name : List ℕ) (v : Json) (t : List ℕ) → SpellsMember limits n name v t
    → SpellsMembers limits n (ns ++ name ∷ []) (vs ++ v ∷ []) (h ++ 44 ∷ t)
snoc_members limits _ _ _ _ (last_member n m w h is) name v t s = more_members n m w (name ∷ []) (v ∷ []) h t (h ++ 44 ∷ t) is (last_member n name v t s) refl
snoc_members limits _ _ _ _ (more_members n m w ms ws front back text is those spelled) name v t s =
    more_members n m w (ms ++ name ∷ []) (ws ++ v ∷ []) front (back ++ 44 ∷ t) (text ++ 44 ∷ t) is (snoc_members limits n ms ws back those name v t s) (rw spelled (append_assoc front (44 ∷ back) (44 ∷ t)))

pub space_snoc : (s : List ℕ) (b : ℕ) → IsSpace s → is_space b ≡ true → IsSpace (s ++ b ∷ [])
space_snoc s b h t = each_snoc is_space s b h t

space_padded : (limits : Limits) (n : ℕ) (v : Json) (t : List ℕ) (b : ℕ) → SpellsPadded limits n v t → is_space b ≡ true → SpellsPadded limits n v (t ++ b ∷ [])
space_padded limits _ _ _ b (padded n v before inner after text hb is ha whole) h =
    padded n v before inner (after ++ b ∷ []) (text ++ b ∷ []) hb is (space_snoc after b ha h) (rw whole (append_assoc before (inner ++ after) (b ∷ []) ∙ ap (λ l. before ++ l) (append_assoc inner after (b ∷ []))))

pub space_items : (limits : Limits) (n : ℕ) (vs : List Json) (g : List ℕ) (b : ℕ) → SpellsItems limits n vs g → is_space b ≡ true → SpellsItems limits n vs (g ++ b ∷ [])
space_items limits _ _ _ b (last_item n v g is) h = last_item n v (g ++ b ∷ []) (space_padded limits n v g b is h)
space_items limits _ _ _ b (more_items n v vs front back text is those spelled) h =
    more_items n v vs front (back ++ b ∷ []) (text ++ b ∷ []) is (space_items limits n vs back b those h) (rw spelled (append_assoc front (44 ∷ back) (b ∷ [])))

space_member : (limits : Limits) (n : ℕ) (name : List ℕ) (v : Json) (t : List ℕ) (b : ℕ) → SpellsMember limits n name v t → is_space b ≡ true → SpellsMember limits n name v (t ++ b ∷ [])
space_member limits _ _ _ _ b (member n name v before spelled after back text hb is ha value whole) h =
    member n name v before spelled after (back ++ b ∷ []) (text ++ b ∷ []) hb is ha (space_padded limits n v back b value h)
    (rw whole (append_assoc before (spelled ++ (after ++ 58 ∷ back)) (b ∷ []) ∙ ap (λ l. before ++ l) (append_assoc spelled (after ++ 58 ∷ back) (b ∷ []) ∙ ap (λ l. spelled ++ l) (append_assoc after (58 ∷ back) (b ∷ [])))))

pub space_members : (limits : Limits) (n : ℕ) (ns : List (List ℕ)) (vs : List Json) (g : List ℕ) (b : ℕ) → SpellsMembers limits n ns vs g → is_space b ≡ true → SpellsMembers limits n ns vs (g ++ b ∷ [])
space_members limits _ _ _ _ b (last_member n name v g is) h = last_member n name v (g ++ b ∷ []) (space_member limits n name v g b is h)
space_members limits _ _ _ _ b (more_members n name v ns vs front back text is those spelled) h =
    more_members n name v ns vs front (back ++ b ∷ []) (text ++ b ∷ []) is (space_members limits n ns vs back b those h) (rw spelled (append_assoc front (44 ∷ back) (b ∷ [])))

pub apart_snoc : (limits : Limits) (earlier names : List (List ℕ)) (name : List ℕ) → AreApart limits earlier names → IsFresh limits name (earlier ++ names) → AreApart limits earlier (names ++ name ∷ [])
apart_snoc limits earlier [] name a f = (rw append-nil at f, tt)
apart_snoc limits earlier (n ∷ names) name a f = (a.0, apart_snoc limits (earlier ++ n ∷ []) names name a.1 (rw (append_assoc earlier (n ∷ []) names) f))
