-- Where the bytes that are held stand.
use Rattle.std.proofs.Common.{◌≡◌, sym, ap, ◌∙◌, ℕ, ◌+◌, ◌-◌, ◌≤◌, List, ◌++◌, length, take, drop, arith}
use Rattle.std.proofs.Math.Seq.{take-add}
use Rattle.std.proofs.lemmas.List.{drop-take, drop-drop, length-take, length-drop, take_at, take_rest}

-- what is held, as a part of the part from its start on
pub held_part : (len start : ℕ) (all bytes held : List ℕ) → all ≡ bytes → held ≡ take len (drop start bytes)
    → take len (take (length all - start) (drop start all)) ≡ held
held_part len start all bytes held same is =
    ap (take len) (take_rest all start) ∙ (ap (λ b. take len (drop start b)) same ∙ sym is)

-- what is left where the first of what is held are let go
pub fewer_held : (start len count : ℕ) (bytes : List ℕ) → count ≤ length (take len (drop start bytes))
    → take (len - count) (drop (start + count) bytes) ≡ drop count (take len (drop start bytes))
fewer_held start len count bytes le =
    let sum : count + (len - count) ≡ len = omega (arith, le, length-take len (drop start bytes)) in
    ap (λ l. take (len - count) l) (sym (drop-drop count start bytes))
    ∙ (sym (drop-take count (len - count) (drop start bytes)) ∙ ap (λ n. drop count (take n (drop start bytes))) sum)

-- what is held where more was read behind it
pub more_held : (len count : ℕ) (bytes held : List ℕ) → take len bytes ≡ held
    → take (len + count) bytes ≡ held ++ take count (drop len bytes)
more_held len count bytes held is = take-add len count bytes ∙ ap (λ l. l ++ take count (drop len bytes)) is

-- what is written back to bytes that it fills
written_back : (len : ℕ) (part bytes : List ℕ) → length part ≡ len → take len (part ++ drop (length part) bytes) ≡ part
written_back len part bytes is = take_at part (drop (length part) bytes) len is

-- what is held where more was read behind it, by what was moved and what was read
pub filled : (whole len start count : ℕ) (bytes before moved behind read held : List ℕ)
    → length bytes ≡ whole → before ≡ bytes → length moved ≡ length before → take len moved ≡ take len (drop start before)
    → behind ≡ take whole (moved ++ drop (length moved) bytes) → length read ≡ length behind → take len read ≡ take len behind
    → held ≡ take len (drop start bytes)
    → take (len + count) (take whole (read ++ drop (length read) (take whole (moved ++ drop (length moved) bytes)))) ≡ held ++ take count (drop len read)
filled whole len start count bytes before moved behind read held all same moved_len is behind_is read_len kept held_is =
    let moved_all : length moved ≡ whole = moved_len ∙ (ap length same ∙ all) in
    let behind_moved : behind ≡ moved = behind_is ∙ written_back whole moved bytes moved_all in
    let read_all : length read ≡ whole = read_len ∙ (ap length behind_moved ∙ moved_all) in
    ap (take (len + count)) (written_back whole read (take whole (moved ++ drop (length moved) bytes)) read_all)
    ∙ more_held len count read held (kept ∙ (ap (take len) behind_moved ∙ (is ∙ (ap (λ b. take len (drop start b)) same ∙ sym held_is))))

pub count_read : (len count : ℕ) (read : List ℕ) → len + count ≤ length read → length (take count (drop len read)) ≡ count
count_read len count read le = omega (arith, le, length-take count (drop len read), length-drop len read)
