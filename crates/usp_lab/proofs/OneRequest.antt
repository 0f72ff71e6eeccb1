-- A connection whose bytes are one head is one request, and ends behind it.
use Rattle.std.proofs.Common.{◌≡◌, ◌⊎◌, refl, sym, ap, ◌∙◌, subst, ℕ, ◌||◌, false, List, [], ◌∷◌, ◌++◌, length, append-nil, length-append, Some, None, inl, inr, arith}
use Rattle.std.proofs.lemmas.List.{take_all}
use Rattle.std.proofs.lemmas.Option.{some_pair_parts}
use Rattle.httparse.specs.Grammar.{ReadsRequest, print_request}
use Rattle.usp_conf.specs.Values.{ConfValue}
use Rattle.usp_http.proofs.Finding.{goes_on, one}
use Rattle.usp_http.proofs.Rooms.{request_some}
use Rattle.usp_http.specs.Finding.{Finds, IsHead, Stop, broken, enough, front, over}
use Rattle.usp_http.specs.Fronts.{HasManyFields}
use Rattle.usp_http.specs.declared.head.Head.{Head}
use Rattle.usp_http.specs.declared.next.Next.{Next}
use Rattle.usp_http.specs.declared.next.Next.TheVariants as next
use Rattle.usp_edge.specs.Session as session
use Rattle.usp_edge.specs.Session.{Goes, Progress, Session, begins, end_behind, end_of, further, is_full, is_last, start, worked}
use Rattle.usp_edge.specs.Work.{Work, Works, work_text}
use Rattle.usp_edge.specs.declared.end.End.{End}
use Rattle.usp_edge.specs.declared.end.End.TheVariants as ending

-- ---- heads in the bytes

-- A head, alone in the bytes, behind which the connection goes on.
pub record IsLone (head : Head) (bytes : List ℕ) : Type 0 where
  pub is : IsHead head bytes []
  pub goes : head.last ≡ false
  pub bare : head.body ≡ false

found_is_memory : (head : Head) → next.Found head ≡ next.NoMemory → ⊥
found_is_memory head e = absurd (cc)

found_one : (a b : Head) → next.Found a ≡ next.Found b → a ≡ b
found_one a b e = cc

parts_nil : (a b : List ℕ) → a ++ b ≡ [] → (a ≡ []) × (b ≡ [])
parts_nil [] b e = (refl, e)
parts_nil (x ∷ a) b e = absurd (cc)

-- it is the only one
only_head : (head other : Head) (bytes left after : List ℕ) → IsLone head (bytes ++ left) → IsHead other bytes after
    → (other ≡ head) × (after ≡ []) × (left ≡ [])
only_head head other bytes left after lone is =
    let same = one (next.Found other) head (bytes ++ left) [] (after ++ left) enough enough lone.is
    (goes_on (next.Found other) bytes after left enough enough tt is) (λ e. found_is_memory other e) in
    let none = parts_nil after left same.1 in
    (found_one other head same.0, none.0, none.1)

no_head : (head : Head) (rest after : List ℕ) → rest ≡ [] → IsHead head rest after → ⊥
no_head head rest after none is =
    absurd (omega (arith, request_some is.whole, ap length (sym none ∙ is.reads.1), length-append (print_request is.whole) after))

-- ---- the heads so far

-- one head was worked, and no bytes are left
record Behind (conf : ConfValue) (head : Head) (bytes left : List ℕ) (progress : Progress) : Type 0 where
  work : Work
  works : Works conf false head work
  all : left ≡ []
  is : progress ≡ worked (begins bytes) [] work

works_first : (conf : ConfValue) (head other : Head) (bytes : List ℕ) (before : Progress) (work : Work) → head.last ≡ false
    → before ≡ begins bytes → other ≡ head → Works conf (is_last other (is_full before)) other work → Works conf false head work
works_first conf head other bytes before work goes at same works =
    let here = subst (λ f. Works conf (is_last other (is_full f)) other work) at works in
    let there = subst (λ h. Works conf (is_last h (is_full (begins bytes))) h work) same here in
    subst (λ last. Works conf last head work) (ap (λ b. b || false) goes) there

goes_so : (conf : ConfValue) (head : Head) (bytes left : List ℕ) (progress : Progress) → IsLone head (bytes ++ left)
    → Goes conf bytes progress → (progress ≡ begins bytes) ⊎ Behind conf head bytes left progress
goes_so conf head bytes left progress lone (start progress1 is) = inl is
goes_so conf head bytes left progress lone (further before progress1 other after work goes other_is works behind is) =
    by_front (goes_so conf head bytes left before lone goes)
  where
    by_front : (before ≡ begins bytes) ⊎ Behind conf head bytes left before
        → (progress ≡ begins bytes) ⊎ Behind conf head bytes left progress
    by_front (inl at) =
        let same = only_head head other bytes left after lone (subst (λ f. IsHead other f.rest after) at other_is) in
        inr (record {
          work = work;
          works = works_first conf head other bytes before work lone.goes at same.0 works;
          all = same.2;
          is = is ∙ ap (λ f. worked f after work) at ∙ ap (λ (t : List ℕ). worked (begins bytes) t work) same.1;
        })
    by_front (inr once) = absurd (no_head other before.rest after (ap (λ f. f.rest) once.is) other_is)

-- ---- the end

-- The connection was one request with this head, and it ended behind it.
pub record IsOnce (conf : ConfValue) (head : Head) (bytes left : List ℕ) (stop : Stop) (progress : Progress) (ends : End)
    : Type 0 where
  pub work : Work
  pub works : Works conf false head work
  pub all : left ≡ []
  pub stop_is : stop ≡ over
  pub ends_is : ends ≡ ending.Closed
  pub is : progress ≡ worked (begins bytes) [] work

no_end : (head : Head) (ends : End) → head.last ≡ false → head.body ≡ false → end_behind head false ≡ Some ends → ⊥
no_end head ends goes bare e =
    let none : end_behind head false ≡ None = rw (bare, goes) refl in
    absurd (none_some ends (sym none ∙ e))
  where
    none_some : (ends : End) → None ≡ Some ends → ⊥
    none_some ends e = absurd (cc)

-- nothing else is found where the head stands
nothing_else : (head : Head) (bytes left after text : List ℕ) (stop : Stop) (result : Next) (ends : End) → IsLone head (bytes ++ left)
    → (stop ≡ over → left ≡ []) → (stop ≡ broken → ⊥) → Finds result bytes stop after → end_of result ≡ Some (text, ends) → ⊥
nothing_else head bytes left after text stop (next.Found other) ends lone none calm finds end_is = absurd (cc)
nothing_else head bytes left after text stop next.NoMemory ends lone none calm finds end_is = absurd (cc)
nothing_else head bytes left after text stop next.ReadFault ends lone none calm finds end_is = calm finds.1
nothing_else head bytes left after text stop next.Ended ends lone none calm finds end_is =
    no_head head (bytes ++ left) [] (ap (λ (t : List ℕ). t ++ left) finds.0 ∙ none finds.1) lone.is
nothing_else head bytes left after text stop next.CutShort ends lone none calm finds end_is =
    let whole : IsHead head bytes [] = subst (λ (t : List ℕ). IsHead head t []) (ap (λ (t : List ℕ). bytes ++ t) (none finds.2) ∙ append-nil bytes) lone.is in
    finds.0.0.0 whole.whole [] whole.reads
nothing_else head bytes left after text stop next.BadHead ends lone none calm finds end_is =
    settled (one next.BadHead head (bytes ++ left) [] (after ++ left) enough enough lone.is (goes_on next.BadHead bytes after left stop enough tt finds) (λ e. absurd (cc))).0
  where
    settled : next.BadHead ≡ next.Found head → ⊥
    settled e = absurd (cc)
nothing_else head bytes left after text stop next.HeadTooLong ends lone none calm finds end_is =
    settled (one next.HeadTooLong head (bytes ++ left) [] (after ++ left) enough enough lone.is (goes_on next.HeadTooLong bytes after left stop enough tt finds) (λ e. absurd (cc))).0
  where
    settled : next.HeadTooLong ≡ next.Found head → ⊥
    settled e = absurd (cc)
nothing_else head bytes left after text stop next.ManyHeaders ends lone none calm finds end_is =
    settled (one next.ManyHeaders head (bytes ++ left) [] (after ++ left) enough enough lone.is (goes_on next.ManyHeaders bytes after left stop enough tt finds) (λ e. absurd (cc))).0
  where
    settled : next.ManyHeaders ≡ next.Found head → ⊥
    settled e = absurd (cc)

-- the end of the bytes is found behind it
record IsOver (stop : Stop) (rest after text : List ℕ) (ends : End) : Type 0 where
  stop_is : stop ≡ over
  after_is : after ≡ rest
  text_is : text ≡ []
  ends_is : ends ≡ ending.Closed

front_nil : (rest : List ℕ) → rest ≡ [] → front rest ≡ []
front_nil rest e = ap front e ∙ take_all 16384 [] (omega arith)

over_behind : (head : Head) (whole rest after text : List ℕ) (stop : Stop) (result : Next) (ends : End) → IsHead head whole [] → rest ≡ []
    → (stop ≡ broken → ⊥) → Finds result rest stop after → end_of result ≡ Some (text, ends) → IsOver stop rest after text ends
over_behind head whole rest after text stop (next.Found other) ends is empty calm finds end_is = absurd (cc)
over_behind head whole rest after text stop next.NoMemory ends is empty calm finds end_is = absurd (cc)
over_behind head whole rest after text stop next.ReadFault ends is empty calm finds end_is = absurd (calm finds.1)
over_behind head whole rest after text stop next.Ended ends is empty calm finds end_is =
    let same = some_pair_parts [] text ending.Closed ends end_is in
    record {
      stop_is = finds.1;
      after_is = finds.2;
      text_is = sym same.0;
      ends_is = sym same.1;
    }
over_behind head whole rest after text stop next.CutShort ends is empty calm finds end_is =
    absurd (omega (arith, finds.1, ap length empty))
over_behind head whole rest after text stop next.BadHead ends is empty calm finds end_is =
    absurd (finds.0 whole is.whole [] (subst (λ (t : List ℕ). ReadsRequest (t ++ whole) is.whole []) (sym (front_nil rest empty)) is.reads))
over_behind head whole rest after text stop next.HeadTooLong ends is empty calm finds end_is =
    absurd (omega (arith, finds.1, ap length empty))
over_behind head whole rest after text stop next.ManyHeaders ends is empty calm finds end_is =
    absurd (many finds.0)
  where
    many : HasManyFields (front rest) → ⊥
    many (h, more, reads, few) =
        absurd (omega (arith, request_some h, ap length (sym (front_nil rest empty) ∙ reads.1), length-append (print_request h) more))

-- the same progress, whose text has nothing more
nothing_more : (bytes after text : List ℕ) (work : Work) → after ≡ [] → text ≡ []
    → record (worked (begins bytes) [] work) { rest = after; text = work_text work ++ text } ≡ worked (begins bytes) [] work
nothing_more bytes after text work none nothing =
    ap (λ (t : List ℕ). record (worked (begins bytes) [] work) { rest = t; text = work_text work ++ text }) none
    ∙ ap (λ (t : List ℕ). record (worked (begins bytes) [] work) { text = work_text work ++ t }) nothing
    ∙ ap (λ (t : List ℕ). record (worked (begins bytes) [] work) { text = t }) (append-nil (work_text work))

pub once : (conf : ConfValue) (head : Head) (bytes left : List ℕ) (stop : Stop) (progress : Progress) (ends : End) → IsLone head (bytes ++ left)
    → (stop ≡ over → left ≡ []) → (stop ≡ broken → ⊥) → Session conf bytes stop progress ends → IsOnce conf head bytes left stop progress ends
once conf head bytes left stop progress ends lone none calm (session.at_head before other after work goes other_is works behind is) =
    by_front (goes_so conf head bytes left before lone goes)
  where
    by_front : (before ≡ begins bytes) ⊎ Behind conf head bytes left before → IsOnce conf head bytes left stop progress ends
    by_front (inl at) =
        let same = only_head head other bytes left after lone (subst (λ f. IsHead other f.rest after) at other_is) in
        absurd (no_end head ends lone.goes lone.bare
        (subst (λ h. end_behind h false ≡ Some ends) same.0 (subst (λ f. end_behind other (is_full f) ≡ Some ends) at behind)))
    by_front (inr first) = absurd (no_head other before.rest after (ap (λ f. f.rest) first.is) other_is)
once conf head bytes left stop progress ends lone none calm (session.at_rest before result after text goes finds end_is is) =
    by_front (goes_so conf head bytes left before lone goes)
  where
    by_front : (before ≡ begins bytes) ⊎ Behind conf head bytes left before → IsOnce conf head bytes left stop progress ends
    by_front (inl at) =
        absurd (nothing_else head bytes left after text stop result ends lone none calm (subst (λ f. Finds result f.rest stop after) at finds) end_is)
    by_front (inr first) =
        let rest_is : before.rest ≡ [] = ap (λ f. f.rest) first.is in
        let behind = over_behind head (bytes ++ left) before.rest after text stop result ends lone.is rest_is calm finds end_is in
        record {
          work = first.work;
          works = first.works;
          all = first.all;
          stop_is = behind.stop_is;
          ends_is = behind.ends_is;
          is = is ∙ ap (λ (f : Progress). record f { rest = after; text = f.text ++ text }) first.is
              ∙ nothing_more bytes after text first.work (behind.after_is ∙ rest_is) behind.text_is;
        }
