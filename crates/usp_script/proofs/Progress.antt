-- The lines of a script, one after the other, and the files that they name.
use Rattle.std.proofs.Common.{◌≡◌, ◌≢◌, ◌==◌, ℕ, zero, suc, ◌+◌, ◌<◌, ◌≤◌, Bool, true, false, cond, List, [], ◌∷◌, ◌++◌, length, take, codes, Option, Some, None, Result, Ok, Err, refl, sym, ap, ◌∙◌, subst, arith, append_assoc, append-nil}
use Rattle.std.specs.Option.{MatchOption, is_some}
use Rattle.std.proofs.lemmas.Bool.Decides.{nat_tests}
use Rattle.std.proofs.lemmas.List.{length-append, nil_from_length, take_at}
use Rattle.std.specs.Str.{bytes_eq}
use Rattle.usp_base.specs.Counts.{HasCause, Rose}
use Rattle.usp_base.specs.Lines.{lines_of}
use Rattle.usp_base.specs.Outside.{asked_after}
use Rattle.usp_base.specs.declared.fault.LoadFault.{LoadFault}
use Rattle.usp_base.specs.declared.fault.LoadFault.TheVariants as load
use Rattle.usp_base.specs.declared.files.MemoryFile.{MemoryFile}
use Rattle.usp_conf.specs.Readings.{Configures}
use Rattle.usp_conf.specs.Values.{ConfValue}
use Rattle.usp_script.proofs.Words.{fields_more, fields_step}
use Rattle.usp_script.specs.Drafts.{Draft, nothing_read, script_of}
use Rattle.usp_script.specs.Reading.{AddsAsk, AddsKey, AddsObject, AreFiles, AsksInOrder, Loaded, NamesFile, Reads, ReadsFrom, Refuses, Seals, StopsAtFile, Takes, Unloads, a_grant, a_key, an_ask, an_edge, an_end, an_object, an_outside, as_it_stands, asked_with, by_its_file, edge_at, ends, fields, goes_on, name_in, names_in, refuses, stops, takes}
use Rattle.usp_script.specs.Loads.{fault_of}
use Rattle.usp_script.specs.Refused.{IfLine}
use Rattle.usp_script.specs.Script.{ScriptValue}
use Rattle.usp_script.specs.declared.fault.ScriptFault.{ScriptFault}
use Rattle.usp_script.specs.declared.fault.ScriptFault.TheVariants as fault
use Rattle.usp_jws.specs.Keys.{KeyValue}
use Rattle.usp_script.specs.declared.ask.LabAsk.{LabAsk}

-- ---- one line

-- no form of the table takes the line
pub no_form : (draft : Draft) (line : List ℕ)
    → ((place : ℕ) (uri text : List ℕ) → AddsObject draft line place uri text → ⊥)
    → ((key : KeyValue) → AddsKey draft line key → ⊥)
    → ((token : List ℕ) → Seals draft (codes "grant") line token → ⊥)
    → ((token : List ℕ) → Seals draft (codes "outside") line token → ⊥)
    → ((ask : LabAsk) → AddsAsk draft line ask → ⊥)
    → (line ≡ codes "then" → ⊥)
    → (next : Draft) → Takes draft line [] next → ⊥
no_form draft line object key grant outside ask stop next (an_edge loaded edge adds is same) = cc
no_form draft line object key grant outside ask stop next (an_object place uri text adds is same) = object place uri text adds
no_form draft line object key grant outside ask stop next (a_key k adds is same) = key k adds
no_form draft line object key grant outside ask stop next (a_grant token seals is same) = grant token seals
no_form draft line object key grant outside ask stop next (an_outside token seals is same) = outside token seals
no_form draft line object key grant outside ask stop next (an_ask a adds is same) = ask a adds
no_form draft line object key grant outside ask stop next (an_end word is same) = stop word

without_file : (draft : Draft) (line : List ℕ) → ((name : List ℕ) → NamesFile draft line name → ⊥)
    → ((next : Draft) → Takes draft line [] next → ⊥) → (any : List Loaded) (next : Draft) → Takes draft line any next → ⊥
without_file draft line unnamed none any next (an_edge loaded edge adds is same) = unnamed loaded.name adds.names
without_file draft line unnamed none any next (an_object place uri text adds is same) = none next (an_object place uri text adds refl same)
without_file draft line unnamed none any next (a_key k adds is same) = none next (a_key k adds refl same)
without_file draft line unnamed none any next (a_grant token seals is same) = none next (a_grant token seals refl same)
without_file draft line unnamed none any next (an_outside token seals is same) = none next (an_outside token seals refl same)
without_file draft line unnamed none any next (an_ask a adds is same) = none next (an_ask a adds refl same)
without_file draft line unnamed none any next (an_end word is same) = none next (an_end word refl same)

pub refused_as_it_stands : (draft : Draft) (line : List ℕ) → ((name : List ℕ) → NamesFile draft line name → ⊥)
    → ((next : Draft) → Takes draft line [] next → ⊥) → Refuses draft line []
refused_as_it_stands draft line unnamed none = as_it_stands (without_file draft line unnamed none) refl

with_file : (draft : Draft) (line : List ℕ) (loaded : Loaded)
    → ((edge : ConfValue) → Configures loaded.text edge → edge_at draft.edges edge.edge ≡ None → ⊥) → (next : Draft) → Takes draft line (loaded ∷ []) next → ⊥
with_file draft line loaded none next (an_edge l edge adds is same) =
    let e : loaded ≡ l = cc in none edge (subst (λ (l : Loaded). Configures l.text edge) (sym e) adds.configures) adds.unused
with_file draft line loaded none next (an_object place uri text adds is same) = cc
with_file draft line loaded none next (a_key k adds is same) = cc
with_file draft line loaded none next (a_grant token seals is same) = cc
with_file draft line loaded none next (an_outside token seals is same) = cc
with_file draft line loaded none next (an_ask a adds is same) = cc
with_file draft line loaded none next (an_end word is same) = cc

pub refused_by_file : (draft : Draft) (line : List ℕ) (loaded : Loaded) → NamesFile draft line loaded.name
    → ((edge : ConfValue) → Configures loaded.text edge → edge_at draft.edges edge.edge ≡ None → ⊥) → Refuses draft line (loaded ∷ [])
refused_by_file draft line loaded names none = by_its_file loaded names (with_file draft line loaded none) refl

-- ---- the file that a line names

other_word : (n : ℕ) (line word : List ℕ) (ws : List (List ℕ)) → fields (suc n) line ≡ Some (word ∷ ws) → bytes_eq word (codes "edge") ≡ false → names_in (line ∷ []) ≡ []
other_word n line word ws is other =
    let s = fields_step n line word ws is in
    let one : fields 1 line ≡ Some (word ∷ s.0 ∷ []) = fields_more 0 line word s.0 (s.0 ∷ []) s.1 refl in
    ap (λ (o : Option (List (List ℕ))). name_in o ++ []) one ∙ ap (λ (b : Bool). cond b (s.0 ∷ []) [] ++ []) other

ask_word : (line : List ℕ) (ws : List (List ℕ)) (count : ℕ) → fields count line ≡ Some (codes "ask" ∷ ws) → ws ≢ [] → names_in (line ∷ []) ≡ []
ask_word line ws zero is more = let none : ws ≡ [] = cc in absurd (more none)
ask_word line ws (suc n) is more = other_word n line (codes "ask") ws is refl

pub names_no_file : (draft next : Draft) (line : List ℕ) → Takes draft line [] next → names_in (line ∷ []) ≡ []
names_no_file draft next line (an_edge loaded edge adds is same) = absurd cc
names_no_file draft next line (an_object place uri text adds is same) = other_word 2 line (codes "object") _ adds.fields refl
names_no_file draft next line (a_key k adds is same) = other_word 2 line (codes "key") _ adds.fields refl
names_no_file draft next line (a_grant token seals is same) = other_word 1 line (codes "grant") _ seals.fields refl
names_no_file draft next line (an_outside token seals is same) = other_word 1 line (codes "outside") _ seals.fields refl
names_no_file draft next line (an_ask a adds is same) = ask_word line _ adds.fields.0 adds.fields.1 (λ none. cc)
names_no_file draft next line (an_end word is same) = ap (λ (l : List ℕ). names_in (l ∷ [])) word

pub names_its_file : (line name : List ℕ) → fields 1 line ≡ Some (codes "edge" ∷ name ∷ []) → names_in (line ∷ []) ≡ name ∷ []
names_its_file line name is = ap (λ (o : Option (List (List ℕ))). name_in o ++ []) is

other_count : (draft next : Draft) (line : List ℕ) (now : List Loaded) → Takes draft line [] next → now ≡ [] → length (names_in (line ∷ [])) ≡ length now
other_count draft next line now t none = ap (λ (ns : List (List ℕ)). length ns) (names_no_file draft next line t) ∙ sym (ap (λ (ls : List Loaded). length ls) none)

-- a line that is taken names as many files as were loaded for it
taken_count : (draft next : Draft) (line : List ℕ) (now : List Loaded) → Takes draft line now next → length (names_in (line ∷ [])) ≡ length now
taken_count draft next line now (an_edge loaded edge adds is same) =
    ap (λ (ns : List (List ℕ)). length ns) (names_its_file line loaded.name adds.names.fields) ∙ sym (ap (λ (ls : List Loaded). length ls) is)
taken_count draft next line now (an_object place uri text adds is same) = other_count draft next line now (an_object place uri text adds refl same) is
taken_count draft next line now (a_key k adds is same) = other_count draft next line now (a_key k adds refl same) is
taken_count draft next line now (a_grant token seals is same) = other_count draft next line now (a_grant token seals refl same) is
taken_count draft next line now (an_outside token seals is same) = other_count draft next line now (an_outside token seals refl same) is
taken_count draft next line now (an_ask a adds is same) = other_count draft next line now (an_ask a adds refl same) is
taken_count draft next line now (an_end word is same) = other_count draft next line now (an_end word refl same) is

-- ---- a line that names no file

pub asked_nothing : (asked : Option (List (List ℕ))) → asked ≡ asked_with asked []
asked_nothing None = refl
asked_nothing (Some names) = ap (λ (xs : List (List ℕ)). Some xs) (sym (append-nil names))

module _ (files : Option (List MemoryFile)) (asked : Option (List (List ℕ))) (draft : Draft) (line : List ℕ) where
  pub other_taken : (o : Option Draft) → ((name : List ℕ) → NamesFile draft line name → ⊥)
      → MatchOption o ((next : Draft) → Takes draft line [] next → ⊥) (λ next. Takes draft line [] next)
      → MatchOption o ((loads : List Loaded) × AreFiles files loads × Refuses draft line loads) (λ next. (loads : List Loaded) × AreFiles files loads × Takes draft line loads next)
  other_taken None unnamed none = ([], tt, refused_as_it_stands draft line unnamed none)
  other_taken (Some next) unnamed t = ([], tt, t)

  pub other_whole : (o : Option Draft) → MatchOption o ((next : Draft) → Takes draft line [] next → ⊥) (λ next. Takes draft line [] next)
      → is_some o ≡ true → asked ≡ asked_with asked (names_in (line ∷ []))
  other_whole None none some = absurd cc
  other_whole (Some next) t some = asked_nothing asked ∙ ap (λ (names : List (List ℕ)). asked_with asked names) (sym (names_no_file draft next line t))

-- ---- what was asked for

pub asks_nothing : (lines : List (List ℕ)) (before after : Option (List (List ℕ))) → after ≡ before → AsksInOrder lines before after
asks_nothing lines before after same = record { names = []; first = (names_in lines, refl); asked = same ∙ asked_nothing before }

pub asks_for_it : {T : Type 0} (line name : List ℕ) (before after : Option (List (List ℕ))) (r : Result T LoadFault) → names_in (line ∷ []) ≡ name ∷ []
    → after ≡ asked_after before name r → AsksInOrder (line ∷ []) before after
asks_for_it line name before after (Ok bytes) is same = record { names = name ∷ []; first = ([], sym is); asked = same }
asks_for_it line name before after (Err load.Failed) is same = record { names = name ∷ []; first = ([], sym is); asked = same }
asks_for_it line name before after (Err load.NoMemory) is same = asks_nothing (line ∷ []) before after same

pub asked_in_vain : {X : Type 0} (T : Type 0) (name : List ℕ) (before after : Option (List (List ℕ))) (f e : LoadFault) (r : Result X LoadFault)
    → after ≡ asked_after {T = T} before name (Err f) → r ≡ Err e → e ≡ f → r ≡ Err load.Failed → after ≡ asked_with before (name ∷ [])
asked_in_vain {X} T name before after f e r asked is same failed =
    let both : ◌≡◌ {A = Result X LoadFault} (Err e) (Err load.Failed) = sym is ∙ failed in
    let e_is : e ≡ load.Failed = cc in
    asked ∙ ap (λ (f : LoadFault). asked_after {T = T} before name (Err f)) (sym same ∙ e_is)

-- ---- the lines so far

are_append : (files : Option (List MemoryFile)) (one other : List Loaded) → AreFiles files one → AreFiles files other → AreFiles files (one ++ other)
are_append files [] other a b = b
are_append files (loaded ∷ loads) other a b = (a.0, are_append files loads other a.1 b)

-- The lines so far: what the rest gives is what all give, where the rest stops all stop, and the files were asked for in
-- order.
pub record SoFar (files : Option (List MemoryFile)) (before now : Option (List (List ℕ))) (input rest : List ℕ) (number : ℕ) (draft : Draft) : Type 0 where
  pub loads : List Loaded
  pub are : AreFiles files loads
  pub reads : (later : List Loaded) (result : Result ScriptValue ℕ) → ReadsFrom number draft (lines_of rest) later result → Reads (lines_of input) (loads ++ later) result
  pub stopped : (later : List Loaded) → StopsAtFile draft (lines_of rest) later → StopsAtFile nothing_read (lines_of input) (loads ++ later)
  pub names : List (List ℕ)
  pub named : names ++ names_in (lines_of rest) ≡ names_in (lines_of input)
  pub asked : now ≡ asked_with before names
  pub each : length names ≡ length loads
  pub count : number + length rest ≤ length input + 1

pub so_far_first : (files : Option (List MemoryFile)) (asked : Option (List (List ℕ))) (input : List ℕ) → SoFar files asked asked input input 1 nothing_read
so_far_first files asked input = record {
  loads = [];
  are = tt;
  reads = λ later result r. r;
  stopped = λ later s. s;
  names = [];
  named = refl;
  asked = asked_nothing asked;
  each = refl;
  count = omega arith;
}

asked_twice : (asked : Option (List (List ℕ))) (one other : List (List ℕ)) → asked_with (asked_with asked one) other ≡ asked_with asked (one ++ other)
asked_twice None one other = refl
asked_twice (Some names) one other = ap (λ (xs : List (List ℕ)). Some xs) (append_assoc names one other)

module _ (files : Option (List MemoryFile)) (before now after : Option (List (List ℕ))) (input rest line more : List ℕ) (number : ℕ) (draft : Draft)
    (k : SoFar files before now input rest number draft) (cut : lines_of rest ≡ line ∷ lines_of more) where
  named_on : (k.names ++ names_in (line ∷ [])) ++ names_in (lines_of more) ≡ names_in (lines_of input)
  named_on =
      ap (λ (xs : List (List ℕ)). (k.names ++ xs) ++ names_in (lines_of more)) (append-nil (name_in (fields 1 line)))
      ∙ (append_assoc k.names (name_in (fields 1 line)) (names_in (lines_of more))
      ∙ (ap (λ (ls : List (List ℕ)). k.names ++ names_in ls) (sym cut) ∙ k.named))

  pub so_far_more : (next : Draft) → length more < length rest → (loads : List Loaded) × AreFiles files loads × Takes draft line loads next
      → after ≡ asked_with now (names_in (line ∷ [])) → SoFar files before after input more (number + 1) next
  so_far_more next shorter t asked = record {
    loads = k.loads ++ t.0;
    are = are_append files k.loads t.0 k.are t.1;
    reads = λ later result r.
        let here : ReadsFrom number draft (line ∷ lines_of more) (t.0 ++ later) result = takes number draft next line (lines_of more) t.0 later (t.0 ++ later) result t.2 r refl in
        let there = k.reads (t.0 ++ later) result (subst (λ (ls : List (List ℕ)). ReadsFrom number draft ls (t.0 ++ later) result) (sym cut) here) in
        subst (λ (l : List Loaded). Reads (lines_of input) l result) (sym (append_assoc k.loads t.0 later)) there;
    stopped = λ later s.
        let here : StopsAtFile draft (line ∷ lines_of more) (t.0 ++ later) = goes_on draft next line (lines_of more) t.0 later (t.0 ++ later) t.2 s refl in
        let there = k.stopped (t.0 ++ later) (subst (λ (ls : List (List ℕ)). StopsAtFile draft ls (t.0 ++ later)) (sym cut) here) in
        subst (λ (l : List Loaded). StopsAtFile nothing_read (lines_of input) l) (sym (append_assoc k.loads t.0 later)) there;
    names = k.names ++ names_in (line ∷ []);
    named = named_on;
    asked = asked ∙ (ap (λ (o : Option (List (List ℕ))). asked_with o (names_in (line ∷ []))) k.asked ∙ asked_twice before k.names (names_in (line ∷ [])));
    each = omega (arith, k.each, length-append k.names (names_in (line ∷ [])), length-append k.loads t.0, taken_count draft next line t.0 t.2);
    count = omega (arith, k.count, shorter);
  }

  pub so_far_refused : (loads : List Loaded) × AreFiles files loads × Refuses draft line loads
      → (all : List Loaded) × AreFiles files all × Reads (lines_of input) all (Err number)
  so_far_refused t =
      let here : ReadsFrom number draft (line ∷ lines_of more) t.0 (Err number) = refuses number draft line (lines_of more) t.0 (Err number) t.2 refl in (
        k.loads ++ t.0,
        are_append files k.loads t.0 k.are t.1,
        k.reads t.0 (Err number) (subst (λ (ls : List (List ℕ)). ReadsFrom number draft ls t.0 (Err number)) (sym cut) here),
      )

  pub so_far_stopped : (name : List ℕ) × NamesFile draft line name × (after ≡ asked_with now (name ∷ [])) → Unloads files (lines_of input) before after
  so_far_stopped n =
      let here : StopsAtFile draft (line ∷ lines_of more) [] = stops draft line n.0 (lines_of more) [] n.1 refl in
      let names : List (List ℕ) = k.names ++ n.0 ∷ [] in
      let all : names ++ names_in (lines_of more) ≡ names_in (lines_of input) =
      ap (λ (xs : List (List ℕ)). (k.names ++ xs) ++ names_in (lines_of more)) (sym (names_its_file line n.0 n.1.fields)) ∙ named_on in
      let long : length names ≡ length (k.loads ++ []) + 1 = omega (arith, k.each, length-append k.names (n.0 ∷ []), length-append k.loads []) in
      let first : take (length (k.loads ++ []) + 1) (names_in (lines_of input)) ≡ names =
      ap (λ (xs : List (List ℕ)). take (length (k.loads ++ []) + 1) xs) (sym all) ∙ take_at names (names_in (lines_of more)) (length (k.loads ++ []) + 1) long in
      record {
        loads = k.loads ++ [];
        loaded = are_append files k.loads [] k.are tt;
        stopped = k.stopped [] (subst (λ (ls : List (List ℕ)). StopsAtFile draft ls []) (sym cut) here);
        asked = n.2 ∙ (ap (λ (o : Option (List (List ℕ))). asked_with o (n.0 ∷ [])) k.asked
            ∙ (asked_twice before k.names (n.0 ∷ []) ∙ ap (λ (xs : List (List ℕ)). asked_with before xs) (sym first)));
      }

  pub so_far_asked : AsksInOrder (line ∷ []) now after → AsksInOrder (lines_of input) before after
  so_far_asked s = record {
    names = k.names ++ s.names;
    first = (
      s.first.0 ++ names_in (lines_of more),
      (append_assoc k.names s.names (s.first.0 ++ names_in (lines_of more)) ∙ ap (λ (xs : List (List ℕ)). k.names ++ xs) (sym (append_assoc s.names s.first.0 (names_in (lines_of more)))))
          ∙ (ap (λ (xs : List (List ℕ)). k.names ++ (xs ++ names_in (lines_of more))) s.first.1
          ∙ (sym (append_assoc k.names (names_in (line ∷ [])) (names_in (lines_of more))) ∙ named_on)),
    );
    asked = s.asked ∙ (ap (λ (o : Option (List (List ℕ))). asked_with o s.names) k.asked ∙ asked_twice before k.names s.names);
  }

module _ (files : Option (List MemoryFile)) (before now : Option (List (List ℕ))) (input rest : List ℕ) (number : ℕ) (draft : Draft)
    (k : SoFar files before now input rest number draft) (none : rest ≡ []) where
  pub so_far_done : (loads : List Loaded) × AreFiles files loads × Reads (lines_of input) loads (Ok (script_of draft))
  so_far_done =
      let here : ReadsFrom number draft (lines_of rest) [] (Ok (script_of draft)) =
      subst (λ (r : List ℕ). ReadsFrom number draft (lines_of r) [] (Ok (script_of draft))) (sym none) (ends number draft [] (Ok (script_of draft)) refl refl) in
      (k.loads ++ [], are_append files k.loads [] k.are tt, k.reads [] (Ok (script_of draft)) here)

  pub so_far_all : AsksInOrder (lines_of input) before now
  so_far_all = record { names = k.names; first = (names_in (lines_of rest), k.named); asked = k.asked }

-- ---- faults

only_failed : (f : LoadFault) → fault_of f ≡ fault.Unloaded → f ≡ load.Failed
only_failed load.Failed e = refl
only_failed load.NoMemory e = absurd cc

unlined_by : (X : Type 0) (f : LoadFault) (P : ℕ → Type 0) → IfLine {X = X} (Err (fault_of f)) P
unlined_by X load.Failed P = tt
unlined_by X load.NoMemory P = tt

-- a file that was not loaded is no refusal of a line
pub unlined : {X : Type 0} (f : LoadFault) (e : ScriptFault) (r : Result X ScriptFault) (P : ℕ → Type 0) → r ≡ Err e → e ≡ fault_of f → IfLine r P
unlined {X} f e r P is same = subst (λ (r : Result X ScriptFault). IfLine r P) (sym (is ∙ ap (λ (e : ScriptFault). Err e) same)) (unlined_by X f P)

-- a count that rose later rose
pub rose_later : (before mid now : ℕ) → before ≤ mid → Rose mid now → Rose before now
rose_later before mid now le rose = omega arith

-- a script is unloaded by no other fault of a load
pub unloaded_by : {X : Type 0} (f : LoadFault) (e : ScriptFault) (r : Result X ScriptFault) → r ≡ Err e → e ≡ fault_of f → r ≡ Err fault.Unloaded → f ≡ load.Failed
unloaded_by {X} f e r is same unloaded =
    let both : ◌≡◌ {A = Result X ScriptFault} (Err e) (Err fault.Unloaded) = sym is ∙ unloaded in
    let e_is : e ≡ fault.Unloaded = cc in
    only_failed f (sym same ∙ e_is)

pub cause_later : {X Y : Type 0} (before mid now : ℕ) (f : LoadFault) (e : ScriptFault) (r : Result X ScriptFault) → before ≤ mid
    → HasCause mid now (◌≡◌ {A = Result Y LoadFault} (Err f) (Err load.Failed)) → r ≡ Err e → e ≡ fault_of f → HasCause before now (r ≡ Err fault.Unloaded)
cause_later {X} {Y} before mid now f e r le cause is same = record {
  later = omega (arith, cause.later);
  failed = λ unloaded. rose_later before mid now le (cause.failed (ap (λ (f : LoadFault). Err f) (unloaded_by f e r is same unloaded)));
}

pub empty_is : (text : List ℕ) → (length text == 0) ≡ true → text ≡ []
empty_is text e = nil_from_length text (grind (arith, nat_tests))
