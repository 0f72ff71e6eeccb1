-- The loop over the text keeps what it keeps.
use Rattle.std.proofs.Common.{◌≡◌, ℕ, zero, suc, ◌+◌, ◌-◌, ◌<◌, ◌≤◌, min, List, [], ◌∷◌, Option, Some, None, Result, Ok, Err, refl, sym, ap, ◌∙◌, arith, add-one, length, drop, slice_index, map, drop-cons}
use Rattle.std.proofs.lemmas.List.{drop-drop, drop_all, drop_min, length-drop}
use Rattle.usp_ere.specs.declared.fault.EreFault.{EreFault}
use Rattle.usp_ere.specs.Expression.{Expr}
use Rattle.usp_ere.specs.Tokens.{Token, Placed, token_at, bytes_of, tokens_from, tokens_of}
use Rattle.usp_ere.specs.Faults.{Before, nothing, Standing, behind_token, or_behind, fault_at_end, fault_in}
use Rattle.usp_ere.specs.Reading.{before_of, State, Line, fresh, state, step, whole, on, reading}
use Rattle.usp_ere.proofs.Agree.{StepAgrees, step_agrees}

-- the tokens from a place of the text on
abbrev pub tokens_at : List ℕ → ℕ → List Placed
tokens_at text at = tokens_from 0 at (drop at text)

-- the bytes of the token before are passed over
skipped : (k at : ℕ) (t : List ℕ) → tokens_from k at t ≡ tokens_from 0 (at + min k (length t)) (drop k t)
skipped zero at [] = refl
skipped (suc k) at [] = refl
skipped zero at (c ∷ t) = let e : at ≡ at + min 0 (suc (length t)) = omega arith in ap (λ n. tokens_from 0 n (c ∷ t)) e
skipped (suc k) at (c ∷ t) =
    let e : at + 1 + min k (length t) ≡ at + min (suc k) (suc (length t)) = omega arith in
    skipped k (at + 1) t ∙ ap (λ n. tokens_from 0 n (drop k t)) e

-- the tokens behind one of so many bytes
rest_behind : (text : List ℕ) (at k next : ℕ) → at < length text → next ≡ min (at + 1 + k) (length text) → tokens_from k (at + 1) (drop (at + 1) text) ≡ tokens_at text next
rest_behind text at k next lt moves =
    let tail = drop (at + 1) text in
    let long : length tail ≡ length text - (at + 1) = length-drop (at + 1) text in
    let place : at + 1 + min k (length tail) ≡ next = omega arith in
    let left : drop k tail ≡ drop next text =
    drop-drop k (at + 1) text ∙ sym (drop_min (at + 1 + k) text) ∙ ap (λ n. drop n text) (sym moves) in
    skipped k (at + 1) tail ∙ ap (λ n. tokens_from 0 n (drop k tail)) place ∙ ap (tokens_from 0 next) left

first_token : (text : List ℕ) (at : ℕ) → at < length text → let token = token_at at (slice_index text at) (drop (at + 1) text) in tokens_at text at ≡ record { at = at; token = token } ∷ tokens_from (bytes_of token - 1) (at + 1) (drop (at + 1) text)
first_token text at lt = ap (tokens_from 0 at) (drop-cons text at 0 lt ∙ ap (λ n. slice_index text at ∷ drop n text) (sym (add-one at)))

-- the token at a place, and those behind it
pub next_token : (text : List ℕ) (at : ℕ) (token : Token) (next : ℕ) → at < length text → token ≡ token_at at (slice_index text at) (drop (at + 1) text) → next ≡ min (at + 1 + (bytes_of token - 1)) (length text) → tokens_at text at ≡ record { at = at; token = token } ∷ tokens_at text next
next_token text at token next lt is moves =
    first_token text at lt
    ∙ ap (λ t. record { at = at; token = t } ∷ tokens_from (bytes_of t - 1) (at + 1) (drop (at + 1) text)) (sym is)
    ∙ ap (λ ps. record { at = at; token = token } ∷ ps) (rest_behind text at (bytes_of token - 1) next lt moves)

-- a step of the reader moves both on: the fault of the rest, and what is read
fault_on : (r : Result Standing EreFault) (o : Option State) (l : Line) (around : List Line) (end : ℕ) (ps : List Placed) → StepAgrees r o → o ≡ Some (state l around) → or_behind r (λ b n. fault_in b n end ps) ≡ fault_in (before_of l) (length around) end ps
fault_on (Ok (b, n)) None l around end ps h eq = cc
fault_on (Ok (b, n)) (Some (state k outer)) l around end ps h eq =
    let same : k ≡ l = cc in
    let same' : outer ≡ around = cc in
    ap (λ x. fault_in x n end ps) (sym h.0 ∙ ap before_of same) ∙ ap (λ x. fault_in (before_of l) x end ps) (sym h.1 ∙ ap length same')
fault_on (Err f) None l around end ps h eq = cc
fault_on (Err f) (Some s) l around end ps h eq = absurd h

pub fault_moves : (l m : Line) (around outer : List Line) (p : Placed) (ps : List Placed) (end : ℕ) → step (state l around) p.token ≡ Some (state m outer) → fault_in (before_of l) (length around) end (p ∷ ps) ≡ fault_in (before_of m) (length outer) end ps
fault_moves l m around outer p ps end eq =
    fault_on (behind_token p.at (before_of l) (length around) p.token) (step (state l around) p.token) m outer end ps (step_agrees p.at l around p.token) eq

pub read_moves : (s next : State) (p : Placed) (ps : List Placed) → step s p.token ≡ Some next → reading s (map (λ q. q.token) (p ∷ ps)) ≡ reading next (map (λ q. q.token) ps)
read_moves s next p ps eq = ap (λ o. on o (λ n. reading n (map (λ q. q.token) ps))) eq

-- a token that is a fault there is the fault of the rest
pub fault_stops : (b : Before) (groups : ℕ) (p : Placed) (ps : List Placed) (end : ℕ) (f : EreFault) → behind_token p.at b groups p.token ≡ Err f → fault_in b groups end (p ∷ ps) ≡ Some f
fault_stops b groups p ps end f eq = ap (λ r. or_behind r (λ x n. fault_in x n end ps)) eq

-- what the rest of the text says is what the whole text says: its fault, and what is read
pub record IsOnTheWay (text : List ℕ) (now : Line) (around : List Line) (at : ℕ) : Type 0 where
  pub within : at ≤ length text
  pub fault : fault_in (before_of now) (length around) (length text) (tokens_at text at) ≡ fault_in nothing 0 (length text) (tokens_of text)
  pub read : reading (state now around) (map (λ p. p.token) (tokens_at text at)) ≡ reading (state (fresh None) []) (map (λ p. p.token) (tokens_of text))

pub sets_out : (text : List ℕ) → IsOnTheWay text (fresh None) [] 0
sets_out text = record { within = omega arith; fault = refl; read = refl }

-- a step of the reader over the token at the place
pub goes_on : (text : List ℕ) (l m : Line) (around outer : List Line) (at next : ℕ) (token : Token) → IsOnTheWay text l around at → at < length text → token ≡ token_at at (slice_index text at) (drop (at + 1) text) → next ≡ min (at + 1 + (bytes_of token - 1)) (length text) → step (state l around) token ≡ Some (state m outer) → IsOnTheWay text m outer next
goes_on text l m around outer at next token way lt is moves steps =
    let tokens = next_token text at token next lt is moves in
    let p : Placed = record { at = at; token = token } in record {
      within = omega arith;
      fault =
          sym (fault_moves l m around outer p (tokens_at text next) (length text) steps)
          ∙ ap (fault_in (before_of l) (length around) (length text)) (sym tokens) ∙ way.fault;
      read =
          sym (read_moves (state l around) (state m outer) p (tokens_at text next) steps)
          ∙ ap (λ ps. reading (state l around) (map (λ q. q.token) ps)) (sym tokens) ∙ way.read;
    }

-- a fault of the token at the place is that of the text
pub stops_at : (text : List ℕ) (l : Line) (around : List Line) (at : ℕ) (token : Token) (f : EreFault) → IsOnTheWay text l around at → at < length text → token ≡ token_at at (slice_index text at) (drop (at + 1) text) → behind_token at (before_of l) (length around) token ≡ Err f → fault_in nothing 0 (length text) (tokens_of text) ≡ Some f
stops_at text l around at token f way lt is wrong =
    let next = min (at + 1 + (bytes_of token - 1)) (length text) in
    sym way.fault
    ∙ ap (fault_in (before_of l) (length around) (length text)) (next_token text at token next lt is refl)
    ∙ fault_stops (before_of l) (length around) (record { at = at; token = token }) (tokens_at text next) (length text) f wrong

-- at the end no token is left
pub no_more : (text : List ℕ) (at : ℕ) → length text ≤ at → tokens_at text at ≡ []
no_more text at past = ap (tokens_from 0 at) (drop_all at text past)

pub ends_wrong : (text : List ℕ) (l : Line) (around : List Line) (at : ℕ) (f : EreFault) → IsOnTheWay text l around at → length text ≤ at → fault_at_end (before_of l) (length around) at ≡ Some f → fault_in nothing 0 (length text) (tokens_of text) ≡ Some f
ends_wrong text l around at f way past wrong =
    let within : at ≤ length text = way.within in
    let end : length text ≡ at = omega arith in
    sym way.fault ∙ ap (fault_in (before_of l) (length around) (length text)) (no_more text at past)
    ∙ ap (fault_at_end (before_of l) (length around)) end ∙ wrong

pub ends_read : (text : List ℕ) (l : Line) (around : List Line) (at : ℕ) (e : Expr) → IsOnTheWay text l around at → length text ≤ at → whole (state l around) ≡ Some e → reading (state (fresh None) []) (map (λ p. p.token) (tokens_of text)) ≡ Some e
ends_read text l around at e way past all =
    sym way.read ∙ ap (λ ps. reading (state l around) (map (λ p. p.token) ps)) (no_more text at past) ∙ all
