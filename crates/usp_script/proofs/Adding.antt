-- What a draft keeps, as lines add to it.
use Rattle.std.proofs.Common.{◌≡◌, ℕ, zero, suc, ◌+◌, ◌<◌, ◌≤◌, ◌^◌, Bool, true, List, [], ◌∷◌, ◌++◌, length, Option, IfSome, refl, sym, ap, ◌∙◌, subst, arith, append_assoc, append-nil, length-append}
use Rattle.std.specs.List.{All}
use Rattle.std.specs.Prelude.{slice_get, slice_index_or}
use Rattle.std.proofs.lemmas.List.{length_push}
use Rattle.std.proofs.lemmas.List.Elements.{All-push}
use Rattle.usp_conf.specs.Values.{ConfValue, IsConf}
use Rattle.usp_issue.specs.declared.limits.TheConstants.{MAX_TOKEN}
use Rattle.usp_jws.specs.Keys.{KeyValue}
use Rattle.usp_script.specs.Drafts.{draft_of, no_round, nothing_read}
use Rattle.usp_script.specs.Kept.{IsDraft}
use Rattle.usp_script.specs.Script.{IsAsk, IsBare, IsRound, asks_in, attribute_of, grants_in}
use Rattle.usp_script.specs.declared.ask.LabAsk.{LabAsk}
use Rattle.usp_script.specs.declared.ask.LabObject.{LabObject}
use Rattle.usp_script.specs.declared.ask.Round.{Round}
use Rattle.usp_script.specs.declared.limits.TheConstants.{MAX_ASKS, MAX_EDGES}

abbrev round_of : List (List ℕ) → List LabAsk → Round
round_of grants asks = record { grants = grants; asks = asks }

-- ---- one edge more

get_longer : {X : Type 0} (xs ys : List X) (n : ℕ) → n < length xs → slice_get (xs ++ ys) n ≡ slice_get xs n
get_longer [] ys n h = absurd (omega arith)
get_longer (x ∷ xs) ys zero h = refl
get_longer (x ∷ xs) ys (suc n) h = get_longer xs ys n (omega arith)

ask_kept : (edges : List ConfValue) (edge : ConfValue) (ask : LabAsk) → IsAsk edges ask → IsAsk (edges ++ edge ∷ []) ask
ask_kept edges edge ask a = record {
  edge = omega (arith, a.edge, length_push edges edge);
  moment = a.moment;
  bare = subst (λ (o : Option ConfValue). IfSome o (λ edge. IsBare (attribute_of edge) ask.uri ask.carried)) (sym (get_longer edges (edge ∷ []) ask.edge a.edge)) a.bare;
}

round_kept : (edges : List ConfValue) (edge : ConfValue) (round : Round) → IsRound edges round → IsRound (edges ++ edge ∷ []) round
round_kept edges edge round r = record {
  asks = λ k d h. ask_kept edges edge (slice_index_or round.asks k d) (r.asks k d h);
  grants = r.grants;
}

-- ---- one round more

asks_push : (rounds : List Round) (round : Round) → asks_in (rounds ++ round ∷ []) ≡ asks_in rounds + length round.asks
asks_push [] round = omega arith
asks_push (r ∷ rs) round = let e = asks_push rs round in omega arith

grants_push : (rounds : List Round) (round : Round) → grants_in (rounds ++ round ∷ []) ≡ grants_in rounds ++ round.grants
grants_push [] round = append-nil round.grants
grants_push (r ∷ rs) round = ap (λ (xs : List (List ℕ)). r.grants ++ xs) (grants_push rs round) ∙ sym (append_assoc r.grants (grants_in rs) round.grants)

-- how many tokens are granted in all rounds
granted_with : (rounds : List Round) (round : Round) → length (grants_in (rounds ++ round ∷ [])) ≡ length (grants_in rounds) + length round.grants
granted_with rounds round = ap length (grants_push rounds round) ∙ length-append (grants_in rounds) round.grants

-- ---- what each line adds

pub nothing_kept : IsDraft nothing_read 0 0
nothing_kept = record {
  script = record {
    edges = omega arith;
    confs = λ k d h. absurd (omega arith);
    rounds = All-push (IsRound []) [] no_round (λ k d h. absurd (omega arith)) (record { asks = λ k d h. absurd (omega arith); grants = λ k d h. absurd (omega arith) });
    few = omega arith;
    outsides = λ k d h. absurd (omega arith);
  };
  granted = refl;
  issued = refl;
  few = omega arith;
}

-- the open round is one of the rounds
last_round : (edges : List ConfValue) (rounds : List Round) (last : Round) → All (IsRound edges) (rounds ++ last ∷ []) → IsRound edges last
last_round edges [] last all = all 0 last (omega arith)
last_round edges (r ∷ rs) last all = last_round edges rs last (λ k d h. all (suc k) d (omega arith))

front_at : (edges : List ConfValue) (rounds : List Round) (last : Round) → All (IsRound edges) (rounds ++ last ∷ [])
    → (k : ℕ) (d : Round) → k < length rounds → IsRound edges (slice_index_or rounds k d)
front_at edges [] last all k d h = absurd (omega arith)
front_at edges (r ∷ rs) last all zero d h = all 0 d (omega arith)
front_at edges (r ∷ rs) last all (suc k) d h = front_at edges rs last (λ k d h. all (suc k) d (omega arith)) k d (omega arith)

front_rounds : (edges : List ConfValue) (rounds : List Round) (last : Round) → All (IsRound edges) (rounds ++ last ∷ []) → All (IsRound edges) rounds
front_rounds edges rounds last all = front_at edges rounds last all

module _ (edges : List ConfValue) (objects : List LabObject) (keys : List KeyValue) (outsides : List (List ℕ)) (rounds : List Round) (last : Round) (begun : Bool) (granted issued : ℕ)
    (kept : IsDraft (draft_of edges objects keys outsides rounds last begun) granted issued) where
  pub edge_kept : (edge : ConfValue) → length edges < MAX_EDGES → IsConf edge → IsDraft (draft_of (edges ++ edge ∷ []) objects keys outsides rounds last begun) granted issued
  edge_kept edge few is = record {
    script = record {
      edges = omega (arith, length_push edges edge, few);
      confs = All-push IsConf edges edge kept.script.confs is;
      rounds = λ k d h. round_kept edges edge (slice_index_or (rounds ++ last ∷ []) k d) (kept.script.rounds k d h);
      few = kept.script.few;
      outsides = kept.script.outsides;
    };
    granted = kept.granted;
    issued = kept.issued;
    few = kept.few;
  }

  pub other_kept : (more_objects : List LabObject) (more_keys : List KeyValue) → IsDraft (draft_of edges more_objects more_keys outsides rounds last begun) granted issued
  other_kept more_objects more_keys = record {
    script = record {
      edges = kept.script.edges;
      confs = kept.script.confs;
      rounds = kept.script.rounds;
      few = kept.script.few;
      outsides = kept.script.outsides;
    };
    granted = kept.granted;
    issued = kept.issued;
    few = kept.few;
  }

  pub grant_kept : (token : List ℕ) → length token ≤ MAX_TOKEN
      → IsDraft (draft_of edges objects keys outsides rounds (record { grants = last.grants ++ token ∷ []; asks = last.asks }) true) (granted + 1) issued
  grant_kept token short =
      let with_token : Round = record { grants = last.grants ++ token ∷ []; asks = last.asks } in
      let old = last_round edges rounds last kept.script.rounds in
      record {
        script = record {
          edges = kept.script.edges;
          confs = kept.script.confs;
          rounds = All-push (IsRound edges) rounds with_token (front_rounds edges rounds last kept.script.rounds)
              (record { asks = old.asks; grants = All-push (λ (t : List ℕ). length t ≤ MAX_TOKEN) last.grants token old.grants short });
          few = omega (arith, kept.script.few, asks_push rounds last, asks_push rounds with_token);
          outsides = kept.script.outsides;
        };
        granted = omega (arith, kept.granted, granted_with rounds last, granted_with rounds with_token, length_push last.grants token);
        issued = kept.issued;
        few = kept.few;
      }

  pub outside_kept : (token : List ℕ) → length token ≤ MAX_TOKEN → length outsides + 1 < 2 ^ 32
      → IsDraft (draft_of edges objects keys (outsides ++ token ∷ []) rounds last true) granted issued
  outside_kept token short few = record {
    script = record {
      edges = kept.script.edges;
      confs = kept.script.confs;
      rounds = kept.script.rounds;
      few = kept.script.few;
      outsides = All-push (λ (t : List ℕ). length t ≤ MAX_TOKEN) outsides token kept.script.outsides short;
    };
    granted = kept.granted;
    issued = kept.issued;
    few = omega (arith, few, length_push outsides token);
  }

  pub ask_added : (ask : LabAsk) → IsAsk edges ask → asks_in (rounds ++ last ∷ []) < MAX_ASKS
      → IsDraft (draft_of edges objects keys outsides rounds (record { grants = last.grants; asks = last.asks ++ ask ∷ [] }) true) granted issued
  ask_added ask is few =
      let with_it : Round = record { grants = last.grants; asks = last.asks ++ ask ∷ [] } in
      let old = last_round edges rounds last kept.script.rounds in
      record {
        script = record {
          edges = kept.script.edges;
          confs = kept.script.confs;
          rounds = All-push (IsRound edges) rounds with_it (front_rounds edges rounds last kept.script.rounds)
              (record { asks = All-push (IsAsk edges) last.asks ask old.asks is; grants = old.grants });
          few = omega (arith, few, asks_push rounds last, asks_push rounds with_it, length_push last.asks ask);
          outsides = kept.script.outsides;
        };
        granted = omega (arith, kept.granted, granted_with rounds last, granted_with rounds with_it);
        issued = kept.issued;
        few = kept.few;
      }

  pub round_added : (now : ℕ) → now ≡ asks_in (rounds ++ last ∷ []) → IsDraft (draft_of edges objects keys outsides (rounds ++ last ∷ []) no_round true) granted now
  round_added now is = record {
    script = record {
      edges = kept.script.edges;
      confs = kept.script.confs;
      rounds = All-push (IsRound edges) (rounds ++ last ∷ []) no_round kept.script.rounds (record { asks = λ k d h. absurd (omega arith); grants = λ k d h. absurd (omega arith) });
      few = omega (arith, kept.script.few, asks_push (rounds ++ last ∷ []) no_round);
      outsides = kept.script.outsides;
    };
    granted = omega (arith, kept.granted, granted_with (rounds ++ last ∷ []) no_round);
    issued = is;
    few = kept.few;
  }

  pub asked_is : issued + length last.asks ≡ asks_in (rounds ++ last ∷ [])
  asked_is = omega (arith, kept.issued, asks_push rounds last)

  pub asked_few : issued + length last.asks ≤ MAX_ASKS
  asked_few = omega (arith, asked_is, kept.script.few)

  -- the rounds as a program has them: the open one is put behind the others, and another is opened
  pub round_ended : (now : ℕ) (more : List Round) (grants g : List (List ℕ)) (asks a : List LabAsk) → now ≡ asks_in (rounds ++ last ∷ []) → more ≡ rounds ++ round_of g a ∷ []
      → g ≡ last.grants → a ≡ last.asks → grants ≡ [] → asks ≡ [] → IsDraft (draft_of edges objects keys outsides more (round_of grants asks) true) granted now
  round_ended now more grants g asks a is m eg ea ng na =
      let whole : more ≡ rounds ++ last ∷ [] =
      m ∙ (ap (λ (x : List (List ℕ)). rounds ++ round_of x a ∷ []) eg ∙ ap (λ (x : List LabAsk). rounds ++ round_of last.grants x ∷ []) ea) in
      let next : round_of grants asks ≡ no_round = ap (λ (x : List (List ℕ)). round_of x asks) ng ∙ ap (λ (x : List LabAsk). round_of [] x) na in
      subst (λ (r : Round). IsDraft (draft_of edges objects keys outsides more r true) granted now) (sym next)
      (subst (λ (rs : List Round). IsDraft (draft_of edges objects keys outsides rs no_round true) granted now) (sym whole) (round_added now is))
