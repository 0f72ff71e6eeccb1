-- What the lines of a script so far say.
use Rattle.std.specs.Prelude.{ℕ, Bool, true, false, List, [], ◌∷◌, ◌++◌}
use Rattle.usp_conf.specs.Values.{ConfValue}
use Rattle.usp_jws.specs.Keys.{KeyValue}
use Rattle.usp_script.specs.Script.{ScriptValue}
use Rattle.usp_script.specs.declared.ask.LabAsk.{LabAsk}
use Rattle.usp_script.specs.declared.ask.LabObject.{LabObject}
use Rattle.usp_script.specs.declared.ask.Round.{Round}

-- A script that is still being read. Its last round is open: lines may still add to it. It has begun where a line
-- stands above that is none of an edge, an object or a key.
pub record Draft : Type 0 where
  pub edges : List ConfValue
  pub objects : List LabObject
  pub keys : List KeyValue
  pub outsides : List (List ℕ)
  pub rounds : List Round
  pub last : Round
  pub has_begun : Bool

abbrev pub draft_of : List ConfValue → List LabObject → List KeyValue → List (List ℕ) → List Round → Round → Bool
    → Draft
draft_of edges objects keys outsides rounds last has_begun = record {
  edges = edges;
  objects = objects;
  keys = keys;
  outsides = outsides;
  rounds = rounds;
  last = last;
  has_begun = has_begun;
}

abbrev pub no_round : Round
no_round = record { grants = []; asks = [] }

abbrev pub nothing_read : Draft
nothing_read = record {
  edges = [];
  objects = [];
  keys = [];
  outsides = [];
  rounds = [];
  last = no_round;
  has_begun = false;
}

-- all rounds, the open one last
abbrev pub rounds_of : Draft → List Round
rounds_of draft = draft.rounds ++ draft.last ∷ []

-- the script that ends here
abbrev pub script_of : Draft → ScriptValue
script_of draft = record {
  edges = draft.edges;
  objects = draft.objects;
  outsides = draft.outsides;
  rounds = rounds_of draft;
}

-- ---- what a line adds

abbrev pub with_edge : Draft → ConfValue → Draft
with_edge draft edge = record draft { edges = draft.edges ++ edge ∷ [] }

abbrev pub with_object : Draft → LabObject → Draft
with_object draft object = record draft { objects = draft.objects ++ object ∷ [] }

abbrev pub with_key : Draft → KeyValue → Draft
with_key draft key = record draft { keys = draft.keys ++ key ∷ [] }

abbrev pub with_grant : Draft → List ℕ → Draft
with_grant draft token = record draft {
  last = record { grants = draft.last.grants ++ token ∷ []; asks = draft.last.asks };
  has_begun = true;
}

abbrev pub with_outside : Draft → List ℕ → Draft
with_outside draft token = record draft { outsides = draft.outsides ++ token ∷ []; has_begun = true }

abbrev pub with_ask : Draft → LabAsk → Draft
with_ask draft ask = record draft {
  last = record { grants = draft.last.grants; asks = draft.last.asks ++ ask ∷ [] };
  has_begun = true;
}

-- the open round has ended, and the next one is open
abbrev pub with_round : Draft → Draft
with_round draft = record draft { rounds = rounds_of draft; last = no_round; has_begun = true }
