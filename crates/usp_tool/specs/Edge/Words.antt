-- The words of `edge`.
use Rattle.std.specs.Prelude.{ℕ, nat_le, List, [], ◌∷◌, codes, Option, Some, None, if◌then◌else◌}
use Rattle.std.specs.Str.{bytes_eq}
use Rattle.usp_base.specs.Numbers.{number_of}
use Rattle.usp_tool.specs.declared.edge.words.EdgeWords.{EdgeWords as Words}
use Rattle.usp_tool.specs.declared.limits.TheConstants.{MAX_CONNECTIONS, MAX_WORKERS}

-- `edge CONF ADDRESS WORKERS CONNECTIONS FOLDER`
pub record EdgeWords : Type 0 where
  pub conf : List ℕ
  pub address : List ℕ
  pub workers : ℕ
  pub connections : ℕ
  pub folder : List ℕ

-- a number that is not 0
abbrev pub not_zero : Option ℕ → Option ℕ
not_zero None = None
not_zero (Some n) = if nat_le 1 n then Some n else None

-- the number from 1 to that limit which a word spells
abbrev pub count_of : (most : ℕ) → List ℕ → Option ℕ
count_of most word = not_zero (number_of most word)

-- the words with their two numbers, where both are in their ranges
abbrev pub with_counts : (conf address folder : List ℕ) → (workers connections : Option ℕ) → Option EdgeWords
with_counts conf address folder (Some workers) (Some connections) =
    Some (record {
      conf = conf;
      address = address;
      workers = workers;
      connections = connections;
      folder = folder;
    })
with_counts conf address folder workers connections = None

abbrev pub edge_of : List (List ℕ) → Option EdgeWords
edge_of (word ∷ conf ∷ address ∷ workers ∷ connections ∷ folder ∷ []) =
    if bytes_eq word (codes "edge")
    then with_counts conf address folder (count_of MAX_WORKERS workers) (count_of MAX_CONNECTIONS connections)
    else None
edge_of other = None

-- the words of the code, as bytes
abbrev pub words_value : Words → EdgeWords
words_value words = record {
  conf = words.conf.now;
  address = words.address.now;
  workers = words.workers;
  connections = words.connections;
  folder = words.folder.now;
}
