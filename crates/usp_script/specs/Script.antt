-- A script of the lab: edges, their objects, tokens that were sealed outside, and rounds of asks.
use Rattle.std.specs.Prelude.{◌≡◌, ℕ, ◌+◌, ◌-◌, ◌<◌, ◌≤◌, ◌&&◌, ◌==◌, All, List, [], ◌∷◌, ◌++◌, length, map, Option, IfSome, slice_get}
use Rattle.std.specs.List.{find}
use Rattle.std.specs.Option.{option_map}
use Rattle.std.specs.Str.{bytes_eq}
use Rattle.usp_base.specs.declared.limits.TheConstants.{MOMENT_BOUND}
use Rattle.usp_conf.specs.Values.{ConfValue, IsConf}
use Rattle.usp_issue.specs.Sites.{SiteValue}
use Rattle.usp_issue.specs.declared.limits.TheConstants.{MAX_TOKEN}
use Rattle.usp_package.specs.Package.{nothing, package_of}
use Rattle.usp_script.specs.declared.limits.TheConstants.{MAX_ASKS, MAX_EDGES}
use Rattle.usp_script.specs.declared.ask.Carried.{Carried}
use Rattle.usp_script.specs.declared.ask.Carried.TheVariants.{InCookie, InQuery, Nothing}
use Rattle.usp_script.specs.declared.ask.LabAsk.{LabAsk}
use Rattle.usp_script.specs.declared.ask.LabObject.{LabObject}
use Rattle.usp_script.specs.declared.ask.Round.{Round}

-- A script. Each round grants its tokens as it begins, and then makes its asks.
pub record ScriptValue : Type 0 where
  pub edges : List ConfValue
  pub objects : List LabObject
  pub outsides : List (List ℕ)
  pub rounds : List Round

abbrev pub script : List ConfValue → List LabObject → List (List ℕ) → List Round → ScriptValue
script edges objects outsides rounds =
    record { edges = edges; objects = objects; outsides = outsides; rounds = rounds }

abbrev pub sites_of : List ConfValue → List SiteValue
sites_of edges = map (λ edge. edge.site) edges

-- the name under which a URI, or a cookie, brings its token to an edge
abbrev pub attribute_of : ConfValue → List ℕ
attribute_of edge = edge.site.profile.attribute

-- the tokens that are granted in all rounds, in order
abbrev pub grants_in : List Round → List (List ℕ)
grants_in [] = []
grants_in (round ∷ rounds) = round.grants ++ grants_in rounds

-- how many asks the rounds have
abbrev pub asks_in : List Round → ℕ
asks_in [] = 0
asks_in (round ∷ rounds) = length round.asks + asks_in rounds

-- the first object of that edge and that URI
abbrev pub object_at : List LabObject → (edge : ℕ) → (uri : List ℕ) → Option (List ℕ)
object_at objects edge uri =
    option_map (λ object. object.text) (find (λ object. (object.edge == edge) && bytes_eq object.uri uri) objects)

-- what stands at a place that is counted from 1
abbrev pub numbered : {X : Type 0} → List X → (number : ℕ) → Option X
numbered xs number = slice_get xs (number - 1)

-- ---- what each script keeps

-- A URI that carries its token in the query has no package yet.
abbrev pub IsBare : (attribute uri : List ℕ) → Carried → Type 0
IsBare attribute uri Nothing = Unit {0}
IsBare attribute uri (InQuery label) = package_of attribute uri ≡ nothing
IsBare attribute uri (InCookie label) = Unit {0}

-- The ask is of one of the edges, at a moment that a clock may tell.
pub record IsAsk (edges : List ConfValue) (ask : LabAsk) : Type 0 where
  pub edge : ask.edge < length edges
  pub moment : ask.moment < MOMENT_BOUND
  pub bare : IfSome (slice_get edges ask.edge) (λ edge. IsBare (attribute_of edge) ask.uri ask.carried)

-- The asks of a round are such asks, and what it grants is no longer than a token that an edge issues.
pub record IsRound (edges : List ConfValue) (round : Round) : Type 0 where
  pub asks : All (IsAsk edges) round.asks
  pub grants : All (λ token. length token ≤ MAX_TOKEN) round.grants

pub record IsScript (of : ScriptValue) : Type 0 where
  pub edges : length of.edges ≤ MAX_EDGES
  pub confs : All IsConf of.edges
  pub rounds : All (IsRound of.edges) of.rounds
  pub few : asks_in of.rounds ≤ MAX_ASKS
  pub outsides : All (λ token. length token ≤ MAX_TOKEN) of.outsides
