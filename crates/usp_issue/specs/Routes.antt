-- Where a request may be sent on.
use Rattle.std.specs.Prelude.{ℕ, List}
use Rattle.usp_jws.specs.Keys.{KeyValue}
use Rattle.usp_uri.specs.Origin.{Origin}

-- a route by its prefix, its place, its key and its audience
pub record RouteValue : Type 0 where
  pub prefix : List ℕ
  pub place : Origin
  pub key : KeyValue
  pub audience : List ℕ
