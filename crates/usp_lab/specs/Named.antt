-- The names of an edge's keys.
use Rattle.std.specs.Prelude.{◌≤◌, All, List, length}
use Rattle.usp_conf.specs.Values.{ConfValue}
use Rattle.usp_jws.specs.Keys.{KeyValue}
use Rattle.usp_jws.specs.declared.limits.TheConstants.{MAX_KID}

-- Their names are no longer than a name may be.
abbrev pub AreNamed : List KeyValue → Type 0
AreNamed keys = All (λ key. length key.kid ≤ MAX_KID) keys

-- The names of its keys, and of its routes' keys, are no longer than a name may be.
pub record HasNamedKeys (conf : ConfValue) : Type 0 where
  pub ring : AreNamed conf.site.profile.ring
  pub routes : All (λ route. length route.key.kid ≤ MAX_KID) conf.site.routes
