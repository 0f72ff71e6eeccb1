-- What a configuration is.
use Rattle.std.specs.Prelude.{◌≡◌, ℕ, ◌≤◌, true, List}
use Rattle.usp_issue.specs.Sites.{SiteValue}
use Rattle.usp_jws.specs.Letters.{is_identity}
use Rattle.usp_conf.specs.Letters.{is_scheme}
use Rattle.usp_nonce.specs.declared.limits.TheConstants.{MAX_ROOM}

-- a configuration by the edge's name, its scheme, the room of its nonce table and its site
pub record ConfValue : Type 0 where
  pub edge : List ℕ
  pub scheme : List ℕ
  pub room : ℕ
  pub site : SiteValue

abbrev pub conf : List ℕ → List ℕ → ℕ → SiteValue → ConfValue
conf edge scheme room site = record { edge = edge; scheme = scheme; room = room; site = site }

-- what each configuration keeps
pub record IsConf (value : ConfValue) : Type 0 where
  pub edge : is_identity value.edge ≡ true
  pub scheme : is_scheme value.scheme ≡ true
  pub room : (1 ≤ value.room) × (value.room ≤ MAX_ROOM)
