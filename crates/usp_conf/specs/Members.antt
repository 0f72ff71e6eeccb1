-- The names of members.
use Rattle.std.specs.Prelude.{ℕ, List, codes}
use Rattle.usp_conf.specs.declared.member.Member.{Member}
use Rattle.usp_conf.specs.declared.member.Member.TheVariants as member

abbrev pub name_of : Member → List ℕ
name_of member.Edge = codes "edge"
name_of member.Scheme = codes "scheme"
name_of member.Attribute = codes "attribute"
name_of member.Keys = codes "keys"
name_of member.Issuers = codes "issuers"
name_of member.Audience = codes "audience"
name_of member.SignKid = codes "sign_kid"
name_of member.Room = codes "room"
name_of member.Extensions = codes "extensions"
name_of member.Routes = codes "routes"
name_of member.Enforce = codes "enforce"
name_of member.Kid = codes "kid"
name_of member.Issuer = codes "issuer"
name_of member.Secret = codes "secret"
name_of member.Claim = codes "claim"
name_of member.Test = codes "test"
name_of member.Setting = codes "setting"
name_of member.Prefix = codes "prefix"
name_of member.Authority = codes "authority"
