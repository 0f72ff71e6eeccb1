-- The script that is made of a number: so many groups of ten asks over two edges.
use Rattle.std.specs.Prelude.{◌≡◌, ℕ, zero, suc, ◌+◌, ◌*◌, List, [], ◌∷◌, ◌++◌, codes, replicate}
use Rattle.std.specs.Fmt.{decimal}
use Rattle.usp_conf.specs.Keys.{key}
use Rattle.usp_conf.specs.Readings.{Configures}
use Rattle.usp_conf.specs.Values.{ConfValue}
use Rattle.usp_jws.specs.Keys.{KeyValue}
use Rattle.usp_jws.specs.Sealed.{sealed}
use Rattle.usp_script.specs.Script.{ScriptValue, script}
use Rattle.usp_script.specs.declared.ask.Carried.{Carried}
use Rattle.usp_script.specs.declared.ask.Carried.TheVariants.{InCookie, InQuery, Nothing}
use Rattle.usp_script.specs.declared.ask.Label.TheVariants.{Granted, Issued}
use Rattle.usp_script.specs.declared.ask.LabObject.{LabObject}
use Rattle.usp_script.specs.declared.ask.Round.{Round}

-- ---- the two edges

-- the configuration of the edge that the provider's viewers come to
unfoldable pub a_text : List ℕ
a_text =
    codes "{\"edge\":\"a\",\"scheme\":\"https\",\"keys\":[{\"kid\":\"kp\","
    ++ (codes "\"issuer\":\"cp\",\"secret\":\"AQEBAQEBAQEBAQEBAQEBAQEBAQEBAQEBAQEBAQEBAQE\"},"
    ++ (codes "{\"kid\":\"ka\",\"issuer\":\"cdn-a\","
    ++ (codes "\"secret\":\"AgICAgICAgICAgICAgICAgICAgICAgICAgICAgICAgI\"}],"
    ++ (codes "\"issuers\":[\"cp\",\"cdn-a\"],\"audience\":[\"cdn-a\"],\"sign_kid\":\"ka\","
    ++ (codes "\"routes\":[{\"prefix\":\"/b/\",\"scheme\":\"https\",\"authority\":\"b.example\","
    ++ (codes "\"kid\":\"kab\",\"issuer\":\"cdn-a\","
    ++ (codes "\"secret\":\"AwMDAwMDAwMDAwMDAwMDAwMDAwMDAwMDAwMDAwMDAwM\",\"audience\":\"cdn-b\"}]}")))))))

-- and that of the edge to which it sends them on
unfoldable pub b_text : List ℕ
b_text =
    codes "{\"edge\":\"b\",\"scheme\":\"https\",\"keys\":[{\"kid\":\"kab\","
    ++ (codes "\"issuer\":\"cdn-a\",\"secret\":\"AwMDAwMDAwMDAwMDAwMDAwMDAwMDAwMDAwMDAwMDAwM\"},"
    ++ (codes "{\"kid\":\"kb\",\"issuer\":\"cdn-b\","
    ++ (codes "\"secret\":\"BAQEBAQEBAQEBAQEBAQEBAQEBAQEBAQEBAQEBAQEBAQ\"}],"
    ++ (codes "\"issuers\":[\"cdn-a\",\"cdn-b\"],\"audience\":[\"cdn-b\"],\"sign_kid\":\"kb\"}"))))

-- ---- the URIs

abbrev pub list_uri : List ℕ
list_uri = codes "https://a.example/v/list.m3u8"

abbrev pub segment_uri : (number : ℕ) → List ℕ
segment_uri number = codes "https://a.example/v/s" ++ (decimal number ++ codes ".ts")

abbrev pub sent_uri : List ℕ
sent_uri = codes "https://a.example/b/s6.ts"

abbrev pub target_uri : List ℕ
target_uri = codes "https://b.example/b/s6.ts"

abbrev pub object_of : (edge : ℕ) → (uri : List ℕ) → LabObject
object_of edge uri = record { edge = edge; uri = uri; text = codes "x" }

-- each URI that is asked for, at the edge that is asked
abbrev pub objects : List LabObject
objects =
    object_of 0 list_uri
    ∷ object_of 0 (segment_uri 1)
    ∷ object_of 0 (segment_uri 2)
    ∷ object_of 0 (segment_uri 3)
    ∷ object_of 0 (segment_uri 4)
    ∷ object_of 0 (segment_uri 5)
    ∷ object_of 0 sent_uri
    ∷ object_of 1 target_uri
    ∷ []

-- ---- a group

-- the claims of the grant of a group, whose first ask is at this moment
abbrev pub grant_text : (group moment : ℕ) → List ℕ
grant_text group moment =
    codes "{\"iss\":\"cp\",\"aud\":\"cdn-a\",\"exp\":" ++ (decimal (moment + 1000)
    ++ (codes ",\"nbf\":" ++ (decimal moment
    ++ (codes ",\"jti\":\"n" ++ (decimal group
    ++ codes "\",\"cdniets\":30,\"cdnistt\":1,\"cdnistd\":0,\"cdniuc\":\"regex:^https://[^/]*/\"}")))))

abbrev pub provider_key : KeyValue
provider_key = key (codes "kp") (codes "cp") (replicate 32 1)

-- the grant, sealed with the provider's key
abbrev pub grant_token : (group moment : ℕ) → List ℕ
grant_token group moment = sealed provider_key (grant_text group moment)

abbrev pub ask_round : (grants : List (List ℕ)) → (edge moment : ℕ) → (uri : List ℕ) → Carried → Round
ask_round grants edge moment uri carried = record {
  grants = grants;
  asks = record { edge = edge; moment = moment; uri = uri; carried = carried } ∷ [];
}

-- The ten rounds of a group, each of one ask, from this moment on and behind so many asks. The grant is used once, then
-- each ask brings what the one before it issued; the last two are a token brought twice and no token.
abbrev pub rounds_at : (group moment asks : ℕ) → List Round
rounds_at group moment asks =
    ask_round (grant_token group moment ∷ []) 0 moment list_uri (InQuery (Granted (group + 1)))
    ∷ ask_round [] 0 (moment + 5) (segment_uri 1) (InCookie (Issued (asks + 1)))
    ∷ ask_round [] 0 (moment + 10) (segment_uri 2) (InCookie (Issued (asks + 2)))
    ∷ ask_round [] 0 (moment + 15) (segment_uri 3) (InCookie (Issued (asks + 3)))
    ∷ ask_round [] 0 (moment + 20) (segment_uri 4) (InCookie (Issued (asks + 4)))
    ∷ ask_round [] 0 (moment + 25) (segment_uri 5) (InCookie (Issued (asks + 5)))
    ∷ ask_round [] 0 (moment + 30) sent_uri (InCookie (Issued (asks + 6)))
    ∷ ask_round [] 1 (moment + 35) target_uri (InQuery (Issued (asks + 7)))
    ∷ ask_round [] 1 (moment + 36) target_uri (InQuery (Issued (asks + 7)))
    ∷ ask_round [] 0 (moment + 40) list_uri Nothing
    ∷ []

abbrev pub rounds_of : (group : ℕ) → List Round
rounds_of group = rounds_at group (1000 + 100 * group) (10 * group)

-- so many groups from that one on
abbrev pub groups_from : (first count : ℕ) → List Round
groups_from first zero = []
groups_from first (suc count) = rounds_of first ++ groups_from (first + 1) count

-- The script of so many groups over the two edges.
pub record IsGenerated (groups : ℕ) (of : ScriptValue) : Type 0 where
  pub a : ConfValue
  pub b : ConfValue
  pub configures_a : Configures a_text a
  pub configures_b : Configures b_text b
  pub is : of ≡ script (a ∷ b ∷ []) objects [] (groups_from 0 groups)
