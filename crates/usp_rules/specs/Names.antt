-- The numbers and names of the rules.
use Rattle.std.specs.Prelude.{ℕ, List, codes}
use Rattle.usp_rules.specs.declared.rule.Rule.{Rule}
use Rattle.usp_rules.specs.declared.rule.Rule.TheVariants as rule

abbrev pub number_of : Rule → ℕ
number_of rule.Uri = 1
number_of rule.Missing = 2
number_of rule.Package = 3
number_of rule.Header = 4
number_of rule.Signature = 5
number_of rule.Claims = 6
number_of rule.Version = 7
number_of rule.Critical = 8
number_of rule.Encrypted = 9
number_of rule.Issuer = 10
number_of rule.Audience = 11
number_of rule.NotBefore = 12
number_of rule.Expired = 13
number_of rule.Renewal = 14
number_of rule.Container = 15
number_of rule.Late = 16
number_of rule.Seen = 17
number_of rule.Room = 18

abbrev pub name_of : Rule → List ℕ
name_of rule.Uri = codes "Uri"
name_of rule.Missing = codes "Missing"
name_of rule.Package = codes "Package"
name_of rule.Header = codes "Header"
name_of rule.Signature = codes "Signature"
name_of rule.Claims = codes "Claims"
name_of rule.Version = codes "Version"
name_of rule.Critical = codes "Critical"
name_of rule.Encrypted = codes "Encrypted"
name_of rule.Issuer = codes "Issuer"
name_of rule.Audience = codes "Audience"
name_of rule.NotBefore = codes "NotBefore"
name_of rule.Expired = codes "Expired"
name_of rule.Renewal = codes "Renewal"
name_of rule.Container = codes "Container"
name_of rule.Late = codes "Late"
name_of rule.Seen = codes "Seen"
name_of rule.Room = codes "Room"
