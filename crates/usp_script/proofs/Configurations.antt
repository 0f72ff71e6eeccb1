-- The two texts are configurations.
use Rattle.std.proofs.Common.{refl}
use Rattle.serde_json.proofs.OnLiterals.{serde_json_on_literals}
use Rattle.base64.proofs.OnLiterals.{base64_on_literals}
use Rattle.usp_conf.specs.Readings.{Configures}
use Rattle.usp_conf.specs.Values.{ConfValue}
use Rattle.usp_uri.specs.Faults.{normal_of}
use Rattle.usp_uri.specs.Origin.{origin_of}
use Rattle.usp_script.specs.Generator.{a_text, b_text}

pub b_configures : (value : ConfValue) × Configures b_text value
unfolding b_text serde_json_on_literals base64_on_literals normal_of origin_of
b_configures = (_, record { utf8 = (b_text, (refl, refl)); json = _; reading = refl; defined = refl })

pub a_configures : (value : ConfValue) × Configures a_text value
unfolding a_text serde_json_on_literals base64_on_literals normal_of origin_of
a_configures = (_, record { utf8 = (a_text, (refl, refl)); json = _; reading = refl; defined = refl })
