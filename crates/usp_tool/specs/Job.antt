-- What a command needs.
use Rattle.std.specs.Prelude.{ℕ, List, Option, Some}
use Rattle.std.specs.Option.{option_map}
use Rattle.usp_conf.specs.Values.{ConfValue}
use Rattle.usp_jws.specs.Keys.{KeyValue, key_named}
use Rattle.usp_tool.specs.Words.{Command, check, sign}
use Rattle.usp_tool.specs.declared.job.Job.{Job}
use Rattle.usp_tool.specs.declared.job.Job.TheVariants as job

-- judging under a configuration, and signing with a key for packages of that name
pub data JobValue : Type 0 where
  checking : ConfValue → JobValue
  signing : List ℕ → KeyValue → JobValue

abbrev pub job_value : Job → JobValue
job_value (job.Check conf) = checking conf.now
job_value (job.Sign attribute key) = signing attribute.now key.now

-- The job of a command under a configuration: of `sign` there is none where the ring lacks the key.
abbrev pub job_of : Command → ConfValue → Option JobValue
job_of (check name) conf = Some (checking conf)
job_of (sign name kid) conf =
    option_map (λ key. signing conf.site.profile.attribute key)
    (key_named conf.site.profile.ring kid)
