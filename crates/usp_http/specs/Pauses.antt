-- Why a reader of heads looks again.
use Rattle.usp_http.specs.Finding.{Stop, broken, enough, over}
use Rattle.usp_http.specs.declared.pause.Pause.{Pause}
use Rattle.usp_http.specs.declared.pause.Pause.TheVariants as pause

abbrev pub stop_of : Pause → Stop
stop_of pause.Enough = enough
stop_of pause.Over = over
stop_of pause.Broken = broken
