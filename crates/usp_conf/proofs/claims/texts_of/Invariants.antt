use Rattle.std.proofs.Common.{◌≡◌, drop}
use Rattle.serde_json.specs.View.{items_view}
use Rattle.usp_conf.specs.Claims.{json_text_of}
use Rattle.usp_conf.specs.Lists.{each}
use Rattle.usp_conf.proofs.Each.{behind}
use Rattle.usp_conf.proofs.claims.texts_of.Given as goal

-- the items are the texts so far, and what is left goes behind them
abbrev pub invariant-loop-value : goal.invariant-loop-value
invariant-loop-value l = each json_text_of (items_view l.values) ≡ behind l.items.values (each json_text_of (items_view (drop l.value-index l.values)))
