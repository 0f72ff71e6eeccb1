use Rattle.std.proofs.Common.{◌≡◌, length, drop}
use Rattle.serde_json.specs.View.{items_view}
use Rattle.usp_conf.specs.Lists.{each}
use Rattle.usp_conf.proofs.Each.{behind}
use Rattle.usp_conf.proofs.lists.elements.Given as goal

-- the rows are the elements so far, and what is left goes behind them
abbrev pub invariant-loop-value : goal.invariant-loop-value
invariant-loop-value g l = record {
  read : each (g.E.Element.element_of l.list) (items_view l.values) ≡ behind l.rows.items (each (g.E.Element.element_of l.list) (items_view (drop l.value-index l.values)));
  count : length l.rows.items ≡ l.value-index;
}
