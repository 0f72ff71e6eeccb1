-- What the benches in memory tell.
use Rattle.std.specs.Prelude.{ℕ, ◌-◌, List, length}
use Rattle.usp_base.specs.Memory.{steady_left, steady_told}
use Rattle.usp_base.specs.declared.wire.SteadyWire.{SteadyWire}
use Rattle.usp_lab.specs.Benches.{Used}
use Rattle.usp_lab.specs.declared.bench.KeptBench.{KeptBench}
use Rattle.usp_lab.specs.declared.bench.PlainBench.{PlainBench}

-- the lines given back
abbrev pub kept_lines : KeptBench → List SteadyWire
kept_lines bench = bench.back.items

abbrev pub kept_out : KeptBench → ℕ
kept_out bench = bench.out

abbrev pub plain_out : PlainBench → ℕ
plain_out bench = length bench.lent.items - length bench.back.items

abbrev pub used_of : SteadyWire → Used
used_of line = record { left = steady_left line.source; put = steady_told line.sink }
