-- The readings passed are written end to end.
use Rattle.std.proofs.Common.{◌+◌, ◌*◌}
use Rattle.energy.specs.Reading.{reading_bytes}
use Rattle.energy.specs.Energies.{reading_at}
use Rattle.energy.specs.Columns.{column_bytes}
use Rattle.laws.specs.JoinLaws.{Joining}
use Rattle.meter_holding.proofs.columns.Columns.write_one.Given as goal

abbrev pub invariant-loop-i : goal.invariant-loop-i
invariant-loop-i l =
    Joining (λ n. reading_bytes (reading_at l.readings (l.self.row + n) l.rate)) (column_bytes l.readings l.rate l.self.row) l.self.rows l.initial.out l.i (4 * l.i) l.out
