-- The columns passed are written end to end.
use Rattle.std.proofs.Common.{◌+◌, ◌*◌}
use Rattle.energy.specs.Columns.{column_bytes, columns_bytes}
use Rattle.laws.specs.JoinLaws.{Joining}
use Rattle.meter_holding.proofs.columns.Columns.write.Given as goal

abbrev pub invariant-loop-i : goal.invariant-loop-i
invariant-loop-i l =
    Joining (λ n. column_bytes l.readings (l.self.rate + n) l.self.row l.self.rows) (λ n. columns_bytes l.readings l.self.rate n l.self.row l.self.rows) l.self.rates
    l.initial.out l.i (4 * l.self.rows * l.i) l.out
