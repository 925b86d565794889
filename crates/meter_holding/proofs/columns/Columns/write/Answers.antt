-- The laws of `Joining` say what a turn and the end make of it.
use Rattle.std.proofs.Common.{◌≡◌, ◌+◌, ◌*◌, ℕ, ap, ◌∙◌, arith, length-take, length-drop}
use Rattle.energy.proofs.ColumnsLaws.{column-length, columns-length, columns-joined}
use Rattle.laws.specs.JoinLaws.{joining_start, joining_room, joining_next}
use Rattle.meter_holding.proofs.columns.Columns.write.Goals as goal

pub loop-i-init : goal.loop-i-init
loop-i-init c =
    let a = c.args in
    let none : 4 * a.self.rows * 0 ≡ 0 = omega arith in
    rw none (joining_start (columns-joined a.readings.now a.self.rate a.self.row a.self.rows) (rw columns-length c.requires.rows_in_bounds))

-- there is room for the next column
pub write_one-requires-clause-rows_in_bounds :
    goal.write_one-requires-clause-rows_in_bounds
write_one-requires-clause-rows_in_bounds c =
    simp (length-take, length-drop) (omega (arith, rw column-length at (joining_room c.loop-i.invariant c.loop-i-test.true)))

pub loop-i-preserved : goal.loop-i-preserved
loop-i-preserved c =
    joining_next c.loop-i.invariant c.loop-i-test.true (ap (λ (n : ℕ). 4 * c.args.self.rows * c.loop-i.i + n) (column-length _ _ _ _) ∙ omega arith) c.write_one.ensures
