-- The laws of `Joining` say what a turn and the end make of it.
use Rattle.std.proofs.Common.{◌≡◌, ◌+◌, ◌-◌, ◌*◌, ℕ, List, length, take, drop, ap, ◌∙◌, arith, length-take, length-drop}
use Rattle.energy.specs.Energies.{reading_at}
use Rattle.energy.proofs.ReadingLaws.{reading-length}
use Rattle.energy.proofs.ColumnsLaws.{column-length, column-joined}
use Rattle.laws.specs.Memory.{over}
use Rattle.laws.specs.MemoryLaws.{copied}
use Rattle.laws.specs.JoinLaws.{joining_start, joining_room, joining_next}
use Rattle.meter_holding.proofs.columns.Columns.write_one.Goals as goal

pub loop-i-init : goal.loop-i-init
loop-i-init c =
    let a = c.args in
    joining_start (column-joined a.readings.now a.rate a.self.row) (rw column-length c.requires.rows_in_bounds)

-- there is room for the next reading
pub copy-requires : goal.copy-requires
copy-requires c =
    let four : length c.bytes_of-bytes.result ≡ 4 = ap length c.bytes_of-bytes.ensures ∙ reading-length _ in
    simp (length-take, length-drop) (omega (arith, four, rw reading-length at (joining_room c.loop-i.invariant c.loop-i-test.true)))

pub loop-i-preserved : goal.loop-i-preserved
unfolding reading_at
loop-i-preserved c =
    let b = c.bytes_of-bytes in
    let out : List ℕ = c.loop-i.out in
    let at : ℕ = 4 * c.loop-i.i in
    let rest : List ℕ = take (length out - at) (drop at out) in
    joining_next c.loop-i.invariant c.loop-i-test.true (ap (λ (n : ℕ). at + n) (reading-length _) ∙ omega arith)
    (c.copy.ensures.value ∙ copied b.result rest ∙ ap (λ (bytes : List ℕ). over bytes rest) b.ensures)
