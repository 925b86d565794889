-- The item is listed and the value as long, so that its register is written; the operator code stands behind level and password.
use Prim.Native.Nat.{ℕ}
use Rattle.std.specs.Prelude.{Option}
use Rattle.item.specs.declared.table.Item.{Item}
use mathlib.Core.Path.{◌≡◌, ap, sym, ◌∙◌}
use mathlib.Core.List.{List}
use native.Mathlib.Omega.{arith}
use borrow.Author.Rules.{part_to_end}
use Rattle.meter_decision.specs.Request.{item_asked, operator_of, written_value}
use Rattle.meter_decision.proofs.DecisionLaws.{WriteHolds, write_holds}
use Rattle.meter_holding.specs.Holding.{location_of, registers_with, registers_after}
use Rattle.meter_holding.proofs.HoldingLaws.{registers-after}
use Rattle.item.specs.Table.{item_of}
use Rattle.meter.specs.Meter.{noted, with_registers}
use Rattle.meter.specs.Answer.{with_item, meter_after}
use Rattle.meter.proofs.change.written.Goals as goal
use Rattle.meter.proofs.change.written.Goals.{Start}

-- every check of the write holds
holds : (s : Start) → let a = s.args in WriteHolds a.payload.now a.meter.key a.meter.passwords
holds s = write_holds _ _ _ s.requires.all_hold

pub slice_bounds-with_value-count : goal.slice_bounds-with_value-count
slice_bounds-with_value-count c = omega (arith, (holds (goal.at.slice_bounds-with_value-count c).Start).least)

pub slice_bounds-with_value-start : goal.slice_bounds-with_value-start
slice_bounds-with_value-start c = omega (arith, (holds (goal.at.slice_bounds-with_value-start c).Start).least)

pub slice_bounds-copy_from_slice-end-2 : goal.slice_bounds-copy_from_slice-end-2
slice_bounds-copy_from_slice-end-2 c = omega (arith, (holds (goal.at.slice_bounds-copy_from_slice-end-2 c).Start).least)

pub returns : goal.returns
unfolding meter_after item_asked operator_of written_value
returns c =
    let a = c.args in
    let w = holds (goal.at.returns c).Start in
    let registers : c.with_value-next.result ≡ registers_with (location_of w.item.kind) (written_value a.payload.now) a.meter.registers =
    c.with_value-next.ensures
    ∙ ap (λ (l : List ℕ). registers_after a.identifier l a.meter.registers) (part_to_end a.payload.now 12)
    ∙ registers-after a.identifier w.item (ap item_of c.requires.identifier_value ∙ w.listed) (written_value a.payload.now) a.meter.registers w.data_length in
    ap (λ (l : List ℕ). noted l (with_registers c.with_value-next.result a.meter)) c.copy_from_slice.ensures.after
    ∙ ap (λ (l : List ℕ). noted (operator_of a.payload.now) (with_registers l a.meter)) registers
    ∙ ap (λ (l : Option Item). noted (operator_of a.payload.now) (with_item l (written_value a.payload.now) a.meter)) (sym w.listed)
