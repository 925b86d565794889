-- Document 01's ranges in words: what 16 refuses is the rest.
use Rattle.std.specs.Prelude.{ℕ, ◌≡◌, List, Bool, true, ◌↔◌}
use Rattle.std.proofs.Math.Bool.{and-eq-true_iff}
use Rattle.laws.specs.Test.{pick}
use Rattle.laws.specs.TestLaws.{pick_cases}
use Rattle.item_address.specs.Address.{Good}
use Rattle.item_address.proofs.AddressLaws.{good, is_good_lem}
use Rattle.item_decimal.specs.Decimal.{Decimal}
use Rattle.item_decimal.proofs.DecimalLaws.{all-decimal, decimal-all}
use Rattle.energy.specs.Energies.{Rows}
use Rattle.energy.proofs.RangeLaws.{RowsInRange, rows_in_range_lem}
use Rattle.meter_holding.specs.Holding.{within_ranges}

-- The address is good, every register decimal, every reading within its range.
pub record InRanges (own held : List ℕ) (forward reverse : Rows) : Type 0 where
  pub address : Good own
  pub registers : Decimal held
  pub forward-readings : RowsInRange forward
  pub reverse-readings : RowsInRange reverse

-- The readings of either direction are within their range.
pub direction_in_range : {own held : List ℕ} {forward reverse : Rows} → InRanges own held forward reverse → (t : Bool) → RowsInRange (pick t forward reverse)
direction_in_range h t = pick_cases RowsInRange t (λ _. h.forward-readings) (λ _. h.reverse-readings)

-- The test of the ranges holds exactly there.
pub within-ranges : (own held : List ℕ) (forward reverse : Rows) → (within_ranges own held forward reverse ≡ true) ↔ InRanges own held forward reverse
unfolding within_ranges
within-ranges own held forward reverse = (from-test, to_test)
  where
    from-test : within_ranges own held forward reverse ≡ true → InRanges own held forward reverse
    from-test h =
        let parts = simp (and-eq-true_iff, rows_in_range_lem) at h in
        record {
          address = good own parts.0;
          registers = all-decimal held parts.1.0;
          forward-readings = parts.1.1.0;
          reverse-readings = parts.1.1.1;
        }

    to_test : InRanges own held forward reverse → within_ranges own held forward reverse ≡ true
    to_test h =
        rw (is_good_lem own h.address, decimal-all held h.registers, (rows_in_range_lem forward).1 h.forward-readings)
        ((rows_in_range_lem reverse).1 h.reverse-readings)
