-- Document 01: what a fresh meter holds for each item of the table that is no reading, in its own figures, low byte first.
use Rattle.std.specs.Prelude.{ℕ, ◌≡◌, refl, List, [], ◌∷◌, replicate}
use Rattle.item.specs.Table.{item_of, found, other_rows}
use Rattle.energy.specs.Energies.{Rows}
use Rattle.meter_holding.specs.Holding.{location_of, held_at, value_held, value_for, fresh_registers}

-- Date 00-01-01 with WW 06, time zero, period 15, slip 1, its own address, meter number zero, first settlement day 0100, others 9999.
pub record FreshHolds (address : List ℕ) (held : ℕ → List ℕ) : Type 0 where
  pub date : held 0x04000101 ≡ 0x06 ∷ 0x01 ∷ 0x01 ∷ 0x00 ∷ []
  pub time : held 0x04000102 ≡ 0x00 ∷ 0x00 ∷ 0x00 ∷ []
  pub period : held 0x04000103 ≡ 0x15 ∷ []
  pub slip : held 0x04000104 ≡ 0x01 ∷ []
  pub own : held 0x04000401 ≡ address
  pub number : held 0x04000402 ≡ replicate 6 0x00
  pub first-day : held 0x04000B01 ≡ 0x00 ∷ 0x01 ∷ []
  pub second-day : held 0x04000B02 ≡ 0x99 ∷ 0x99 ∷ []
  pub third-day : held 0x04000B03 ≡ 0x99 ∷ 0x99 ∷ []

pub fresh_holds : (address : List ℕ) (forward reverse : Rows)
    → FreshHolds address (λ identifier. value_for identifier address fresh_registers forward reverse)
unfolding value_for item_of found other_rows value_held location_of held_at
fresh_holds address forward reverse =
    record {
      date = refl;
      time = refl;
      period = refl;
      slip = refl;
      own = refl;
      number = refl;
      first-day = refl;
      second-day = refl;
      third-day = refl;
    }
