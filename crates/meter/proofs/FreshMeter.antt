-- Document 01: a fresh meter, from an address, in words.
use Rattle.frame.specs.declared.refusal.Refusal.{Refusal}
use Rattle.std.specs.Prelude.{ℕ, ◌≡◌, refl, List, [], Bool, true, false, replicate, get_or, Err, Ok, Result}
use Rattle.frame.specs.declared.refusal.Refusal.TheVariants.{BadArgument}
use Rattle.laws.specs.All.{AllOf}
use Rattle.laws.specs.AllLaws.{all_get, all_replicate}
use Rattle.laws.specs.Test.{pick}
use Rattle.item_address.specs.Address.{Good, is_good}
use Rattle.item_address.proofs.AddressLaws.{good, is_good_lem}
use Rattle.energy.specs.Reading.{Reading, number_of, zero_reading, no_reading}
use Rattle.energy.proofs.ReadingLaws.{number-zero}
use Rattle.energy.specs.Energies.{Rows, zero_rows, reading_at, number_at}
use Rattle.meter_counting.proofs.CountingWords.{OfFive, Sized}
use Rattle.meter_holding.specs.Holding.{value_for}
use Rattle.meter_holding.proofs.FreshWords.{FreshHolds, fresh_holds}
use Rattle.meter.specs.Host.{created}
use Rattle.meter.specs.Meter.{fresh_meter}

-- Every reading is zero.
abbrev pub ReadsZero : Rows → Type 0
ReadsZero rows = (row column : ℕ) → number_at rows row column ≡ 0

-- A good address makes a meter of it, any other is refused with 8. Key off, passwords and operator code zero, thirteen rows of five readings in
-- each direction, all zero, and for each item what document 01 lists.
pub record FreshIsRight (address : List ℕ) : Type 0 where
  pub made : Good address → (created address).answer ≡ Ok tt
  pub refused : (Good address → ⊥) → (created address).answer ≡ Err BadArgument
  pub own : (created address).meter.address ≡ address
  pub key : (created address).meter.key ≡ false
  pub passwords : (created address).meter.passwords ≡ replicate 30 0x00
  pub operator : (created address).meter.operator ≡ replicate 4 0x00
  pub forward-sized : Sized (created address).energies.forward
  pub reverse-sized : Sized (created address).energies.reverse
  pub forward-readings : ReadsZero (created address).energies.forward
  pub reverse-readings : ReadsZero (created address).energies.reverse
  pub items : let c = created address in
      FreshHolds address
      (λ identifier. value_for identifier c.meter.address c.meter.registers c.energies.forward c.energies.reverse)

abbrev Zero : Reading → Type 0
Zero reading = number_of reading ≡ 0

zero-read : ReadsZero zero_rows
unfolding reading_at
zero-read row column =
    let row_zero : AllOf Zero (replicate 5 zero_reading) = all_replicate Zero 5 zero_reading number-zero in
    let rows-zero : AllOf (AllOf Zero) zero_rows = all_replicate (AllOf Zero) 13 (replicate 5 zero_reading) row_zero in
    all_get Zero (get_or zero_rows row []) column no_reading (all_get (AllOf Zero) zero_rows row [] rows-zero tt) number-zero

zero-sized : Sized zero_rows
zero-sized = record { thirteen = refl; each = all_replicate OfFive 13 (replicate 5 zero_reading) refl }

pub fresh_is_right : (address : List ℕ) → FreshIsRight address
unfolding created fresh_meter
fresh_is_right address =
    record {
      made = λ h. rw (is_good_lem address h);
      refused = λ h. none (is_good address) (λ e. h (good address e));
      own = refl;
      key = refl;
      passwords = refl;
      operator = refl;
      forward-sized = zero-sized;
      reverse-sized = zero-sized;
      forward-readings = zero-read;
      reverse-readings = zero-read;
      items = fresh_holds address zero_rows zero_rows;
    }
  where
    none : (t : Bool) → (t ≡ true → ⊥) → ◌≡◌ {A = Result Unit Refusal} (pick t (Ok tt) (Err BadArgument)) (Err BadArgument)
    none true h = absurd (h refl)
    none false h = refl
