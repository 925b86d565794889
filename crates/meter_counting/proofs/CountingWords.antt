-- Document 01's words for a pulse and a settlement: what each answers, and what becomes of the reading at each row and column.
use Rattle.frame.specs.declared.refusal.Refusal.TheVariants.{OutOfRange, BadArgument}
use Rattle.std.specs.Prelude.{ℕ, ◌+◌, ◌%◌, ◌≤◌, ◌≡◌, List, length, Err, Ok, Result}
use Rattle.frame.specs.declared.refusal.Refusal.{Refusal}
use Rattle.laws.specs.All.{AllOf}
use Rattle.energy.specs.Reading.{Reading}
use Rattle.energy.specs.Energies.{Rows, number_at}
use Rattle.energy.specs.declared.Energies.{Energies}
use Rattle.meter_counting.proofs.Said.{Countable}
use Rattle.meter_counting.specs.Counting.{energies_of}

-- A row of five readings, and thirteen of them.
abbrev pub OfFive : List Reading → Type 0
OfFive row = length row ≡ 5

pub record Sized (rows : Rows) : Type 0 where
  pub thirteen : length rows ≡ 13
  pub each : AllOf OfFive rows

-- A pulse amount is added to row 0's rate and total, each modulo 100,000,000, and to no other reading.
pub record PulseCounted (amount rate : ℕ) (rows after : Rows) : Type 0 where
  pub total : number_at after 0 0 ≡ (number_at rows 0 0 + amount) % 100000000
  pub of_rate : number_at after 0 rate ≡ (number_at rows 0 rate + amount) % 100000000
  pub other-columns : (column : ℕ) → (column ≡ 0 → ⊥) → (column ≡ rate → ⊥) → number_at after 0 column ≡ number_at rows 0 column
  pub other-rows : (row column : ℕ) → 1 ≤ row → number_at after row column ≡ number_at rows row column
  pub sized : Sized after

-- A call with this refusal hands both directions back as before.
abbrev pub RefusedBy : Refusal → Rows → Rows → Result Unit Refusal → Energies → Type 0
RefusedBy n forward reverse answer after = (answer ≡ Err n) × (after ≡ energies_of forward reverse)

-- A pulse: 16 for a meter outside its ranges, then 8 where the direction is not 0 or 1 or the rate not 1 to 4; else it counts in its own
-- direction, 0 forward or 1 reverse, and the other direction is as before.
pub record PulseIsRight (Within : Type 0) (amount direction rate : ℕ) (forward reverse : Rows) (answer : Result Unit Refusal) (after : Energies) : Type 0 where
  pub out_of_range_lem : (Within → ⊥) → RefusedBy OutOfRange forward reverse answer after
  pub bad : Within → (Countable direction rate → ⊥) → RefusedBy BadArgument forward reverse answer after
  pub forward-counted : Within → direction ≡ 0 → 1 ≤ rate → rate ≤ 4
      → (answer ≡ Ok tt) × PulseCounted amount rate forward after.forward × (after.reverse ≡ reverse)
  pub reverse-counted : Within → direction ≡ 1 → 1 ≤ rate → rate ≤ 4
      → (answer ≡ Ok tt) × PulseCounted amount rate reverse after.reverse × (after.forward ≡ forward)

-- A settlement moves every row down one, drops row 12, and keeps row 0.
pub record Settled (rows after : Rows) : Type 0 where
  pub current : (column : ℕ) → number_at after 0 column ≡ number_at rows 0 column
  pub moved : (row column : ℕ) → row ≤ 11 → number_at after (row + 1) column ≡ number_at rows row column
  pub sized : Sized after

-- A settlement: 16 for a meter outside its ranges; else both directions settle.
pub record SettleIsRight (Within : Type 0) (forward reverse : Rows) (answer : Result Unit Refusal) (after : Energies) : Type 0 where
  pub out_of_range_lem : (Within → ⊥) → RefusedBy OutOfRange forward reverse answer after
  pub settles : Within → (answer ≡ Ok tt) × Settled forward after.forward × Settled reverse after.reverse
