-- Pulses and settlements: what each answers and hands back, by whether the meter is within its ranges.
use Rattle.std.specs.Prelude.{ℕ, Bool, ◌&&◌, leb, eqb, Err, Ok, Result}
use Rattle.frame.specs.declared.refusal.Refusal.{Refusal}
use Rattle.frame.specs.declared.refusal.Refusal.TheVariants.{BadArgument, OutOfRange}
use Rattle.laws.specs.Test.{pick}
use Rattle.energy.specs.Energies.{Rows}
use Rattle.energy.specs.declared.Energies.{Energies}
use Rattle.meter_counting.specs.Rows.{is_rate, pulsed, settled}
use Rattle.meter_counting.specs.declared.CountedReadings.{CountedReadings}

-- Both directions together.
abbrev pub energies_of : Rows → Rows → Energies
energies_of forward reverse = record { forward = forward; reverse = reverse }

-- The readings that a host call hands back.
abbrev pub counted : Rows → Rows → Result Unit Refusal → CountedReadings
counted forward reverse answer = record { energies = energies_of forward reverse; answer = answer }

-- The answer to a call: 16, then 8 for a bad direction or rate.
unfoldable pub answer_of : Bool → Bool → Result Unit Refusal
answer_of within good = pick within (pick good (Ok tt) (Err BadArgument)) (Err OutOfRange)

-- A pulse amount added: 16, then 8 for a direction not 0 or 1 or a rate not 1 to 4, else row 0's rate and total of its direction.
unfoldable pub pulsed_by : ℕ → ℕ → ℕ → Bool → Rows → Rows → CountedReadings
pulsed_by amount direction rate within forward reverse =
    pick within
    (pick (leb direction 1 && is_rate rate)
    (pick (eqb direction 0)
    (counted (pulsed forward amount rate) reverse (Ok tt))
    (counted forward (pulsed reverse amount rate) (Ok tt)))
    (counted forward reverse (Err BadArgument)))
    (counted forward reverse (Err OutOfRange))

-- A settlement: 16, else every row of both directions down one.
unfoldable pub settled_by : Bool → Rows → Rows → CountedReadings
settled_by within forward reverse =
    pick within
    (counted (settled forward) (settled reverse) (Ok tt))
    (counted forward reverse (Err OutOfRange))
