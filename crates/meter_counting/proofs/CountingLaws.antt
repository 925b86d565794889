-- Pulses and settlements as one answer and one result for each direction.
use Rattle.std.specs.Prelude.{ℕ, ◌≡◌, refl, Bool, true, false, ◌&&◌, not, leb, eqb, Err, Ok}
use Rattle.frame.specs.declared.refusal.Refusal.TheVariants.{BadArgument, OutOfRange}
use Rattle.laws.specs.Test.{pick}
use Rattle.energy.specs.Energies.{Rows}
use Rattle.meter_counting.specs.Rows.{is_rate, pulsed, settled}
use Rattle.meter_counting.proofs.RowsLaws.{pulsed_at_zero}
use Rattle.meter_counting.specs.Counting.{counted, answer_of, pulsed_by, settled_by}

-- A pulse at a rate or at none.
pub pulsed_where : (t : Bool) (rows : Rows) (amount rate : ℕ) → pulsed rows amount (pick t rate 0) ≡ pick t (pulsed rows amount rate) rows
pulsed_where true rows amount rate = refl
pulsed_where false rows amount rate = pulsed_at_zero rows amount

-- A pulse counts in the one direction or in the other, and in none where it is refused.
pub pulse-parts : (amount direction rate : ℕ) (ranges : Bool) (forward reverse : Rows)
    → let good = leb direction 1 && is_rate rate in let first = eqb direction 0 in
    counted (pick (ranges && good && first) (pulsed forward amount rate) forward)
    (pick (ranges && good && not first) (pulsed reverse amount rate) reverse) (answer_of ranges good)
    ≡ pulsed_by amount direction rate ranges forward reverse
unfolding pulsed_by answer_of
pulse-parts amount direction rate ranges forward reverse = go ranges (leb direction 1 && is_rate rate) (eqb direction 0)
  where
    go : (t good first : Bool)
        → counted (pick (t && good && first) (pulsed forward amount rate) forward)
        (pick (t && good && not first) (pulsed reverse amount rate) reverse)
        (pick t (pick good (Ok tt) (Err BadArgument)) (Err OutOfRange))
        ≡ pick t
        (pick good
        (pick first (counted (pulsed forward amount rate) reverse (Ok tt)) (counted forward (pulsed reverse amount rate) (Ok tt)))
        (counted forward reverse (Err BadArgument)))
        (counted forward reverse (Err OutOfRange))
    go false good first = refl
    go true false first = refl
    go true true false = refl
    go true true true = refl

-- A settlement counts in both directions, and in none where it is refused.
pub settle-parts : (ranges : Bool) (forward reverse : Rows)
    → counted (pick ranges (settled forward) forward) (pick ranges (settled reverse) reverse) (answer_of ranges true)
    ≡ settled_by ranges forward reverse
unfolding settled_by answer_of
settle-parts true forward reverse = refl
settle-parts false forward reverse = refl
