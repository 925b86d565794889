-- Pulses and settlements do what document 01's words say.
use Rattle.std.specs.Prelude.{ℕ, zero, suc, ◌≤◌, ◌≡◌, refl, List, [], ◌∷◌, Bool, true, false, ◌&&◌, ◌↔◌, get_or, set, leb}
use Rattle.std.proofs.Common.{ap, ◌∙◌, arith, length-set, get_or-set_same, get_or-set_other, get_or-take, length-take-le}
use Rattle.std.proofs.Math.Numerals.{unary_clauses}
use Rattle.laws.specs.AllLaws.{all_take}
use Rattle.item_range.proofs.RangeLaws.{within-iff}
use Rattle.laws.specs.TestLaws.{not_true}
use Rattle.energy.specs.Reading.{Reading, number_of, no_reading, plus_amount}
use Rattle.energy.proofs.ReadingLaws.{number_plus}
use Rattle.energy.specs.Energies.{Rows, reading_at, number_at}
use Rattle.meter_counting.specs.Rows.{is_rate, pulsed_row, pulsed, settled}
use Rattle.meter_counting.specs.Counting.{pulsed_by, settled_by}
use Rattle.meter_counting.proofs.Said.{Countable, countable_iff}
use Rattle.meter_counting.proofs.CountingWords.{OfFive, Sized, PulseCounted, PulseIsRight, Settled, SettleIsRight}

-- The test of a rate says 1 to 4.
is_rate_lem : (rate : ℕ) → 1 ≤ rate → rate ≤ 4 → is_rate rate ≡ true
unfolding is_rate
is_rate_lem rate least most = (within-iff 1 4 rate).1 (least, most)

-- A pulse at a rate counts in the rows of one direction.
pulse-counted : (amount rate : ℕ) (rows : Rows) → 1 ≤ rate → rate ≤ 4 → Sized rows → PulseCounted amount rate rows (pulsed rows amount rate)
unfolding pulsed reading_at
pulse-counted amount rate [] least most sized = absurd (omega (arith, sized.thirteen))
pulse-counted amount rate (row ∷ rows) least most sized =
    let total : Reading = plus_amount (get_or row 0 no_reading) amount in
    let of_rate : Reading = plus_amount (get_or row rate no_reading) amount in
    let first : List Reading = set row 0 total in
    let five : OfFive row = sized.each.0 in
    let first-five : OfFive first = length-set row 0 total ∙ five in
    rw (is_rate_lem rate least most)
    record {
      total =
          ap number_of (get_or-set_other first rate 0 of_rate no_reading (λ e. omega arith) ∙ get_or-set_same row 0 total no_reading (omega arith))
          ∙ number_plus (get_or row 0 no_reading) amount;
      of_rate = ap number_of (get_or-set_same first rate of_rate no_reading (omega arith)) ∙ number_plus (get_or row rate no_reading) amount;
      other-columns =
          λ column p q. ap number_of
          (get_or-set_other first rate column of_rate no_reading q ∙ get_or-set_other row 0 column total no_reading p);
      other-rows = others;
      sized =
          record {
            thirteen = sized.thirteen;
            each = (length-set first rate of_rate ∙ first-five, sized.each.1);
          };
    }
  where
    others : (r column : ℕ) → 1 ≤ r → number_at (pulsed_row row amount rate ∷ rows) r column ≡ number_at (row ∷ rows) r column
    others zero column h = absurd (omega arith)
    others (suc r) column h = refl

-- A direction or a rate that is not good fails the test of both.
is_bad : (direction rate : ℕ) → (Countable direction rate → ⊥) → (leb direction 1 && is_rate rate) ≡ false
is_bad direction rate not-Good = not_true _ (λ e. not-Good ((countable_iff direction rate).0 e))

-- A pulse does what its words say, whatever the caller's test of the ranges stands for.
pub pulse-words : (Within : Type 0) (within : Bool) → (within ≡ true) ↔ Within → (amount direction rate : ℕ) (forward reverse : Rows) → Sized forward → Sized reverse
    → let c = pulsed_by amount direction rate within forward reverse in PulseIsRight Within amount direction rate forward reverse c.answer c.energies
unfolding pulsed_by
pulse-words Within within test amount direction rate forward reverse p q =
    record {
      out_of_range_lem = λ out. rw (not_true within (λ h. out (test.0 h))) (refl, refl);
      bad = λ w not-Good. rw (test.1 w, is_bad direction rate not-Good) (refl, refl);
      forward-counted = λ w d least most. rw (test.1 w, d, is_rate_lem rate least most) (refl, pulse-counted amount rate forward least most p, refl);
      reverse-counted = λ w d least most. rw (test.1 w, d, is_rate_lem rate least most) (refl, pulse-counted amount rate reverse least most q, refl);
    }

-- The rows of one direction settle.
rows_settled : (rows : Rows) → Sized rows → Settled rows (settled rows)
unfolding settled reading_at
rows_settled [] sized = absurd (omega (arith, sized.thirteen))
rows_settled (row ∷ rows) sized =
    record {
      current = λ column. refl;
      moved =
          λ r column h. simp unary_clauses
          (ap (λ (l : List Reading). number_of (get_or l column no_reading)) (get_or-take 12 (row ∷ rows) r [] (omega arith)));
      sized =
          record {
            thirteen = ap suc (length-take-le 12 (row ∷ rows) (omega (arith, sized.thirteen)));
            each = (sized.each.0, all_take OfFive 12 (row ∷ rows) sized.each);
          };
    }

-- A settlement does what its words say.
pub settle-words : (Within : Type 0) (within : Bool) → (within ≡ true) ↔ Within → (forward reverse : Rows) → Sized forward → Sized reverse
    → let c = settled_by within forward reverse in SettleIsRight Within forward reverse c.answer c.energies
unfolding settled_by
settle-words Within within test forward reverse p q =
    record {
      out_of_range_lem = λ out. rw (not_true within (λ h. out (test.0 h))) (refl, refl);
      settles = λ w. rw (test.1 w) (refl, rows_settled forward p, rows_settled reverse q);
    }
