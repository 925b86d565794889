-- Operations keep a meter within its ranges, so that no calls from a fresh meter lead to 16.
use Rattle.std.specs.Prelude.{ℕ, ◌≡◌, refl, List, [], ◌∷◌, Bool, ◌&&◌, leb, eqb, Err, Ok, Result}
use Rattle.frame.specs.Refusals.{number_of}
use Rattle.frame.specs.declared.refusal.Refusal.{Refusal}
use Rattle.frame.specs.declared.refusal.Refusal.TheVariants.{OutOfRange}
use Rattle.std.proofs.Math.Path.{ap}
use Rattle.std.proofs.Common.{arith}
use Rattle.frame.specs.Frame.{data_of}
use Rattle.item_address.specs.Address.{Good}
use Rattle.item_decimal.specs.Decimal.{is_decimal, first_bad_from, first_bad, all_decimal}
use Rattle.item_decimal.proofs.DecimalLaws.{all-decimal}
use Rattle.laws.specs.TestLaws.{pick_cases}
use Rattle.energy.specs.Energies.{Rows, zero_rows}
use Rattle.meter.specs.Meter.{with_key, fresh_meter, within_ranges}
use Rattle.meter.proofs.Ranges.{InRanges, within-ranges, ranges-again, untouched-ranges}
use Rattle.energy.proofs.RangeLaws.{RowsInRange, zero_rows_in_range}
use Rattle.meter_counting.specs.Rows.{is_rate}
use Rattle.meter_counting.proofs.RowsLaws.{pulsed_in_range, settled_in_range}
use Rattle.meter_counting.specs.Counting as counting
use Rattle.meter.specs.Host.{created, key_set, counted_with, pulsed_by, settled_by}
use Rattle.meter.specs.Answer.{delivered, answered}
use Rattle.meter.proofs.MeterAfterLaws.{ranges-after}
use Rattle.meter.proofs.AnswerLaws.{Answers, refuses, errs, carries, answers}
use Rattle.meter_counting.specs.declared.CountedReadings.{CountedReadings}
use Rattle.meter.specs.declared.Meter.{Meter}

-- A meter with its readings.
pub record State : Type 0 where
  pub meter : Meter
  pub forward : Rows
  pub reverse : Rows

-- A call, with all that it is given besides the meter.
pub data MeterCall : Type 0 where
  key : Bool → MeterCall
  pulse : ℕ → ℕ → ℕ → MeterCall
  settle : MeterCall
  frame : List ℕ → List ℕ → MeterCall

-- What a call leaves, by the definitions that the operations' contracts cite.
unfoldable pub after : MeterCall → State → State
after (key on) s = record { meter = (key_set on s.meter s.forward s.reverse).meter; forward = s.forward; reverse = s.reverse }
after (pulse amount direction rate) s =
    let c = pulsed_by amount direction rate s.meter s.forward s.reverse in
    record { meter = c.meter; forward = c.energies.forward; reverse = c.energies.reverse }
after settle s =
    let c = settled_by s.meter s.forward s.reverse in
    record { meter = c.meter; forward = c.energies.forward; reverse = c.energies.reverse }
after (frame bytes memory) s =
    record { meter = (answered bytes s.meter s.forward s.reverse memory).answer.meter; forward = s.forward; reverse = s.reverse }

unfoldable pub after_all : List MeterCall → State → State
after_all [] s = s
after_all (c ∷ calls) s = after_all calls (after c s)

-- A call is refused with 16.
abbrev pub Refused16 : MeterCall → State → Type 0
Refused16 (key on) s = (key_set on s.meter s.forward s.reverse).answer ≡ Err OutOfRange
Refused16 (pulse amount direction rate) s =
    (pulsed_by amount direction rate s.meter s.forward s.reverse).answer ≡ Err OutOfRange
Refused16 settle s = (settled_by s.meter s.forward s.reverse).answer ≡ Err OutOfRange
Refused16 (frame bytes memory) s =
    (answered bytes s.meter s.forward s.reverse memory).answer.answer ≡ Err OutOfRange

-- A fresh meter with its readings.
abbrev pub fresh_state : List ℕ → State
fresh_state address =
    let c = created address in
    record { meter = c.meter; forward = c.energies.forward; reverse = c.energies.reverse }

-- What each call hands back is within the ranges, and its answer is not 16.
abbrev Kept : Meter → Rows → Rows → Type 0 → Type 0
Kept m forward reverse Refused = InRanges m forward reverse × (Refused → ⊥)

-- The number of a refusal; 0 stands for none.
abbrev host_number : Result Unit Refusal → ℕ
host_number (Ok tt) = 0
host_number (Err n) = number_of n

abbrev frame_number : Result ℕ Refusal → ℕ
frame_number (Ok n) = 0
frame_number (Err n) = number_of n

module _ (m : Meter) (forward reverse : Rows) (h : InRanges m forward reverse) where
  key-kept : (on : Bool) → let k = key_set on m forward reverse in Kept k.meter forward reverse (k.answer ≡ Err OutOfRange)
  unfolding key_set
  key-kept on = rw ((within-ranges m forward reverse).1 h) (ranges-again h (with_key on m) h.address h.registers, λ r. omega (arith, ap host_number r))

  -- Other readings within their range.
  readings-again : {f r : Rows} → RowsInRange f → RowsInRange r → InRanges m f r
  readings-again f r = record { address = h.address; registers = h.registers; forward-readings = f; reverse-readings = r }

  abbrev CountedKept : CountedReadings → Type 0
  CountedKept readings =
      let c = counted_with m readings in Kept c.meter c.energies.forward c.energies.reverse (c.answer ≡ Err OutOfRange)

  pulse-kept : (amount direction rate : ℕ) → CountedKept (counting.pulsed_by amount direction rate (within_ranges m forward reverse) forward reverse)
  unfolding counting.pulsed_by
  pulse-kept amount direction rate =
      rw ((within-ranges m forward reverse).1 h)
      (pick_cases CountedKept (leb direction 1 && is_rate rate)
      (λ _. pick_cases CountedKept (eqb direction 0)
      (λ _. (readings-again (pulsed_in_range forward amount rate h.forward-readings) h.reverse-readings, λ r. omega (arith, ap host_number r)))
      (λ _. (readings-again h.forward-readings (pulsed_in_range reverse amount rate h.reverse-readings), λ r. omega (arith, ap host_number r))))
      (λ _. (h, λ r. omega (arith, ap host_number r))))

  settle-kept : CountedKept (counting.settled_by (within_ranges m forward reverse) forward reverse)
  unfolding counting.settled_by
  settle-kept =
      rw ((within-ranges m forward reverse).1 h)
      (readings-again (settled_in_range forward h.forward-readings) (settled_in_range reverse h.reverse-readings), λ r. omega (arith, ap host_number r))

  frame-kept : (bytes memory : List ℕ) → let a = (answered bytes m forward reverse memory).answer in
      Kept a.meter forward reverse (a.answer ≡ Err OutOfRange)
  unfolding delivered
  frame-kept bytes memory = go (answers bytes m forward reverse memory)
    where
      go : Answers bytes m forward reverse memory → let a = (answered bytes m forward reverse memory).answer in
          Kept a.meter forward reverse (a.answer ≡ Err OutOfRange)
      go (refuses n small e) = rw e (h, λ r. omega (arith, small h, ap frame_number r))
      go (errs command b w loud e) = rw e (untouched-ranges m h, λ r. omega (arith, ap frame_number r))
      go (carries command w all e) = rw e (ranges-after command (data_of bytes) m forward reverse h all, λ r. omega (arith, ap frame_number r))

kept : (c : MeterCall) (s : State) → InRanges s.meter s.forward s.reverse
    → Kept (after c s).meter (after c s).forward (after c s).reverse (Refused16 c s)
unfolding after
kept (key on) s h = key-kept s.meter s.forward s.reverse h on
kept (pulse amount direction rate) s h = pulse-kept s.meter s.forward s.reverse h amount direction rate
kept settle s h = settle-kept s.meter s.forward s.reverse h
kept (frame bytes memory) s h = frame-kept s.meter s.forward s.reverse h bytes memory

-- Each operation keeps a meter within its ranges.
pub keeps-within : (c : MeterCall) (s : State) → InRanges s.meter s.forward s.reverse
    → InRanges (after c s).meter (after c s).forward (after c s).reverse
keeps-within c s h = (kept c s h).0

all-within : (calls : List MeterCall) (s : State) → InRanges s.meter s.forward s.reverse
    → InRanges (after_all calls s).meter (after_all calls s).forward (after_all calls s).reverse
unfolding after_all
all-within [] s h = h
all-within (c ∷ calls) s h = all-within calls (after c s) (keeps-within c s h)

-- A fresh meter is within its ranges.
pub fresh-within : (address : List ℕ) → Good address → InRanges (fresh_meter address) zero_rows zero_rows
unfolding fresh_meter all_decimal first_bad first_bad_from is_decimal
fresh-within address h =
    record {
      address = h;
      registers = all-decimal (fresh_meter address).registers refl;
      forward-readings = zero_rows_in_range;
      reverse-readings = zero_rows_in_range;
    }

-- No calls from a fresh meter lead to 16.
pub never_out_of_range : (address : List ℕ) → Good address → (calls : List MeterCall) (c : MeterCall) → Refused16 c (after_all calls (fresh_state address)) → ⊥
unfolding created
never_out_of_range address good calls c h =
    (kept c (after_all calls (fresh_state address)) (all-within calls (fresh_state address) (fresh-within address good))).1 h
