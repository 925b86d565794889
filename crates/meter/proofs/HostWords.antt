-- Document 01, "Host calls besides frames", in words.
use Rattle.std.specs.Prelude.{ℕ, ◌≡◌, refl, Bool, Err, Ok}
use Rattle.frame.specs.declared.refusal.Refusal.TheVariants.{OutOfRange}
use Rattle.laws.specs.Memory.{LeftAlone}
use Rattle.laws.specs.TestLaws.{not_true}
use Rattle.energy.specs.Energies.{Rows}
use Rattle.meter_counting.proofs.CountingWords.{Sized, PulseIsRight, SettleIsRight}
use Rattle.meter_counting.proofs.CountingWordsLaws.{pulse-words, settle-words}
use Rattle.meter.specs.Host.{key_set, pulsed_by, settled_by}
use Rattle.meter.specs.Meter.{within_ranges}
use Rattle.meter.proofs.Ranges.{InRanges, within-ranges}
use Rattle.meter.specs.declared.KeySet.{KeySet}
use Rattle.meter.specs.declared.Meter.{Meter}

-- The key is so, and nothing else is changed.
pub record KeyIsSet (on : Bool) (m : Meter) (k : KeySet) : Type 0 where
  pub answer : k.answer ≡ Ok tt
  pub key : k.meter.key ≡ on
  pub address : k.meter.address ≡ m.address
  pub passwords : k.meter.passwords ≡ m.passwords
  pub operator : k.meter.operator ≡ m.operator
  pub registers : k.meter.registers ≡ m.registers

-- 16 for a meter outside its ranges, and all as before; else the key is set. A pulse and a settlement count in the readings, and hand the meter
-- back as it was.
pub record HostIsRight (m : Meter) (forward reverse : Rows) : Type 0 where
  pub key_set_lem : (on : Bool) → InRanges m forward reverse → KeyIsSet on m (key_set on m forward reverse)
  pub key-refused : (on : Bool) → (InRanges m forward reverse → ⊥)
      → let k = key_set on m forward reverse in (k.answer ≡ Err OutOfRange) × LeftAlone m k.meter
  pub pulse : (amount direction rate : ℕ)
      → let c = pulsed_by amount direction rate m forward reverse in
      PulseIsRight (InRanges m forward reverse) amount direction rate forward reverse c.answer c.energies × LeftAlone m c.meter
  pub settle : let c = settled_by m forward reverse in
      SettleIsRight (InRanges m forward reverse) forward reverse c.answer c.energies × LeftAlone m c.meter

pub host_is_right : (m : Meter) (forward reverse : Rows) → Sized forward → Sized reverse → HostIsRight m forward reverse
unfolding key_set
host_is_right m forward reverse p q =
    record {
      key_set_lem =
          λ on ranges. rw ((within-ranges m forward reverse).1 ranges)
          (record { answer = refl; key = refl; address = refl; passwords = refl; operator = refl; registers = refl });
      key-refused = λ on out. rw (not_true (within_ranges m forward reverse) (λ h. out ((within-ranges m forward reverse).0 h))) (refl, refl);
      pulse =
          λ amount direction rate. (
            pulse-words (InRanges m forward reverse) (within_ranges m forward reverse) (within-ranges m forward reverse) amount direction rate forward reverse p q,
            refl,
          );
      settle = (settle-words (InRanges m forward reverse) (within_ranges m forward reverse) (within-ranges m forward reverse) forward reverse p q, refl);
    }
