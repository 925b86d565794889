-- What the papers say of a meter's answer to a frame, when each of a meter's operations is refused, and that meter, readings and memory are then
-- as they were.
use Rattle.std.specs.Prelude.{ℕ, ◌≡◌, refl, List, [], ◌∷◌, Bool, true, false, ◌↔◌, Err, Ok, Result}
use Rattle.frame.specs.Refusals.{number_of}
use Rattle.frame.specs.declared.refusal.Refusal.{Refusal}
use Rattle.frame.specs.declared.refusal.Refusal.TheVariants.{BadArgument}
use Rattle.std.proofs.Common.{sym, ap, subst, ◌∙◌}
use Rattle.std.proofs.lemmas.Bool.{false≢true}
use mathlib.Core.Logic.Iff
use Rattle.laws.specs.Memory.{Outcome}
use Rattle.laws.specs.Said.{Said, values, refusal, IsRefusal, Refuses, refuses, answers}
use Rattle.laws.specs.Test.{pick}
use Rattle.laws.specs.TestLaws.{pick_cases}
use Rattle.item_address.specs.Address.{Good, is_good}
use Rattle.item_address.proofs.AddressLaws.{good, is_good_lem}
use Rattle.energy.specs.Energies.{Rows}
use Rattle.energy.specs.declared.Energies.{Energies}
use Rattle.meter_counting.specs.Counting.{energies_of}
use Rattle.meter_counting.proofs.Said as counting
use Rattle.meter_counting.proofs.Said.{host_said, Countable}
use Rattle.meter.specs.Meter.{fresh_meter, within_ranges}
use Rattle.meter.proofs.Ranges.{InRanges, within-ranges}
use Rattle.meter.specs.Host.{created, key_set, pulsed_by, settled_by}
use Rattle.meter.specs.Answer.{delivered, answered}
use Rattle.meter.proofs.AnswerLaws as laws
use Rattle.meter.proofs.AnswerLaws.{Answers, not-replied}
use Rattle.meter.specs.declared.Answered.{Answered}
use Rattle.meter.specs.declared.KeySet.{KeySet}
use Rattle.meter.specs.declared.Meter.{Meter}

-- The reply's length, or a refusal: 3 and 4 are silence.
abbrev pub frame_said : Result ℕ Refusal → Said
frame_said (Ok n) = values (n ∷ [])
frame_said (Err n) = refusal (number_of n)

-- A meter is refused when it is made exactly where its address is not good; what comes back is then no meter, for every operation refuses it
-- with 16.
pub fresh-refused : (address : List ℕ)
    → let c = created address in
    (IsRefusal (host_said c.answer) ↔ (Good address → ⊥))
    × (IsRefusal (host_said c.answer) → InRanges c.meter c.energies.forward c.energies.reverse → ⊥)
unfolding created fresh_meter
fresh-refused address = (go (is_good address) refl, λ r ranges. (go (is_good address) refl).0 r ranges.address)
  where
    go : (t : Bool) → is_good address ≡ t → IsRefusal (host_said (pick t (Ok tt) (Err BadArgument))) ↔ (Good address → ⊥)
    go true e = (λ r. absurd r, λ bad. bad (good address e))
    go false e = (λ r g. false≢true (sym e ∙ is_good_lem address g), λ bad. tt)

pub key-refuses : (on : Bool) (m : Meter) (forward reverse : Rows)
    → let k = key_set on m forward reverse in Refuses (host_said k.answer) (InRanges m forward reverse → ⊥) m k.meter
unfolding key_set
key-refuses on m forward reverse =
    pick_cases (λ (k : KeySet). Refuses (host_said k.answer) (InRanges m forward reverse → ⊥) m k.meter) (within_ranges m forward reverse)
    (λ within. answers (λ r. r) (λ out. out ((within-ranges m forward reverse).0 within)))
    (λ out. refuses (λ ranges. false≢true (sym out ∙ (within-ranges m forward reverse).1 ranges)) tt)

-- A meter and its readings together.
abbrev pub Whole : Type 0
Whole = Meter × Energies

-- What `meter_counting` is told of the ranges is what they are.
told : {Told Rest Within : Type 0} → Told ↔ Within → (Told × Rest → ⊥) ↔ (Within × Rest → ⊥)
told test = (λ none both. none (test.1 both.0, both.1), λ none both. none (test.0 both.0, both.1))

pub pulse-refuses : (amount direction rate : ℕ) (m : Meter) (forward reverse : Rows)
    → let c = pulsed_by amount direction rate m forward reverse in
    Refuses {S = Whole} (host_said c.answer) (InRanges m forward reverse × Countable direction rate → ⊥) (m, energies_of forward reverse) (c.meter, c.energies)
pulse-refuses amount direction rate m forward reverse =
    let c = counting.pulse-refuses amount direction rate (within_ranges m forward reverse) forward reverse in
    record { exactly = Iff.trans c.exactly (told (within-ranges m forward reverse)); as_before = λ r. ap (λ (e : Energies). (m, e)) (c.as_before r) }

pub settle-refuses : (m : Meter) (forward reverse : Rows)
    → let c = settled_by m forward reverse in
    Refuses {S = Whole} (host_said c.answer) (InRanges m forward reverse → ⊥) (m, energies_of forward reverse) (c.meter, c.energies)
settle-refuses m forward reverse =
    let c = counting.settle-refuses (within_ranges m forward reverse) forward reverse in
    let test = within-ranges m forward reverse in
    record {
      exactly = (λ r ranges. c.exactly.0 r (test.1 ranges), λ out. c.exactly.1 (λ told. out (test.0 told)));
      as_before = λ r. ap (λ (e : Energies). (m, e)) (c.as_before r);
    }

-- A frame is refused where the answer says so; `FrameIsRight` says where that is.
pub frame-refuses : (bytes : List ℕ) (m : Meter) (forward reverse : Rows) (memory : List ℕ)
    → let o = answered bytes m forward reverse memory in
    Refuses {S = Meter × List ℕ} (frame_said o.answer.answer) ((n : Refusal) × (o.answer.answer ≡ Err n)) (m, memory) (o.answer.meter, o.memory)
unfolding delivered
frame-refuses bytes m forward reverse memory = go (laws.answers bytes m forward reverse memory)
  where
    P : Outcome Answered → Type 0
    P o = Refuses {S = Meter × List ℕ} (frame_said o.answer.answer) ((n : Refusal) × (o.answer.answer ≡ Err n)) (m, memory) (o.answer.meter, o.memory)

    go : Answers bytes m forward reverse memory → P (answered bytes m forward reverse memory)
    go (laws.refuses k small e) = subst P (sym e) (refuses (k, refl) tt)
    go (laws.errs command b w loud e) = subst P (sym e) (answers (λ r. r) (λ h. not-replied (sym h.1)))
    go (laws.carries command w all e) = subst P (sym e) (answers (λ r. r) (λ h. not-replied (sym h.1)))
