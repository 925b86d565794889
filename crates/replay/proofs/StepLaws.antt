-- What a step comes to, by what stands at its place.
use Rattle.std.specs.Prelude.{ℕ, ◌+◌, ◌≤◌, ◌<◌, ◌≡◌, refl, true, false, List, length, drop, leb, Err, None, Ok, Option, Result, Some}
use Rattle.frame.specs.declared.refusal.Refusal.{Refusal}
use Rattle.frame.specs.declared.refusal.Refusal.TheVariants.{OutOfRange, ShortMemory}
use Rattle.trace.specs.Front.{found_record}
use Rattle.trace.specs.declared.RecordFound.{RecordFound}
use Rattle.std.proofs.Common.{sym, ap, ◌∙◌, arith, le-leb, leb-true, leb-false}
use Rattle.std.proofs.lemmas.Bool.{lt-leb}
use Rattle.laws.specs.Memory.{Outcome, outcome, over}
use Rattle.laws.specs.TestLaws.{pick_cases}
use Rattle.listing.specs.Lines.{lines_of}
use Rattle.trace.specs.Trace.{front_of}
use Rattle.trace.specs.declared.TraceRecord.{TraceRecord}
use Rattle.replay.specs.Replay.{is_within, played, stepped_with, played_step, at_front, stepped}
use Rattle.replay.specs.declared.ReplayState.{ReplayState}
use Rattle.replay.specs.declared.Stepped.{Stepped}
use Rattle.replay.specs.declared.StepAnswer.TheVariants.{Done, Refused, BadRecord, Played}

-- A step: refused with 16; done; refused with 1; refused with a bad record; or a record is played.
pub data Stepping (trace : List ℕ) (at : ℕ) (s : ReplayState) (m : List ℕ) (returned : Stepped) (left : List ℕ) : Type 0 where
  outside : is_within s ≡ false → returned ≡ stepped_with s (Refused OutOfRange) → left ≡ m → Stepping trace at s m returned left
  ends : is_within s ≡ true → front_of (drop at trace) ≡ Ok None → returned ≡ stepped_with s Done → left ≡ m → Stepping trace at s m returned left
  declines : is_within s ≡ true → (front_of (drop at trace) ≡ Ok None → ⊥) → length m < 8192 → returned ≡ stepped_with s (Refused ShortMemory) → left ≡ m →
      Stepping trace at s m returned left
  bad : {n : Refusal} → is_within s ≡ true → front_of (drop at trace) ≡ Err n → 8192 ≤ length m → returned ≡ stepped_with s (BadRecord n at) → left ≡ m →
      Stepping trace at s m returned left
  plays : {r : TraceRecord} {n : ℕ} → is_within s ≡ true → front_of (drop at trace) ≡ found_record r n → 8192 ≤ length m →
      returned ≡ stepped_with (played r s).state (Played (length (lines_of (played r s).replies)) (length (played r s).replies) (at + n)) →
      left ≡ over (lines_of (played r s).replies) m → Stepping trace at s m returned left

-- The three fronts differ.
pub good_no_end : {r : TraceRecord} {n : ℕ} → found_record r n ≡ Ok None → ⊥
good_no_end e = let z : ◌≡◌ {A = ℕ} 0 1 = cc in omega arith

pub bad_no_end : {n : Refusal} → ◌≡◌ {A = Result (Option RecordFound) Refusal} (Err n) (Ok None) → ⊥
bad_no_end e = let z : ◌≡◌ {A = ℕ} 0 1 = cc in omega arith

-- A step of a state within its ranges, by what stands at its place.
pub front-step : {f : Result (Option RecordFound) Refusal} (trace : List ℕ) (at : ℕ) (s : ReplayState) (m : List ℕ) → is_within s ≡ true → front_of (drop at trace) ≡ f →
    stepped trace at s m ≡ at_front f at s m
unfolding stepped
front-step trace at s m within there = rw (within, there)

-- Before the end, with too little memory.
pub short-step : (trace : List ℕ) (at : ℕ) (s : ReplayState) (m : List ℕ) → is_within s ≡ true → (front_of (drop at trace) ≡ Ok None → ⊥) → length m < 8192 →
    stepped trace at s m ≡ outcome (stepped_with s (Refused ShortMemory)) m
short-step trace at s m within before short = go (front_of (drop at trace)) refl
  where
    go : (f : Result (Option RecordFound) Refusal) → front_of (drop at trace) ≡ f → stepped trace at s m ≡ outcome (stepped_with s (Refused ShortMemory)) m
    go (Ok None) there = absurd (before there)
    go (Err n) there = front-step trace at s m within there ∙ rw (lt-leb 8192 (length m) short)
    go (Ok (Some f)) there = front-step trace at s m within there ∙ rw (lt-leb 8192 (length m) short)

-- With memory enough.
pub bad-step : {n : Refusal} (trace : List ℕ) (at : ℕ) (s : ReplayState) (m : List ℕ) → is_within s ≡ true →
    front_of (drop at trace) ≡ Err n → 8192 ≤ length m → stepped trace at s m ≡ outcome (stepped_with s (BadRecord n at)) m
bad-step trace at s m within there room = front-step trace at s m within there ∙ rw (le-leb 8192 (length m) room)

pub good-step : {r : TraceRecord} {n : ℕ} (trace : List ℕ) (at : ℕ) (s : ReplayState) (m : List ℕ) → is_within s ≡ true →
    front_of (drop at trace) ≡ found_record r n → 8192 ≤ length m → stepped trace at s m ≡ played_step (played r s) (at + n) m
good-step trace at s m within there room = front-step trace at s m within there ∙ rw (le-leb 8192 (length m) room)

pub stepping : {trace : List ℕ} {at : ℕ} {s : ReplayState} {m : List ℕ} {returned : Stepped} {left : List ℕ} →
    outcome returned left ≡ stepped trace at s m → Stepping trace at s m returned left
unfolding stepped played_step
stepping {trace} {at} {s} {m} {returned} {left} =
    pick_cases P (is_within s) (λ within. by within (front_of (drop at trace)) refl) (λ out e. outside out (answer e) (memory e))
  where
    P : Outcome Stepped → Type 0
    P o = outcome returned left ≡ o → Stepping trace at s m returned left

    answer : {o : Outcome Stepped} → outcome returned left ≡ o → returned ≡ o.answer
    answer e = ap (λ (o : Outcome Stepped). o.answer) e

    memory : {o : Outcome Stepped} → outcome returned left ≡ o → left ≡ o.memory
    memory e = ap (λ (o : Outcome Stepped). o.memory) e

    by : is_within s ≡ true → (f : Result (Option RecordFound) Refusal) → front_of (drop at trace) ≡ f → P (at_front f at s m)
    by within (Ok None) there = λ e. ends within there (answer e) (memory e)
    by within (Err n) there =
        pick_cases P (leb 8192 (length m)) (λ room e. bad within there (leb-true _ _ room) (answer e) (memory e))
        (λ short e. declines within (λ end. bad_no_end (sym there ∙ end)) (leb-false _ _ short) (answer e) (memory e))
    by within (Ok (Some f)) there =
        pick_cases P (leb 8192 (length m)) (λ room e. plays within there (leb-true _ _ room) (answer e) (memory e))
        (λ short e. declines within (λ end. good_no_end (sym there ∙ end)) (leb-false _ _ short) (answer e) (memory e))
