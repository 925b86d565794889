-- What the papers say of the answers of the replay, when it refuses, and that state and memory are then as they were; and where the host's call of a
-- record calls nothing.
use Rattle.std.specs.Prelude.{ℕ, ◌<◌, ◌≡◌, refl, ◌↔◌, ◌⊎◌, List, [], ◌∷◌, length, drop, None, Ok}
use Rattle.frame.specs.Refusals.{number_of}
use Rattle.std.proofs.Common.{arith, sym, ap, ◌∙◌, inl, inr}
use Rattle.std.proofs.lemmas.Bool.{false≢true}
use Rattle.std.proofs.Math.Decide.{dec_lt}
use Rattle.laws.specs.Said.{Said, values, refusal, refusal_at, IsRefusal, Refuses, refuses, answers}
use Rattle.item_address.specs.Address.{Good}
use Rattle.meter.proofs.Ranges as meter
use Rattle.meter.proofs.Said.{Whole, fresh-refused, key-refuses, pulse-refuses, settle-refuses}
use Rattle.meter.specs.declared.Meter.{Meter}
use Rattle.meter_counting.proofs.Said.{host_said, Countable}
use Rattle.trace.specs.Trace.{front_of}
use Rattle.trace.proofs.Said.{NoGoodRecord, front-refuses}
use Rattle.trace.specs.declared.TraceRecord.{TraceRecord}
use Rattle.trace.specs.declared.TraceRecord.TheVariants.{Byte, Silence, Pulse, Key, Settle}
use Rattle.replay.specs.Replay.{state_of, started, host_call, stepped, stepped_with}
use Rattle.replay.proofs.StepLaws.{Stepping, outside, ends, declines, bad, plays, stepping, bad_no_end}
use Rattle.replay.proofs.StepWords.{InRanges, within-iff, ended-iff}
use Rattle.replay.specs.declared.ReplayState.{ReplayState}
use Rattle.replay.specs.declared.Stepped.{Stepped}
use Rattle.replay.specs.declared.StepAnswer.{StepAnswer}
use Rattle.replay.specs.declared.StepAnswer.TheVariants.{Done, Refused, BadRecord, Played}

-- Done says nothing more; a refusal has its number, and for a record its place; a record played says how many bytes of text, how many lines, and the
-- next place.
abbrev pub step_said : StepAnswer → Said
step_said Done = values []
step_said (Refused n) = refusal (number_of n)
step_said (BadRecord n place) = refusal_at (number_of n) place
step_said (Played text lines next) = values (text ∷ lines ∷ next ∷ [])

-- A replay is refused when it is started exactly where the address is not good; what comes back is then out of its ranges.
pub start-refused : (address : List ℕ)
    → let c = started address in (IsRefusal (host_said c.answer) ↔ (Good address → ⊥)) × (IsRefusal (host_said c.answer) → InRanges c.state → ⊥)
unfolding started
start-refused address = let c = fresh-refused address in (c.0, λ r ranges. c.1 r ranges.meter)

-- The state is out of its ranges; or the place is before the end, and the memory has under 8,192 bytes or no good record stands there.
abbrev pub CannotStep : List ℕ → ℕ → ReplayState → List ℕ → Type 0
CannotStep trace at s m = (InRanges s → ⊥) ⊎ ((at < length trace) × ((length m < 8192) ⊎ NoGoodRecord (drop at trace)))

-- Exactly there a step is refused, and then nothing changed.
pub step-refuses : (trace : List ℕ) (at : ℕ) (s : ReplayState) (m : List ℕ)
    → let o = stepped trace at s m in
    Refuses {S = ReplayState × List ℕ} (step_said o.answer.answer) (CannotStep trace at s m) (s, m) (o.answer.state, o.memory)
step-refuses trace at s m = go (stepping refl)
  where
    P : Stepped → List ℕ → Type 0
    P returned left = Refuses {S = ReplayState × List ℕ} (step_said returned.answer) (CannotStep trace at s m) (s, m) (returned.state, left)

    is : {returned : Stepped} {left : List ℕ} {answer : StepAnswer} {memory : List ℕ} {after : ReplayState} → returned ≡ stepped_with after answer →
        left ≡ memory → P (stepped_with after answer) memory → P returned left
    is a l p = rw (a, l) p

    before : (front_of (drop at trace) ≡ Ok None → ⊥) → at < length trace
    before e = elim (dec_lt at (length trace)) [ yes l ↦ l | no l ↦ absurd (e ((ended-iff trace at).1 (omega arith))) ]

    go : Stepping trace at s m (stepped trace at s m).answer (stepped trace at s m).memory →
        P (stepped trace at s m).answer (stepped trace at s m).memory
    go (outside out a l) = is a l (refuses (inl (λ w. false≢true (sym out ∙ (within-iff s).1 w))) tt)
    go (ends w e a l) = is a l (answers (λ r. r) none)
      where
        none : CannotStep trace at s m → ⊥
        none (inl out) = out ((within-iff s).0 w)
        none (inr (early, _)) = omega (arith, (ended-iff trace at).0 e)
    go (declines w e short a l) = is a l (refuses (inr (before e, inl short)) tt)
    go (bad w e room a l) = is a l (refuses (inr (before (λ end. bad_no_end (sym e ∙ end)), inr ((front-refuses (drop at trace)).exactly.0 (rw e tt)))) tt)
    go (plays w e room a l) = is a l (answers (λ r. r) none)
      where
        none : CannotStep trace at s m → ⊥
        none (inl out) = out ((within-iff s).0 w)
        none (inr (early, inl short)) = omega arith
        none (inr (early, inr no-good)) = rw e at ((front-refuses (drop at trace)).exactly.1 no-good)

-- The meter and its readings are within their ranges.
abbrev MeterWithin : ReplayState → Type 0
MeterWithin s = meter.InRanges s.meter s.energies.forward s.energies.reverse

-- The host's call of a record calls nothing: a byte and a silence are no call, and a call is refused where the meter or its readings are out of their
-- ranges, a pulse also by its direction or its rate.
abbrev pub CallsNothing : TraceRecord → ReplayState → Type 0
CallsNothing (Byte b) s = Unit
CallsNothing Silence s = Unit
CallsNothing (Pulse direction rate amount) s = MeterWithin s × Countable direction rate → ⊥
CallsNothing (Key on) s = MeterWithin s → ⊥
CallsNothing Settle s = MeterWithin s → ⊥

-- There the state is as it was.
pub host_leaves : (r : TraceRecord) (s : ReplayState) → CallsNothing r s → host_call r s ≡ s
unfolding host_call
host_leaves (Byte b) s none = refl
host_leaves Silence s none = refl
host_leaves (Pulse direction rate amount) s none =
    let c = pulse-refuses amount direction rate s.meter s.energies.forward s.energies.reverse in
    ap (λ (w : Whole). state_of s.receiver w.0 w.1) (c.as_before (c.exactly.1 none))
host_leaves (Key on) s none =
    let c = key-refuses on s.meter s.energies.forward s.energies.reverse in
    ap (λ (m : Meter). state_of s.receiver m s.energies) (c.as_before (c.exactly.1 none))
host_leaves Settle s none =
    let c = settle-refuses s.meter s.energies.forward s.energies.reverse in
    ap (λ (w : Whole). state_of s.receiver w.0 w.1) (c.as_before (c.exactly.1 none))
