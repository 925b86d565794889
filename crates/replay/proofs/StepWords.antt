-- Document 02's words on a step: exactly when it is refused, and with which number, when it is done, and when it plays a record. What stands at a place
-- of a trace is in words in `trace` (`front-words`).
use Rattle.trace.proofs.FoundLaws.{found_same}
use Rattle.frame.specs.declared.refusal.Refusal.{Refusal}
use Rattle.std.specs.Prelude.{ℕ, ◌+◌, ◌≤◌, ◌<◌, ◌≡◌, refl, Bool, true, false, ◌&&◌, ◌↔◌, ◌⊎◌, List, [], length, drop, Err, None, Ok}
use Rattle.frame.specs.declared.refusal.Refusal.TheVariants.{OutOfRange, ShortMemory}
use Rattle.trace.specs.Front.{found_record}
use Rattle.std.proofs.Common.{arith, sym, ap, subst, ◌∙◌, inl, inr, length-drop, drop_of_length-le}
use Rattle.std.proofs.Math.Decide.{dec_lt}
use Rattle.std.proofs.lemmas.Bool.{false≢true}
use Rattle.laws.specs.Memory.{outcome, over}
use Rattle.listing.specs.Lines.{lines_of}
use Rattle.line.specs.Receiver.{within_range}
use Rattle.line.proofs.RefusalWords as line
use Rattle.meter.specs.Meter.{within_ranges}
use Rattle.meter.proofs.Ranges as meter
use Rattle.trace.specs.Trace.{front_of}
use Rattle.trace.proofs.FrontCases.{FrontCase, ended, case_front, front_case}
use Rattle.trace.specs.declared.TraceRecord.{TraceRecord}
use Rattle.replay.specs.Replay.{is_within, stepped, played, stepped_with, Unplayed}
use Rattle.replay.proofs.StepLaws.{Stepping, outside, ends, declines, bad, plays, stepping, good_no_end, bad_no_end}
use Rattle.replay.specs.declared.ReplayState.{ReplayState}
use Rattle.replay.specs.declared.Stepped.{Stepped}
use Rattle.replay.specs.declared.StepAnswer.{StepAnswer}
use Rattle.replay.specs.declared.StepAnswer.TheVariants.{Done, Refused, BadRecord, Played}

-- The receiver's kept bytes are a proper beginning of a frame, and the meter with its readings is within its ranges.
pub record InRanges (s : ReplayState) : Type 0 where
  pub receiver : line.InRange s.receiver
  pub meter : meter.InRanges s.meter s.energies.forward s.energies.reverse

-- The test of the ranges holds exactly there.
pub within-iff : (s : ReplayState) → (is_within s ≡ true) ↔ InRanges s
unfolding is_within
within-iff s = (
  λ e. both (within_range s.receiver) (within_ranges s.meter s.energies.forward s.energies.reverse) refl refl e,
  λ w. rw ((line.in_range_iff s.receiver).1 w.receiver, (meter.within-ranges s.meter s.energies.forward s.energies.reverse).1 w.meter),
)
  where
    both : (a b : Bool) → within_range s.receiver ≡ a → within_ranges s.meter s.energies.forward s.energies.reverse ≡ b → (a && b) ≡ true →
        InRanges s
    both true true p q e =
        record { receiver = (line.in_range_iff s.receiver).0 p; meter = (meter.within-ranges s.meter s.energies.forward s.energies.reverse).0 q }
    both true false p q e = absurd (false≢true e)
    both false b p q e = absurd (false≢true e)

-- Nothing stands at a place exactly where it is at or past the end.
pub ended-iff : (trace : List ℕ) (at : ℕ) → (front_of (drop at trace) ≡ Ok None) ↔ (length trace ≤ at)
ended-iff trace at =
    (λ e. omega (arith, length-drop at trace, ap length (empty (front_case e))), λ past. ap front_of (drop_of_length-le trace past) ∙ case_front ended)
  where
    empty : {rest : List ℕ} → FrontCase rest (Ok None) → rest ≡ []
    empty ended = refl

-- What a step says and leaves, by its trace, its place, its state and its memory.
pub record StepWords (trace : List ℕ) (at : ℕ) (s : ReplayState) (m : List ℕ) (returned : Stepped) (left : List ℕ) : Type 0 where
  -- 16 before anything else
  pub sixteen : (returned.answer ≡ Refused OutOfRange) ↔ (InRanges s → ⊥)
  -- at or past the end done, short memory or not
  pub done : (returned.answer ≡ Done) ↔ (InRanges s × (length trace ≤ at))
  -- then 1 under 8,192 bytes
  pub one : (returned.answer ≡ Refused ShortMemory) ↔ (InRanges s × (at < length trace) × (length m < 8192))
  pub others : (n : Refusal) → returned.answer ≡ Refused n → (n ≡ OutOfRange) ⊎ (n ≡ ShortMemory)
  -- then 9 or 10, by what stands there, with the place where the record begins
  pub bad-record : (n : Refusal) (place : ℕ) →
      (returned.answer ≡ BadRecord n place) ↔ (InRanges s × (8192 ≤ length m) × (place ≡ at) × (front_of (drop at trace) ≡ Err n))
  -- an answer that says that no record was played has changed nothing
  pub unplayed : Unplayed returned.answer → (returned.state ≡ s) × (left ≡ m)
  -- else a record is played: so many bytes and lines are its replies', the next place is behind it, and the memory beyond the lines stays as it was
  pub plays-one : (r : TraceRecord) (n : ℕ) → InRanges s → 8192 ≤ length m → front_of (drop at trace) ≡ found_record r n →
      (returned ≡ stepped_with (played r s).state (Played (length (lines_of (played r s).replies)) (length (played r s).replies) (at + n)))
      × (left ≡ over (lines_of (played r s).replies) m)

-- Answers that differ.
module _ {A : Type 0} {answer : StepAnswer} where
  no_done : {n : Refusal} → answer ≡ Done → answer ≡ Refused n → A
  no_done a b = let z : ◌≡◌ {A = ℕ} 0 1 = cc in absurd (omega arith)

  no_bad : {place : ℕ} {n : Refusal} {k : Refusal} → answer ≡ BadRecord k place → answer ≡ Refused n → A
  no_bad a b = let z : ◌≡◌ {A = ℕ} 0 1 = cc in absurd (omega arith)

  no_bad_done : {place : ℕ} {k : Refusal} → answer ≡ BadRecord k place → answer ≡ Done → A
  no_bad_done a b = let z : ◌≡◌ {A = ℕ} 0 1 = cc in absurd (omega arith)

  no_played : {text lines next : ℕ} {n : Refusal} → answer ≡ Played text lines next → answer ≡ Refused n → A
  no_played a b = let z : ◌≡◌ {A = ℕ} 0 1 = cc in absurd (omega arith)

  no_played_done : {text lines next : ℕ} → answer ≡ Played text lines next → answer ≡ Done → A
  no_played_done a b = let z : ◌≡◌ {A = ℕ} 0 1 = cc in absurd (omega arith)

  no_played_bad : {text lines next place : ℕ} {k : Refusal} → answer ≡ Played text lines next → answer ≡ BadRecord k place → A
  no_played_bad a b = let z : ◌≡◌ {A = ℕ} 0 1 = cc in absurd (omega arith)

same_number : {answer : StepAnswer} {n : Refusal} {k : Refusal} → answer ≡ Refused n → answer ≡ Refused k → n ≡ k
same_number a b = cc

short-apart : {A : Type 0} → ShortMemory ≡ OutOfRange → A
short-apart e = let z : ◌≡◌ {A = ℕ} 0 1 = cc in absurd (omega arith)

-- Every step, in any state and at any place.
pub step_words : (trace : List ℕ) (at : ℕ) (s : ReplayState) (m : List ℕ) (returned : Stepped) (left : List ℕ) →
    outcome returned left ≡ stepped trace at s m → StepWords trace at s m returned left
step_words trace at s m returned left h = go (stepping h)
  where
    answers : {answer : StepAnswer} {after : ReplayState} → returned ≡ stepped_with after answer → returned.answer ≡ answer
    answers a = ap (λ (r : Stepped). r.answer) a

    ranges : is_within s ≡ true → InRanges s
    ranges w = (within-iff s).0 w

    out_of : {A : Type 0} → is_within s ≡ false → InRanges s → A
    out_of out w = absurd (false≢true (sym out ∙ (within-iff s).1 w))

    go : Stepping trace at s m returned left → StepWords trace at s m returned left
    go (outside out a l) =
        record {
          sixteen = (λ _ w. out_of out w, λ _. answers a);
          done = (λ d. no_done d (answers a), λ (w, past). out_of out w);
          one = (λ r. short-apart (sym (same_number (answers a) r)), λ (w, before, short). out_of out w);
          others = λ n r. inl (same_number r (answers a));
          bad-record = λ n place. (λ b. no_bad b (answers a), λ (w, room, here, there). out_of out w);
          unplayed = λ u. (ap (λ (r : Stepped). r.state) a, l);
          plays-one = λ r n w room there. out_of out w;
        }
    go (ends w e a l) =
        record {
          sixteen = (λ r. no_done (answers a) r, λ none. absurd (none (ranges w)));
          done = (λ _. (ranges w, (ended-iff trace at).0 e), λ _. answers a);
          one = (λ r. no_done (answers a) r, λ (v, before, short). absurd (omega (arith, (ended-iff trace at).0 e)));
          others = λ n r. no_done (answers a) r;
          bad-record = λ n place. (λ b. no_bad_done b (answers a), λ (v, room, here, there). absurd (bad_no_end (sym there ∙ e)));
          unplayed = λ u. (ap (λ (r : Stepped). r.state) a, l);
          plays-one = λ r n v room there. absurd (good_no_end (sym there ∙ e));
        }
    go (declines w e short a l) =
        record {
          sixteen = (λ r. short-apart (same_number (answers a) r), λ none. absurd (none (ranges w)));
          done = (λ d. no_done d (answers a), λ (v, past). absurd (e ((ended-iff trace at).1 past)));
          one = (λ _. (ranges w, before, short), λ _. answers a);
          others = λ n r. inr (same_number r (answers a));
          bad-record = λ n place. (λ b. no_bad b (answers a), λ (v, room, here, there). absurd (omega arith));
          unplayed = λ u. (ap (λ (r : Stepped). r.state) a, l);
          plays-one = λ r n v room there. absurd (omega arith);
        }
      where
        before : at < length trace
        before = elim (dec_lt at (length trace)) [ yes l ↦ l | no l ↦ absurd (e ((ended-iff trace at).1 (omega arith))) ]
    go (bad {n = k} w e room a l) =
        record {
          sixteen = (λ r. no_bad (answers a) r, λ none. absurd (none (ranges w)));
          done = (λ d. no_bad_done (answers a) d, λ (v, past). absurd (bad_no_end (sym e ∙ (ended-iff trace at).1 past)));
          one = (λ r. no_bad (answers a) r, λ (v, before, short). absurd (omega arith));
          others = λ n r. no_bad (answers a) r;
          bad-record = λ n place. (
            λ b. (ranges w, room, cc (answers a), cc (answers a, e)),
            λ (v, roomy, here, there). let same : k ≡ n = cc (e, there) in rw (here, ← same) (answers a),
          );
          unplayed = λ u. (ap (λ (r : Stepped). r.state) a, l);
          plays-one = λ r n v roomy there. let z : ◌≡◌ {A = ℕ} 0 1 = cc (e, there) in absurd (omega arith);
        }
    go (plays {r = r₁} {n = n₁} w e room a l) =
        record {
          sixteen = (λ r. no_played (answers a) r, λ none. absurd (none (ranges w)));
          done = (λ d. no_played_done (answers a) d, λ (v, past). absurd (good_no_end (sym e ∙ (ended-iff trace at).1 past)));
          one = (λ r. no_played (answers a) r, λ (v, before, short). absurd (omega arith));
          others = λ n r. no_played (answers a) r;
          bad-record = λ n place. (
            λ b. no_played_bad (answers a) b,
            λ (v, roomy, here, there). let z : ◌≡◌ {A = ℕ} 0 1 = cc (e, there) in absurd (omega arith),
          );
          unplayed = λ u. absurd (subst (λ (t : Stepped). Unplayed t.answer) a u);
          plays-one = λ r n v roomy there. let found = found_same (sym e ∙ there) in let same : r₁ ≡ r = found.0 in let size : n₁ ≡ n = found.1 in rw (← same, ← size) (a, l);
        }
