-- Messages as they are written: none is longer than 256 bytes, and in words what a writing leaves.
use Rattle.std.specs.Prelude.{ℕ, ◌+◌, ◌≤◌, ◌<◌, ◌≡◌, refl, length, take, drop, leb, eqb, None, Option, Some}
use Rattle.std.proofs.Common.{arith, length-append, leb-false}
use mathlib.Core.List.{List}
use Rattle.std.proofs.Math.Seq.{take-append_seam, drop-append_seam}
use Rattle.laws.specs.Memory.{Outcome, over}
use Rattle.laws.specs.TestLaws.{pick_cases}
use Rattle.frame.specs.Refusals.{number_of}
use Rattle.frame.specs.declared.refusal.Refusal.TheVariants as refusals
use Rattle.replay_text.proofs.DecimalLaws.{decimal-most}
use Rattle.replay_text.specs.Texts.{quoted, labelled, writing, meaning, refused_text, counts_text, usage, usage_text, message_text}
use Rattle.replay_text.proofs.TextLaws.{reason_most}
use Rattle.replay_text.specs.declared.Message.{Message}
use Rattle.replay_text.specs.declared.Message.TheVariants.{BadRecord, Replayed, Usage}
use Rattle.replay_text.proofs.TextWords.{Says, message_says}

-- A label and a number of 64 bits has at most twenty bytes more than the label.
labelled-most : (label : List ℕ) (n : ℕ) → n < 18446744073709551616 → length (labelled label n) ≤ length label + 20
unfolding labelled
labelled-most label n small = rw length-append (omega (arith, decimal-most n (omega arith)))

-- No meaning of a refusal is longer than this.
meaning-most : (refusal : ℕ) → length (meaning refusal) ≤ 64
unfolding meaning
meaning-most refusal =
    pick_cases Short (eqb refusal (number_of refusals.BadRecord)) (λ _. omega arith) (λ _. pick_cases Short (eqb refusal (number_of refusals.CutOff)) (λ _. omega arith) (λ _. omega arith))
  where
    Short : List ℕ → Type 0
    Short text = length text ≤ 64

-- The numbers of a message are below 2^64.
abbrev pub Of64Bits : Message → Type 0
Of64Bits (BadRecord refusal place) = (refusal < 18446744073709551616) × (place < 18446744073709551616)
Of64Bits (Replayed records frames replies) =
    (records < 18446744073709551616) × (frames < 18446744073709551616) × (replies < 18446744073709551616)
Of64Bits (Usage reason) = Unit

-- No message is longer than 256 bytes.
pub message_most : (message : Message) → Of64Bits message → length (message_text message) ≤ 256
unfolding message_text refused_text counts_text usage_text usage
message_most (BadRecord refusal place) (r, p) =
    rw (length-append, length-append)
    (omega (arith, labelled-most (quoted "replay_trace: refused with ") refusal r, labelled-most (quoted " at place ") place p, meaning-most refusal))
message_most (Replayed records frames replies) (r, f, p) =
    rw (length-append, length-append, length-append)
    (omega (
      arith,
      labelled-most (quoted "replay_trace: records ") records r,
      labelled-most (quoted ", frames put to the meter ") frames f,
      labelled-most (quoted ", replies ") replies p,
    ))
message_most (Usage reason) _ = rw length-append (omega (arith, reason_most reason))

-- What a writing of a message answers and leaves: as many bytes as it says are the message, and what is beyond them is as it was; where the memory is too
-- short, all of it is as it was, and 256 bytes are never too short.
pub record WrittenWords (message : Message) (m : List ℕ) (answer : Option ℕ) (left : List ℕ) : Type 0 where
  pub written : (n : ℕ) → answer ≡ Some n → (n ≤ length left) × Says message (take n left) × (drop n left ≡ drop n m)
  pub unwritten : answer ≡ None → left ≡ m
  pub enough : Of64Bits message → 256 ≤ length m → (n : ℕ) × (answer ≡ Some n)

pub written-words : (message : Message) (m : List ℕ) → let o = writing (message_text message) m in WrittenWords message m o.answer o.memory
unfolding writing
written-words message m =
    pick_cases P (leb (length (message_text message)) (length m))
    (λ room. record {
      written = λ n e.
          let same : n ≡ length (message_text message) = cc in
          let within : n ≤ length (over (message_text message) m) = rw length-append (omega arith) in
          rw (same, take-append_seam (message_text message) _, drop-append_seam (message_text message) _) (rw same at within, message_says message, refl);
      unwritten = λ e. let z : ◌≡◌ {A = ℕ} 0 1 = cc in absurd (omega arith);
      enough = λ numbers long. (length (message_text message), refl);
    })
    (λ short. record {
      written = λ n e. let z : ◌≡◌ {A = ℕ} 0 1 = cc in absurd (omega arith);
      unwritten = λ e. refl;
      enough = λ numbers long. absurd (omega (arith, leb-false (length (message_text message)) (length m) short, message_most message numbers));
    })
  where
    P : Outcome (Option ℕ) → Type 0
    P o = WrittenWords message m o.answer o.memory
