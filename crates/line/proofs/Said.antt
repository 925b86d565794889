-- What the papers say of a receiver's answers, when a call is refused, and that receiver and memory are then as they were.
use Rattle.std.specs.Prelude.{ℕ, ◌≤◌, ◌<◌, List, [], ◌∷◌, ◌⊎◌, length, leb, Err, Result, Ok}
use Rattle.frame.specs.Refusals.{number_of}
use Rattle.frame.specs.declared.refusal.Refusal.{Refusal}
use Rattle.line.specs.declared.Delivered.{Delivered}
use Rattle.std.proofs.Common.{sym, ◌∙◌, inl, inr, arith, leb-true, leb-false}
use Rattle.std.proofs.lemmas.Bool.{false≢true}
use Rattle.laws.specs.Memory.{Outcome}
use Rattle.laws.specs.Said.{Said, values, refusal, Refuses, refuses, answers}
use Rattle.laws.specs.TestLaws.{pick_cases}
use Rattle.line_terms.specs.Line.{Symbol}
use Rattle.line.proofs.RefusalWords.{InRange, in_range_iff}
use Rattle.line.specs.Receiver.{within_range, refused, delivered, called}
use Rattle.line.specs.declared.Received.{Received}
use Rattle.line.specs.declared.Receiver.{Receiver}

-- How many bytes and frames, or a refusal.
abbrev pub receiver_said : Result Delivered Refusal → Said
receiver_said (Err n) = refusal (number_of n)
receiver_said (Ok d) = values (d.bytes ∷ d.frames ∷ [])

-- The kept bytes are not a proper beginning of a frame, or the memory has under 212 bytes.
abbrev pub CannotHear : Receiver → List ℕ → Type 0
CannotHear r m = (InRange r → ⊥) ⊎ (length m < 212)

pub call-refuses : (s : Symbol) (r : Receiver) (m : List ℕ)
    → let o = called s r m in Refuses {S = Receiver × List ℕ} (receiver_said o.answer.answer) (CannotHear r m) (r, m) (o.answer.receiver, o.memory)
unfolding called refused delivered
call-refuses s r m =
    pick_cases P (within_range r)
    (λ within. pick_cases P (leb 212 (length m)) (λ room. answers (λ q. q) (can ((in_range_iff r).0 within) (leb-true _ _ room)))
    (λ short. refuses (inr (leb-false _ _ short)) tt))
    (λ out. refuses (inl (λ w. false≢true (sym out ∙ (in_range_iff r).1 w))) tt)
  where
    P : Outcome Received → Type 0
    P o = Refuses {S = Receiver × List ℕ} (receiver_said o.answer.answer) (CannotHear r m) (r, m) (o.answer.receiver, o.memory)

    can : InRange r → 212 ≤ length m → CannotHear r m → ⊥
    can within room (inl out) = out within
    can within room (inr short) = omega arith
