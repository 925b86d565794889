-- What the papers say of the front of the rest of a trace, and where it is refused: 9 and 10 of document 02, W1.
use Rattle.std.specs.Prelude.{ℕ, ◌≡◌, refl, ◌⊎◌, List, [], ◌∷◌, Err, None, Ok, Option, Result, Some}
use Rattle.frame.specs.Refusals.{number_of}
use Rattle.frame.specs.declared.refusal.Refusal.{Refusal}
use Rattle.frame.specs.declared.refusal.Refusal.TheVariants as refusals
use Rattle.trace.specs.Front.{found_record}
use Rattle.trace.specs.declared.RecordFound.{RecordFound}
use Rattle.std.proofs.Common.{sym, ◌∙◌, inl, inr, arith}
use Rattle.laws.specs.Said.{Said, values, refusal, Refuses, refuses, answers}
use Rattle.trace.specs.Trace.{front_of}
use Rattle.trace.specs.Records.{record_bytes}
use Rattle.trace.proofs.FrontCases.{UnknownKind, CutOff, BadField, FrontCase, no_kind, cut_off_lem, bad-field, case_front, front_case}
use Rattle.trace.specs.declared.TraceRecord.{TraceRecord}

-- The end is no refusal; a good record has a length, and its bytes.
abbrev pub front_said : Result (Option RecordFound) Refusal → Said
front_said (Ok None) = values []
front_said (Err n) = refusal (number_of n)
front_said (Ok (Some f)) = values (f.length ∷ record_bytes f.found)

-- It begins with an unknown kind, or the trace ends inside its first record, or that has a field out of its range.
abbrev pub NoGoodRecord : List ℕ → Type 0
NoGoodRecord rest = UnknownKind rest ⊎ (CutOff rest ⊎ BadField rest)

-- Exactly there it is refused; a trace is only read.
pub front-refuses : (rest : List ℕ) → Refuses (front_said (front_of rest)) (NoGoodRecord rest) rest rest
front-refuses rest = by (front_of rest) refl
  where
    number : NoGoodRecord rest → (n : Refusal) × (front_of rest ≡ Err n)
    number (inl u) = (refusals.BadRecord, case_front (no_kind u))
    number (inr (inl c)) = (refusals.CutOff, case_front (cut_off_lem c))
    number (inr (inr b)) = (refusals.BadRecord, case_front (bad-field b))

    why : {x : List ℕ} {n : Refusal} → FrontCase x (Err n) → NoGoodRecord x
    why (no_kind u) = inl u
    why (cut_off_lem c) = inr (inl c)
    why (bad-field b) = inr (inr b)

    not-ended : {n : Refusal} → ◌≡◌ {A = Result (Option RecordFound) Refusal} (Ok None) (Err n) → ⊥
    not-ended e = let z : ◌≡◌ {A = ℕ} 0 1 = cc in omega arith

    not_good : {r : TraceRecord} {k : ℕ} {n : Refusal} → found_record r k ≡ Err n → ⊥
    not_good e = let z : ◌≡◌ {A = ℕ} 0 1 = cc in omega arith

    by : (f : Result (Option RecordFound) Refusal) → front_of rest ≡ f → Refuses (front_said f) (NoGoodRecord rest) rest rest
    by (Ok None) e = answers (λ r. r) (λ w. not-ended (sym e ∙ (number w).1))
    by (Err n) e = refuses (why (front_case e)) tt
    by (Ok (Some f)) e = answers (λ r. r) (λ w. not_good (sym e ∙ (number w).1))
