-- Document 02's words on the records of a trace: exactly when the trace has ended, when it is refused with 9, when with 10, and when a record
-- stands at its front, and which.
use Rattle.frame.specs.declared.refusal.Refusal.{Refusal}
use Rattle.std.specs.Prelude.{ℕ, ◌+◌, ◌*◌, ◌≡◌, refl, ◌↔◌, ◌⊎◌, List, [], ◌∷◌, ◌++◌, length, drop, Err, None, Ok}
use Rattle.trace.specs.Front.{found_record}
use Rattle.frame.specs.declared.refusal.Refusal.TheVariants as refusal
use Rattle.std.proofs.Common.{sym, ap, ◌∙◌, inl, inr, take-append-drop}
use Rattle.laws.specs.Memory.{Bytes}
use Rattle.trace.specs.Trace.{front_of}
use Rattle.trace.specs.Records.{FieldsRight, record_bytes}
use Rattle.trace.proofs.FrontCases.{UnknownKind, CutOff, BadField, FrontCase, ended, no_kind, cut_off_lem, bad-field, case_front, front_case}
use Rattle.trace.proofs.TraceLaws.{amount-bytes, GoodFront, good-bytes, front-written}
use Rattle.trace.specs.declared.TraceRecord.{TraceRecord}
use Rattle.trace.specs.declared.TraceRecord.TheVariants.{Pulse}

-- "03: a pulse, as direction, rate, and four amount bytes low first."
pub amount-low-first : (direction rate a0 a1 a2 a3 : ℕ) → Bytes (a0 ∷ a1 ∷ a2 ∷ a3 ∷ [])
    → record_bytes (Pulse direction rate (0x1000000 * a3 + 0x10000 * a2 + 0x100 * a1 + a0)) ≡ 0x03 ∷ direction ∷ rate ∷ a0 ∷ a1 ∷ a2 ∷ a3 ∷ []
unfolding record_bytes
amount-low-first direction rate a0 a1 a2 a3 bytes = rw (amount-bytes a0 a1 a2 a3 bytes)

-- The front of the rest of a trace: the end where nothing is left; 9 for an unknown kind, and for a field out of its range in a whole record;
-- 10 for a trace ending inside the record; no other refusal; a record and its length where it stands there, its fields within their ranges.
pub record FrontWords (rest : List ℕ) : Type 0 where
  pub ended : (front_of rest ≡ Ok None) ↔ (rest ≡ [])
  pub bad : (front_of rest ≡ Err refusal.BadRecord) ↔ (UnknownKind rest ⊎ BadField rest)
  pub cut : (front_of rest ≡ Err refusal.CutOff) ↔ CutOff rest
  pub others : (n : Refusal) → front_of rest ≡ Err n → (n ≡ refusal.BadRecord) ⊎ (n ≡ refusal.CutOff)
  pub good : (r : TraceRecord) (n : ℕ)
      → (front_of rest ≡ found_record r n) ↔ (FieldsRight r × (n ≡ length (record_bytes r)) × ((more : List ℕ) × (rest ≡ record_bytes r ++ more)))

-- The front is these words' for every trace of bytes.
pub front-words : (rest : List ℕ) → Bytes rest → FrontWords rest
front-words rest bytes =
    record {
      ended = (λ e. empty (front_case e), λ e. rw e (case_front ended));
      bad = (λ e. refused (front_case e), λ u. bad-front u);
      cut = (λ e. cut-there (front_case e), λ c. case_front (cut_off_lem c));
      others = λ n e. number (front_case e);
      good = λ r n. (there r n, λ (right, size, behind). rw (behind.1, size) (front-written r behind.0 right));
    }
  where
    empty : {rest : List ℕ} → FrontCase rest (Ok None) → rest ≡ []
    empty ended = refl

    refused : {rest : List ℕ} → FrontCase rest (Err refusal.BadRecord) → UnknownKind rest ⊎ BadField rest
    refused (no_kind u) = inl u
    refused (bad-field b) = inr b

    bad-front : UnknownKind rest ⊎ BadField rest → front_of rest ≡ Err refusal.BadRecord
    bad-front (inl u) = case_front (no_kind u)
    bad-front (inr b) = case_front (bad-field b)

    number : {rest : List ℕ} {n : Refusal} → FrontCase rest (Err n) → (n ≡ refusal.BadRecord) ⊎ (n ≡ refusal.CutOff)
    number (no_kind u) = inl refl
    number (cut_off_lem c) = inr refl
    number (bad-field b) = inl refl

    cut-there : {rest : List ℕ} → FrontCase rest (Err refusal.CutOff) → CutOff rest
    cut-there (cut_off_lem c) = c

    there : (r : TraceRecord) (n : ℕ) → front_of rest ≡ found_record r n
        → FieldsRight r × (n ≡ length (record_bytes r)) × ((more : List ℕ) × (rest ≡ record_bytes r ++ more))
    there r n good =
        let front : GoodFront rest r n = good-bytes rest bytes good in
        (front.fields, front.size, (drop n rest, sym (take-append-drop n rest) ∙ ap (λ (first : List ℕ). first ++ drop n rest) front.bytes))
