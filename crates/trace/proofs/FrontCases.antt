-- The front of the rest of a trace case by case, in document 02's words and literals: each case has its answer, and there is no other case.
use Rattle.std.specs.Prelude.{ℕ, zero, suc, ◌+◌, ◌*◌, ◌≤◌, ◌<◌, ◌≡◌, refl, ◌⊎◌, List, [], ◌∷◌, true, false, leb, length, Err, None, Ok, Option, Result}
use Rattle.frame.specs.declared.refusal.Refusal.{Refusal}
use Rattle.frame.specs.declared.refusal.Refusal.TheVariants as refusal
use Rattle.trace.specs.Front.{found_record}
use Rattle.trace.specs.declared.RecordFound.{RecordFound}
use Rattle.std.proofs.Common.{sym, subst, ◌∙◌, inl, inr, arith, le-leb, ne_eqb}
use Rattle.std.proofs.Math.Decide.{dec_le}
use Rattle.std.proofs.lemmas.Bool.{lt-leb}
use Rattle.laws.specs.TestLaws.{pick_same}
use Rattle.item_identifier.specs.Identifier.{identifier_of}
use Rattle.trace.specs.Trace.{record_length, pulse_of, key_of, whole_record, front_of}
use Rattle.trace.specs.declared.TraceRecord.TheVariants.{Byte, Silence, Pulse, Key, Settle}

-- It begins with a byte that is no kind.
pub data UnknownKind : List ℕ → Type 0 where
  unknown : (kind : ℕ) (body : List ℕ) → (kind ≡ 0x01 → ⊥) → (kind ≡ 0x02 → ⊥) → (kind ≡ 0x03 → ⊥) → (kind ≡ 0x04 → ⊥) → (kind ≡ 0x05 → ⊥)
      → UnknownKind (kind ∷ body)

-- The trace ends inside its first record: a byte or a key has two bytes, a pulse has seven.
pub data CutOff : List ℕ → Type 0 where
  cut-byte : (body : List ℕ) → length (0x01 ∷ body) < 2 → CutOff (0x01 ∷ body)
  cut-pulse : (body : List ℕ) → length (0x03 ∷ body) < 7 → CutOff (0x03 ∷ body)
  cut-key : (body : List ℕ) → length (0x04 ∷ body) < 2 → CutOff (0x04 ∷ body)

-- Its first record is whole and has a field out of its range: a direction not 0 or 1, a rate not 1 to 4 or a key byte above 1.
pub data BadField : List ℕ → Type 0 where
  bad_direction : (direction : ℕ) (body : List ℕ) → 7 ≤ length (0x03 ∷ direction ∷ body) → 1 < direction → BadField (0x03 ∷ direction ∷ body)
  bad-rate : (direction rate : ℕ) (body : List ℕ) → 7 ≤ length (0x03 ∷ direction ∷ rate ∷ body) → (rate < 1) ⊎ (4 < rate)
      → BadField (0x03 ∷ direction ∷ rate ∷ body)
  bad-key : (on : ℕ) (more : List ℕ) → 1 < on → BadField (0x04 ∷ on ∷ more)

-- What stands at the front, with its answer.
pub data FrontCase : List ℕ → Result (Option RecordFound) Refusal → Type 0 where
  ended : FrontCase [] (Ok None)
  no_kind : {rest : List ℕ} → UnknownKind rest → FrontCase rest (Err refusal.BadRecord)
  cut_off_lem : {rest : List ℕ} → CutOff rest → FrontCase rest (Err refusal.CutOff)
  bad-field : {rest : List ℕ} → BadField rest → FrontCase rest (Err refusal.BadRecord)
  byte : {b : ℕ} {more : List ℕ} → FrontCase (0x01 ∷ b ∷ more) (found_record (Byte b) 2)
  silence : {more : List ℕ} → FrontCase (0x02 ∷ more) (found_record Silence 1)
  pulse : {direction rate a0 a1 a2 a3 : ℕ} {more : List ℕ} → direction ≤ 1 → 1 ≤ rate → rate ≤ 4
      → FrontCase (0x03 ∷ direction ∷ rate ∷ a0 ∷ a1 ∷ a2 ∷ a3 ∷ more) (found_record (Pulse direction rate (0x1000000 * a3 + 0x10000 * a2 + 0x100 * a1 + a0)) 7)
  key_on_lem : {more : List ℕ} → FrontCase (0x04 ∷ 1 ∷ more) (found_record (Key true) 2)
  key_off : {more : List ℕ} → FrontCase (0x04 ∷ 0 ∷ more) (found_record (Key false) 2)
  settle : {more : List ℕ} → FrontCase (0x05 ∷ more) (found_record Settle 1)

-- A case's answer is what the definition gives.
pub case_front : {rest : List ℕ} {front : Result (Option RecordFound) Refusal} → FrontCase rest front → front_of rest ≡ front
unfolding front_of record_length whole_record pulse_of key_of identifier_of
case_front ended = refl
case_front (no_kind (unknown kind body no-1 no-2 no-3 no-4 no-5)) =
    rw (ne_eqb kind 0x01 no-1, ne_eqb kind 0x02 no-2, ne_eqb kind 0x03 no-3, ne_eqb kind 0x04 no-4, ne_eqb kind 0x05 no-5)
case_front (cut_off_lem (cut-byte body short)) = rw (lt-leb 2 (length (0x01 ∷ body)) short)
case_front (cut_off_lem (cut-pulse body short)) = rw (lt-leb 7 (length (0x03 ∷ body)) short)
case_front (cut_off_lem (cut-key body short)) = rw (lt-leb 2 (length (0x04 ∷ body)) short)
case_front (bad-field (bad_direction direction body whole above)) = rw (le-leb 7 (length (0x03 ∷ direction ∷ body)) whole, lt-leb direction 1 above)
case_front (bad-field (bad-rate direction rate body whole (inl below))) =
    rw (le-leb 7 (length (0x03 ∷ direction ∷ rate ∷ body)) whole, lt-leb 1 rate below, pick_same (leb direction 1))
case_front (bad-field (bad-rate direction rate body whole (inr above))) =
    rw (le-leb 7 (length (0x03 ∷ direction ∷ rate ∷ body)) whole, lt-leb rate 4 above, pick_same (leb 1 rate), pick_same (leb direction 1))
case_front (bad-field (bad-key on more above)) = rw (le-leb 2 (length (0x04 ∷ on ∷ more)) (omega arith), lt-leb on 1 above)
case_front (byte {b} {more}) = rw (le-leb 2 (length (0x01 ∷ b ∷ more)) (omega arith))
case_front (silence {more}) = rw (le-leb 1 (length (0x02 ∷ more)) (omega arith))
case_front (pulse {direction} {rate} {a0} {a1} {a2} {a3} {more} low least most) =
    let amount : a0 + (256 * a1 + (65536 * a2 + 16777216 * a3)) ≡ 0x1000000 * a3 + 0x10000 * a2 + 0x100 * a1 + a0 = omega arith in
    rw (
      le-leb 7 (length (0x03 ∷ direction ∷ rate ∷ a0 ∷ a1 ∷ a2 ∷ a3 ∷ more)) (omega arith),
      le-leb direction 1 low,
      le-leb 1 rate least,
      le-leb rate 4 most,
      amount,
    )
case_front (key_on_lem {more}) = rw (le-leb 2 (length (0x04 ∷ 1 ∷ more)) (omega arith))
case_front (key_off {more}) = rw (le-leb 2 (length (0x04 ∷ 0 ∷ more)) (omega arith))
case_front (settle {more}) = rw (le-leb 1 (length (0x05 ∷ more)) (omega arith))

-- The kind bytes, and any other byte.
data KindCase : ℕ → Type 0 where
  of_byte : KindCase 0x01
  of_silence : KindCase 0x02
  of_pulse : KindCase 0x03
  of_key : KindCase 0x04
  of_settle : KindCase 0x05
  of_none : {kind : ℕ} → ((body : List ℕ) → UnknownKind (kind ∷ body)) → KindCase kind

none : (kind : ℕ) → (1 ≤ kind → kind ≤ 5 → ⊥) → KindCase kind
none kind outside =
    of_none
    (λ body.
    unknown kind body
    (λ e. outside (omega arith) (omega arith))
    (λ e. outside (omega arith) (omega arith))
    (λ e. outside (omega arith) (omega arith))
    (λ e. outside (omega arith) (omega arith))
    (λ e. outside (omega arith) (omega arith)))

kind_case : (kind : ℕ) → KindCase kind
kind_case zero = none zero (λ least most. omega arith)
kind_case (suc zero) = of_byte
kind_case (suc (suc zero)) = of_silence
kind_case (suc (suc (suc zero))) = of_pulse
kind_case (suc (suc (suc (suc zero)))) = of_key
kind_case (suc (suc (suc (suc (suc zero))))) = of_settle
kind_case (suc (suc (suc (suc (suc (suc more)))))) = none (suc (suc (suc (suc (suc (suc more)))))) (λ least most. omega arith)

-- Some case stands at every front: of a whole pulse, of a whole key, of each kind, and of any rest.
abbrev SomeCase : List ℕ → Type 0
SomeCase rest = (front : Result (Option RecordFound) Refusal) × FrontCase rest front

pulse_case : (direction rate a0 a1 a2 a3 : ℕ) (more : List ℕ) → SomeCase (0x03 ∷ direction ∷ rate ∷ a0 ∷ a1 ∷ a2 ∷ a3 ∷ more)
pulse_case direction rate a0 a1 a2 a3 more =
    elim (dec_le direction 1) [
      | yes low ↦
          elim (dec_le 1 rate) [
            | yes least ↦
                elim (dec_le rate 4) [
                  | yes most ↦ (_, pulse low least most)
                  | no above ↦ (_, bad-field (bad-rate direction rate (a0 ∷ a1 ∷ a2 ∷ a3 ∷ more) (omega arith) (inr (omega arith))))
                ]
            | no below ↦ (_, bad-field (bad-rate direction rate (a0 ∷ a1 ∷ a2 ∷ a3 ∷ more) (omega arith) (inl (omega arith))))
          ]
      | no above ↦ (_, bad-field (bad_direction direction (rate ∷ a0 ∷ a1 ∷ a2 ∷ a3 ∷ more) (omega arith) (omega arith)))
    ]

key_case : (on : ℕ) (more : List ℕ) → SomeCase (0x04 ∷ on ∷ more)
key_case zero more = (_, key_off)
key_case (suc zero) more = (_, key_on_lem)
key_case (suc (suc on)) more = (_, bad-field (bad-key (suc (suc on)) more (omega arith)))

some_case : {kind : ℕ} → KindCase kind → (body : List ℕ) → SomeCase (kind ∷ body)
some_case of_byte [] = (_, cut_off_lem (cut-byte [] (omega arith)))
some_case of_byte (b ∷ more) = (_, byte)
some_case of_silence more = (_, silence)
some_case of_pulse [] = (_, cut_off_lem (cut-pulse [] (omega arith)))
some_case of_pulse (d ∷ []) = (_, cut_off_lem (cut-pulse (d ∷ []) (omega arith)))
some_case of_pulse (d ∷ r ∷ []) = (_, cut_off_lem (cut-pulse (d ∷ r ∷ []) (omega arith)))
some_case of_pulse (d ∷ r ∷ a0 ∷ []) = (_, cut_off_lem (cut-pulse (d ∷ r ∷ a0 ∷ []) (omega arith)))
some_case of_pulse (d ∷ r ∷ a0 ∷ a1 ∷ []) = (_, cut_off_lem (cut-pulse (d ∷ r ∷ a0 ∷ a1 ∷ []) (omega arith)))
some_case of_pulse (d ∷ r ∷ a0 ∷ a1 ∷ a2 ∷ []) = (_, cut_off_lem (cut-pulse (d ∷ r ∷ a0 ∷ a1 ∷ a2 ∷ []) (omega arith)))
some_case of_pulse (d ∷ r ∷ a0 ∷ a1 ∷ a2 ∷ a3 ∷ more) = pulse_case d r a0 a1 a2 a3 more
some_case of_key [] = (_, cut_off_lem (cut-key [] (omega arith)))
some_case of_key (on ∷ more) = key_case on more
some_case of_settle more = (_, settle)
some_case (of_none unknown-kind) body = (_, no_kind (unknown-kind body))

every_case : (rest : List ℕ) → SomeCase rest
every_case [] = (_, ended)
every_case (kind ∷ body) = some_case (kind_case kind) body

-- What the definition gives is a case's answer: there is no other case.
pub front_case : {rest : List ℕ} {front : Result (Option RecordFound) Refusal} → front_of rest ≡ front → FrontCase rest front
front_case {rest} {front} e =
    let found : SomeCase rest = every_case rest in
    subst (λ (f : Result (Option RecordFound) Refusal). FrontCase rest f) (sym (case_front found.1) ∙ e) found.1
