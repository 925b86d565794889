-- Laws of the front of the rest of a trace and of a trace read record by record: a good record is decided by its own bytes alone, and records
-- written one behind the other are read back one by one.
use Rattle.std.specs.Prelude.{ℕ, ◌+◌, ◌*◌, ◌/◌, ◌%◌, ◌≤◌, ◌≡◌, refl, true, false, List, [], ◌∷◌, ◌++◌, length, take, drop, Err}
use Rattle.frame.specs.declared.refusal.Refusal.TheVariants.{BadRecord}
use Rattle.trace.specs.Front.{found_record}
use Rattle.std.proofs.Common.{sym, ap, ◌∙◌, append_assoc, arith, take-append-drop, length-append}
use Rattle.std.proofs.lemmas.List.{take-append-le, drop-append-le}
use Rattle.std.proofs.Math.Seq.{drop-append_seam}
use Rattle.laws.specs.All.{AllOf}
use Rattle.laws.specs.AllLaws.{all_drop}
use Rattle.laws.specs.Memory.{IsByte, Bytes}
use Rattle.item_identifier.specs.Identifier.{identifier_of, identifier_bytes}
use Rattle.item_identifier.proofs.IdentifierLaws.{identifier-back, identifier_are_bytes, identifier-iff}
use Rattle.trace.specs.Trace.{front_of}
use Rattle.trace.specs.Records.{FieldsRight, record_bytes, written, ReadsAs, none, next}
use Rattle.trace.proofs.FrontCases.{FrontCase, no_kind, bad-field, byte, silence, pulse, key_on_lem, key_off, settle, unknown, bad_direction, bad-rate, bad-key, case_front, front_case}
use Rattle.trace.specs.declared.TraceRecord.{TraceRecord}
use Rattle.trace.specs.declared.TraceRecord.TheVariants.{Byte, Silence, Pulse, Key, Settle}

-- A good record has 1 to 7 bytes, all of them there, and stands as well where anything else follows them.
record Decided (rest : List ℕ) (r : TraceRecord) (n : ℕ) : Type 0 where
  within : n ≤ length rest
  least : 1 ≤ n
  most : n ≤ 7
  alone : (more : List ℕ) → FrontCase (take n rest ++ more) (found_record r n)

decided : {rest : List ℕ} {r : TraceRecord} {n : ℕ} → FrontCase rest (found_record r n) → Decided rest r n
decided byte = record { within = omega arith; least = omega arith; most = omega arith; alone = λ more. byte }
decided silence = record { within = omega arith; least = omega arith; most = omega arith; alone = λ more. silence }
decided (pulse low least most) = record { within = omega arith; least = omega arith; most = omega arith; alone = λ more. pulse low least most }
decided key_on_lem = record { within = omega arith; least = omega arith; most = omega arith; alone = λ more. key_on_lem }
decided key_off = record { within = omega arith; least = omega arith; most = omega arith; alone = λ more. key_off }
decided settle = record { within = omega arith; least = omega arith; most = omega arith; alone = λ more. settle }

-- All its bytes are there.
pub good-within : (rest : List ℕ) {r : TraceRecord} {n : ℕ} → front_of rest ≡ found_record r n → n ≤ length rest
good-within rest good = (decided (front_case good)).within

-- There are 1 to 7 of them.
pub good-size : (rest : List ℕ) {r : TraceRecord} {n : ℕ} → front_of rest ≡ found_record r n → (1 ≤ n) × (n ≤ 7)
good-size rest good = let d = decided (front_case good) in (d.least, d.most)

-- A good record is decided by its own bytes alone, whatever follows.
pub good_local : (rest other : List ℕ) {r : TraceRecord} {n : ℕ} → front_of rest ≡ found_record r n → take n other ≡ take n rest → front_of other ≡ found_record r n
good_local rest other {r} {n} good same =
    let split : take n rest ++ drop n other ≡ other = rw (sym same) (take-append-drop n other) in
    rw (sym split) (case_front ((decided (front_case good)).alone (drop n other)))

-- A good record stays one where the trace goes on.
pub good-stays : (rest more : List ℕ) {r : TraceRecord} {n : ℕ} → front_of rest ≡ found_record r n → front_of (rest ++ more) ≡ found_record r n
good-stays rest more {r} {n} good = good_local rest (rest ++ more) good (take-append-le n rest more (good-within rest good))

-- A refusal 9 is decided by what is there: it stays one where the trace goes on.
pub bad-stays : (rest more : List ℕ) → front_of rest ≡ Err BadRecord → front_of (rest ++ more) ≡ Err BadRecord
bad-stays rest more bad = case_front (stays (front_case bad))
  where
    stays : {rest : List ℕ} → FrontCase rest (Err BadRecord) → FrontCase (rest ++ more) (Err BadRecord)
    stays (no_kind (unknown kind body no-1 no-2 no-3 no-4 no-5)) = no_kind (unknown kind (body ++ more) no-1 no-2 no-3 no-4 no-5)
    stays (bad-field (bad_direction direction body whole above)) = bad-field (bad_direction direction (body ++ more) (omega (arith, length-append body more)) above)
    stays (bad-field (bad-rate direction rate body whole out)) = bad-field (bad-rate direction rate (body ++ more) (omega (arith, length-append body more)) out)
    stays (bad-field (bad-key on behind above)) = bad-field (bad-key on (behind ++ more) above)

-- The bytes of an amount are those of the number, low first.
pub amount-bytes : (a0 a1 a2 a3 : ℕ) → Bytes (a0 ∷ a1 ∷ a2 ∷ a3 ∷ [])
    → identifier_bytes (0x1000000 * a3 + 0x10000 * a2 + 0x100 * a1 + a0) ≡ a0 ∷ a1 ∷ a2 ∷ a3 ∷ []
unfolding identifier_bytes
amount-bytes a0 a1 a2 a3 bytes =
    let amount : ℕ = 0x1000000 * a3 + 0x10000 * a2 + 0x100 * a1 + a0 in
    (identifier-iff (identifier_bytes amount) (identifier_are_bytes amount) (omega arith) a0 a1 a2 a3 bytes).0 (identifier-back amount [] (omega arith))

-- The bytes of a good record: its fields are within their ranges, and it is written in the first bytes of the rest.
pub record GoodFront (rest : List ℕ) (r : TraceRecord) (n : ℕ) : Type 0 where
  pub fields : FieldsRight r
  pub size : n ≡ length (record_bytes r)
  pub bytes : take n rest ≡ record_bytes r

pub good-bytes : (rest : List ℕ) {r : TraceRecord} {n : ℕ} → Bytes rest → front_of rest ≡ found_record r n → GoodFront rest r n
unfolding record_bytes
good-bytes rest {r} {n} bytes good = written-there (front_case good) bytes
  where
    written-there : {rest : List ℕ} {r : TraceRecord} {n : ℕ} → FrontCase rest (found_record r n) → Bytes rest → GoodFront rest r n
    written-there byte are = record { fields = are.1.0; size = refl; bytes = refl }
    written-there silence are = record { fields = tt; size = refl; bytes = refl }
    written-there (pulse {a0 = a0} {a1 = a1} {a2 = a2} {a3 = a3} low least most) are =
        let small : Bytes (a0 ∷ a1 ∷ a2 ∷ a3 ∷ []) = omega arith in
        let body : identifier_bytes (0x1000000 * a3 + 0x10000 * a2 + 0x100 * a1 + a0) ≡ a0 ∷ a1 ∷ a2 ∷ a3 ∷ [] = amount-bytes a0 a1 a2 a3 small in
        record { fields = (low, least, most, omega arith); size = rw body; bytes = rw body }
    written-there key_on_lem are = record { fields = tt; size = refl; bytes = refl }
    written-there key_off are = record { fields = tt; size = refl; bytes = refl }
    written-there settle are = record { fields = tt; size = refl; bytes = refl }

-- A record written is read back.
pub front-written : (r : TraceRecord) (more : List ℕ) → FieldsRight r → front_of (record_bytes r ++ more) ≡ found_record r (length (record_bytes r))
unfolding record_bytes identifier_bytes identifier_of
front-written (Byte b) more right = case_front byte
front-written Silence more right = case_front silence
front-written (Pulse direction rate amount) more (low, least, most, fits) =
    let whole : 0x1000000 * (amount / 16777216 % 256) + 0x10000 * (amount / 65536 % 256) + 0x100 * (amount / 256 % 256) + amount % 256 ≡ amount =
    omega (arith, identifier-back amount [] fits) in
    case_front (pulse low least most) ∙ ap (λ (a : ℕ). found_record (Pulse direction rate a) 7) whole
front-written (Key true) more right = case_front key_on_lem
front-written (Key false) more right = case_front key_off
front-written Settle more right = case_front settle

-- Records written, and then more.
pub written-append : (rs more : List TraceRecord) → written (rs ++ more) ≡ written rs ++ written more
unfolding written
written-append [] more = refl
written-append (r ∷ rs) more = rw (written-append rs more) (sym (append_assoc (record_bytes r) (written rs) (written more)))

-- Records written one behind the other are read back one by one.
pub reads-written : (rs : List TraceRecord) (rest : List ℕ) → AllOf FieldsRight rs → ReadsAs (written rs ++ rest) rs rest
unfolding written
reads-written [] rest right = none
reads-written (r ∷ rs) rest right =
    let behind : ReadsAs (drop (length (record_bytes r)) (record_bytes r ++ (written rs ++ rest))) rs rest =
    rw (drop-append_seam (record_bytes r) (written rs ++ rest)) (reads-written rs rest right.1) in
    rw append_assoc (next (front-written r (written rs ++ rest) right.0) behind)

-- Records that are read have fields within their ranges, and the trace is them, written, and then the rest.
pub reads_bytes : {trace : List ℕ} {rs : List TraceRecord} {rest : List ℕ} → Bytes trace → ReadsAs trace rs rest → (AllOf FieldsRight rs) × (trace ≡ written rs ++ rest)
unfolding written
reads_bytes bytes none = (tt, refl)
reads_bytes bytes (next {trace} {rest} {r} {rs} {n} good behind) =
    let front = good-bytes trace bytes good in
    let (right, split) = reads_bytes (all_drop IsByte n trace bytes) behind in
    let whole : trace ≡ (record_bytes r ++ written rs) ++ rest =
    sym (take-append-drop n trace) ∙ rw (front.bytes, split, append_assoc) refl in
    ((front.fields, right), whole)

-- The same records are read where the trace goes on.
pub reads_more : {trace : List ℕ} {rs : List TraceRecord} {rest : List ℕ} → ReadsAs trace rs rest → (more : List ℕ) → ReadsAs (trace ++ more) rs (rest ++ more)
reads_more none more = none
reads_more (next {trace} {rest} {r} {rs} {n} good behind) more =
    let behind_more : ReadsAs (drop n (trace ++ more)) rs (rest ++ more) =
    rw (drop-append-le n trace more (good-within trace good)) (reads_more behind more) in
    next (good-stays trace more good) behind_more

-- Reading goes on from the rest.
pub reads_then : {a b c : List ℕ} {rs ss : List TraceRecord} → ReadsAs a rs b → ReadsAs b ss c → ReadsAs a (rs ++ ss) c
reads_then none behind = behind
reads_then (next good before) behind = next good (reads_then before behind)
