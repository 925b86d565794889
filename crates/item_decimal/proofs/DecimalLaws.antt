-- Laws of packed decimal, each over the length of the item.
use Rattle.std.specs.Prelude.{ℕ, zero, suc, ◌+◌, ◌*◌, ◌/◌, ◌%◌, ◌^◌, ◌≤◌, ◌<◌, ◌≡◌, refl, List, [], ◌∷◌, ◌++◌, Bool, true, false, ◌&&◌, length, take, drop, get_or, leb, Option, Some, None}
use Rattle.std.proofs.Math.Path.{ap, sym}
use Rattle.std.proofs.Common.{true≢false, add-one, drop-cons, leb-true, le-leb}
use Rattle.std.proofs.lemmas.Bool.{false≢true}
use Rattle.std.proofs.Math.Bool.{and-eq-true_iff}
use Rattle.std.proofs.Math.Nat.{div-div-eq-div-mul, pow-succ'}
use native.Mathlib.Omega.{arith}
use Rattle.std.proofs.Math.Seq.{drop-length}
use Rattle.laws.specs.All.{all_of}
use Rattle.laws.specs.Memory.{Bytes}
use Rattle.laws.specs.Test.{pick}
use Rattle.laws.specs.Walk.{Walk, Walked, walked_start, walked_next, walked_stops, walked_end}
use Rattle.item_decimal.specs.Decimal.{Decimal, all_decimal, first_bad, first_bad_from, found_none, is_decimal, digits, low_digits, packed, unpacked}

-- The test of a byte holds exactly where both half bytes are 0 to 9.
pub is_decimal_lem : (b : ℕ) → b % 16 ≤ 9 → b / 16 ≤ 9 → is_decimal b ≡ true
unfolding is_decimal
is_decimal_lem b low high = rw (le-leb (b % 16) 9 low, le-leb (b / 16) 9 high)

pub decimal-halves : (b : ℕ) → is_decimal b ≡ true → (b % 16 ≤ 9) × (b / 16 ≤ 9)
unfolding is_decimal
decimal-halves b h =
    let both = (and-eq-true_iff (leb (b % 16) 9) (leb (b / 16) 9)).0 h in
    (leb-true (b % 16) 9 both.0, leb-true (b / 16) 9 both.1)

-- The place that the scan gives is that of the first byte with a half byte above 9.
pub record FirstBad (bytes : List ℕ) (i : ℕ) : Type 0 where
  pub inside : i < length bytes
  pub bad : is_decimal (get_or bytes i 0) ≡ false
  pub before : Decimal (take i bytes)

-- What a scan that counts places from `i` on says of the bytes.
data ScanSays (i : ℕ) (bytes : List ℕ) : Option ℕ → Type 0 where
  nothing : Decimal bytes → ScanSays i bytes None
  something : (j k : ℕ) → i + k ≡ j → FirstBad bytes k → ScanSays i bytes (Some j)

-- One byte before the bytes of a scan.
module _ (i b : ℕ) (bs : List ℕ) where
  says-behind : {r : Option ℕ} → is_decimal b ≡ true → ScanSays (i + 1) bs r → ScanSays i (b ∷ bs) r
  says-behind h (nothing d) = let halves = decimal-halves b h in nothing (halves.0, halves.1, d)
  says-behind h (something j k e f) =
      let halves = decimal-halves b h in
      something j (suc k) (omega arith) (record { inside = omega arith; bad = f.bad; before = (halves.0, halves.1, f.before) })

  says-next : (t : Bool) {r : Option ℕ} → is_decimal b ≡ t → ScanSays (i + 1) bs r → ScanSays i (b ∷ bs) (pick t r (Some i))
  says-next true h s = says-behind h s
  says-next false h s = something i 0 (omega arith) (record { inside = omega arith; bad = h; before = tt })

scan-says : (i : ℕ) (bytes : List ℕ) → ScanSays i bytes (first_bad_from i bytes)
unfolding first_bad_from
scan-says i [] = nothing tt
scan-says i (b ∷ bs) = says-next i b bs (is_decimal b) refl (scan-says (i + 1) bs)

-- The scan is a walk that stops at the first such byte.
pub decimal-walk : (bytes : List ℕ) → Walk (length bytes) (λ i. is_decimal (get_or bytes i 0)) Some None (λ i. first_bad_from i (drop i bytes))
unfolding first_bad_from
decimal-walk bytes = record { last = rw drop-length; next = λ i h. rw (drop-cons bytes i 0 h, add-one) }

-- Bytes that are all decimal up to a place, and the byte there, or the end.
module _ (bytes : List ℕ) where
  walked-to : (i : ℕ) → i ≤ length bytes → ((k : ℕ) → k < i → is_decimal (get_or bytes k 0) ≡ true) → Walked (length bytes) (λ k. first_bad_from k (drop k bytes)) i
  walked-to zero h before = walked_start
  walked-to (suc i) h before =
      rw (← add-one) (walked_next (decimal-walk bytes) (walked-to i (omega arith) (λ k l. before k (omega arith))) h (before i (omega arith)))

  pub stopped : (i : ℕ) → i < length bytes → ((k : ℕ) → k < i → is_decimal (get_or bytes k 0) ≡ true) → is_decimal (get_or bytes i 0) ≡ false
      → Some i ≡ first_bad bytes
  unfolding first_bad
  stopped i h before bad = sym (walked_stops (decimal-walk bytes) (walked-to i (omega arith) before) h bad)

  pub walked-through : ((k : ℕ) → k < length bytes → is_decimal (get_or bytes k 0) ≡ true) → None ≡ first_bad bytes
  unfolding first_bad
  walked-through before = sym (walked_end (decimal-walk bytes) (walked-to (length bytes) (omega arith) before) (omega arith))

-- The scan finds nothing exactly where every half byte is 0 to 9.
pub all-decimal : (bytes : List ℕ) → all_decimal bytes ≡ true → Decimal bytes
unfolding all_decimal first_bad
all-decimal bytes h = says (scan-says 0 bytes) h
  where
    says : {r : Option ℕ} → ScanSays 0 bytes r → found_none r ≡ true → Decimal bytes
    says (nothing d) e = d
    says (something j k q f) e = absurd (false≢true e)

pub scan-decimal : (bytes : List ℕ) → first_bad bytes ≡ None → Decimal bytes
unfolding all_decimal
scan-decimal bytes h = all-decimal bytes (ap found_none h)

pub decimal-scan : (bytes : List ℕ) → Decimal bytes → first_bad bytes ≡ None
unfolding first_bad first_bad_from
decimal-scan bytes h = from 0 bytes h
  where
    from : (i : ℕ) (bytes : List ℕ) → Decimal bytes → first_bad_from i bytes ≡ None
    from i [] h = refl
    from i (b ∷ bs) h = rw (is_decimal_lem b h.0 h.1) (from (i + 1) bs h.2)

pub decimal-all : (bytes : List ℕ) → Decimal bytes → all_decimal bytes ≡ true
unfolding all_decimal
decimal-all bytes h = ap found_none (decimal-scan bytes h)

-- `all_decimal` is the test of every byte.
pub every_decimal : (bytes : List ℕ) → all_of is_decimal bytes ≡ all_decimal bytes
unfolding all_of all_decimal first_bad first_bad_from
every_decimal bytes = from 0 bytes
  where
    one_more : (t rest : Bool) (i : ℕ) (found : Option ℕ) → rest ≡ found_none found → (t && rest) ≡ found_none (pick t found (Some i))
    one_more true rest i found e = e
    one_more false rest i found e = refl

    from : (i : ℕ) (bytes : List ℕ) → all_of is_decimal bytes ≡ found_none (first_bad_from i bytes)
    from i [] = refl
    from i (b ∷ bs) = one_more (is_decimal b) (all_of is_decimal bs) i (first_bad_from (i + 1) bs) (from (i + 1) bs)

pub bad-first : (bytes : List ℕ) (i : ℕ) → first_bad bytes ≡ Some i → FirstBad bytes i
unfolding first_bad
bad-first bytes i h = says (scan-says 0 bytes) h
  where
    says : {r : Option ℕ} → ScanSays 0 bytes r → r ≡ Some i → FirstBad bytes i
    says (nothing d) e = absurd (true≢false (ap found_none e))
    says (something j k q f) e =
        let place : j ≡ i = cc in
        let same : k ≡ i = omega arith in
        rw same at f

-- Decimal bytes are bytes; what is joined of decimal bytes is decimal, and so is every part.
pub decimal-bytes : (bytes : List ℕ) → Decimal bytes → Bytes bytes
decimal-bytes [] h = tt
decimal-bytes (b ∷ bs) h = (omega arith, decimal-bytes bs h.2)

pub decimal_join : (xs ys : List ℕ) → Decimal xs → Decimal ys → Decimal (xs ++ ys)
decimal_join [] ys h k = k
decimal_join (x ∷ xs) ys h k = (h.0, h.1, decimal_join xs ys h.2 k)

pub decimal-take : (n : ℕ) (xs : List ℕ) → Decimal xs → Decimal (take n xs)
decimal-take zero xs h = tt
decimal-take (suc n) [] h = tt
decimal-take (suc n) (x ∷ xs) h = (h.0, h.1, decimal-take n xs h.2)

pub decimal-drop : (n : ℕ) (xs : List ℕ) → Decimal xs → Decimal (drop n xs)
decimal-drop zero xs h = h
decimal-drop (suc n) [] h = tt
decimal-drop (suc n) (x ∷ xs) h = decimal-drop n xs h.2

-- The two digits of a byte below further digits, taken off again.
module _ (b n : ℕ) (low : b % 16 ≤ 9) (high : b / 16 ≤ 9) where
  low-digits : low_digits (digits b + 100 * n) ≡ b
  unfolding digits low_digits
  low-digits =
      let tens : (10 * (b / 16) + b % 16 + 100 * n) / 10 ≡ b / 16 + 10 * n = omega arith in
      let ten : (b / 16 + 10 * n) % 10 ≡ b / 16 = omega arith in
      omega (arith, ap (λ (k : ℕ). k % 10) tens)

  above-digits : (digits b + 100 * n) / 100 ≡ n
  unfolding digits
  above-digits = omega arith

-- The byte of the two lowest digits has these digits.
digits_low : (n : ℕ) → digits (low_digits n) ≡ n % 100
unfolding digits low_digits
digits_low n =
    let tens : (16 * (n / 10 % 10) + n % 10) / 16 ≡ n / 10 % 10 = omega arith in
    omega (arith, div-div-eq-div-mul n 10 10)

-- A packed number has its length, is decimal, and comes back; decimal bytes come back from their number, which has no more digits.
pub packed-length : (k n : ℕ) → length (packed k n) ≡ k
unfolding packed
packed-length zero n = refl
packed-length (suc k) n = ap suc (packed-length k (n / 100))

pub packed-decimal : (k n : ℕ) → Decimal (packed k n)
unfolding packed low_digits
packed-decimal zero n = tt
packed-decimal (suc k) n = (omega arith, omega arith, packed-decimal k (n / 100))

pub unpacked-packed : (k n : ℕ) → n < 100 ^ k → unpacked (packed k n) ≡ n
unfolding packed unpacked
unpacked-packed zero n h = omega arith
unpacked-packed (suc k) n h = let rest = unpacked-packed k (n / 100) (omega arith) in omega (arith, digits_low n)

pub packed-unpacked : (bytes : List ℕ) → Decimal bytes → packed (length bytes) (unpacked bytes) ≡ bytes
unfolding packed unpacked
packed-unpacked [] h = refl
packed-unpacked (b ∷ bs) h =
    let n = unpacked bs in
    rw (low-digits b n h.0 h.1, above-digits b n h.0 h.1, packed-unpacked bs h.2)

pub unpacked-below : (bytes : List ℕ) → Decimal bytes → unpacked bytes < 100 ^ length bytes
unfolding unpacked digits
unpacked-below [] h = omega arith
unpacked-below (b ∷ bs) h = let rest = unpacked-below bs h.2 in omega (arith, pow-succ' 100 (length bs))
