-- The address of twelve digits in words: exactly twelve digits are an address, and its bytes are packed decimal of the number that they spell.
use Rattle.laws.specs.ResultLaws.{some_same}
use Rattle.std.specs.Prelude.{ℕ, suc, ◌+◌, ◌*◌, ◌/◌, ◌%◌, ◌≤◌, ◌<◌, ◌≡◌, refl, List, [], ◌∷◌, true, ◌↔◌, length, drop, get_or, eqb, Option, Some, None}
use Rattle.std.proofs.Common.{sym, ap, ◌∙◌, arith, drop_of_length-le, drop-cons, eqb-true, eq-eqb, subst}
use Rattle.std.proofs.lemmas.Bool.{false≢true}
use Rattle.std.proofs.Math.Bool.{and-eq-true_iff}
use Rattle.laws.specs.All.{all_of, AllOf}
use Rattle.laws.specs.AllLaws.{all_drop, all-iff}
use Rattle.laws.specs.TestLaws.{pick_cases}
use Rattle.item_address.specs.Address.{Good}
use Rattle.item_decimal.specs.Decimal.{Decimal, digits, low_digits, unpacked, packed}
use Rattle.item_decimal.proofs.DecimalLaws.{packed-unpacked}
use Rattle.replay_address.specs.Digits.{is_digit, worth, spelled, spelled_from, IsDigit, digit-iff}
use Rattle.replay_address.specs.Address.{pair_of, pair_at, address_bytes, is_address, address_read}

-- Twelve bytes, each a digit.
pub record TwelveDigits (text : List ℕ) : Type 0 where
  pub twelve : length text ≡ 12
  pub all : AllOf IsDigit text

-- The six bytes of an address that twelve digits spell: packed decimal, the highest byte from the first two digits.
pub record Spells (text address : List ℕ) : Type 0 where
  pub six : length address ≡ 6
  pub packed : Decimal address
  pub number : unpacked address ≡ spelled text

-- The test says so.
pub address-iff : (text : List ℕ) → (is_address text ≡ true) ↔ TwelveDigits text
unfolding is_address
address-iff text = (
  λ h.
      let both = (and-eq-true_iff (eqb (length text) 12) (all_of is_digit text)).0 h in
      record { twelve = eqb-true (length text) 12 both.0; all = (all-iff IsDigit is_digit digit-iff text).0 both.1 },
  λ h. rw (eq-eqb (length text) 12 h.twelve, (all-iff IsDigit is_digit digit-iff text).1 h.all),
)

-- At each place stands a digit.
pub digit_at : (text : List ℕ) (i : ℕ) → AllOf IsDigit text → i < length text → IsDigit (get_or text i 0)
digit_at text i h below = (rw (drop-cons text i 0 below) at (all_drop IsDigit i text h)).0

-- The number of a digit is the low half of its character.
low_half : (b : ℕ) → IsDigit b → b % 16 ≡ worth b
low_half b h = omega arith

-- The halves of a pair's byte are the numbers of its digits.
pair-halves : (high low : ℕ) → IsDigit high → IsDigit low → (pair_of high low / 16 ≡ worth high) × (pair_of high low % 16 ≡ worth low)
unfolding pair_of
pair-halves high low h l = rw (low_half high h, low_half low l) (omega arith, omega arith)

-- So both are 0 to 9, and the byte's number is what the digits spell.
record IsPair (byte high low : ℕ) : Type 0 where
  above : byte / 16 ≤ 9
  below : byte % 16 ≤ 9
  number : digits byte ≡ 10 * worth high + worth low

pair_at_lem : (text : List ℕ) → TwelveDigits text → (i : ℕ) → i + 1 < 12 → IsPair (pair_at text i) (get_or text i 0) (get_or text (i + 1) 0)
unfolding digits
pair_at_lem text h i below =
    let high = digit_at text i h.all (omega (arith, h.twelve)) in
    let low = digit_at text (i + 1) h.all (omega (arith, h.twelve)) in
    let halves = pair-halves (get_or text i 0) (get_or text (i + 1) 0) high low in
    record { above = omega (arith, halves.0); below = omega (arith, halves.1); number = rw (halves.0, halves.1) }

-- Twelve bytes, one by one.
one_by_one : (text : List ℕ) → length text ≡ 12 →
    text
    ≡ get_or text 0 0 ∷ get_or text 1 0 ∷ get_or text 2 0 ∷ get_or text 3 0 ∷ get_or text 4 0 ∷ get_or text 5 0
    ∷ get_or text 6 0 ∷ get_or text 7 0 ∷ get_or text 8 0 ∷ get_or text 9 0 ∷ get_or text 10 0 ∷ get_or text 11 0 ∷ []
one_by_one text e =
    let at : (i : ℕ) → i < 12 → drop i text ≡ get_or text i 0 ∷ drop (suc i) text = λ i below. drop-cons text i 0 (omega arith) in
    let none : drop 12 text ≡ [] = drop_of_length-le text {i = 12} (omega arith) in
    cc (
      at 0 (omega arith),
      at 1 (omega arith),
      at 2 (omega arith),
      at 3 (omega arith),
      at 4 (omega arith),
      at 5 (omega arith),
      at 6 (omega arith),
      at 7 (omega arith),
      at 8 (omega arith),
      at 9 (omega arith),
      at 10 (omega arith),
      at 11 (omega arith),
    )

-- The bytes of twelve digits are an address that the digits spell.
pub address-spells : (text : List ℕ) → TwelveDigits text → Spells text (address_bytes text)
unfolding address_bytes unpacked spelled spelled_from
address-spells text h =
    let pair = pair_at_lem text h in
    let fifth = pair 0 (omega arith) in
    let fourth = pair 2 (omega arith) in
    let third = pair 4 (omega arith) in
    let second = pair 6 (omega arith) in
    let first = pair 8 (omega arith) in
    let lowest = pair 10 (omega arith) in
    record {
      six = refl;
      packed = (lowest.below, lowest.above, (first.below, first.above, (second.below, second.above, (third.below, third.above, (fourth.below, fourth.above, (fifth.below, fifth.above, tt))))));
      number =
          rw (one_by_one text h.twelve)
          (omega (arith, lowest.number, first.number, second.number, third.number, fourth.number, fifth.number));
    }

-- An address that digits spell is good exactly where their number is not twelve nines.
spells-good : {text address : List ℕ} → Spells text address → Good address ↔ (spelled text ≡ 999999999999 → ⊥)
unfolding unpacked digits packed low_digits
spells-good {text} {address} s = (
  λ good nines.
      good.no_broadcast
      (sym (packed-unpacked address s.packed) ∙ ap (λ (k : ℕ). packed k (unpacked address)) s.six ∙ ap (packed 6) (s.number ∙ nines)),
  λ other. record { decimal = s.packed; no_broadcast = λ same. other (sym s.number ∙ ap unpacked same) },
)

-- What is read is an address exactly where the text is twelve digits, and then it is the address that they spell, good but for twelve
-- nines; else nothing is.
pub record AddressReads (text : List ℕ) (read : Option (List ℕ)) : Type 0 where
  pub exactly : ((address : List ℕ) × (read ≡ Some address)) ↔ TwelveDigits text
  pub spells : (address : List ℕ) → read ≡ Some address → Spells text address
  pub good : (address : List ℕ) → read ≡ Some address → (Good address ↔ (spelled text ≡ 999999999999 → ⊥))
  pub none : (TwelveDigits text → ⊥) → read ≡ None

-- No address is none.
pub none_read : {A : Type 0} {address : List ℕ} → ◌≡◌ {A = Option (List ℕ)} None (Some address) → A
none_read e = let z : ◌≡◌ {A = ℕ} 0 1 = cc in absurd (omega arith)

pub address-reads : (text : List ℕ) → AddressReads text (address_read text)
unfolding address_read
address-reads text =
    pick_cases (AddressReads text) (is_address text)
    (λ yes.
    let digits = (address-iff text).0 yes in
    let spelling = address-spells text digits in
    record {
      exactly = (λ found. digits, λ all. (address_bytes text, refl));
      spells = λ address e. subst (Spells text) (some_same e) spelling;
      good = λ address e. spells-good (subst (Spells text) (some_same e) spelling);
      none = λ none. absurd (none digits);
    })
    (λ no. record {
      exactly = (λ found. none_read found.1, λ all. absurd (false≢true (sym no ∙ (address-iff text).1 all)));
      spells = λ address e. none_read e;
      good = λ address e. none_read e;
      none = λ none. refl;
    })
