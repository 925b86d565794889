-- Laws of numbers in decimal: they are digits with no zeros in front, they spell their number, and they are what `io::decimal` writes.
use Prim.Native.Nat.{ℕ, zero, suc, ◌+◌, ◌-◌, ◌*◌, ◌/◌, ◌%◌, ◌^◌, ◌≤◌, ◌<◌}
use Rattle.std.specs.Prelude.{◌≡◌, refl, List, [], ◌∷◌, ◌++◌, length, get_or, ltb}
use Rattle.std.proofs.Common.{◌∙◌, not-suc-le-zero, arith, length-append}
use Rattle.std.proofs.Math.Nat.{pow-succ', pow-le-pow_right}
use borrow.Author.Tests.{lt-ltb, le-ltb, ltb-true, ltb-false}
use Rattle.io.specs.Digits.{last_digits, IsDigitCount}
use Rattle.laws.specs.All.{AllOf}
use Rattle.laws.specs.AllLaws.{all_append}
use Rattle.laws.specs.TestLaws.{pick_cases}
use Rattle.replay_address.specs.Digits.{IsDigit, worth, spelled_from, spelled}
use Rattle.replay_text.specs.Decimal.{decimal_within, decimal}

-- What holds of both ways to write one digit more holds of the digits.
module _ (P : ℕ → List ℕ → Type 0)
    (one : (n : ℕ) → n < 10 → P n ((48 + n) ∷ []))
    (more : (n : ℕ) (front : List ℕ) → 10 ≤ n → P (n / 10) front → P n (front ++ ((48 + n % 10) ∷ []))) where
  decimal_cases : (k n : ℕ) → n < k → P n (decimal_within k n)
  unfolding decimal_within
  decimal_cases zero n h = absurd (not-suc-le-zero h)
  decimal_cases (suc k) n h =
      pick_cases (P n) (ltb n 10) (λ below. one n (ltb-true n 10 below))
      (λ above.
      let large = ltb-false n 10 above in
      more n (decimal_within k (n / 10)) large (decimal_cases k (n / 10) (omega arith)))

-- Digits behind others spell on.
spelled-behind : (xs ys : List ℕ) (n : ℕ) → spelled_from n (xs ++ ys) ≡ spelled_from (spelled_from n xs) ys
unfolding spelled_from
spelled-behind [] ys n = refl
spelled-behind (x ∷ xs) ys n = spelled-behind xs ys (10 * n + worth x)

-- A number in decimal spells the number.
pub decimal-spelled : (n : ℕ) → spelled (decimal n) ≡ n
unfolding decimal spelled spelled_from
decimal-spelled n = decimal_cases (λ n text. spelled_from 0 text ≡ n) (λ n h. omega arith) more (suc n) n (omega arith)
  where
    more : (n : ℕ) (front : List ℕ) → 10 ≤ n → spelled_from 0 front ≡ n / 10 → spelled_from 0 (front ++ ((48 + n % 10) ∷ [])) ≡ n
    more n front h e = spelled-behind front ((48 + n % 10) ∷ []) 0 ∙ rw e (omega arith)

-- It is digits, at least one, and the first is no zero unless the number is.
pub record InDecimal (n : ℕ) (text : List ℕ) : Type 0 where
  pub all : AllOf IsDigit text
  pub some : 0 < length text
  pub first : 0 < n → 49 ≤ get_or text 0 0

pub decimal-digits : (n : ℕ) → InDecimal n (decimal n)
unfolding decimal
decimal-digits n = decimal_cases InDecimal (λ n h. record { all = ((omega arith, omega arith), tt); some = omega arith; first = λ p. omega arith }) more (suc n) n (omega arith)
  where
    first_of : (front : List ℕ) (b : ℕ) → 0 < length front → get_or (front ++ (b ∷ [])) 0 0 ≡ get_or front 0 0
    first_of [] b h = absurd (not-suc-le-zero h)
    first_of (x ∷ xs) b h = refl

    more : (n : ℕ) (front : List ℕ) → 10 ≤ n → InDecimal (n / 10) front → InDecimal n (front ++ ((48 + n % 10) ∷ []))
    more n front h d =
        record {
          all = all_append IsDigit front ((48 + n % 10) ∷ []) d.all ((omega arith, omega arith), tt);
          some = rw length-append (omega arith);
          first = λ p. rw (first_of front (48 + n % 10) d.some) (d.first (omega arith));
        }

-- The fewest digits that hold a number are its digits in decimal, of any number of places that is enough.
fewest_within : (count k n : ℕ) → n < k → IsDigitCount 10 1 n count → last_digits 10 count n ≡ decimal_within k n
unfolding decimal_within
fewest_within count zero n h few = absurd (not-suc-le-zero h)
fewest_within zero (suc k) n h few = absurd (not-suc-le-zero few.0)
fewest_within (suc zero) (suc k) n h few =
    let below : n < 10 = few.1 in
    let same : n % 10 ≡ n = omega arith in
    rw (same, lt-ltb n 10 below)
fewest_within (suc (suc c)) (suc k) n h few =
    let one_less : suc (suc c) - 1 ≡ suc c = omega arith in
    let two-less : suc c - 1 ≡ c = omega arith in
    let large : 10 ^ suc c ≤ n = rw one_less at (few.2 (omega arith)) in
    let ten : 10 ≤ n = omega (arith, pow-le-pow_right {n = 10} (omega arith) {i = 1} {j = suc c} (omega arith)) in
    let least : n % 10 < 10 = omega arith in
    let front : IsDigitCount 10 1 (n / 10) (suc c) = (omega arith, omega (arith, pow-succ' 10 (suc c)), λ p. rw two-less (omega (arith, pow-succ' 10 c))) in
    rw (le-ltb n 10 ten, fewest_within (suc c) k (n / 10) (omega arith) front, lt-ltb (n % 10) 10 least)

-- What `io::decimal` writes is the number in decimal.
pub written-decimal : (count n : ℕ) → IsDigitCount 10 1 n count → last_digits 10 count n ≡ decimal n
unfolding decimal
written-decimal count n few = fewest_within count (suc n) n (omega arith) few

-- A number below 10^20, as every one of 64 bits is, has at most twenty digits.
pub decimal-most : (n : ℕ) → n < 10 ^ 20 → length (decimal n) ≤ 20
unfolding decimal
decimal-most n small = decimal_cases Few (λ n below k h. omega arith) more (suc n) n (omega arith) 19 small
  where
    Few : ℕ → List ℕ → Type 0
    Few n text = (k : ℕ) → n < 10 ^ suc k → length text ≤ suc k

    more : (n : ℕ) (front : List ℕ) → 10 ≤ n → Few (n / 10) front → Few n (front ++ ((48 + n % 10) ∷ []))
    more n front h few zero below = absurd (omega arith)
    more n front h few (suc k) below = rw length-append (omega (arith, few k (omega (arith, pow-succ' 10 (suc k)))))
