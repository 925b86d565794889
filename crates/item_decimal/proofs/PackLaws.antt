-- Laws of packing and unpacking that go from pair to pair of digits.
use Prim.Native.Nat.{ℕ, suc, ◌+◌, ◌-◌, ◌*◌, ◌/◌, ◌%◌, ◌^◌, ◌≤◌, ◌<◌}
use Rattle.std.specs.Prelude.{◌≡◌, refl, List, ◌++◌, Bool, true, false, take, drop, get_or, set, ltb, reverse}
use Rattle.std.proofs.Math.Path.{ap, sym}
use Rattle.std.proofs.Common.{◌∙◌, append-nil, lt-ltb, le-ltb, ltb-true, ltb-false, length-drop, take_all, drop-cons}
use Rattle.std.proofs.Math.Nat.{div-div-eq-div-mul, pow-le-pow_right}
use Rattle.std.proofs.Math.Numerals.{add-one}
use Rattle.std.proofs.lemmas.List.{get_or-reverse, get_or_default, length-reverse}
use native.Mathlib.Omega.{arith}
use Rattle.std.proofs.Math.ListN.{length, length-set}
use Rattle.std.proofs.Math.Seq.{take-suc-set, drop-length, append_snoc}
use Rattle.item_decimal.specs.Decimal.{Decimal, digits, low_digits, packed, unpacked}
use Rattle.item_decimal.proofs.DecimalLaws.{decimal-drop, unpacked-below}

-- A number fits in one pair more exactly where what is left of it without its lowest pair fits.
fits_suc : (n k : ℕ) → ltb n (100 ^ suc k) ≡ ltb (n / 100) (100 ^ k)
fits_suc n k = go (ltb (n / 100) (100 ^ k)) refl
  where
    go : (t : Bool) → ltb (n / 100) (100 ^ k) ≡ t → ltb n (100 ^ suc k) ≡ t
    go true e = lt-ltb n (100 ^ suc k) (omega (arith, ltb-true (n / 100) (100 ^ k) e))
    go false e = le-ltb n (100 ^ suc k) (omega (arith, ltb-false (n / 100) (100 ^ k) e))

-- After `i` pairs are taken off, what is left is to fit in the other pairs.
pub record Fitting (number pairs rest i : ℕ) : Type 0 where
  pub passed : i ≤ pairs
  pub so_far : ltb number (100 ^ pairs) ≡ ltb rest (100 ^ (pairs - i))

module _ {number pairs rest i : ℕ} where
  pub fitting_next : Fitting number pairs rest i → i < pairs → Fitting number pairs (rest / 100) (i + 1)
  fitting_next f h =
      let more : pairs - i ≡ suc (pairs - (i + 1)) = omega arith in
      record { passed = omega arith; so_far = rw (f.so_far, more) (fits_suc rest (pairs - (i + 1))) }

-- The byte of a pair of digits: six more for each ten of it.
pub pair-digits : (n : ℕ) → n % 100 + 6 * (n % 100 / 10) ≡ low_digits n
unfolding low_digits
pair-digits n = omega (arith, div-div-eq-div-mul n 10 10)

-- The first `i` bytes of the memory are the lowest digits, and `rest` is the number without them.
pub record Packing (number : ℕ) (m : List ℕ) (rest i : ℕ) (out : List ℕ) : Type 0 where
  pub passed : i ≤ length m
  pub kept : length out ≡ length m
  pub so_far : packed (length m) number ≡ take i out ++ packed (length m - i) rest

module _ {number : ℕ} {m : List ℕ} {rest i : ℕ} {out : List ℕ} where
  pub packing-next : {v : ℕ} → Packing number m rest i out → i < length out → v ≡ low_digits rest → Packing number m (rest / 100) (i + 1) (set out i v)
  unfolding packed
  packing-next {v} p h e =
      let more : length m - i ≡ suc (length m - (i + 1)) = omega arith in
      record {
        passed = omega arith;
        kept = length-set out i v ∙ p.kept;
        so_far = rw (p.so_far, more, add-one, take-suc-set, append_snoc, e);
      }

  pub packing-end : Packing number m rest i out → length out ≤ i → out ≡ packed (length m) number
  unfolding packed
  packing-end p h =
      let none : length m - i ≡ 0 = omega arith in
      sym (rw (p.so_far, none, append-nil) (take_all i out h))

-- The last `passed` bytes are unpacked.
pub record Unpacking (bytes : List ℕ) (number passed : ℕ) : Type 0 where
  pub few : length bytes ≤ 9
  pub decimal : Decimal bytes
  pub within : passed ≤ length bytes
  pub so_far : number ≡ unpacked (drop (length bytes - passed) bytes)

pub unpacking-start : {bytes : List ℕ} → length bytes ≤ 9 → Decimal bytes → Unpacking bytes 0 0
unfolding unpacked
unpacking-start {bytes} few decimal =
    let all : length bytes - 0 ≡ length bytes = omega arith in
    record { few = few; decimal = decimal; within = omega arith; so_far = rw (all, drop-length) }

module _ {bytes : List ℕ} {number passed : ℕ} where
  -- The byte before them is next.
  pub unpacking-next : {b : ℕ} → Unpacking bytes number passed → (passed < length (reverse bytes)) × (b ≡ get_or (reverse bytes) passed b)
      → Unpacking bytes (100 * number + digits b) (passed + 1)
  unfolding unpacked
  unpacking-next {b} u h =
      let here : passed < length bytes = omega (arith, length-reverse bytes) in
      let left : ℕ = length bytes - (passed + 1) in
      let place : length bytes - 1 - passed ≡ left = omega arith in
      let byte : b ≡ get_or bytes left 0 = h.1 ∙ get_or-reverse bytes passed b here ∙ rw place (get_or_default bytes left b 0 (omega arith)) in
      let again : suc left ≡ length bytes - passed = omega arith in
      let one_more : unpacked (drop left bytes) ≡ digits (get_or bytes left 0) + 100 * unpacked (drop (length bytes - passed) bytes) =
      ap unpacked (drop-cons bytes left 0 (omega arith)) ∙ ap (λ (n : ℕ). digits (get_or bytes left 0) + 100 * unpacked (drop n bytes)) again in
      record { few = u.few; decimal = u.decimal; within = omega arith; so_far = omega (arith, u.so_far, ap digits byte) }

  -- Nine bytes hold less than 10^18.
  pub unpacking-below : Unpacking bytes number passed → number < 100 ^ 9
  unpacking-below u =
      let rest : List ℕ = drop (length bytes - passed) bytes in
      let below : unpacked rest < 100 ^ length rest = unpacked-below rest (decimal-drop (length bytes - passed) bytes u.decimal) in
      let few : length rest ≤ 9 = rw length-drop (omega (arith, u.few)) in
      omega (arith, u.so_far, pow-le-pow_right {n = 100} (omega arith) few)
