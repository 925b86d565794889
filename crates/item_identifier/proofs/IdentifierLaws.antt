-- Laws of a data identifier in bytes: it is read back from its four bytes.
use Rattle.std.specs.Prelude.{ℕ, ◌+◌, ◌*◌, ◌/◌, ◌%◌, ◌≤◌, ◌<◌, ◌≡◌, refl, ◌↔◌, List, [], ◌∷◌, ◌++◌, length, get_or, take}
use Rattle.std.proofs.Math.Nat.{div-div-eq-div-mul}
use Rattle.std.proofs.Common.{arith, get_or-take}
use Rattle.laws.specs.Memory.{Bytes}
use Rattle.item_identifier.specs.Identifier.{identifier_of, identifier_bytes}

-- The identifier that stands in four bytes at the front of the data.
pub identifier-back : (identifier : ℕ) (more : List ℕ) → identifier < 4294967296 → identifier_of (identifier_bytes identifier ++ more) ≡ identifier
unfolding identifier_of identifier_bytes
identifier-back identifier more below =
    let first : identifier % 256 + 256 * (identifier / 256) ≡ identifier = omega arith in
    let second : identifier / 256 % 256 + 256 * (identifier / 65536) ≡ identifier / 256 = omega (arith, div-div-eq-div-mul identifier 256 256) in
    let third : identifier / 65536 % 256 + 256 * (identifier / 16777216) ≡ identifier / 65536 = omega (arith, div-div-eq-div-mul identifier 65536 256) in
    let highest : identifier / 16777216 < 256 = omega arith in
    let fourth : identifier / 16777216 % 256 ≡ identifier / 16777216 = omega arith in
    omega arith

-- An identifier's four bytes are bytes.
pub identifier_are_bytes : (identifier : ℕ) → Bytes (identifier_bytes identifier)
unfolding identifier_bytes
identifier_are_bytes identifier = omega arith

-- An identifier has four bytes.
pub identifier-four : (identifier : ℕ) → length (identifier_bytes identifier) ≡ 4
unfolding identifier_bytes
identifier-four identifier = refl

-- The identifier stands in the first four bytes.
pub identifier-take : (bytes : List ℕ) → identifier_of (take 4 bytes) ≡ identifier_of bytes
unfolding identifier_of
identifier-take bytes = rw (at 0 (omega arith), at 1 (omega arith), at 2 (omega arith), at 3 (omega arith))
  where
    at : (i : ℕ) → i < 4 → get_or (take 4 bytes) i 0 ≡ get_or bytes i 0
    at i h = get_or-take 4 bytes i 0 h

-- It is that of the first four bytes by themselves.
pub identifier-front : (bytes : List ℕ) → identifier_of (get_or bytes 0 0 ∷ get_or bytes 1 0 ∷ get_or bytes 2 0 ∷ get_or bytes 3 0 ∷ []) ≡ identifier_of bytes
unfolding identifier_of
identifier-front bytes = refl

-- Bytes begin with DI0, DI1, DI2 and DI3, in this order, exactly where their identifier is the number whose highest byte is DI3.
pub identifier-iff : (bytes : List ℕ) → Bytes bytes → 4 ≤ length bytes → (di0 di1 di2 di3 : ℕ) → Bytes (di0 ∷ di1 ∷ di2 ∷ di3 ∷ [])
    → (identifier_of bytes ≡ 0x1000000 * di3 + 0x10000 * di2 + 0x100 * di1 + di0) ↔ (take 4 bytes ≡ di0 ∷ di1 ∷ di2 ∷ di3 ∷ [])
unfolding identifier_of
identifier-iff [] bytes four di0 di1 di2 di3 dis = absurd (omega arith)
identifier-iff (a ∷ []) bytes four di0 di1 di2 di3 dis = absurd (omega arith)
identifier-iff (a ∷ b ∷ []) bytes four di0 di1 di2 di3 dis = absurd (omega arith)
identifier-iff (a ∷ b ∷ c ∷ []) bytes four di0 di1 di2 di3 dis = absurd (omega arith)
identifier-iff (a ∷ b ∷ c ∷ d ∷ more) bytes four di0 di1 di2 di3 dis = (apart, λ e. together (cc e) (cc e) (cc e) (cc e))
  where
    apart : a + (256 * b + (65536 * c + 16777216 * d)) ≡ 0x1000000 * di3 + 0x10000 * di2 + 0x100 * di1 + di0 → a ∷ b ∷ c ∷ d ∷ [] ≡ di0 ∷ di1 ∷ di2 ∷ di3 ∷ []
    apart e =
        let highest : d ≡ di3 = omega arith in
        let third : c ≡ di2 = omega arith in
        let second : b ≡ di1 = omega arith in
        let first : a ≡ di0 = omega arith in
        cc

    together : a ≡ di0 → b ≡ di1 → c ≡ di2 → d ≡ di3
        → a + (256 * b + (65536 * c + 16777216 * d)) ≡ 0x1000000 * di3 + 0x10000 * di2 + 0x100 * di1 + di0
    together p q r s = omega arith
