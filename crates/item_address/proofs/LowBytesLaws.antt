-- Laws of the count of low bytes: the last byte that is no wildcard byte is the last of them.
use Rattle.std.specs.Prelude.{ℕ, zero, suc, ◌+◌, ◌<◌, ◌≡◌, refl, List, [], ◌∷◌, true, false, length, get_or, eqb}
use Rattle.std.proofs.Common.{ne_eqb, arith}
use Rattle.item_address.specs.Address.{low_bytes}

-- Of wildcard bytes alone none counts.
pub no_low_byte : (xs : List ℕ) → ((k : ℕ) → k < length xs → eqb (get_or xs k 0) 0xAA ≡ true) → low_bytes xs ≡ 0
unfolding low_bytes
no_low_byte [] wild = refl
no_low_byte (x ∷ xs) wild = rw (no_low_byte xs (λ k h. wild (suc k) (omega arith)), wild 0 (omega arith))

-- Up to the last byte that is none, all count.
pub last_low_byte : (xs : List ℕ) (i : ℕ) → i < length xs → eqb (get_or xs i 0) 0xAA ≡ false
    → ((k : ℕ) → i < k → k < length xs → eqb (get_or xs k 0) 0xAA ≡ true) → low_bytes xs ≡ i + 1
unfolding low_bytes
last_low_byte [] i h other wild = absurd (omega arith)
last_low_byte (x ∷ xs) zero h other wild = rw (no_low_byte xs (λ k l. wild (suc k) (omega arith) (omega arith)), other)
last_low_byte (x ∷ xs) (suc i) h other wild =
    let some : i + 1 ≡ 0 → ⊥ = λ e. omega arith in
    rw (last_low_byte xs i (omega arith) other (λ k l m. wild (suc k) (omega arith) (omega arith)), ne_eqb (i + 1) 0 some) (omega arith)
