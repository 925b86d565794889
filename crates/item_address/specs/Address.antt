-- Communication addresses: six bytes, low byte first, twelve decimal digits. Document 01's good address; a short address, whose
-- higher bytes are the wildcard byte AA; and which meters a short address is meant for.
use Rattle.std.specs.Prelude.{ℕ, ◌+◌, ◌-◌, ◌≤◌, ◌≡◌, List, [], ◌∷◌, Bool, ◌&&◌, not, take, drop, replicate, eqb}
use Rattle.laws.specs.Test.{pick}
use Rattle.item_range.specs.Range.{within}
use Rattle.item_decimal.specs.Decimal.{Decimal, all_decimal}
use Rattle.item_same.specs.Same.{same}

-- The broadcast address 999999999999, and six wildcard bytes.
abbrev pub broadcast : List ℕ
broadcast = replicate 6 0x99

abbrev pub wildcards : List ℕ
wildcards = replicate 6 0xAA

-- Good: decimal and not 999999999999.
pub record Good (address : List ℕ) : Type 0 where
  pub decimal : Decimal address
  pub no_broadcast : address ≡ replicate 6 0x99 → ⊥

unfoldable pub is_good : List ℕ → Bool
is_good address = all_decimal address && not (same address broadcast)

-- How many low bytes stand before the wildcard bytes at the end.
unfoldable pub low_bytes : List ℕ → ℕ
low_bytes [] = 0
low_bytes (b ∷ bs) = pick (eqb (low_bytes bs) 0) (pick (eqb b 0xAA) 0 1) (low_bytes bs + 1)

-- One to five low bytes, and wildcard bytes above them.
unfoldable pub has_short_form : List ℕ → Bool
has_short_form address = within 1 5 (low_bytes address)

-- A short address as the reader's end sends it: with decimal low bytes.
unfoldable pub is_short : List ℕ → Bool
is_short address = has_short_form address && all_decimal (take (low_bytes address) address)

-- Document 01's words: 1 to 5 decimal low bytes and AA above.
pub record ShortAddress (address : List ℕ) : Type 0 where
  pub k : ℕ
  pub some : 1 ≤ k
  pub most : k ≤ 5
  pub lowest : Decimal (take k address)
  pub higher : drop k address ≡ replicate (6 - k) 0xAA

-- A short address is meant for a meter whose low bytes are the same.
unfoldable pub short_matches : List ℕ → List ℕ → Bool
short_matches address own = has_short_form address && same (take (low_bytes address) address) (take (low_bytes address) own)

-- Document 01's words: the lowest k bytes equal, with k from 1 to 5, and all higher bytes AA.
pub record ShortFor (address own : List ℕ) : Type 0 where
  pub k : ℕ
  pub some : 1 ≤ k
  pub most : k ≤ 5
  pub lowest : take k address ≡ take k own
  pub higher : drop k address ≡ replicate (6 - k) 0xAA
