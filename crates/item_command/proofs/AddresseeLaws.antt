-- The test of check 4 says what document 01 says in words.
use Rattle.std.specs.Prelude.{ℕ, ◌≡◌, List, Bool, ◌||◌, ◌↔◌, length}
use Rattle.std.proofs.Math.Path.{refl}
use Rattle.std.proofs.Math.Bool.{true, false, or-true}
use Rattle.item_decimal.specs.Decimal.{Decimal}
use Rattle.item_address.specs.Address.{wildcards, short_matches}
use Rattle.item_address.proofs.AddressLaws.{short-for, for-short}
use Rattle.item_same.specs.Same.{same}
use Rattle.item_same.specs.SameLaws.{same-equal, equal-same}
use Rattle.item_command.specs.Addressee.{names_meter, addressed, ReadFor, exact, short, IsFor}
use Rattle.item_command.specs.declared.Command.{Command}
use Rattle.item_command.specs.declared.Command.TheVariants.{ReadData, ReadAddress, WriteData, WriteAddress, ChangePassword}
use Rattle.item_command.specs.declared.Addressee.TheVariants.{OwnOrShort}

-- Two addresses of six bytes, the meter's decimal.
module _ (address own : List ℕ) (six : length address ≡ 6) (own-six : length own ≡ 6) (decimal : Decimal own) where
  same-iff : (other : List ℕ) → (same address other ≡ true) ↔ (address ≡ other)
  same-iff other = (same-equal address other, equal-same address other)

  read-iff : (names_meter OwnOrShort address own ≡ true) ↔ ReadFor address own
  unfolding names_meter
  read-iff = (go (same address own) refl, back)
    where
      go : (t : Bool) → same address own ≡ t → (t || short_matches address own) ≡ true → ReadFor address own
      go true e h = exact (same-equal address own e)
      go false e h = short (short-for address own six h)

      back : ReadFor address own → (same address own || short_matches address own) ≡ true
      back (exact e) = rw (equal-same address own e)
      back (short s) = rw (for-short address own six own-six decimal s) (or-true (same address own))

  -- A frame is for the meter exactly where check 4 says so.
  pub for-iff : (command : Command) → (addressed command address own ≡ true) ↔ IsFor command address own
  unfolding addressed names_meter
  for-iff ReadData = read-iff
  for-iff ReadAddress = same-iff wildcards
  for-iff WriteData = same-iff own
  for-iff WriteAddress = same-iff wildcards
  for-iff ChangePassword = same-iff own
