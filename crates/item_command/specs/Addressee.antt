-- Whom a frame with a command is for: document 01's check 4, as a test and in words.
use Rattle.std.specs.Prelude.{ℕ, ◌≡◌, List, Bool, ◌||◌, replicate}
use Rattle.item_address.specs.Address.{wildcards, short_matches, ShortFor}
use Rattle.item_same.specs.Same.{same}
use Rattle.item_command.specs.declared.Command.{Command}
use Rattle.item_command.specs.declared.Command.TheVariants.{ReadData, ReadAddress, WriteData, WriteAddress, ChangePassword}
use Rattle.item_command.specs.declared.Addressee.{Addressee}
use Rattle.item_command.specs.declared.Addressee.TheVariants.{Own, Wildcards, OwnOrShort}

-- 14 and 18: equal to the meter's address. 13 and 15: six AA. 11: equal, or a short address that matches.
abbrev pub addressee_of : Command → Addressee
addressee_of ReadData = OwnOrShort
addressee_of ReadAddress = Wildcards
addressee_of WriteData = Own
addressee_of WriteAddress = Wildcards
addressee_of ChangePassword = Own

-- The address field of a frame names the meter of this address.
unfoldable pub names_meter : Addressee → List ℕ → List ℕ → Bool
names_meter Own address own = same address own
names_meter Wildcards address own = same address wildcards
names_meter OwnOrShort address own = same address own || short_matches address own

-- A frame with this command and address is for the meter of this address.
unfoldable pub addressed : Command → List ℕ → List ℕ → Bool
addressed command address own = names_meter (addressee_of command) address own

-- An address of a read by 11: the meter's own, or a short one that matches it.
pub data ReadFor (address own : List ℕ) : Type 0 where
  exact : address ≡ own → ReadFor address own
  short : ShortFor address own → ReadFor address own

-- Document 01's check 4 in words.
abbrev pub IsFor : Command → List ℕ → List ℕ → Type 0
IsFor ReadData address own = ReadFor address own
IsFor ReadAddress address own = address ≡ replicate 6 0xAA
IsFor WriteData address own = address ≡ own
IsFor WriteAddress address own = address ≡ replicate 6 0xAA
IsFor ChangePassword address own = address ≡ own
