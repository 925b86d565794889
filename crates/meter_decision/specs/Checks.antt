-- What each check of the code yields, by what document 01's checks say.
use Rattle.std.specs.Prelude.{ℕ, List, Bool, true, false, length, eqb, Option, Some, None}
use Rattle.laws.specs.Test.{pick}
use Rattle.item_range.specs.Range.{within}
use Rattle.meter_decision.specs.Request.{level_of, new_level_of}
use Rattle.item_identifier.specs.Identifier.{identifier_of}
use Rattle.meter_decision.specs.declared.request.Tested.{Tested}
use Rattle.meter_decision.specs.declared.request.Tested.TheVariants.{Holds, Fails}
use Rattle.meter_decision.specs.declared.request.WriteRequest.{WriteRequest}
use Rattle.meter_decision.specs.declared.request.PasswordRequest.{PasswordRequest}

-- A check that parses nothing.
abbrev pub check_of : Bool → Tested
check_of true = Holds
check_of false = Fails

-- The data of 11, of 14 and of 18, where their length is right.
unfoldable pub read_request : List ℕ → Option ℕ
read_request payload = pick (eqb (length payload) 4) (Some (identifier_of payload)) None

unfoldable pub write_request : List ℕ → Option WriteRequest
write_request payload =
    pick (within 12 50 (length payload)) (Some (record { identifier = identifier_of payload; level = level_of payload })) None

unfoldable pub password_request : List ℕ → Option PasswordRequest
password_request payload =
    pick (eqb (length payload) 12) (Some (record { identifier = identifier_of payload; old = level_of payload; new = new_level_of payload })) None
