-- Document 01, "The reader's end": which requests are allowed, by their parts. Anything else is refusal 5.
use Rattle.std.specs.Prelude.{ℕ, List, [], ◌∷◌, Bool, true, false, ◌||◌, take, leb, eqb, Err, None, Ok, Option, Result, Some}
use Rattle.item.specs.declared.content.ContentError.{ContentError}
use Rattle.item.specs.declared.content.ContentError.TheVariants.{NotDecimal, NotWritable, OutOfRange, WrongLength}
use Rattle.laws.specs.Checks.{Check, check, first_failing}
use Rattle.item_address.specs.Address.{is_good, is_short}
use Rattle.item.specs.Content.{content_of}
use Rattle.item.specs.Table.{item_of}
use Rattle.item.specs.declared.table.Item.{Item}
use Rattle.reader_judgement.specs.declared.Action.{Action}
use Rattle.reader_judgement.specs.declared.Action.TheVariants.{ReadData, ReadAddress, WriteData}
use Rattle.reader_allowed.specs.declared.Cause.{Cause}
use Rattle.reader_allowed.specs.declared.Cause.TheVariants as cause

-- The most bytes of a value that is written.
abbrev pub most_value : ℕ
most_value = 38

-- What is asked of a listed item; nothing else is listed.
abbrev pub of_item : Option Item → (Item → List (Check Cause)) → List (Check Cause)
of_item (Some item) conditions = conditions item
of_item None conditions = check false cause.NotListed ∷ []

-- A read may go to a good address, or to a short one with 1 to 5 decimal low bytes and AA above.
unfoldable pub address_allowed : List ℕ → Bool
address_allowed address = is_good address || is_short address

-- What is asked of a value's content: that it is allowed.
unfoldable pub content_checks : Result Unit ContentError → List (Check Cause)
content_checks (Ok tt) = []
content_checks (Err NotWritable) = check false cause.NotWritable ∷ []
content_checks (Err WrongLength) = check false cause.Length ∷ []
content_checks (Err (NotDecimal i)) = check false cause.NotDecimal ∷ []
content_checks (Err OutOfRange) = check false cause.OutOfRange ∷ []

-- A write of a listed item: only of a writable one, level 00..09, length and content as the meter checks them. The value to be written is
-- the first of the bytes, as many as are counted.
unfoldable pub value_conditions : ℕ → List ℕ → ℕ → Item → List (Check Cause)
value_conditions level value count item =
    check item.writable cause.NotWritable
    ∷ check (leb level 9) cause.Level
    ∷ check (leb count most_value) cause.Length
    ∷ check (eqb count item.length) cause.Length
    ∷ content_checks (content_of item (take count value))

-- The conditions of each action, in their order, each with the cause of the refusal where it does not hold. Read address has none.
unfoldable pub conditions_of : Action → List ℕ → ℕ → ℕ → List ℕ → ℕ → List (Check Cause)
conditions_of ReadData address identifier level value count =
    check (address_allowed address) cause.Address
    ∷ of_item (item_of identifier) (λ item. [])
conditions_of ReadAddress address identifier level value count = []
conditions_of WriteData address identifier level value count =
    check (is_good address) cause.Address
    ∷ of_item (item_of identifier) (value_conditions level value count)

-- The first condition that does not hold refuses.
unfoldable pub admission : Action → List ℕ → ℕ → ℕ → List ℕ → ℕ → Result Unit Cause
admission action address identifier level value count =
    first_failing Err (conditions_of action address identifier level value count) (Ok tt)

abbrev pub is_admitted : Result Unit Cause → Bool
is_admitted (Ok tt) = true
is_admitted (Err cause) = false
