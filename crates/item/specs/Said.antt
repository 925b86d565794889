-- What the papers say of a lookup and of a value's content: the error bytes with which the meter's checks fail.
use Rattle.std.specs.Prelude.{[], ◌∷◌, Err, None, Ok, Option, Result, Some}
use Rattle.item.specs.declared.content.ContentError.{ContentError}
use Rattle.item.specs.declared.content.ContentError.TheVariants.{NotDecimal, NotWritable, OutOfRange, WrongLength}
use Rattle.item.specs.declared.table.Item.{Item}
use Rattle.laws.specs.Said.{Said, values, error_byte}
use Rattle.item_command.specs.Reply.{other_error, no_such_data, not_authorised}

-- Identifier in table (02).
abbrev pub lookup_said : Option Item → Said
lookup_said (Some item) = values (item.length ∷ [])
lookup_said None = error_byte no_such_data

-- Writable (04); data length (01); content (01).
abbrev pub content_said : Result Unit ContentError → Said
content_said (Ok tt) = values []
content_said (Err NotWritable) = error_byte not_authorised
content_said (Err WrongLength) = error_byte other_error
content_said (Err (NotDecimal i)) = error_byte other_error
content_said (Err OutOfRange) = error_byte other_error
