-- The parts of a command's data, and the item that they ask for.
use Rattle.std.specs.Prelude.{ℕ, List, get_or, drop, Option}
use Rattle.item.specs.declared.table.Item.{Item}
use Rattle.laws.specs.Part.{part}
use Rattle.item_identifier.specs.Identifier.{identifier_of}
use Rattle.item.specs.Table.{item_of}

-- What the table has for the identifier.
unfoldable pub item_asked : List ℕ → Option Item
item_asked payload = item_of (identifier_of payload)

-- Data of 14: identifier, level, password, operator code, value. Of 18: identifier, old level and password, new level and password.
unfoldable pub level_of : List ℕ → ℕ
level_of payload = get_or payload 4 0

unfoldable pub password_of : List ℕ → List ℕ
password_of payload = part 5 3 payload

unfoldable pub operator_of : List ℕ → List ℕ
operator_of payload = part 8 4 payload

unfoldable pub written_value : List ℕ → List ℕ
written_value payload = drop 12 payload

unfoldable pub new_level_of : List ℕ → ℕ
new_level_of payload = get_or payload 8 0

unfoldable pub new_password_of : List ℕ → List ℕ
new_password_of payload = part 9 3 payload
