-- What is admitted meets every condition.
use Rattle.std.specs.Prelude.{◌≡◌, refl, List, true, Err, None, Ok, Option, Result, Some}
use Rattle.item.specs.declared.content.ContentError.{ContentError}
use Rattle.item.specs.declared.content.ContentError.TheVariants.{NotDecimal, NotWritable, OutOfRange, WrongLength}
use Rattle.std.proofs.lemmas.Bool.{false≢true}
use Rattle.laws.specs.Checks.{Check, first_failing}
use Rattle.laws.specs.ChecksLaws.{AllHold, pass_or_any}
use Rattle.item.specs.declared.table.Item.{Item}
use Rattle.reader_allowed.specs.Allowed.{of_item, content_checks, is_admitted}
use Rattle.reader_allowed.specs.declared.Cause.{Cause}

-- The conditions of the content hold only of what the content allows.
pub content-holds : (said : Result Unit ContentError) → AllHold (content_checks said) → said ≡ Ok tt
unfolding content_checks
content-holds (Ok tt) h = refl
content-holds (Err NotWritable) h = absurd (false≢true h.0)
content-holds (Err WrongLength) h = absurd (false≢true h.0)
content-holds (Err (NotDecimal i)) h = absurd (false≢true h.0)
content-holds (Err OutOfRange) h = absurd (false≢true h.0)

-- What is admitted meets every condition.
pub all_hold : (conditions : List (Check Cause)) → is_admitted (first_failing Err conditions (Ok tt)) ≡ true → AllHold conditions
all_hold conditions =
    pass_or_any Err (Ok tt) (λ admitted. is_admitted admitted ≡ true → AllHold conditions) conditions (λ all k. all) (λ c k. absurd (false≢true k))

-- Where the conditions of a listed item hold, there is one.
pub listed_hold : (lookup : Option Item) (conditions : Item → List (Check Cause)) → AllHold (of_item lookup conditions)
    → (item : Item) × (lookup ≡ Some item) × AllHold (conditions item)
listed_hold (Some item) conditions h = (item, refl, h)
listed_hold None conditions h = absurd (false≢true h.0)
