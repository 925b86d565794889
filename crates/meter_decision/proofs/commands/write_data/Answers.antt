-- The data are long enough for what is read of them, and a content that is not allowed is the last check, which answers.
use Rattle.std.proofs.Common.{◌≡◌, ℕ, ◌-◌, Bool, true, false, List, length, take, drop, eqb, refl, sym, ap, ◌∙◌, arith}
use Rattle.std.specs.Prelude.{Err, Ok, Result, Some}
use Rattle.item.specs.declared.content.ContentError.{ContentError}
use Rattle.item.specs.declared.content.ContentError.TheVariants.{NotDecimal, NotWritable, OutOfRange, WrongLength}
use borrow.Rule.Slice.PartAt.{part_to_end}
use Rattle.laws.specs.Checks.{first_failing}
use Rattle.item_command.specs.declared.Command.TheVariants.{WriteData}
use Rattle.item_range.specs.Range.{within}
use Rattle.item.specs.Content.{content_of, content_is_allowed}
use Rattle.item.specs.Table.{item_of}
use Rattle.item.specs.declared.table.Item.{Item}
use Rattle.meter_decision.specs.Request.{item_asked, level_of, password_of, written_value}
use Rattle.meter_decision.specs.Decision.{authorised, checks_of, decided}
use Rattle.meter_decision.proofs.ChecksLaws.{check_true, write_parsed}
use Rattle.meter_decision.specs.declared.Decision.TheVariants.{Error}
use Rattle.meter_decision.proofs.commands.write_data.Goals as goal

pub slice_bounds-authority-end : goal.slice_bounds-authority-end
slice_bounds-authority-end c = omega (arith, (write_parsed _ (sym c.in-Some.ensures)).1)

pub slice_bounds-value-count : goal.slice_bounds-value-count
slice_bounds-value-count c = omega (arith, (write_parsed _ (sym c.in-Some.ensures)).1)

pub slice_bounds-value-start : goal.slice_bounds-value-start
slice_bounds-value-start c = omega (arith, (write_parsed _ (sym c.in-Some.ensures)).1)

not_allowed : (content : Result Unit ContentError) → (content ≡ Ok tt → ⊥) → content_is_allowed content ≡ false
not_allowed (Ok tt) h = absurd (h refl)
not_allowed (Err NotWritable) h = refl
not_allowed (Err WrongLength) h = refl
not_allowed (Err (NotDecimal i)) h = refl
not_allowed (Err OutOfRange) h = refl

-- where every other check holds, a content that is not allowed answers with 01
content_fails : (payload : List ℕ) (key : Bool) (passwords : List ℕ) (item : Item) → within 12 50 (length payload) ≡ true
    → item_asked payload ≡ Some item → item.writable ≡ true → key ≡ true → authorised 4 (level_of payload) (password_of payload) passwords ≡ true
    → eqb (length (written_value payload)) item.length ≡ true → content_is_allowed (content_of item (written_value payload)) ≡ false
    → Error 1 ≡ decided WriteData payload key passwords
unfolding decided checks_of first_failing
content_fails payload key passwords item long listed writable on right as_long refused = rw (long, listed, refused, writable, on, right, as_long)

pub returns-in_default-content_of : goal.returns-in_default-content_of
unfolding item_asked password_of written_value
returns-in_default-content_of c =
    let payload : List ℕ = c.args.payload.now in
    let item : Item = c.in-Some-item_of.item in
    let parsed = write_parsed payload (sym c.in-Some.ensures) in
    let value : take (length payload - 12) (drop 12 payload) ≡ drop 12 payload = part_to_end payload 12 in
    content_fails payload _ _ item parsed.0 (ap item_of parsed.2 ∙ sym c.in-Some-item_of.ensures)
    (check_true _ (sym c.in-Holds.ensures))
    (check_true _ (sym c.in-Holds-check_of.ensures))
    (rw parsed.3 (check_true _ (sym c.in-Holds-authority.ensures)))
    (rw (← value) (check_true _ (sym c.in-Holds-check_of-2.ensures)))
    (rw (← value) (ap content_is_allowed (sym c.content_of.ensures) ∙ not_allowed _ (c.in_default-content_of.not-Ok tt)))
