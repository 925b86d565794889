-- What a decision says where a lookup or a value's content fails a check: what the papers say of that lookup or content.
use Rattle.std.specs.Prelude.{ℕ, ◌≤◌, ◌≡◌, List, Bool, length, eqb, Err, None, Ok, Option, Some}
use Rattle.item.specs.declared.content.ContentError.TheVariants.{WrongLength}
use Rattle.std.proofs.Math.Path.{refl}
use Rattle.std.proofs.Math.Bool.{true, false}
use Rattle.std.proofs.Common.{eq-eqb}
use Rattle.laws.specs.Checks.{first_failing}
use Rattle.laws.specs.Test.{pick}
use Rattle.item_command.specs.declared.Command.TheVariants.{ReadData, WriteData}
use Rattle.item_range.proofs.RangeLaws.{within-iff}
use Rattle.item_decimal.specs.Decimal.{first_bad}
use Rattle.item.specs.Content.{in_range, after_scan, content_of, content_is_allowed}
use Rattle.item.specs.Said.{lookup_said, content_said}
use Rattle.meter_decision.specs.Request.{item_asked, written_value}
use Rattle.meter_decision.specs.Decision.{checks_of, accepted, decided}
use Rattle.meter_decision.specs.DecisionWords.{NamesItem, RightPassword}
use Rattle.meter_decision.proofs.DecisionWordsLaws.{right-password}
use Rattle.meter_decision.specs.Said.{decision_said}
use Rattle.meter_decision.specs.declared.Decision.TheVariants.{Error}

module _ (payload : List ℕ) (key : Bool) (passwords : List ℕ) where
  -- Where the lengths hold, an identifier that is not in the table is answered as the lookup says: of 11, and of 14.
  pub not-listed-says : length payload ≡ 4 → item_asked payload ≡ None
      → decision_said (decided ReadData payload key passwords) ≡ lookup_said (item_asked payload)
  unfolding decided checks_of first_failing
  not-listed-says four none = rw (eq-eqb _ _ four, none)

  pub write_not_listed_says : (12 ≤ length payload) × (length payload ≤ 50) → item_asked payload ≡ None
      → decision_said (decided WriteData payload key passwords) ≡ lookup_said (item_asked payload)
  unfolding decided checks_of first_failing
  write_not_listed_says lengths none = rw ((within-iff 12 50 _).1 lengths, none)

  -- An item that is not writable is answered as the content says, whatever stands behind it in the order of checks.
  pub not-writable-says : (12 ≤ length payload) × (length payload ≤ 50) → (named : NamesItem payload) → named.0.writable ≡ false
      → decision_said (decided WriteData payload key passwords) ≡ content_said (content_of named.0 (written_value payload))
  unfolding decided checks_of first_failing item_asked content_of
  not-writable-says lengths named not-writable = rw ((within-iff 12 50 _).1 lengths, named.1, not-writable)

  -- Where every check before the value's holds, a content that is not allowed is answered as the content says.
  pub content-says : (12 ≤ length payload) × (length payload ≤ 50) → (named : NamesItem payload) → named.0.writable ≡ true → key ≡ true
      → RightPassword 4 payload passwords → (content_of named.0 (written_value payload) ≡ Ok tt → ⊥)
      → decision_said (decided WriteData payload key passwords) ≡ content_said (content_of named.0 (written_value payload))
  unfolding decided checks_of first_failing item_asked content_of
  content-says lengths named writable on right not-allowed =
      rw ((within-iff 12 50 _).1 lengths, named.1, writable, on, (right-password payload 4 passwords).1 right)
      (go (eqb (length (written_value payload)) named.0.length) (first_bad (written_value payload)) (in_range named.0.kind (written_value payload))
      (rw writable at not-allowed))
    where
      go : (long : Bool) (scan : Option ℕ) (ranges : Bool) → (pick long (after_scan scan ranges) (Err WrongLength) ≡ Ok tt → ⊥)
          → decision_said (pick long (pick (content_is_allowed (pick long (after_scan scan ranges) (Err WrongLength))) (accepted WriteData payload) (Error 0x01)) (Error 0x01))
          ≡ content_said (pick long (after_scan scan ranges) (Err WrongLength))
      go true None true none = absurd (none refl)
      go true None false none = refl
      go true (Some i) ranges none = refl
      go false scan ranges none = refl
