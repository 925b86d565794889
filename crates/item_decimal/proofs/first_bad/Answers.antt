-- What `position` says of the bytes makes a walk over them that stops at the first bad one.
use Rattle.std.specs.Prelude.{ℕ, ◌≡◌, refl, Option, Some, None}
use Rattle.std.proofs.Common.{rules}
use Rattle.item_decimal.specs.Decimal.{first_bad}
use Rattle.item_decimal.proofs.DecimalLaws.{stopped, walked-through}
use Rattle.item_decimal.proofs.first_bad.Goals as goal
use Rattle.item_decimal.proofs.first_bad.Goals.{After-position}

found : (c : After-position) (r : Option ℕ) → c.position.result ≡ r → r ≡ first_bad c.args.bytes.now
found c (Some i) e = stopped _ _ (search rules) (λ k h. search rules) (search rules)
found c None e = walked-through _ (λ k h. search rules)

pub returns : goal.returns
returns c = found c _ refl
