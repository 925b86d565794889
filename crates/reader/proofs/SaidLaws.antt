-- What the building of a request that is not allowed says: what the papers say of why it is not, which is 5 whatever the cause.
use Rattle.std.specs.Prelude.{ℕ, ◌≤◌, ◌≡◌, refl, List, false, length, Err, Ok, Result}
use Rattle.std.proofs.Common.{sym, true≢false, le-leb}
use Rattle.laws.specs.Said.{refusal}
use Rattle.reader_allowed.specs.Allowed.{is_admitted}
use Rattle.reader_allowed.specs.Said.{cause_said, admission_said}
use Rattle.reader_allowed.specs.declared.Cause.{Cause}
use Rattle.reader_allowed.specs.declared.Cause.TheVariants.{Address, NotListed, NotWritable, Level, Length, NotDecimal, OutOfRange}
use Rattle.reader.specs.Allowed.{admission, is_allowed}
use Rattle.reader.specs.Building.{built}
use Rattle.reader.proofs.Said.{built_said}
use Rattle.reader.specs.declared.Request.{Request}

-- Every cause is 5.
pub every_cause : (cause : Cause) → cause_said cause ≡ refusal 5
every_cause Address = refl
every_cause NotListed = refl
every_cause NotWritable = refl
every_cause Level = refl
every_cause Length = refl
every_cause NotDecimal = refl
every_cause OutOfRange = refl

-- In enough memory, a request that is not allowed is refused as its admission says.
pub build-says : (request : Request) (m : List ℕ) → 66 ≤ length m → is_allowed request ≡ false
    → built_said (built request m).answer ≡ admission_said (admission request)
unfolding built is_allowed
build-says request m room none = rw (le-leb 66 _ room, none) (go (admission request) none)
  where
    go : (admitted : Result Unit Cause) → is_admitted admitted ≡ false → refusal 5 ≡ admission_said admitted
    go (Ok tt) h = absurd (true≢false h)
    go (Err cause) h = sym (every_cause cause)
