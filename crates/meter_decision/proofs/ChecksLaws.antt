-- Laws of the code's checks, and of document 01's checks as the code goes through them.
use Rattle.meter_decision.specs.declared.request.PasswordRequest.{PasswordRequest}
use Rattle.meter_decision.specs.declared.request.WriteRequest.{WriteRequest}
use Rattle.laws.specs.ResultLaws.{some_same}
use Rattle.std.specs.Prelude.{ℕ, ◌≤◌, ◌≡◌, refl, List, Bool, true, false, length, drop, eqb, Some, None}
use Rattle.std.proofs.Math.Bool.{and-eq-true_iff}
use Rattle.std.proofs.Common.{leb-true, ap}
use Rattle.laws.specs.TestLaws.{picked_first, picked_second}
use Rattle.laws.specs.ChecksLaws.{Left}
use Rattle.item_range.specs.Range.{within}
use Rattle.item_range.proofs.RangeLaws.{within-iff}
use Rattle.item_identifier.specs.Identifier.{identifier_of}
use Rattle.item_command.specs.declared.Command.{Command}
use Rattle.meter_decision.specs.Request.{level_of, new_level_of}
use Rattle.meter_decision.specs.Decision.{names_password, checks_of, failing, accepted, decided}
use Rattle.meter_decision.specs.Checks.{check_of, read_request, write_request, password_request}
use Rattle.meter_decision.specs.declared.request.Tested.TheVariants.{Holds, Fails}

-- What a check of the code says of its test.
pub check_true : (t : Bool) → check_of t ≡ Holds → t ≡ true
check_true true h = refl
check_true false h = cc

pub check_false : (t : Bool) → check_of t ≡ Fails → t ≡ false
check_false true h = cc
check_false false h = refl

-- The first `k` checks of a command hold.
abbrev pub Passed : Command → List ℕ → Bool → List ℕ → ℕ → Type 0
Passed command payload key passwords k =
    Left failing (decided command payload key passwords) (accepted command payload) (drop k (checks_of command payload key passwords))

-- What the parsed data of 11, of 14 and of 18 say, and what a wrong length says.
module _ (payload : List ℕ) where
  pub read-parsed : {identifier : ℕ} → read_request payload ≡ Some identifier
      → (eqb (length payload) 4 ≡ true) × (identifier_of payload ≡ identifier)
  unfolding read_request
  read-parsed h = let p = picked_first (eqb (length payload) 4) (λ e. cc) h in (p.0, cc)

  pub read-wrong : read_request payload ≡ None → eqb (length payload) 4 ≡ false
  unfolding read_request
  read-wrong h = picked_second (eqb (length payload) 4) (λ e. cc) h

  pub write_parsed : {identifier level : ℕ} → write_request payload ≡ Some (record { identifier = identifier; level = level })
      → (within 12 50 (length payload) ≡ true) × (12 ≤ length payload) × (identifier_of payload ≡ identifier) × (level_of payload ≡ level)
  unfolding write_request
  write_parsed h =
      let p = picked_first (within 12 50 (length payload)) (λ e. cc) h in
      let same = some_same p.1 in
      (p.0, ((within-iff 12 50 _).0 p.0).0, ap (λ (r : WriteRequest). r.identifier) same, ap (λ (r : WriteRequest). r.level) same)

  pub write_wrong : write_request payload ≡ None → within 12 50 (length payload) ≡ false
  unfolding write_request
  write_wrong h = picked_second (within 12 50 (length payload)) (λ e. cc) h

  pub password-parsed : {identifier old new : ℕ} → password_request payload ≡ Some (record { identifier = identifier; old = old; new = new })
      → (eqb (length payload) 12 ≡ true) × (identifier_of payload ≡ identifier) × (level_of payload ≡ old) × (new_level_of payload ≡ new)
  unfolding password_request
  password-parsed h =
      let p = picked_first (eqb (length payload) 12) (λ e. cc) h in
      let same = some_same p.1 in (
        p.0,
        ap (λ (r : PasswordRequest). r.identifier) same,
        ap (λ (r : PasswordRequest). r.old) same,
        ap (λ (r : PasswordRequest). r.new) same,
      )

  pub password-wrong : password_request payload ≡ None → eqb (length payload) 12 ≡ false
  unfolding password_request
  password-wrong h = picked_second (eqb (length payload) 12) (λ e. cc) h

-- A password's identifier has a level up to 9.
pub named-level : (identifier new : ℕ) → names_password identifier new ≡ true → new ≤ 9
unfolding names_password
named-level identifier new h = leb-true _ _ ((and-eq-true_iff _ _).0 h).0
