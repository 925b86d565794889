-- An accepted 15 sets the address and nothing else, an accepted 18 one password and nothing else; what is not accepted moves nothing.
use Prim.Native.Nat.{ℕ, ◌+◌, ◌*◌, ◌≤◌}
use Rattle.std.specs.Prelude.{◌≡◌, List, [], ◌∷◌, Bool, length, leb}
use Rattle.std.proofs.Math.Path.{refl}
use Rattle.std.proofs.Common.{sym, subst, ◌∙◌, arith, leb-true, leb-false}
use Rattle.std.proofs.Math.Bool.{true, false, true≢false}
use Rattle.laws.specs.PartLaws.{part_length, Apart, before, behind, put_back, put-apart}
use Rattle.frame.specs.Frame.{control_of, data_of}
use Rattle.item_command.proofs.CommandLaws.{same-control}
use Rattle.item_command.proofs.ControlWords.{control_figure, normal-only}
use Rattle.item_command.specs.declared.Command.{Command}
use Rattle.item_command.specs.declared.Command.TheVariants.{ReadData, ReadAddress, WriteData, WriteAddress, ChangePassword}
use Rattle.energy.specs.Energies.{Rows}
use Rattle.meter_decision.specs.Decision.{password_at}
use Rattle.meter_decision.specs.Request.{item_asked, written_value, new_level_of, new_password_of}
use Rattle.meter.specs.Meter.{MeterSized, AllKept, untouched}
use Rattle.meter.proofs.MeterLaws.{untouched-keeps, untouched-sized}
use Rattle.meter.proofs.MeterAfterLaws.{only_registers_of, sized-after, address_kept}
use Rattle.meter.specs.Answer.{reply_data, meter_after, delivered}
use Rattle.meter.proofs.AnswerLaws.{Answers, refuses, errs, carries, answers, not-replied, reply-control}
use Rattle.meter.proofs.FrameTerms.{EveryCheckHolds, AddressSet, PasswordSet, AsItWas, NotAccepted}
use Rattle.meter.proofs.PutToLaws.{put_to, holds_row, normally}
use Rattle.meter.specs.declared.Meter.{Meter}

-- Only 14 changes registers and the operator code, and only 18 a password.
registers-kept : (command : Command) (payload : List ℕ) (m : Meter) → (command ≡ WriteData → ⊥)
    → ((meter_after command payload m).registers ≡ m.registers) × ((meter_after command payload m).operator ≡ m.operator)
unfolding meter_after
registers-kept ReadData payload m other = ((untouched-keeps m).registers, (untouched-keeps m).operator)
registers-kept ReadAddress payload m other = ((untouched-keeps m).registers, (untouched-keeps m).operator)
registers-kept WriteData payload m other = absurd (other refl)
registers-kept WriteAddress payload m other = (refl, refl)
registers-kept ChangePassword payload m other = (refl, refl)

passwords-kept : (command : Command) (payload : List ℕ) (m : Meter) → (command ≡ ChangePassword → ⊥) → (meter_after command payload m).passwords ≡ m.passwords
unfolding meter_after
passwords-kept ReadData payload m other = (untouched-keeps m).passwords
passwords-kept ReadAddress payload m other = (untouched-keeps m).passwords
passwords-kept WriteData payload m other = rw (only_registers_of (item_asked payload) (written_value payload) m)
passwords-kept WriteAddress payload m other = refl
passwords-kept ChangePassword payload m other = absurd (other refl)

module _ (bytes : List ℕ) (m : Meter) (forward reverse : Rows) (memory : List ℕ) (sized : MeterSized m) where
  pub accepted-address : EveryCheckHolds bytes m forward reverse memory WriteAddress → AddressSet bytes m forward reverse memory
  unfolding reply_data meter_after
  accepted-address w =
      record {
        after = meter_after WriteAddress (data_of bytes) m;
        answer = normally bytes m forward reverse memory sized WriteAddress w (data_of bytes) refl;
        address = refl;
        key = refl;
        passwords = refl;
        operator = refl;
        registers = refl;
      }

  pub accepted-password : EveryCheckHolds bytes m forward reverse memory ChangePassword → PasswordSet bytes m forward reverse memory
  unfolding reply_data meter_after password_at new_password_of
  accepted-password w =
      record {
        after = meter_after ChangePassword (data_of bytes) m;
        answer = normally bytes m forward reverse memory sized ChangePassword w m.address refl;
        held = put_back (3 * new) another m.passwords 3 (omega arith) three;
        others = λ level most differ. put-apart (3 * new) another m.passwords (3 * level) 3 (omega arith) (apart level differ);
        address = refl;
        key = refl;
        operator = refl;
        registers = refl;
      }
    where
      new : ℕ
      new = new_level_of (data_of bytes)

      another : List ℕ
      another = new_password_of (data_of bytes)

      most : new ≤ 9
      most = w.row.1.0.0

      size : length m.passwords ≡ 30
      size = sized.passwords

      three : length another ≡ 3
      three = part_length 9 3 (data_of bytes) (omega (arith, w.row.0))

      apart : (level : ℕ) → (level ≡ new → ⊥) → Apart (3 * new) (length another) (3 * level) 3
      apart level differ = go (leb (level + 1) new) refl
        where
          go : (t : Bool) → leb (level + 1) new ≡ t → Apart (3 * new) (length another) (3 * level) 3
          go true e = before (omega (arith, leb-true (level + 1) new e))
          go false e = behind (omega (arith, three, leb-false (level + 1) new e, differ))

  -- What a command that is not carried out would change is as it was, and so it is after another command.
  kept_as_it_was : (command : Command) (after : Meter) → AllKept m after → AsItWas bytes m forward reverse memory command after
  kept_as_it_was ReadData after k = tt
  kept_as_it_was ReadAddress after k = tt
  kept_as_it_was WriteData after k = (k.registers, k.operator)
  kept_as_it_was WriteAddress after k = k.address
  kept_as_it_was ChangePassword after k = k.passwords

  another_as_it_was : (command another : Command) → (another ≡ command → ⊥)
      → AsItWas bytes m forward reverse memory command (meter_after another (data_of bytes) m)
  another_as_it_was ReadData another other = tt
  another_as_it_was ReadAddress another other = tt
  another_as_it_was WriteData another other = registers-kept another (data_of bytes) m other
  another_as_it_was WriteAddress another other = address_kept another (data_of bytes) m (λ c. other (same-control another WriteAddress c))
  another_as_it_was ChangePassword another other = passwords-kept another (data_of bytes) m other

  pub not-accepted : (command : Command) → (EveryCheckHolds bytes m forward reverse memory command → ⊥) → NotAccepted bytes m forward reverse memory command
  unfolding delivered
  not-accepted command h = go (answers bytes m forward reverse memory)
    where
      go : Answers bytes m forward reverse memory → NotAccepted bytes m forward reverse memory command
      go (refuses k small e) =
          record {
            no_reply = λ n said c. not-replied (rw e at said);
            kept = rw e (kept_as_it_was command m (record { address = refl; key = refl; passwords = refl; operator = refl; registers = refl }));
            unmoved = λ c. rw e refl;
          }
      go (errs another b w loud e) =
          record {
            no_reply =
                λ n said c. true≢false
                (normal-only another command true
                (sym (reply-control bytes m forward reverse memory _ (b ∷ []) (untouched m) (untouched-sized m sized).address e) ∙ c)).1;
            kept = rw e (kept_as_it_was command (untouched m) (untouched-keeps m));
            unmoved = λ c. rw e (untouched-keeps m);
          }
      go (carries another w all e) =
          record {
            no_reply =
                λ n said c. other
                (normal-only another command false
                (sym (reply-control bytes m forward reverse memory _ _ after (sized-after another (data_of bytes) m sized all).address e) ∙ c)).0;
            kept = rw e (another_as_it_was command another other);
            unmoved = λ c. absurd (other (same-control another command (sym w.control ∙ (control_figure command (control_of bytes)).1 c)));
          }
        where
          after : Meter
          after = meter_after another (data_of bytes) m

          other : another ≡ command → ⊥
          other same =
              h (subst (λ (c : Command). EveryCheckHolds bytes m forward reverse memory c) same
              (record { put_to = put_to bytes m forward reverse memory sized another w; row = holds_row bytes m forward reverse memory sized another all }))
