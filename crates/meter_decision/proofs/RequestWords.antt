-- The parts of a command's data in document 01's order, byte for byte.
use Rattle.std.specs.Prelude.{ℕ, ◌+◌, ◌*◌, ◌≡◌, refl, length, take}
use Rattle.std.proofs.Math.Path.{sym, ap}
use Rattle.std.proofs.Common.{◌∙◌, arith, length-append, drop-drop, get_or-drop}
use mathlib.Core.List.{List, ◌∷◌, ◌++◌, append_assoc}
use Rattle.std.proofs.Math.ListN.{drop, get_or}
use Rattle.std.proofs.Math.Seq.{take_at, take_all, drop_at}
use Rattle.item_identifier.specs.Identifier.{identifier_of}
use Rattle.meter_decision.specs.Request.{level_of, password_of, operator_of, written_value, new_level_of, new_password_of}

-- Data of 14: identifier DI0 DI1 DI2 DI3, level, password P0 P1 P2, operator code, value.
pub record WriteParts (payload : List ℕ) (di0 di1 di2 di3 level : ℕ) (password operator value : List ℕ) : Type 0 where
  pub identifier-read : identifier_of payload ≡ 0x1000000 * di3 + 0x10000 * di2 + 0x100 * di1 + di0
  pub level-read : level_of payload ≡ level
  pub password-read : password_of payload ≡ password
  pub operator-read : operator_of payload ≡ operator
  pub value_read : written_value payload ≡ value

-- Data of 18: identifier DI0 DI1 DI2 DI3, old level and password, new level and password.
pub record PasswordParts (payload : List ℕ) (di0 di1 di2 di3 old : ℕ) (password : List ℕ) (level : ℕ) (another : List ℕ) : Type 0 where
  pub identifier-read : identifier_of payload ≡ 0x1000000 * di3 + 0x10000 * di2 + 0x100 * di1 + di0
  pub level-read : level_of payload ≡ old
  pub password-read : password_of payload ≡ password
  pub new-level-read : new_level_of payload ≡ level
  pub new-password-read : new_password_of payload ≡ another

module _ (di0 di1 di2 di3 level : ℕ) (password : List ℕ) (three : length password ≡ 3) where
  pub write_parts : (operator value : List ℕ) → length operator ≡ 4
      → WriteParts (di0 ∷ di1 ∷ di2 ∷ di3 ∷ level ∷ (password ++ (operator ++ value))) di0 di1 di2 di3 level password operator value
  unfolding identifier_of level_of password_of operator_of written_value
  write_parts operator value four =
      record {
        identifier-read = omega arith;
        level-read = refl;
        password-read = take_at password _ 3 three;
        operator-read = rw (drop_at password (operator ++ value) 3 three) (take_at operator value 4 four);
        value_read = rw (← append_assoc) (drop_at (password ++ operator) value 7 (rw (length-append, three, four)));
      }

  pub password-parts : (new : ℕ) (another : List ℕ) → length another ≡ 3
      → PasswordParts (di0 ∷ di1 ∷ di2 ∷ di3 ∷ level ∷ (password ++ (new ∷ another))) di0 di1 di2 di3 level password new another
  unfolding identifier_of level_of password_of new_level_of new_password_of
  password-parts new another again =
      record {
        identifier-read = omega arith;
        level-read = refl;
        password-read = take_at password _ 3 three;
        new-level-read = sym (get_or-drop 3 (password ++ (new ∷ another)) 0 0) ∙ ap (λ (l : List ℕ). get_or l 0 0) behind;
        new-password-read = ap (take 3) (sym (drop-drop 1 3 (password ++ (new ∷ another))) ∙ ap (drop 1) behind) ∙ take_all 3 another (omega arith);
      }
    where
      behind : drop 3 (password ++ (new ∷ another)) ≡ new ∷ another
      behind = drop_at password (new ∷ another) 3 three
