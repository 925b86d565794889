-- Laws of what symbols begin with: their bytes up to the first silence, and what these come to where one follows.
use Rattle.std.specs.Prelude.{ℕ, zero, suc, ◌≤◌, ◌≡◌, refl, Bool, true, false, List, [], ◌∷◌, map, length, drop}
use Rattle.std.proofs.Common.{arith, sym, ap, ◌∙◌}
use Rattle.frame.specs.Recognition.{recognised}
use Rattle.frame.specs.declared.Recognised.{Recognised}
use Rattle.frame.specs.declared.Recognised.TheVariants.{Whole, Open, Neither}
use Rattle.line_terms.specs.Line.{Symbol, byte, silence}
use Rattle.line_terms.specs.Scan.{bytes_before, broken, before_silence, begins}

-- There are no more bytes than symbols.
pub bytes-length : (x : List Symbol) → length (bytes_before x) ≤ length x
unfolding bytes_before
bytes-length [] = omega arith
bytes-length (byte b ∷ x) = omega (arith, bytes-length x)
bytes-length (silence ∷ x) = omega arith

-- Symbols with no silence among them are their bytes.
pub unbroken : (x : List Symbol) → broken x ≡ false → map byte (bytes_before x) ≡ x
unfolding broken bytes_before
unbroken [] e = refl
unbroken (byte b ∷ x) e = ap (λ (l : List Symbol). byte b ∷ l) (unbroken x e)
unbroken (silence ∷ x) e = cc

-- Bytes as symbols, from a place on, are the bytes from that place on.
pub bytes-from : (n : ℕ) (l : List ℕ) → bytes_before (drop n (map byte l)) ≡ drop n l
unfolding bytes_before
bytes-from zero [] = refl
bytes-from zero (b ∷ l) = ap (λ (k : List ℕ). b ∷ k) (bytes-from zero l)
bytes-from (suc n) [] = refl
bytes-from (suc n) (b ∷ l) = bytes-from n l

-- Symbols are those of one list of bytes only.
pub same_bytes : (a b : List ℕ) → map byte a ≡ map byte b → a ≡ b
same_bytes a b e = sym (bytes-from 0 a) ∙ ap bytes_before e ∙ bytes-from 0 b

-- What is a whole frame once it is known whether a silence follows was recognised as one.
pub before-silence-whole : (b : Bool) (r : Recognised) (n : ℕ) → before_silence b r ≡ Whole n → r ≡ Whole n
unfolding before_silence
before-silence-whole b (Whole m) n e = e
before-silence-whole true Open n e = cc
before-silence-whole false Open n e = e
before-silence-whole b Neither n e = e

-- What is open then was recognised as that, and no silence follows.
before_silence_open : (b : Bool) (r : Recognised) → before_silence b r ≡ Open → (b ≡ false) × (r ≡ Open)
unfolding before_silence
before_silence_open b (Whole n) e = (cc, cc)
before_silence_open true Open e = (cc, cc)
before_silence_open false Open e = (refl, refl)
before_silence_open b Neither e = (cc, cc)

-- Symbols that are open have no silence among them, and their bytes are open.
pub begins_open : (x : List Symbol) → begins x ≡ Open → (broken x ≡ false) × (recognised (bytes_before x) ≡ Open)
unfolding begins
begins_open x e = before_silence_open (broken x) (recognised (bytes_before x)) e
