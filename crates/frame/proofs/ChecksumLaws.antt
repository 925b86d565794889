-- Laws of the checksum: of bytes joined, of one byte more, and of bytes passed in fours.
use Rattle.std.specs.Prelude.{◌≡◌, ℕ, ◌+◌, ◌%◌, ◌<◌, List, [], ◌∷◌, ◌++◌, length, take, drop, slice_index, refl}
use Rattle.std.proofs.Common.{ap, sym, ◌∙◌, add-one, append_assoc, arith, get_or, length-append, length-drop, take_all, take-suc}
use Rattle.std.proofs.lemmas.List.{append-nil, length-take-le, nil_from_length, take-append-drop}
use Rattle.frame.specs.Frame.{total, checksum_of}

-- The sum of two lists, one behind the other, is the sum of their sums.
pub total-append : (xs ys : List ℕ) → total (xs ++ ys) ≡ total xs + total ys
unfolding total
total-append [] ys = omega arith
total-append (x ∷ xs) ys = let rest = total-append xs ys in omega arith

-- One byte more: the checksum goes on from the checksum so far.
pub checksum_next : (bytes : List ℕ) (i : ℕ) → i < length bytes → checksum_of (take (i + 1) bytes) ≡ (checksum_of (take i bytes) + slice_index bytes i) % 256
unfolding total checksum_of
checksum_next bytes i h =
    let snoc : total (take (i + 1) bytes) ≡ total (take i bytes) + (slice_index bytes i + 0) =
    rw (add-one, take-suc bytes i 0, total-append) in
    omega arith

-- Bytes of which whole fours are passed, with their checksum, and the rest is left.
pub record Fours (bytes : List ℕ) (size : ℕ) (rest : List ℕ) (sum : ℕ) : Type 0 where
  pub passed : List ℕ
  pub four : size ≡ 4
  pub whole : length passed % 4 ≡ 0
  pub parts : bytes ≡ passed ++ rest
  pub so_far : sum ≡ checksum_of passed

-- No byte is passed.
pub fours_start : (bytes : List ℕ) → Fours bytes 4 bytes 0
unfolding total checksum_of
fours_start bytes = record { passed = []; four = refl; whole = refl; parts = refl; so_far = refl }

-- Four bytes, each read by its place, have their sum.
pub four_read : (four : List ℕ) → length four ≡ 4 → total (get_or four 0 0 ∷ get_or four 1 0 ∷ get_or four 2 0 ∷ get_or four 3 0 ∷ []) ≡ total four
four_read (a ∷ b ∷ c ∷ d ∷ []) _ = refl
four_read [] n = absurd (omega (arith, n))
four_read (a ∷ []) n = absurd (omega (arith, n))
four_read (a ∷ b ∷ []) n = absurd (omega (arith, n))
four_read (a ∷ b ∷ c ∷ []) n = absurd (omega (arith, n))
four_read (a ∷ b ∷ c ∷ d ∷ e ∷ more) n = absurd (omega (arith, n))

-- One four more, of which the sum is gone on with.
pub fours_next : {bytes rest left : List ℕ} (four : List ℕ) {size size' sum added next : ℕ} → Fours bytes size rest sum → size' ≡ size → rest ≡ four ++ left
    → length four ≡ size → next ≡ (sum + added) % 256 → added ≡ total four → Fours bytes size' left next
unfolding checksum_of
fours_next {bytes} {rest} {left} four {size} {size'} {sum} {added} {next} f same e n h all =
    record {
      passed = f.passed ++ four;
      four = same ∙ f.four;
      whole = rw length-append (omega (arith, f.whole, n, f.four));
      parts = f.parts ∙ rw e (sym (append_assoc f.passed four left));
      so_far = h ∙ rw (f.so_far, total-append, all) (omega arith);
    }

-- The turns took the first `m` bytes, whole fours, so none of these is left, and the odd ones behind them make it whole.
pub fours_end : (bytes : List ℕ) (m i k : ℕ) {rest : List ℕ} {size sum r : ℕ} → Fours (take m bytes) size rest sum → length rest < size → r ≡ (sum + total (take k (drop i bytes))) % 256
    → m % 4 ≡ 0 → i ≡ m → i + k ≡ length bytes → r ≡ checksum_of bytes
unfolding total checksum_of
fours_end bytes m i k {rest} {size} {sum} {r} f few h whole from all =
    let long : length f.passed + length rest ≡ m = sym (length-append f.passed rest) ∙ ap length (sym f.parts) ∙ length-take-le m bytes (omega arith) in
    let none : rest ≡ [] = nil_from_length rest (omega (arith, f.whole, f.four)) in
    let turns : f.passed ≡ take m bytes = sym (f.parts ∙ rw none (append-nil f.passed)) in
    let odd : take k (drop i bytes) ≡ drop m bytes = rw from (take_all k (drop m bytes) (rw length-drop (omega arith))) in
    let parts : total bytes ≡ total (take m bytes) + total (drop m bytes) = ap total (sym (take-append-drop m bytes)) ∙ total-append (take m bytes) (drop m bytes) in
    h ∙ rw (odd, f.so_far, turns, parts) (omega arith)
