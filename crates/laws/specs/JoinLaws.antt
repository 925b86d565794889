-- Laws of memory that is written from the front on, part by part.
use Rattle.std.specs.Prelude.{ℕ, zero, suc, ◌+◌, ◌-◌, ◌≤◌, ◌<◌, ◌≡◌, List, [], ◌++◌, length, take, drop}
use Rattle.std.proofs.Common.{ap, ◌∙◌, append-nil, append_assoc, arith, length-append}
use Rattle.laws.specs.Memory.{over}
use Rattle.laws.specs.MemoryLaws.{over-length, lent-over}

-- What is written over the front of memory, and behind it over the front of the rest that is lent, stands at the front.
pub two-over : (n : ℕ) (xs ys m : List ℕ) {o back : List ℕ} → o ≡ over xs m → length xs ≡ n → n + length ys ≤ length m
    → back ≡ over ys (take (length o - n) (drop n o)) → take n o ++ (back ++ drop (length o - n) (drop n o)) ≡ over (xs ++ ys) m
two-over n xs ys m e x h b = rw (b, e) (lent-over n xs ys m x h)

-- `bytes n` is `n` parts end to end.
pub record Joined (part bytes : ℕ → List ℕ) : Type 0 where
  pub none : bytes 0 ≡ []
  pub more : (n : ℕ) → bytes (n + 1) ≡ bytes n ++ part n

-- What puts each part before the rest puts it behind those before it.
pub joined-from : (part : ℕ → List ℕ) (bytes : ℕ → ℕ → List ℕ) → ((p : ℕ) → bytes p 0 ≡ []) → ((p n : ℕ) → bytes p (suc n) ≡ part p ++ bytes (p + 1) n)
    → (p : ℕ) → Joined (λ i. part (p + i)) (bytes p)
joined-from part bytes none first p = record { none = none p; more = more p }
  where
    more : (p n : ℕ) → bytes p (n + 1) ≡ bytes p n ++ part (p + n)
    more p zero = let same : p + 0 ≡ p = omega arith in rw (first p 0, none (p + 1), none p, same, append-nil)
    more p (suc n) =
        let next : p + 1 + n ≡ p + suc n = omega arith in
        let one : suc n + 1 ≡ suc (n + 1) = omega arith in
        rw (one, first p (n + 1), more (p + 1) n, first p n, next, append_assoc)

-- `out` is `m`, over whose front the first `i` of `count` parts are written, up to place `at`.
pub record Joining (part bytes : ℕ → List ℕ) (count : ℕ) (m : List ℕ) (i at : ℕ) (out : List ℕ) : Type 0 where
  pub parts : Joined part bytes
  pub passed : i ≤ count
  pub room : length (bytes count) ≤ length m
  pub place : length (bytes i) ≡ at
  pub so_far : out ≡ over (bytes i) m

module _ {part bytes : ℕ → List ℕ} (joined : Joined part bytes) where
  pub joining_start : {count : ℕ} {m : List ℕ} → length (bytes count) ≤ length m → Joining part bytes count m 0 0 m
  joining_start h =
      record {
        parts = joined;
        passed = omega arith;
        room = h;
        place = rw joined.none;
        so_far = rw joined.none;
      }

  -- One part more is so much longer.
  one-longer : (n : ℕ) → length (bytes (n + 1)) ≡ length (bytes n) + length (part n)
  one-longer n = rw joined.more (length-append (bytes n) (part n))

  -- Fewer parts are no longer.
  no_longer : (n k : ℕ) → length (bytes n) ≤ length (bytes (n + k))
  no_longer n zero = let same : n + 0 ≡ n = omega arith in rw same (omega arith)
  no_longer n (suc k) =
      let more : n + suc k ≡ n + k + 1 = omega arith in
      rw more (omega (arith, no_longer n k, one-longer (n + k)))

module _ {part bytes : ℕ → List ℕ} {count : ℕ} {m : List ℕ} {i at : ℕ} {out : List ℕ} (w : Joining part bytes count m i at out) where
  pub joining_length : length out ≡ length m
  joining_length =
      let rest : i + (count - i) ≡ count = omega arith in
      rw w.so_far (over-length (bytes i) m (omega (arith, rw rest at (no_longer w.parts i (count - i)))))

  -- There is room for the next part.
  pub joining_room : i < count → at + length (part i) ≤ length out
  joining_room h =
      let rest : i + 1 + (count - (i + 1)) ≡ count = omega arith in
      omega (arith, rw rest at (no_longer w.parts (i + 1) (count - (i + 1))), one-longer w.parts i, joining_length)

  -- The memory from the place on is lent, the next part is written at its front, and it comes back.
  pub joining_next : {next : ℕ} {back : List ℕ} → i < count → at + length (part i) ≡ next → back ≡ over (part i) (take (length out - at) (drop at out))
      → Joining part bytes count m (i + 1) next (take at out ++ (back ++ drop (length out - at) (drop at out)))
  joining_next h e p =
      let fits : at + length (part i) ≤ length m = omega (arith, joining_room h, joining_length) in
      record {
        parts = w.parts;
        passed = omega arith;
        room = w.room;
        place = one-longer w.parts i ∙ ap (λ (n : ℕ). n + length (part i)) w.place ∙ e;
        so_far = rw (p, w.parts.more, w.so_far) (lent-over at (bytes i) (part i) m w.place fits);
      }

  pub joining_end : count ≤ i → out ≡ over (bytes count) m
  joining_end h =
      let all : i ≡ count = omega arith in
      w.so_far ∙ rw all
