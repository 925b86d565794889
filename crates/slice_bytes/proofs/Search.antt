-- The first place of a number in a part of a list, by what stands before it and at it.
use Rattle.std.proofs.Common.{◌≡◌, ℕ, ◌+◌, ◌-◌, ◌<◌, ◌≤◌, List, Bool, true, false, length, get_or, take, drop, eqb, cond, arith, refl, sym, ap, ◌∙◌}
use Rattle.std.proofs.lemmas.List.{drop-take}
use Rattle.std.proofs.lemmas.List.Recursion.{is_position_or_len}
use Rattle.std.proofs.lemmas.List.Sums.{position_or_len_is}
use Rattle.slice_bytes.specs.Place.{slice, index_after, index_of}

-- The elements before the place are not the one looked for; that at the place is it, or the place is the end.
index_of-is : (b : ℕ) (xs : List ℕ) (i : ℕ) → i ≤ length xs → ((k : ℕ) → k < i → eqb (get_or xs k 0) b ≡ false)
    → (i < length xs → eqb (get_or xs i 0) b ≡ true) → index_of b xs ≡ i
unfolding index_of index_after
index_of-is b xs i h before here =
    is_position_or_len (index_of b) (λ x. eqb x b) refl (λ x rest. next (eqb x b) (index_of b rest)) xs ∙ position_or_len_is (λ x. eqb x b) xs i 0 h before here
  where
    next : (t : Bool) (n : ℕ) → index_after t n ≡ cond t 0 (1 + n)
    next true n = refl
    next false n = omega arith

module _ (bytes : List ℕ) (from to b : ℕ) (ordered : from ≤ to) where
  abbrev part : List ℕ
  part = take (to - from) (drop from bytes)

  slice-part : slice from to bytes ≡ part
  unfolding slice
  slice-part =
      let e : from + (to - from) ≡ to = omega arith in
      sym (ap (λ (n : ℕ). drop from (take n bytes)) e) ∙ drop-take from (to - from) bytes

  pub place-found : (i : ℕ) → i < length part → ((k : ℕ) → k < i → eqb (get_or part k 0) b ≡ false) → eqb (get_or part i 0) b ≡ true
      → from + i ≡ from + index_of b (slice from to bytes)
  place-found i inside before here =
      ap (λ (n : ℕ). from + n) (sym (index_of-is b part i (omega arith) before (λ _. here)) ∙ ap (index_of b) (sym slice-part))

  pub found-nowhere : length part ≡ to - from → ((k : ℕ) → k < length part → eqb (get_or part k 0) b ≡ false) → to ≡ from + index_of b (slice from to bytes)
  found-nowhere long before =
      let e : index_of b (slice from to bytes) ≡ length part =
      ap (index_of b) slice-part ∙ index_of-is b part (length part) (omega arith) before (λ h. absurd (omega arith)) in
      omega arith
