-- The tests of addresses say what document 01 says in words.
use Rattle.std.specs.Prelude.{ℕ, zero, suc, ◌+◌, ◌-◌, ◌≡◌, refl, List, [], ◌∷◌, ◌++◌, Bool, true, false, not, length, take, drop, replicate, eqb}
use Rattle.std.proofs.Common.{sym, ap, ◌∙◌, true≢false, add-one, arith, take-append-drop, length-take-le, eqb-true, ne_eqb}
use Rattle.std.proofs.Math.Bool.{and-eq-true_iff}
use Rattle.std.proofs.Math.Nat.{sub-zero}
use Rattle.std.proofs.lemmas.Bool.{not-true}
use Rattle.laws.specs.Test.{pick}
use Rattle.item_decimal.specs.Decimal.{Decimal, all_decimal}
use Rattle.item_decimal.proofs.DecimalLaws.{all-decimal, decimal-all, decimal-take}
use Rattle.item_same.specs.Same.{same}
use Rattle.item_same.specs.SameLaws.{same-equal, equal-same}
use Rattle.item_range.proofs.RangeLaws.{within-iff}
use Rattle.item_address.specs.Address.{broadcast, Good, is_good, low_bytes, has_short_form, is_short, ShortAddress, short_matches, ShortFor}

pub good : (address : List ℕ) → is_good address ≡ true → Good address
unfolding is_good
good address h =
    let both = (and-eq-true_iff (all_decimal address) (not (same address broadcast))).0 h in
    record {
      decimal = all-decimal address both.0;
      no_broadcast = λ e. true≢false (sym (equal-same address broadcast e) ∙ not-true _ both.1);
    }

-- A test that does not hold where it would be absurd.
refuted : (t : Bool) → (t ≡ true → ⊥) → not t ≡ true
refuted true h = absurd (h refl)
refuted false h = refl

pub is_good_lem : (address : List ℕ) → Good address → is_good address ≡ true
unfolding is_good
is_good_lem address h =
    rw (decimal-all address h.decimal) (refuted (same address broadcast) (λ t. h.no_broadcast (same-equal address broadcast t)))

-- What stands behind the low bytes is wildcard bytes.
behind-low : (xs : List ℕ) → drop (low_bytes xs) xs ≡ replicate (length xs - low_bytes xs) 0xAA
unfolding low_bytes
behind-low [] = refl
behind-low (x ∷ xs) = next (low_bytes xs) (behind-low xs) (eqb (low_bytes xs) 0) (eqb x 0xAA) refl refl
  where
    next : (n : ℕ) → drop n xs ≡ replicate (length xs - n) 0xAA → (t u : Bool) → eqb n 0 ≡ t → eqb x 0xAA ≡ u
        → drop (pick t (pick u 0 1) (n + 1)) (x ∷ xs) ≡ replicate (suc (length xs) - pick t (pick u 0 1) (n + 1)) 0xAA
    next n e true true p q = rw sub-zero (cc (eqb-true x 0xAA q, rw (eqb-true n 0 p, sub-zero) at e))
    next n e true false p q =
        let one : suc (length xs) - 1 ≡ length xs - 0 = omega arith in
        rw one (rw (eqb-true n 0 p) at e)
    next n e false u p q =
        let one : suc (length xs) - suc n ≡ length xs - n = omega arith in
        rw (add-one, one, e)

-- Decimal bytes before wildcard bytes are the low bytes.
pub low_count : (xs : List ℕ) (n : ℕ) → Decimal xs → low_bytes (xs ++ replicate n 0xAA) ≡ length xs
unfolding low_bytes
low_count [] zero h = refl
low_count [] (suc n) h = rw (low_count [] n h)
low_count (x ∷ []) n h =
    let other : eqb x 0xAA ≡ false = ne_eqb x 0xAA (λ e. omega arith) in
    rw (low_count [] n tt, other)
low_count (x ∷ y ∷ xs) n h =
    let some : eqb (suc (length xs)) 0 ≡ false = ne_eqb (suc (length xs)) 0 (λ e. omega arith) in
    rw (low_count (y ∷ xs) n h.2, some, add-one)

pub short-address : (address : List ℕ) → length address ≡ 6 → is_short address ≡ true → ShortAddress address
unfolding is_short has_short_form
short-address address six h =
    let parts = simp (and-eq-true_iff, within-iff) at h in
    record {
      k = low_bytes address;
      some = parts.0.0;
      most = parts.0.1;
      lowest = all-decimal _ parts.1;
      higher = rw (← six) (behind-low address);
    }

pub is_short_lem : (address : List ℕ) → length address ≡ 6 → ShortAddress address → is_short address ≡ true
unfolding is_short has_short_form
is_short_lem address six h =
    let long : length (take h.k address) ≡ h.k = length-take-le h.k address (omega arith) in
    let whole : address ≡ take h.k address ++ replicate (6 - h.k) 0xAA = cc (take-append-drop h.k address, h.higher) in
    let low : low_bytes address ≡ h.k = ap low_bytes whole ∙ low_count (take h.k address) (6 - h.k) h.lowest ∙ long in
    rw (low, (within-iff 1 5 h.k).1 (h.some, h.most)) (decimal-all (take h.k address) h.lowest)

pub short-for : (address own : List ℕ) → length address ≡ 6 → short_matches address own ≡ true → ShortFor address own
unfolding short_matches has_short_form
short-for address own six h =
    let parts = simp (and-eq-true_iff, within-iff) at h in
    record {
      k = low_bytes address;
      some = parts.0.0;
      most = parts.0.1;
      lowest = same-equal _ _ parts.1;
      higher = rw (← six) (behind-low address);
    }

-- A decimal address has no wildcard byte, so that only one number of low bytes fits.
pub for-short : (address own : List ℕ) → length address ≡ 6 → length own ≡ 6 → Decimal own → ShortFor address own → short_matches address own ≡ true
unfolding short_matches has_short_form
for-short address own six own-six decimal h =
    let long : length (take h.k own) ≡ h.k = length-take-le h.k own (omega arith) in
    let whole : address ≡ take h.k own ++ replicate (6 - h.k) 0xAA = cc (take-append-drop h.k address, h.lowest, h.higher) in
    let low : low_bytes address ≡ h.k = ap low_bytes whole ∙ low_count (take h.k own) (6 - h.k) (decimal-take h.k own decimal) ∙ long in
    rw (low, (within-iff 1 5 h.k).1 (h.some, h.most)) (equal-same _ _ h.lowest)
