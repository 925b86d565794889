-- The lesser of the two ends is the case of `next_end` that its test picks; where there are fewer than ten bytes, they are too few.
use Rattle.std.proofs.Common.{◌≡◌, ℕ, ◌+◌, ◌-◌, ◌<◌, ◌⊎◌, inl, inr, List, length, get_or, drop, take, min, leb, ap, ◌∙◌, arith, leb-true, leb-false, length-drop, take_all}
use borrow.Author.Tests.{lt-leb}
use Rattle.laws.specs.Test.{pick}
use Rattle.laws.specs.TestLaws.{pick_cases}
use Rattle.frame.specs.Frame.{length_of}
use Rattle.frame.specs.EndToEnd.{next_end}
use Rattle.frame.proofs.delivery.next_end.Goals as goal

least_picked : (m n : ℕ) → min m n ≡ pick (leb n m) n m
least_picked m n =
    pick_cases (λ (k : ℕ). min m n ≡ k) (leb n m) {a = n} {b = m}
    (λ h. let fits = leb-true n m h in omega arith)
    (λ h. let few = leb-false n m h in omega arith)

lesser : (bytes : List ℕ) (at : ℕ) → min (length bytes) (at + 12 + length_of (drop at bytes)) ≡ next_end bytes at
unfolding next_end
lesser bytes at = least_picked (length bytes) (at + 12 + length_of (drop at bytes))

too_few : (bytes : List ℕ) (at : ℕ) → length bytes < at + 12 → length bytes ≡ next_end bytes at
unfolding next_end
too_few bytes at h =
    let few : length bytes < at + 12 + length_of (drop at bytes) = omega arith in
    rw (lt-leb _ _ few)

-- What is lent is the rest of the bytes.
lent : (bytes rest : List ℕ) (at : ℕ) → rest ≡ take (length bytes - at) (drop at bytes) → rest ≡ drop at bytes
lent bytes rest at e = e ∙ take_all (length bytes - at) (drop at bytes) (omega (arith, length-drop at bytes))

pub returns-in-Some : goal.returns-in-Some
unfolding length_of
returns-in-Some c =
    let bytes = c.args.bytes.now in
    let rest = lent bytes c.in-Some.rest.now c.args.at c.in-Some.ensures.lookup.0.2 in
    c.min.ensures ∙ ap (λ (l : List ℕ). min (length bytes) (c.args.at + 12 + get_or l 9 0)) rest ∙ lesser bytes c.args.at

pub returns-in_default : goal.returns-in_default
returns-in_default c = too_few c.args.bytes.now c.args.at (omega (arith, c.in-Some.ensures.lookup.0.3))

beyond : (n at : ℕ) → (n < at) ⊎ (n < n) → n < at + 12
beyond n at (inl h) = omega arith
beyond n at (inr h) = omega arith

pub returns-in_default-2 : goal.returns-in_default-2
returns-in_default-2 c =
    let none = rw c.in_default.is at c.get.ensures.lookup in
    too_few c.args.bytes.now c.args.at (beyond (length c.args.bytes.now) c.args.at none.0)
