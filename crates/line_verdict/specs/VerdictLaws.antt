-- How the tests of recognition on the kept bytes, and on them with one byte more, lead to each verdict. Both lists agree with the array
-- on the first bytes, so a test that looks at a kept byte comes out alike in both.
use Rattle.std.specs.Prelude.{ℕ, ◌+◌, ◌≤◌, ◌<◌, ◌≡◌, List, [], ◌∷◌, ◌++◌, Bool, true, false, take, leb, eqb}
use Rattle.std.proofs.Math.Path.{refl}
use Rattle.std.proofs.Common.{sym, ap, ◌∙◌, arith, length-append, length-take-le, get_or-take, take-take, le-leb, eq-eqb, ne_eqb}
use Rattle.std.proofs.Math.ListN.{length, get_or, get_or-append}
use Rattle.std.proofs.lemmas.List.{get_or_at, take-append-le}
use Rattle.std.proofs.lemmas.Bool.{lt-leb}
use Rattle.frame.specs.Frame.{checksum_of, length_of}
use Rattle.frame.specs.Recognition.{stage, recognised, recognised_body, recognised_end}
use Rattle.frame.proofs.StageLaws.{stage_open, stage-passed, stage-wrong}
use Rattle.frame.specs.declared.Recognised.{Recognised}
use Rattle.frame.specs.declared.Recognised.TheVariants as found
use Rattle.line_verdict.specs.Verdict.{is_open, within_range, kept_with, verdict_for, judged, Headed}
use Rattle.line_verdict.specs.declared.Verdict.TheVariants.{Bad, Skips, StillOpen, Whole, BeginsNone}

-- A list has the array's first n bytes in front.
pub record Agrees (kept : List ℕ) (n : ℕ) (z : List ℕ) : Type 0 where
  pub long : n ≤ length z
  pub at : (i : ℕ) → i < n → get_or z i 0 ≡ get_or kept i 0
  pub front : (m : ℕ) → m ≤ n → take m z ≡ take m kept

-- The tests from the data length on, and from the second start delimiter on.
abbrev pub from_length : List ℕ → Recognised
from_length z = stage z 9 (leb (length_of z) 200) (recognised_end z (10 + length_of z))

abbrev pub from_eighth : List ℕ → Recognised
from_eighth z = stage z 7 (eqb (get_or z 7 0) 0x68) (from_length z)

-- The tests from place m on, where the checksum stands: the checksum, and then the last byte.
abbrev pub from_last : List ℕ → ℕ → Recognised
from_last z m = stage z (m + 1) (eqb (get_or z (m + 1) 0) 0x16) (found.Whole (m + 2))

abbrev pub from_sum : List ℕ → ℕ → Recognised
from_sum z m = stage z m (eqb (get_or z m 0) (checksum_of (take m z))) (from_last z m)

-- What the array's bytes pass, a list that agrees with it passes.
module _ (kept : List ℕ) (n : ℕ) (z : List ℕ) (w : Agrees kept n z) where
  pub past_first : 0 < n → get_or kept 0 0 ≡ 0x68 → recognised z ≡ from_eighth z
  unfolding recognised recognised_body
  past_first h e = let l : n ≤ length z = w.long in stage-passed z 0 _ (omega arith) (eq-eqb _ _ (w.at 0 h ∙ e))

  pub past-eighth : 7 < n → get_or kept 0 0 ≡ 0x68 → get_or kept 7 0 ≡ 0x68 → recognised z ≡ from_length z
  past-eighth h e d =
      let l : n ≤ length z = w.long in
      past_first (omega arith) e ∙ stage-passed z 7 _ (omega arith) (eq-eqb _ _ (w.at 7 h ∙ d))

  pub past-length : 9 < n → get_or kept 0 0 ≡ 0x68 → get_or kept 7 0 ≡ 0x68 → get_or kept 9 0 ≤ 200 → recognised z ≡ from_sum z (10 + get_or kept 9 0)
  unfolding recognised_end length_of
  past-length h e d k =
      let l : n ≤ length z = w.long in
      let s : get_or z 9 0 ≡ get_or kept 9 0 = w.at 9 h in
      past-eighth (omega arith) e d ∙ stage-passed z 9 _ (omega arith) (le-leb (get_or z 9 0) 200 (omega arith)) ∙ rw s

  pub past-sum : (m : ℕ) → m < n → recognised z ≡ from_sum z m → get_or kept m 0 ≡ checksum_of (take m kept) → recognised z ≡ from_last z m
  past-sum m h e s =
      let l : n ≤ length z = w.long in
      e ∙ stage-passed z m _ (omega arith) (eq-eqb _ _ (w.at m h ∙ s ∙ ap checksum_of (sym (w.front m (omega arith)))))

-- The kept bytes, and those with one byte more, agree with the array.
module _ (kept : List ℕ) (n b : ℕ) (fits : n ≤ length kept) where
  pub kept-length : length (take n kept) ≡ n
  kept-length = length-take-le n kept fits

  pub with-length : length (take n kept ++ (b ∷ [])) ≡ n + 1
  with-length = simp length-append (rw kept-length)

  pub with-last : get_or (take n kept ++ (b ∷ [])) n 0 ≡ b
  with-last = get_or_at (take n kept) b [] 0 n kept-length

  pub kept_agrees : Agrees kept n (take n kept)
  kept_agrees =
      record {
        long = rw kept-length (omega arith);
        at = λ i h. get_or-take n kept i 0 h;
        front = λ m h. take-take m n kept h;
      }

  pub with_agrees : Agrees kept n (take n kept ++ (b ∷ []))
  with_agrees =
      record {
        long = rw with-length (omega arith);
        at = λ i h. get_or-append (take n kept) (b ∷ []) 0 i (rw kept-length h) ∙ get_or-take n kept i 0 h;
        front = λ m h. take-append-le m (take n kept) (b ∷ []) (rw kept-length h) ∙ take-take m n kept h;
      }

-- Where at most 211 bytes are counted, they are within range as they are recognised as open or not; where more are, they are not.
pub within_as : (kept : List ℕ) (n : ℕ) {v : Recognised} → n ≤ 211 → recognised (take n kept) ≡ v → within_range kept n ≡ is_open v
unfolding within_range
within_as kept n h e = rw (le-leb n 211 h, e)

pub many_without : (kept : List ℕ) (n : ℕ) → 211 < n → within_range kept n ≡ false
unfolding within_range
many_without kept n h = rw (lt-leb n 211 h)

-- The verdict by whether the kept bytes are within range, and then by what they begin with the byte.
module _ (kept : List ℕ) (n b : ℕ) where
  pub judged-bad : within_range kept n ≡ false → Bad ≡ judged kept n b
  unfolding judged
  judged-bad e = rw e

  pub judged_as_lem : {v : Recognised} → within_range kept n ≡ true → recognised (kept_with kept n b) ≡ v → verdict_for n v ≡ judged kept n b
  unfolding judged
  judged_as_lem good e = rw (good, e)

-- Where n bytes are kept and the byte b comes: how long the kept bytes are alone and with it, where it stands, and that both lists agree
-- with the array.
module _ (kept : List ℕ) (n b : ℕ) (size : length kept ≡ 211) (fits : n ≤ 211) where
  held : n ≤ length kept
  held = omega arith

  long : length (take n kept) ≡ n
  long = kept-length kept n b held

  longer : length (kept_with kept n b) ≡ n + 1
  longer = with-length kept n b held

  came : get_or (kept_with kept n b) n 0 ≡ b
  came = with-last kept n b held

  old : Agrees kept n (take n kept)
  old = kept_agrees kept n b held

  new : Agrees kept n (kept_with kept n b)
  new = with_agrees kept n b held

  -- The kept bytes with the byte that comes.
  abbrev with : List ℕ
  with = kept_with kept n b

  -- The verdicts at a stage that every list with these bytes reaches, by whether the byte that it looks at is kept, comes, or is yet to come.
  module _ (i : ℕ) (test : List ℕ → Bool) (next : List ℕ → Recognised)
      (reach : (z : List ℕ) → Agrees kept n z → recognised z ≡ stage z i (test z) (next z)) where
    pub bad_at : i < n → test (take n kept) ≡ false → Bad ≡ judged kept n b
    bad_at h f = judged-bad kept n b (within_as kept n fits (reach _ old ∙ stage-wrong (take n kept) i _ (rw long h) f))

    still_open : n ≤ i → within_range kept n ≡ true
    still_open h = within_as kept n fits (reach _ old ∙ stage_open (take n kept) i (test (take n kept)) (next (take n kept)) (rw long h))

    pub still_open_before : n < i → StillOpen ≡ judged kept n b
    still_open_before h =
        judged_as_lem kept n b (still_open (omega arith)) (reach _ new ∙ stage_open with i (test with) (next with) (rw longer (omega arith)))

    ends_at : n ≡ i → test with ≡ false → verdict_for n found.Neither ≡ judged kept n b
    ends_at h f = judged_as_lem kept n b (still_open (omega arith)) (reach _ new ∙ stage-wrong with i (next with) (rw longer (omega arith)) f)

    pub skips_at : n ≡ 0 → n ≡ i → test with ≡ false → Skips ≡ judged kept n b
    skips_at z h f = rw (eq-eqb n 0 z) at (ends_at h f)

    pub begins_none_at : 0 < n → n ≡ i → test with ≡ false → BeginsNone ≡ judged kept n b
    begins_none_at s h f = rw (ne_eqb n 0 (λ z. omega arith)) at (ends_at h f)

    passes : n ≡ i → test with ≡ true → recognised with ≡ next with
    passes h f = reach _ new ∙ stage-passed with i (next with) (rw longer (omega arith)) f

    pub still_open_at : n ≡ i → test with ≡ true → next with ≡ found.Open → StillOpen ≡ judged kept n b
    still_open_at h f o = judged_as_lem kept n b (still_open (omega arith)) (passes h f ∙ o)

    pub whole_at : {k : ℕ} → n ≡ i → test with ≡ true → next with ≡ found.Whole k → Whole ≡ judged kept n b
    whole_at h f o = judged_as_lem kept n b (still_open (omega arith)) (passes h f ∙ o)

  -- The byte that came, where the stage looks at it.
  came_at : (i : ℕ) → n ≡ i → get_or with i 0 ≡ b
  came_at i h = ap (λ (k : ℕ). get_or with k 0) (sym h) ∙ came

  -- The verdicts on the first start delimiter.
  abbrev start_test : List ℕ → Bool
  start_test z = eqb (get_or z 0 0) 0x68

  at_first : (z : List ℕ) → Agrees kept n z → recognised z ≡ stage z 0 (start_test z) (from_eighth z)
  unfolding recognised recognised_body
  at_first z a = refl

  pub start_right : n ≡ 0 → b ≡ 0x68 → StillOpen ≡ judged kept n b
  start_right h e =
      still_open_at 0 start_test from_eighth at_first h (eq-eqb _ _ (came_at 0 h ∙ e)) (stage_open with 7 (eqb (get_or with 7 0) 0x68) (from_length with) (rw longer (omega arith)))

  pub start-wrong : n ≡ 0 → (b ≡ 0x68 → ⊥) → Skips ≡ judged kept n b
  start-wrong h e = skips_at 0 start_test from_eighth at_first h h (ne_eqb _ _ (λ g. e (sym (came_at 0 h) ∙ g)))

  pub first-wrong : 0 < n → (get_or kept 0 0 ≡ 0x68 → ⊥) → Bad ≡ judged kept n b
  first-wrong h e = bad_at 0 start_test from_eighth at_first h (ne_eqb _ _ (λ g. e (sym (old.at 0 h) ∙ g)))

  -- The verdicts up to the second start delimiter.
  module _ (some : 0 < n) (first : get_or kept 0 0 ≡ 0x68) where
    abbrev second-test : List ℕ → Bool
    second-test z = eqb (get_or z 7 0) 0x68

    at_eighth : (z : List ℕ) → Agrees kept n z → recognised z ≡ from_eighth z
    at_eighth z a = past_first kept n z a some first

    pub address-comes : n < 7 → StillOpen ≡ judged kept n b
    address-comes h = still_open_before 7 second-test from_length at_eighth h

    pub second-right : n ≡ 7 → b ≡ 0x68 → StillOpen ≡ judged kept n b
    second-right h e =
        still_open_at 7 second-test from_length at_eighth h (eq-eqb _ _ (came_at 7 h ∙ e))
        (stage_open with 9 (leb (length_of with) 200) (recognised_end with (10 + length_of with)) (rw longer (omega arith)))

    pub second-wrong : n ≡ 7 → (b ≡ 0x68 → ⊥) → BeginsNone ≡ judged kept n b
    second-wrong h e = begins_none_at 7 second-test from_length at_eighth some h (ne_eqb _ _ (λ g. e (sym (came_at 7 h) ∙ g)))

    pub eighth-wrong : 7 < n → (get_or kept 7 0 ≡ 0x68 → ⊥) → Bad ≡ judged kept n b
    eighth-wrong h e = bad_at 7 second-test from_length at_eighth h (ne_eqb _ _ (λ g. e (sym (old.at 7 h) ∙ g)))

  -- The verdicts up to the data length.
  module _ (more : 7 < n) (first : get_or kept 0 0 ≡ 0x68) (eighth : get_or kept 7 0 ≡ 0x68) where
    abbrev length-test : List ℕ → Bool
    length-test z = leb (length_of z) 200

    abbrev from_body : List ℕ → Recognised
    from_body z = recognised_end z (10 + length_of z)

    at_length : (z : List ℕ) → Agrees kept n z → recognised z ≡ from_length z
    at_length z a = past-eighth kept n z a more first eighth

    pub control-comes : n < 9 → StillOpen ≡ judged kept n b
    control-comes h = still_open_before 9 length-test from_body at_length h

    pub length-right : n ≡ 9 → b ≤ 200 → StillOpen ≡ judged kept n b
    unfolding length_of recognised_end
    length-right h k =
        let e : get_or with 9 0 ≡ b = came_at 9 h in
        still_open_at 9 length-test from_body at_length h (le-leb (get_or with 9 0) 200 (omega arith))
        (stage_open with (10 + get_or with 9 0) (eqb (get_or with (10 + get_or with 9 0) 0) (checksum_of (take (10 + get_or with 9 0) with)))
        (from_last with (10 + get_or with 9 0)) (rw longer (omega arith)))

    pub length-wrong : n ≡ 9 → 200 < b → BeginsNone ≡ judged kept n b
    unfolding length_of
    length-wrong h k =
        let e : get_or with 9 0 ≡ b = came_at 9 h in begins_none_at 9 length-test from_body at_length (omega arith) h (lt-leb (get_or with 9 0) 200 (omega arith))

    pub ninth_wrong : 9 < n → 200 < get_or kept 9 0 → Bad ≡ judged kept n b
    unfolding length_of
    ninth_wrong h k =
        let e : get_or (take n kept) 9 0 ≡ get_or kept 9 0 = old.at 9 h in
        bad_at 9 length-test from_body at_length h (lt-leb (get_or (take n kept) 9 0) 200 (omega arith))

    pub data_comes : 9 < n → get_or kept 9 0 ≤ 200 → n < 10 + get_or kept 9 0 → StillOpen ≡ judged kept n b
    data_comes h k l =
        still_open_before (10 + get_or kept 9 0) (λ z. eqb (get_or z (10 + get_or kept 9 0) 0) (checksum_of (take (10 + get_or kept 9 0) z)))
        (λ z. from_last z (10 + get_or kept 9 0)) (λ z a. past-length kept n z a h first eighth k) l

  -- The verdicts where all data bytes are kept, and m is the place of the checksum.
  module _ (m : ℕ) (w : Headed kept m) (all : m ≤ n) where
    some : 0 < n
    some = let e : m ≡ 10 + get_or kept 9 0 = w.end in omega arith

    at_sum : (z : List ℕ) → Agrees kept n z → recognised z ≡ from_sum z m
    at_sum z a =
        let e : m ≡ 10 + get_or kept 9 0 = w.end in
        past-length kept n z a (omega arith) w.first w.eighth w.most ∙ ap (from_sum z) (sym e)

    abbrev sum-test : List ℕ → Bool
    sum-test z = eqb (get_or z m 0) (checksum_of (take m z))

    abbrev last-test : List ℕ → Bool
    last-test z = eqb (get_or z (m + 1) 0) 0x16

    sum_same : checksum_of (take m with) ≡ checksum_of (take m kept)
    sum_same = ap checksum_of (new.front m all)

    pub sum-right : n ≡ m → b ≡ checksum_of (take m kept) → StillOpen ≡ judged kept n b
    sum-right h e =
        still_open_at m sum-test (λ z. from_last z m) at_sum h (eq-eqb _ _ (came_at m h ∙ e ∙ sym sum_same)) (stage_open with (m + 1) (last-test with) (found.Whole (m + 2)) (rw longer (omega arith)))

    pub sum-wrong : n ≡ m → (b ≡ checksum_of (take m kept) → ⊥) → BeginsNone ≡ judged kept n b
    sum-wrong h e = begins_none_at m sum-test (λ z. from_last z m) at_sum some h (ne_eqb _ _ (λ f. e (sym (came_at m h) ∙ f ∙ sum_same)))

    pub kept-wrong : m < n → (get_or kept m 0 ≡ checksum_of (take m kept) → ⊥) → Bad ≡ judged kept n b
    kept-wrong h e =
        bad_at m sum-test (λ z. from_last z m) at_sum h (ne_eqb _ _ (λ f. e (sym (old.at m h) ∙ f ∙ ap checksum_of (old.front m all))))

    at_last : m < n → get_or kept m 0 ≡ checksum_of (take m kept) → (z : List ℕ) → Agrees kept n z → recognised z ≡ from_last z m
    at_last h e z a = past-sum kept n z a m h (at_sum z a) e

    pub last-right : n ≡ m + 1 → get_or kept m 0 ≡ checksum_of (take m kept) → b ≡ 0x16 → Whole ≡ judged kept n b
    last-right h e f =
        whole_at (m + 1) last-test (λ z. found.Whole (m + 2)) (at_last (omega arith) e) h (eq-eqb _ _ (came_at (m + 1) h ∙ f)) refl

    pub last-wrong : n ≡ m + 1 → get_or kept m 0 ≡ checksum_of (take m kept) → (b ≡ 0x16 → ⊥) → BeginsNone ≡ judged kept n b
    last-wrong h e f =
        begins_none_at (m + 1) last-test (λ z. found.Whole (m + 2)) (at_last (omega arith) e) some h (ne_eqb _ _ (λ g. f (sym (came_at (m + 1) h) ∙ g)))

    -- Where more than the checksum is kept, the kept bytes are whole or begin nothing.
    pub too_many : m + 1 < n → Bad ≡ judged kept n b
    too_many h = judged-bad kept n b (go (sum-test (take n kept)) (last-test (take n kept)) refl refl)
      where
        sum-there : m < length (take n kept)
        sum-there = rw long (omega arith)

        last-there : m + 1 < length (take n kept)
        last-there = rw long h

        go : (t u : Bool) → sum-test (take n kept) ≡ t → last-test (take n kept) ≡ u → within_range kept n ≡ false
        go false u p q = within_as kept n fits (at_sum _ old ∙ stage-wrong (take n kept) m _ sum-there p)
        go true false p q =
            within_as kept n fits (at_sum _ old ∙ stage-passed (take n kept) m _ sum-there p ∙ stage-wrong (take n kept) (m + 1) _ last-there q)
        go true true p q =
            within_as kept n fits
            (at_sum _ old ∙ stage-passed (take n kept) m _ sum-there p ∙ stage-passed (take n kept) (m + 1) _ last-there q)
