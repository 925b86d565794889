-- The verdicts of `VerdictLaws` on kept bytes that stand alone, with no array behind them.
use Rattle.std.specs.Prelude.{ℕ, ◌+◌, ◌-◌, ◌≤◌, ◌<◌, ◌≡◌, List, ◌++◌, take, replicate}
use Rattle.std.proofs.Common.{sym, ap, ◌∙◌, arith, length-append, take-take, length-take-le}
use Rattle.std.proofs.Math.ListN.{length, get_or, get_or-append}
use Rattle.std.proofs.Math.Seq.{take-append_seam, take-length}
use Rattle.std.proofs.lemmas.List.{take-append-le, length-replicate}
use Rattle.frame.specs.Frame.{checksum_of}
use Rattle.line_verdict.specs.Verdict.{within_range, judged, Headed}
use Rattle.line_verdict.specs.VerdictLaws.{start_right, start-wrong, first-wrong, address-comes, second-right, second-wrong, eighth-wrong, control-comes, length-right, length-wrong, ninth_wrong, data_comes, sum-right, sum-wrong, kept-wrong, last-right, last-wrong, too_many}
use Rattle.line_verdict.specs.declared.Verdict.TheVariants.{Bad, Skips, StillOpen, Whole, BeginsNone}

-- Lists with the same first bytes have one verdict.
pub judged_front : (kept z : List ℕ) (n b : ℕ) → take n z ≡ take n kept → judged z n b ≡ judged kept n b
unfolding judged within_range
judged_front kept z n b e = rw e

-- The verdict on the first bytes of the array is the one on them alone.
pub judged_part : (array : List ℕ) (n b : ℕ) → n ≤ length array → judged (take n array) (length (take n array)) b ≡ judged array n b
judged_part array n b h = rw length-take-le (judged_front array (take n array) n b (take-take n n array (omega arith)))

module _ (kept : List ℕ) (b : ℕ) (fits : length kept ≤ 211) where
  -- An array that begins with the kept bytes.
  abbrev array : List ℕ
  array = kept ++ replicate (211 - length kept) 0

  size : length array ≡ 211
  size = simp (length-append, length-replicate) (omega arith)

  same : judged array (length kept) b ≡ judged kept (length kept) b
  same = judged_front kept array (length kept) b (take-append_seam kept _ ∙ sym (take-length kept))

  there : (i : ℕ) → i < length kept → get_or array i 0 ≡ get_or kept i 0
  there i h = get_or-append kept _ 0 i h

  pub start_comes : length kept ≡ 0 → b ≡ 0x68 → StillOpen ≡ judged kept (length kept) b
  start_comes h e = start_right array (length kept) b size fits h e ∙ same

  pub no_start : length kept ≡ 0 → (b ≡ 0x68 → ⊥) → Skips ≡ judged kept (length kept) b
  no_start h e = start-wrong array (length kept) b size fits h e ∙ same

  pub first_wrong : 0 < length kept → (get_or kept 0 0 ≡ 0x68 → ⊥) → Bad ≡ judged kept (length kept) b
  first_wrong h e = first-wrong array (length kept) b size fits h (λ f. e (sym (there 0 h) ∙ f)) ∙ same

  -- The verdicts where the first start delimiter is kept.
  module _ (some : 0 < length kept) (first : get_or kept 0 0 ≡ 0x68) where
    first_there : get_or array 0 0 ≡ 0x68
    first_there = there 0 some ∙ first

    pub address_comes : length kept < 7 → StillOpen ≡ judged kept (length kept) b
    address_comes h = address-comes array (length kept) b size fits some first_there h ∙ same

    pub second_right : length kept ≡ 7 → b ≡ 0x68 → StillOpen ≡ judged kept (length kept) b
    second_right h e = second-right array (length kept) b size fits some first_there h e ∙ same

    pub second_wrong : length kept ≡ 7 → (b ≡ 0x68 → ⊥) → BeginsNone ≡ judged kept (length kept) b
    second_wrong h e = second-wrong array (length kept) b size fits some first_there h e ∙ same

    pub eighth_wrong : 7 < length kept → (get_or kept 7 0 ≡ 0x68 → ⊥) → Bad ≡ judged kept (length kept) b
    eighth_wrong h e = eighth-wrong array (length kept) b size fits some first_there h (λ f. e (sym (there 7 h) ∙ f)) ∙ same

  -- The verdicts where both start delimiters are kept.
  module _ (more : 7 < length kept) (first : get_or kept 0 0 ≡ 0x68) (eighth : get_or kept 7 0 ≡ 0x68) where
    start_there : get_or array 0 0 ≡ 0x68
    start_there = there 0 (omega arith) ∙ first

    eighth_there : get_or array 7 0 ≡ 0x68
    eighth_there = there 7 more ∙ eighth

    pub control_comes : length kept < 9 → StillOpen ≡ judged kept (length kept) b
    control_comes h = control-comes array (length kept) b size fits more start_there eighth_there h ∙ same

    pub length_right : length kept ≡ 9 → b ≤ 200 → StillOpen ≡ judged kept (length kept) b
    length_right h k = length-right array (length kept) b size fits more start_there eighth_there h k ∙ same

    pub length_wrong : length kept ≡ 9 → 200 < b → BeginsNone ≡ judged kept (length kept) b
    length_wrong h k = length-wrong array (length kept) b size fits more start_there eighth_there h k ∙ same

    pub kept_length_wrong : 9 < length kept → 200 < get_or kept 9 0 → Bad ≡ judged kept (length kept) b
    kept_length_wrong h k =
        let e : get_or array 9 0 ≡ get_or kept 9 0 = there 9 h in
        ninth_wrong array (length kept) b size fits more start_there eighth_there h (omega arith) ∙ same

    pub body_comes : 9 < length kept → get_or kept 9 0 ≤ 200 → length kept < 10 + get_or kept 9 0 → StillOpen ≡ judged kept (length kept) b
    body_comes h k l =
        let e : get_or array 9 0 ≡ get_or kept 9 0 = there 9 h in
        data_comes array (length kept) b size fits more start_there eighth_there h (omega arith) (omega arith) ∙ same

  -- The verdicts where all data bytes are kept, and m is the place of the checksum.
  module _ (m : ℕ) (w : Headed kept m) (all : m ≤ length kept) where
    long : 9 < length kept
    long = let e : m ≡ 10 + get_or kept 9 0 = w.end in omega arith

    headed : Headed array m
    headed =
        let e : get_or array 9 0 ≡ get_or kept 9 0 = there 9 long in
        let o : m ≡ 10 + get_or kept 9 0 = w.end in
        let k : get_or kept 9 0 ≤ 200 = w.most in
        record { first = there 0 (omega (arith, long)) ∙ w.first; eighth = there 7 (omega (arith, long)) ∙ w.eighth; most = omega arith; end = omega arith }

    sum : checksum_of (take m array) ≡ checksum_of (take m kept)
    sum = ap checksum_of (take-append-le m kept _ all)

    pub sum_right : length kept ≡ m → b ≡ checksum_of (take m kept) → StillOpen ≡ judged kept (length kept) b
    sum_right h e = sum-right array (length kept) b size fits m headed all h (e ∙ sym sum) ∙ same

    pub sum_wrong : length kept ≡ m → (b ≡ checksum_of (take m kept) → ⊥) → BeginsNone ≡ judged kept (length kept) b
    sum_wrong h e = sum-wrong array (length kept) b size fits m headed all h (λ f. e (f ∙ sum)) ∙ same

    pub kept_sum_wrong : m < length kept → (get_or kept m 0 ≡ checksum_of (take m kept) → ⊥) → Bad ≡ judged kept (length kept) b
    kept_sum_wrong h e = kept-wrong array (length kept) b size fits m headed all h (λ f. e (sym (there m h) ∙ f ∙ sum)) ∙ same

    pub last_right : length kept ≡ m + 1 → get_or kept m 0 ≡ checksum_of (take m kept) → b ≡ 0x16 → Whole ≡ judged kept (length kept) b
    last_right h e f = last-right array (length kept) b size fits m headed all h (there m (omega arith) ∙ e ∙ sym sum) f ∙ same

    pub last_wrong : length kept ≡ m + 1 → get_or kept m 0 ≡ checksum_of (take m kept) → (b ≡ 0x16 → ⊥) → BeginsNone ≡ judged kept (length kept) b
    last_wrong h e f = last-wrong array (length kept) b size fits m headed all h (there m (omega arith) ∙ e ∙ sym sum) f ∙ same

    pub kept_too_many : m + 1 < length kept → Bad ≡ judged kept (length kept) b
    kept_too_many h = too_many array (length kept) b size fits m headed all h ∙ same

-- The verdicts up to the length, and those from it on.
pub ruleset at_head = (start_comes, no_start, first_wrong, address_comes, second_right, second_wrong, eighth_wrong, control_comes, length_right, length_wrong)

pub ruleset at_body = (kept_length_wrong, body_comes, sum_right, sum_wrong, kept_sum_wrong, last_right, last_wrong, kept_too_many)
