-- What each verdict of `verdict_on` says of the kept bytes, of the output buffer, and of the kept bytes with the byte.
use Rattle.std.specs.Prelude.{ℕ, ◌+◌, ◌≤◌, ◌<◌, List, [], ◌∷◌, ◌++◌, Bool, length, take, drop, leb, eqb}
use Rattle.std.proofs.Math.Path.{◌≡◌, refl}
use Rattle.std.proofs.Common.{ap, ◌∙◌, arith, length-append, take-append-drop, length-take-le}
use Rattle.std.proofs.Math.Bool.{true, false}
use Rattle.std.proofs.lemmas.List.{take-append-le}
use borrow.Author.Tests.{leb-true, leb-false, le-leb, lt-leb, eqb-true}
use Rattle.laws.specs.Test.{pick}
use Rattle.laws.specs.TestLaws.{pick_cases}
use Rattle.frame.specs.Frame.{Frame}
use Rattle.frame.specs.Recognition.{recognised}
use Rattle.frame.proofs.RecognitionLaws.{whole-within, whole-frame, frame-whole}
use Rattle.frame.specs.declared.Recognised.{Recognised}
use Rattle.frame.specs.declared.Recognised.TheVariants as found
use Rattle.line_verdict.specs.Verdict.{is_open, within_range, kept_with, verdict_for, judged, verdict_on}
use Rattle.line_verdict.specs.declared.Verdict.{Verdict}
use Rattle.line_verdict.specs.declared.Verdict.TheVariants.{Bad, Short, Skips, StillOpen, Whole, BeginsNone}

-- The verdict with the output buffer, by the verdict without it.
module _ (kept : List ℕ) (count b room : ℕ) where
  never-bad : (v : Recognised) → Bad ≡ verdict_for count v → ⊥
  never-bad (found.Whole n) e = let z : ◌≡◌ {A = ℕ} 0 1 = cc in omega arith
  never-bad found.Open e = let z : ◌≡◌ {A = ℕ} 0 1 = cc in omega arith
  never-bad found.Neither e = go (eqb count 0) e
    where
      go : (t : Bool) → Bad ≡ pick t Skips BeginsNone → ⊥
      go true q = let z : ◌≡◌ {A = ℕ} 0 1 = cc in omega arith
      go false q = let z : ◌≡◌ {A = ℕ} 0 1 = cc in omega arith

  pub verdict_on_bad : Bad ≡ judged kept count b → Bad ≡ verdict_on kept count b room
  unfolding judged verdict_on
  verdict_on_bad = go (within_range kept count)
    where
      go : (t : Bool) → Bad ≡ pick t (verdict_for count (recognised (kept_with kept count b))) Bad →
          Bad ≡ pick t (pick (leb 212 room) (verdict_for count (recognised (kept_with kept count b))) Short) Bad
      go true e = absurd (never-bad (recognised (kept_with kept count b)) e)
      go false e = e

  module _ (good : within_range kept count ≡ true) where
    pub verdict_on_short : room < 212 → Short ≡ verdict_on kept count b room
    unfolding verdict_on
    verdict_on_short h = rw (good, lt-leb 212 room h)

    pub verdict_on_judged : 212 ≤ room → judged kept count b ≡ verdict_on kept count b room
    unfolding judged verdict_on
    verdict_on_judged h = rw (good, le-leb 212 room h)

-- Kept bytes within range are at most 211, and they are open.
module _ (kept : List ℕ) (count : ℕ) (good : within_range kept count ≡ true) where
  within_both : (count ≤ 211) × (recognised (take count kept) ≡ found.Open)
  unfolding within_range
  within_both = go (leb count 211) (recognised (take count kept)) refl refl good
    where
      no : {A : Type 0} → ◌≡◌ {A = Bool} false true → A
      no z = let w : ◌≡◌ {A = ℕ} 0 1 = cc in absurd (omega arith)

      go : (t : Bool) (v : Recognised) → leb count 211 ≡ t → recognised (take count kept) ≡ v → pick t (is_open v) false ≡ true →
          (count ≤ 211) × (recognised (take count kept) ≡ found.Open)
      go true (found.Whole n) l e q = no q
      go true found.Open l e q = (leb-true _ _ l, e)
      go true found.Neither l e q = no q
      go false v l e q = no q

  pub within-most : count ≤ 211
  within-most = within_both.0

  pub within_open : recognised (take count kept) ≡ found.Open
  within_open = within_both.1

-- Open bytes that one byte more makes whole are whole only with that byte.
whole-now : (x : List ℕ) (b n : ℕ) → recognised x ≡ found.Open → recognised (x ++ (b ∷ [])) ≡ found.Whole n → n ≡ length x + 1
whole-now x b n o e = go (leb n (length x)) refl
  where
    most : n ≤ length x + 1
    most = let l : n ≤ length (x ++ (b ∷ [])) = whole-within _ n e in rw length-append at l

    go : (t : Bool) → leb n (length x) ≡ t → n ≡ length x + 1
    go true l =
        let w : Frame (take n x) = rw (take-append-le n x (b ∷ []) (leb-true _ _ l)) at (whole-frame (x ++ (b ∷ [])) n e) in
        let f : recognised x ≡ found.Whole (length (take n x)) = rw take-append-drop at (frame-whole (take n x) (drop n x) w) in
        let z : ◌≡◌ {A = ℕ} 0 1 = cc in
        absurd (omega arith)
    go false l = omega (arith, most, leb-false n (length x) l)

-- What a verdict says where the output buffer has so many bytes.
abbrev pub VerdictSays : List ℕ → ℕ → ℕ → ℕ → Verdict → Type 0
VerdictSays kept count b room Bad = within_range kept count ≡ false
VerdictSays kept count b room Short = (within_range kept count ≡ true) × (room < 212)
VerdictSays kept count b room Skips =
    (within_range kept count ≡ true) × (212 ≤ room) × (recognised (kept_with kept count b) ≡ found.Neither) × (count ≡ 0)
VerdictSays kept count b room StillOpen = (within_range kept count ≡ true) × (212 ≤ room) × (recognised (kept_with kept count b) ≡ found.Open)
VerdictSays kept count b room Whole =
    (within_range kept count ≡ true) × (212 ≤ room) × (recognised (kept_with kept count b) ≡ found.Whole (count + 1))
VerdictSays kept count b room BeginsNone = (within_range kept count ≡ true) × (212 ≤ room) × (recognised (kept_with kept count b) ≡ found.Neither)

module _ (kept : List ℕ) (count b room : ℕ) (size : length kept ≡ 211) where
  comes : (v : Recognised) → recognised (kept_with kept count b) ≡ v → within_range kept count ≡ true → 212 ≤ room →
      VerdictSays kept count b room (verdict_for count v)
  comes (found.Whole n) e good roomy =
      let most : count ≤ 211 = within-most kept count good in
      let l : length (take count kept) ≡ count = length-take-le count kept (omega arith) in
      (good, roomy, e ∙ ap found.Whole (rw l at (whole-now (take count kept) b n (within_open kept count good) e)))
  comes found.Open e good roomy = (good, roomy, e)
  comes found.Neither e good roomy =
      pick_cases (VerdictSays kept count b room) (eqb count 0) (λ z. (good, roomy, e, eqb-true _ _ z)) (λ z. (good, roomy, e))

  -- Each verdict says that.
  pub verdict-says : VerdictSays kept count b room (verdict_on kept count b room)
  unfolding verdict_on
  verdict-says =
      pick_cases (VerdictSays kept count b room) (within_range kept count)
      (λ good. pick_cases (VerdictSays kept count b room) (leb 212 room) (λ l. comes _ refl good (leb-true _ _ l)) (λ l. (good, leb-false _ _ l)))
      (λ e. e)
