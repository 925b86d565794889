-- Laws of stretches that hold no 68: they join, a search that finds the first 68 passes one, and draining goes on behind them.
use Rattle.std.specs.Prelude.{ℕ, zero, suc, ◌+◌, ◌-◌, ◌≤◌, ◌<◌, ◌≡◌, refl, Bool, true, false, List, [], ◌∷◌, take, drop, eqb, leb}
use Rattle.std.proofs.Common.{arith, ap, sym, subst, ◌∙◌, ◌++◌, length-append, drop-drop, get_or-take, leb-true, leb-false}
use Rattle.std.proofs.Math.Nat.{add-zero}
use Rattle.std.proofs.Math.ListN.{length, get_or, length-drop, get_or-append}
use Rattle.std.proofs.Math.Seq.{get_or-drop, drop-append_seam}
use Rattle.std.proofs.lemmas.Bool.{eqb-false}
use Rattle.slice_bytes.specs.Place.{slice, index_of, index_after}
use Rattle.frame.specs.Recognition.{recognised}
use Rattle.frame.proofs.RecognitionLaws.{other-start}
use Rattle.frame.specs.declared.Recognised.TheVariants.{Neither}
use Rattle.line_terms.specs.Scan.{before_silence}
use Rattle.line_block.proofs.DrainLaws.{Draining, draining_next}
use Rattle.line_block.specs.Skip.{Passes}

-- Nothing is passed over before the first step.
pub passes_none : (line : List ℕ) (at : ℕ) → at ≤ length line → Passes line at at
passes_none line at h = record { later = omega arith; within = h; none = λ i l k. absurd (omega arith) }

-- Two stretches, one behind the other, are one.
pub passes_join : {line : List ℕ} {a b c : ℕ} → Passes line a b → Passes line b c → Passes line a c
passes_join {line} {a} {b} {c} p q =
    record {
      later = let x : a ≤ b = p.later in let y : b ≤ c = q.later in omega arith;
      within = q.within;
      none = λ i l k. by i l k (leb b i) refl;
    }
  where
    by : (i : ℕ) → a ≤ i → i < c → (t : Bool) → leb b i ≡ t → get_or line i 0 ≡ 0x68 → ⊥
    by i l k true e = q.none i (leb-true _ _ e) k
    by i l k false e = p.none i l (leb-false _ _ e)

-- One byte that is not 68.
pub passes-one : (line : List ℕ) (at : ℕ) → at < length line → (get_or line at 0 ≡ 0x68 → ⊥) → Passes line at (at + 1)
passes-one line at h n =
    record {
      later = omega arith;
      within = omega arith;
      none = λ i l k. let e : i ≡ at = omega arith in λ w. n (rw e at w);
    }

-- A stretch of so many bytes that holds no 68, with which those from a place on begin; the others begin behind it.
module _ (line stretch rest : List ℕ) (at width : ℕ) (h : at ≤ length line) (size : length stretch ≡ width) (e : drop at line ≡ stretch ++ rest) where
  stretch_within : at + width ≤ length line
  stretch_within =
      let all : length line - at ≡ length stretch + length rest = sym (length-drop at line) ∙ ap length e ∙ length-append stretch rest in
      omega arith

  pub passes_stretch : ((k : ℕ) → k < length stretch → get_or stretch k 0 ≡ 0x68 → ⊥) → Passes line at (at + width)
  passes_stretch n = record { later = omega arith; within = stretch_within; none = none }
    where
      none : (i : ℕ) → at ≤ i → i < at + width → get_or line i 0 ≡ 0x68 → ⊥
      none i a b w =
          let k : at + (i - at) ≡ i = omega arith in
          let there : get_or line i 0 ≡ get_or stretch (i - at) 0 =
          sym (rw k at (get_or-drop at line (i - at) 0)) ∙ ap (λ (l : List ℕ). get_or l (i - at) 0) e ∙ get_or-append stretch rest 0 (i - at) (omega arith) in
          n (i - at) (omega arith) (sym there ∙ w)

  pub rest_behind : rest ≡ drop (at + width) line
  rest_behind =
      sym (rw size at (sym (drop-drop (length stretch) at line) ∙ ap (drop (length stretch)) e ∙ drop-append_seam stretch rest))

-- Before the first b in a list there is none.
index_after_lem : (b x : ℕ) (xs : List ℕ) (i : ℕ) (t : Bool) → eqb x b ≡ t → ((j : ℕ) → j < index_of b xs → get_or xs j 0 ≡ b → ⊥) →
    i < index_after t (index_of b xs) → get_or (x ∷ xs) i 0 ≡ b → ⊥
unfolding index_after
index_after_lem b x xs i true q rest h e = omega arith
index_after_lem b x xs zero false q rest h e = eqb-false _ _ q e
index_after_lem b x xs (suc i) false q rest h e = rest i (omega arith) e

index_first : (b : ℕ) (xs : List ℕ) (i : ℕ) → i < index_of b xs → get_or xs i 0 ≡ b → ⊥
unfolding index_of
index_first b [] i h e = omega arith
index_first b (x ∷ xs) i h e = index_after_lem b x xs i (eqb x b) refl (index_first b xs) h e

-- What the search for the first 68 between two places passes.
pub find_passes : (line : List ℕ) (from to r : ℕ) → to ≤ length line → r ≡ from + index_of 0x68 (slice from to line) → r ≤ to → Passes line from r
unfolding slice
find_passes line from to r h e l = record { later = omega arith; within = omega arith; none = none }
  where
    none : (i : ℕ) → from ≤ i → i < r → get_or line i 0 ≡ 0x68 → ⊥
    none i a b w =
        let k : from + (i - from) ≡ i = omega arith in
        let same : get_or (drop from (take to line)) (i - from) 0 ≡ get_or line i 0 =
        get_or-drop from (take to line) (i - from) 0 ∙ rw k (get_or-take to line i 0 (omega arith)) in
        index_first 0x68 (drop from (take to line)) (i - from) (omega arith) (same ∙ w)

-- Draining goes on behind a byte that is not 68, and behind a stretch that is passed over.
module _ {line : List ℕ} {closed : Bool} {m₀ m : List ℕ} {written count : ℕ} where
  draining_other : {at : ℕ} → Draining line closed m₀ m at written count → at < length line → (get_or line at 0 ≡ 0x68 → ⊥) →
      Draining line closed m₀ m (at + 1) written count
  unfolding before_silence
  draining_other {at} d h n =
      let some : 0 < length (drop at line) = simp length-drop (omega arith) in
      let first : get_or (drop at line) 0 0 ≡ get_or line at 0 = get_or-drop at line 0 0 ∙ rw add-zero in
      let none : recognised (drop at line) ≡ Neither = other-start (drop at line) some (λ w. n (sym first ∙ w)) in
      draining_next line closed m₀ m at written count d h (ap (before_silence closed) none)

  draining_on : (k : ℕ) {at : ℕ} → Draining line closed m₀ m at written count → Passes line at (at + k) →
      Draining line closed m₀ m (at + k) written count
  draining_on zero d p = rw add-zero d
  draining_on (suc k) {at} d p =
      let same : at + suc k ≡ at + 1 + k = omega arith in
      let h : at + suc k ≤ length line = p.within in
      rw same
      (draining_on k (draining_other d (omega arith) (p.none at (omega arith) (omega arith)))
      (record { later = omega arith; within = omega arith; none = λ i a b. p.none i (omega arith) (omega arith) }))

  pub draining_passes : {at to : ℕ} → Draining line closed m₀ m at written count → Passes line at to →
      Draining line closed m₀ m to written count
  draining_passes {at} {to} d p =
      let l : at ≤ to = p.later in
      let k : at + (to - at) ≡ to = omega arith in
      subst (λ (n : ℕ). Draining line closed m₀ m n written count) k
      (draining_on (to - at) d (subst (λ (n : ℕ). Passes line at n) (sym k) p))
