-- What the scan keeps is the rest of the line, and a line has one rest only; behind a silence nothing is kept.
use Rattle.std.specs.Prelude.{ℕ, ◌+◌, ◌≤◌, ◌<◌, ◌≡◌, refl, List, [], ◌∷◌, ◌++◌, map, length, take, drop}
use Rattle.std.proofs.Common.{arith, sym, ◌∙◌, ap, inl, inr, append-nil, length-append, drop_of_length-le}
use Rattle.std.proofs.Math.Decide.{dec_lt}
use Rattle.std.proofs.lemmas.List.{drop-append-le}
use Rattle.frame.specs.Recognition.{recognised}
use Rattle.frame.proofs.RecognitionLaws.{open_completes, completes_open, frame-whole}
use Rattle.frame.specs.declared.Recognised.TheVariants.{Whole, Open}
use Rattle.line_terms.specs.Line.{Symbol, byte, silence, Stands, Choice, Keeps}
use Rattle.line_terms.specs.Rest.{MayBecome, CoveredByNone, RestOf}
use Rattle.line_terms.proofs.BeginsLaws.{same_bytes}
use Rattle.line_terms.specs.Scan.{scan}
use Rattle.line_terms.proofs.OneChoice.{OneChoice, one_choice}
use Rattle.line_terms.proofs.TakenLaws.{Read, Beside}
use Rattle.line_terms.proofs.ScanCertain.{scan-reads}
use Rattle.line_terms.proofs.Closed.{not-bytes}

-- Bytes that stand in front of others.
in_front : (k f : List ℕ) → take (length f) (map byte k) ≡ map byte f → f ++ drop (length f) k ≡ k
in_front k [] e = refl
in_front [] (b ∷ f) e = absurd (let z : ◌≡◌ {A = ℕ} 0 1 = cc in omega arith)
in_front (a ∷ k) (b ∷ f) e =
    let same : b ≡ a = cc in
    let rest : f ++ drop (length f) k ≡ k = in_front k f (cc) in
    cc

-- No frame stands where the line may still become one.
open_none : (x : List Symbol) (place : ℕ) (f : List ℕ) → MayBecome x place → Stands x place f → ⊥
open_none x place f m s =
    let split : f ++ drop (length f) m.begun ≡ m.begun = in_front m.begun f (rw m.there at s.there) in
    let whole : recognised m.begun ≡ Whole (length f) = rw split at (frame-whole f (drop (length f) m.begun) s.whole) in
    let begun : recognised m.begun ≡ Open = completes_open m.begun m.completes.more m.completes.some m.completes.whole in
    let z : ◌≡◌ {A = ℕ} 0 1 = cc in
    omega arith

-- The scan of a line, with the choice that keeps its rule.
module _ (x : List Symbol) where
  one : OneChoice x
  one = one_choice x

  read : Read x [] one.taken 0 (scan 0 0 x)
  read = rw append-nil at (scan-reads x [] one.taken (rw append-nil one.keeps))

  kept_there : drop read.stop x ≡ map byte (scan 0 0 x).kept
  kept_there = read.there ∙ append-nil (map byte (scan 0 0 x).kept)

  stop_open : MayBecome x read.stop
  stop_open =
      record {
        begun = (scan 0 0 x).kept;
        there = kept_there;
        completes = open_completes (scan 0 0 x).kept read.begun;
      }

  -- Any choice that keeps the rule takes what this one takes.
  module _ (taken : Choice) (keeps : Keeps x taken) where
    stop-uncovered : CoveredByNone taken read.stop
    stop-uncovered start frame t h = go (read.passed.free (record { place = start; frame = frame }) ((one.only taken keeps start frame).1 t))
      where
        go : Beside read.stop (record { place = start; frame = frame }) → start + length frame ≤ read.stop
        go (inl l) = l
        go (inr l) =
            let e : start ≡ read.stop = omega arith in
            absurd (open_none x read.stop frame stop_open (rw e at ((keeps start frame).0 t).0))

    earlier_given_up : (earlier : ℕ) → earlier < read.stop → MayBecome x earlier → CoveredByNone taken earlier → ⊥
    earlier_given_up earlier l m u =
        read.passed.given_up earlier (omega arith) l m (λ start frame t h. u start frame ((one.only taken keeps start frame).0 t) h)

  -- What the scan keeps is the rest of the line.
  pub scan-rest : RestOf x (scan 0 0 x).kept
  scan-rest =
      record {
        place = read.stop;
        there = kept_there;
        open_place = stop_open;
        uncovered = stop-uncovered;
        first = earlier_given_up;
      }

  -- The rest of a line is determined.
  pub one-rest : {a b : List ℕ} → RestOf x a → RestOf x b → a ≡ b
  one-rest {a} {b} r s = same_bytes a b (sym r.there ∙ ap (λ (p : ℕ). drop p x) same ∙ s.there)
    where
      never : {c d : List ℕ} (u : RestOf x c) (v : RestOf x d) → u.place < v.place → ⊥
      never u v l = v.first one.taken one.keeps u.place l u.open_place (u.uncovered one.taken one.keeps)

      same : r.place ≡ s.place
      same =
          elim (dec_lt r.place s.place) [
            | yes l ↦ absurd (never r s l)
            | no l ↦ elim (dec_lt s.place r.place) [ yes k ↦ absurd (never s r k) | no k ↦ omega arith ]
          ]

-- Behind a silence nothing is kept.
pub ended-rest : (x : List Symbol) → (scan 0 0 (x ++ (silence ∷ []))).kept ≡ []
ended-rest x =
    let r : RestOf (x ++ (silence ∷ [])) (scan 0 0 (x ++ (silence ∷ []))).kept = scan-rest (x ++ (silence ∷ [])) in
    let long : length (x ++ (silence ∷ [])) ≡ length x + 1 = length-append x (silence ∷ []) in
    elim (dec_lt (length x) r.place) [
      | yes l ↦ same_bytes (scan 0 0 (x ++ (silence ∷ []))).kept [] (sym r.there ∙ drop_of_length-le (x ++ (silence ∷ [])) {i = r.place} (omega arith))
      | no l ↦
          absurd
          (not-bytes (drop r.place x) (scan 0 0 (x ++ (silence ∷ []))).kept
          (sym (drop-append-le r.place x (silence ∷ []) (omega arith)) ∙ r.there))
    ]
