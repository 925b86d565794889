-- Laws of one call of a receiver that has heard a line: what it answers, what it hands on, and that it has then heard one symbol more.
use Rattle.std.specs.Prelude.{ℕ, ◌≤◌, ◌<◌, ◌≡◌, refl, Bool, true, false, List, [], ◌∷◌, ◌++◌, length, drop, leb, Err}
use Rattle.frame.specs.declared.refusal.Refusal.TheVariants.{ShortMemory}
use Rattle.line.specs.Answer.{handed}
use Rattle.std.proofs.Common.{arith, ap, ◌∙◌, append-nil, append_assoc, length-append, length-drop, leb-true, leb-false}
use Rattle.std.proofs.lemmas.List.{length-replicate}
use Rattle.std.proofs.Math.Seq.{take-append_seam}
use Rattle.laws.specs.Memory.{Outcome, outcome, over}
use Rattle.laws.specs.Test.{pick}
use Rattle.frame.specs.Recognition.{recognised}
use Rattle.frame.proofs.RecognitionLaws.{open_most}
use Rattle.line_verdict.specs.VerdictLaws.{within_as}
use Rattle.line_terms.specs.Line.{Symbol}
use Rattle.line_terms.specs.Places.{Found, joined}
use Rattle.line_terms.proofs.PlaceLaws.{joined-append}
use Rattle.line_terms.specs.Scan.{scan}
use Rattle.line_terms.proofs.NewFrames as new
use Rattle.line_terms.proofs.ScanLaws.{scan_kept_open, place-joined, place-count, place_kept, one_more}
use Rattle.line.specs.Receiver.{fresh, kept_bytes, within_range, refused, reading_with, keeping, delivered, called}
use Rattle.line.specs.declared.Receiver.{Receiver}
use Rattle.line.specs.declared.Received.{Received}

-- The frames that one symbol more brings.
abbrev pub new_frames : List Symbol → Symbol → List Found
new_frames x s = new.new_frames x (s ∷ [])

-- A receiver that has heard a line keeps what the scan of the line keeps.
pub record HasReceived (x : List Symbol) (r : Receiver) : Type 0 where
  pub size : length r.kept ≡ 211
  pub bytes : kept_bytes r ≡ (scan 0 0 x).kept
  pub count : r.count ≡ length (scan 0 0 x).kept

-- It keeps at most 211 bytes.
pub received-most : {x : List Symbol} {r : Receiver} → HasReceived x r → r.count ≤ 211
received-most {x} h = omega (arith, h.count, open_most (scan 0 0 x).kept (scan_kept_open 0 0 x))

-- A fresh receiver has heard nothing.
pub fresh-received : HasReceived [] fresh
unfolding fresh kept_bytes scan
fresh-received = record { size = length-replicate {A = ℕ} 211 0; bytes = refl; count = refl }

-- A receiver that keeps what the scan of another line keeps has heard that line.
keeping-received : {x y : List Symbol} {r : Receiver} (b : List ℕ) → HasReceived x r → b ≡ (scan 0 0 y).kept → HasReceived y (keeping b r)
unfolding keeping kept_bytes
keeping-received {x} {y} {r} b h e =
    let l : length b ≤ 211 = rw e (open_most (scan 0 0 y).kept (scan_kept_open 0 0 y)) in
    let z : length r.kept ≡ 211 = h.size in
    record {
      size = simp (length-append, length-drop) (omega arith);
      bytes = take-append_seam b (drop (length b) r.kept) ∙ e;
      count = ap length e;
    }

-- What it reads with one symbol more: the bytes and the number of the new frames, and what the scan keeps after that symbol.
module _ {x : List Symbol} {r : Receiver} (s : Symbol) (h : HasReceived x r) where
  pub reads-joined : joined (reading_with r s).frames ≡ joined (new_frames x s)
  unfolding reading_with new.new_frames
  reads-joined = rw h.bytes (place-joined _ _ _)

  reads-count : length (reading_with r s).frames ≡ length (new_frames x s)
  unfolding reading_with new.new_frames
  reads-count = rw h.bytes (place-count _ _ _)

  reads_kept : (reading_with r s).kept ≡ (scan 0 0 (x ++ (s ∷ []))).kept
  unfolding reading_with
  reads_kept = rw (h.bytes, (one_more x s).kept) (place_kept _ _ _)

-- It is within its range, so a call looks at the memory.
pub received-within : {x : List Symbol} {r : Receiver} → HasReceived x r → within_range r ≡ true
unfolding kept_bytes
received-within {x} {r} h = within_as r.kept r.count (received-most h) (ap recognised h.bytes ∙ scan_kept_open 0 0 x)

called-within : {x : List Symbol} {r : Receiver} (s : Symbol) (m : List ℕ) → HasReceived x r →
    called s r m ≡ pick (leb 212 (length m)) (delivered (reading_with r s) r m) (refused ShortMemory r m)
unfolding called
called-within s m h = rw (received-within h)

-- What a call answers: refused with 1 under 212 bytes of memory, and nothing changed; else the new frames, over the front of the memory.
pub data Answers (x : List Symbol) (s : Symbol) (r : Receiver) (m : List ℕ) (returned : Received) (left : List ℕ) : Type 0 where
  ignores : length m < 212 → returned.answer ≡ Err ShortMemory → returned.receiver ≡ r → left ≡ m → Answers x s r m returned left
  delivers : 212 ≤ length m → returned.answer ≡ handed (length (joined (new_frames x s))) (length (new_frames x s)) →
      HasReceived (x ++ (s ∷ [])) returned.receiver → left ≡ over (joined (new_frames x s)) m → Answers x s r m returned left

pub answers : {x : List Symbol} {s : Symbol} {r : Receiver} {m : List ℕ} {returned : Received} {left : List ℕ} → HasReceived x r →
    outcome returned left ≡ called s r m → Answers x s r m returned left
unfolding refused delivered
answers {x} {s} {r} {m} {returned} {left} h e = go (leb 212 (length m)) refl (e ∙ called-within s m h)
  where
    go : (b : Bool) → leb 212 (length m) ≡ b → outcome returned left ≡ pick b (delivered (reading_with r s) r m) (refused ShortMemory r m) →
        Answers x s r m returned left
    go true l q =
        delivers (leb-true _ _ l)
        (ap (λ (o : Outcome Received). o.answer.answer) q ∙ rw (reads-joined s h, reads-count s h))
        (rw (ap (λ (o : Outcome Received). o.answer.receiver) q) (keeping-received (reading_with r s).kept h (reads_kept s h)))
        (ap (λ (o : Outcome Received). o.memory) q ∙ ap (λ (l : List ℕ). over l m) (reads-joined s h))
    go false l q =
        ignores (leb-false _ _ l) (ap (λ (o : Outcome Received). o.answer.answer) q) (ap (λ (o : Outcome Received). o.answer.receiver) q)
        (ap (λ (o : Outcome Received). o.memory) q)

-- After more symbols the receiver has heard them too, and the bytes of the frames found with them have been handed on.
pub record After (x y : List Symbol) (bytes : List ℕ) (r : Receiver) : Type 0 where
  pub heard : HasReceived (x ++ y) r
  pub frames : joined (scan 0 0 (x ++ y)).frames ≡ joined (scan 0 0 x).frames ++ bytes

-- After no symbol, after some and then more, and after one.
pub after_none : {x : List Symbol} {r : Receiver} → HasReceived x r → After x [] [] r
after_none {x} h = record { heard = rw append-nil h; frames = rw (append-nil x, append-nil) }

pub after_then : {x y z : List Symbol} {g h : List ℕ} {r r' : Receiver} → After x y g r → After (x ++ y) z h r' →
    After x (y ++ z) (g ++ h) r'
after_then {x} {y} {z} a b =
    record {
      heard = rw append_assoc at b.heard;
      frames = rw (← append_assoc x y z, b.frames, a.frames, append_assoc);
    }

pub after_one : {x : List Symbol} {s : Symbol} {r : Receiver} → HasReceived (x ++ (s ∷ [])) r → After x (s ∷ []) (joined (new_frames x s)) r
after_one {x} {s} h = record { heard = h; frames = rw (new.new-after x (s ∷ [])) (joined-append (scan 0 0 x).frames (new_frames x s)) }
