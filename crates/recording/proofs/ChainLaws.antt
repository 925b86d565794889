-- What calls find that read on behind what is kept, where each says and leaves what the bytes kept and the symbols brought read as.
use Rattle.std.specs.Prelude.{ℕ, ◌≡◌, refl, List, [], ◌∷◌, ◌++◌, map, length, take}
use Rattle.std.proofs.Common.{ap, sym, ◌∙◌}
use Rattle.std.proofs.Math.Seq.{take-append_seam}
use Rattle.laws.specs.All.{AllOf}
use Rattle.laws.specs.AllLaws.{all-before}
use Rattle.laws.specs.Memory.{over}
use Rattle.line_terms.specs.Line.{Symbol, byte, silence, Newly}
use Rattle.line_terms.specs.Rest.{RestOf}
use Rattle.line_terms.proofs.RestLaws.{scan-rest, ended-rest}
use Rattle.line_terms.specs.Places.{frames_of, Exactly}
use Rattle.line_terms.specs.Scan.{LineReading, scan}
use Rattle.line_terms.proofs.NewFrames.{newly_found, new-reads}
use Rattle.line_terms.proofs.Turns.{BringsFrames, brings-reads, Turns, none, turn, turns-from-nothing}
use Rattle.recording.specs.Chain.{Says, refuses, keeps, IsRefused, BufferCall, kept_by, kept_after, GoesOn, Chain, heard_by, heard}

-- What the bytes kept and the symbols brought read as.
abbrev pub reading_of : BufferCall → LineReading
reading_of c = scan 0 0 (map byte (take c.kept c.buffer) ++ c.brought)

-- A call is refused, or says and leaves what that reading keeps.
pub data Answers (c : BufferCall) : Type 0 where
  refused : c.says ≡ refuses → Answers c
  reads : c.says ≡ keeps (length (reading_of c).kept) → c.left ≡ over (reading_of c).kept c.buffer → Answers c

-- The frames that a call finds, and those that a list of calls finds.
abbrev pub found_by : Says → List (List ℕ) → List (List ℕ)
found_by refuses frames = []
found_by (keeps n) frames = frames

abbrev pub found_in : List BufferCall → List (List ℕ)
found_in [] = []
found_in (c ∷ cs) = found_by c.says (frames_of (reading_of c).frames) ++ found_in cs

-- A call that is not refused reads what is kept and then what it brings.
call-reading : {front : List ℕ} {c : BufferCall} → GoesOn front c → (IsRefused c.says → ⊥) → reading_of c ≡ scan 0 0 (map byte front ++ c.brought)
call-reading {front} {c} h w =
    ap (λ (l : List ℕ). scan 0 0 (map byte l ++ c.brought)) (ap (λ (n : ℕ). take n c.buffer) (h.told w) ∙ h.begins w)

-- So each call is a turn, or none.
call-turns : {front last : List ℕ} {c : BufferCall} {z : List Symbol} {more : List (List ℕ)} → GoesOn front c → Answers c →
    Turns (kept_by c.says front c.left) z more last →
    Turns front (heard_by c.says c.brought ++ z) (found_by c.says (frames_of (reading_of c).frames) ++ more) last
call-turns h (refused a) t = rw a (rw a at t)
call-turns {front} {c = c} h (reads a b) t = rw a (turn brings (rw kept at t))
  where
    reading : reading_of c ≡ scan 0 0 (map byte front ++ c.brought)
    reading = call-reading h (λ r. rw a at r)

    kept : kept_by c.says front c.left ≡ (reading_of c).kept
    kept = rw (a, b, take-append_seam (reading_of c).kept _)

    brings : BringsFrames front c.brought (frames_of (reading_of c).frames) (reading_of c).kept
    brings = record { found = ap (λ (r : LineReading). frames_of r.frames) reading; keeps = ap (λ (r : LineReading). r.kept) reading }

calls_turn : (front : List ℕ) (calls : List BufferCall) → Chain front calls → AllOf Answers calls → Turns front (heard calls) (found_in calls) (kept_after front calls)
calls_turn front [] h a = none
calls_turn front (c ∷ cs) h a = call-turns h.0 a.0 (calls_turn (kept_by c.says front c.left) cs h.1 a.1)

-- What all calls find, and what is kept after them.
module _ (calls : List BufferCall) (h : Chain [] calls) (a : AllOf Answers calls) where
  pub chain_finds : frames_of (scan 0 0 (heard calls)).frames ≡ found_in calls
  chain_finds = (turns-from-nothing (calls_turn [] calls h a)).0

  chain_front : (scan 0 0 (heard calls)).kept ≡ kept_after [] calls
  chain_front = (turns-from-nothing (calls_turn [] calls h a)).1

  pub chain_keeps : RestOf (heard calls) (kept_after [] calls)
  chain_keeps = rw (← chain_front) (scan-rest (heard calls))

-- What a call finds that is not refused, by the line before it: the frames that became certain with what it brings, and the rest of the line.
pub record NewlyRead (line : List Symbol) (c : BufferCall) : Type 1 where
  pub new : Exactly (Newly line c.brought)
  pub same : frames_of new.frames ≡ frames_of (reading_of c).frames
  pub rest : RestOf (line ++ c.brought) (reading_of c).kept

newly_read : (line : List Symbol) {front : List ℕ} {c : BufferCall} → front ≡ (scan 0 0 line).kept → GoesOn front c → (IsRefused c.says → ⊥) → NewlyRead line c
newly_read line {front} {c} e h w =
    let reading : reading_of c ≡ scan 0 0 (map byte (scan 0 0 line).kept ++ c.brought) =
    call-reading h w ∙ ap (λ (l : List ℕ). scan 0 0 (map byte l ++ c.brought)) e in
    let brings : BringsFrames (scan 0 0 line).kept c.brought (frames_of (reading_of c).frames) (reading_of c).kept =
    record { found = ap (λ (r : LineReading). frames_of r.frames) reading; keeps = ap (λ (r : LineReading). r.kept) reading } in
    record {
      new = newly_found line c.brought;
      same = new-reads line c.brought ∙ sym brings.found;
      rest = rw (brings-reads line refl brings).keeps at (scan-rest (line ++ c.brought));
    }

-- Of calls joined, the first are calls, and the others go on from what they keep.
chain_split : (front : List ℕ) (earlier later : List BufferCall) → Chain front (earlier ++ later) →
    Chain front earlier × Chain (kept_after front earlier) later
chain_split front [] later h = (tt, h)
chain_split front (e ∷ es) later h = let s = chain_split (kept_by e.says front e.left) es later h.1 in ((h.0, s.0), s.1)

pub chain_each : (earlier : List BufferCall) (c : BufferCall) (later : List BufferCall) → Chain [] (earlier ++ (c ∷ later)) →
    AllOf Answers (earlier ++ (c ∷ later)) → (IsRefused c.says → ⊥) → NewlyRead (heard earlier) c
chain_each earlier c later h a w =
    let s = chain_split [] earlier (c ∷ later) h in
    newly_read (heard earlier) (sym (chain_front earlier s.0 (all-before Answers earlier (c ∷ later) a))) s.1.0 w

-- Behind calls whose line ends in a silence the others begin anew.
pub chain_anew : (earlier later : List BufferCall) (x : List Symbol) → Chain [] (earlier ++ later) → AllOf Answers (earlier ++ later) →
    heard earlier ≡ x ++ (silence ∷ []) → Chain [] earlier × Chain [] later
chain_anew earlier later x h a e =
    let s = chain_split [] earlier later h in
    let none : kept_after [] earlier ≡ [] =
    sym (chain_front earlier s.0 (all-before Answers earlier later a)) ∙ ap (λ (l : List Symbol). (scan 0 0 l).kept) e ∙ ended-rest x in
    (s.0, rw none at s.1)
