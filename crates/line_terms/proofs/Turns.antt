-- A line read on, turn by turn: symbols behind the bytes that are kept bring frames, and then other bytes are kept. What all turns bring is
-- what the whole line reads as.
use Rattle.std.specs.Prelude.{ℕ, ◌≡◌, refl, List, [], ◌++◌, map}
use Rattle.std.proofs.Common.{sym, ap, ◌∙◌, append-nil, append_assoc}
use Rattle.line_terms.specs.Line.{Symbol, byte}
use Rattle.line_terms.specs.Places.{frames_of}
use Rattle.line_terms.proofs.PlaceLaws.{frames-append}
use Rattle.line_terms.specs.Scan.{scan}
use Rattle.line_terms.proofs.ScanLaws.{More, more, place-frames, place_kept}

-- With these symbols behind the kept bytes the scan finds these frames and keeps these bytes.
pub record BringsFrames (kept : List ℕ) (y : List Symbol) (frames : List (List ℕ)) (next : List ℕ) : Type 0 where
  pub found : frames ≡ frames_of (scan 0 0 (map byte kept ++ y)).frames
  pub keeps : next ≡ (scan 0 0 (map byte kept ++ y)).kept

-- Turns from the kept bytes on: all their symbols, all their frames, and what is kept after them.
pub data Turns : List ℕ → List Symbol → List (List ℕ) → List ℕ → Type 0 where
  none : {kept : List ℕ} → Turns kept [] [] kept
  turn : {kept next last : List ℕ} {y z : List Symbol} {frames more : List (List ℕ)} → BringsFrames kept y frames next → Turns next z more last →
      Turns kept (y ++ z) (frames ++ more) last

-- After more symbols the line reads as these frames more, and these bytes are kept.
pub record ReadsAs (x y : List Symbol) (frames : List (List ℕ)) (kept : List ℕ) : Type 0 where
  pub found : frames_of (scan 0 0 (x ++ y)).frames ≡ frames_of (scan 0 0 x).frames ++ frames
  pub keeps : (scan 0 0 (x ++ y)).kept ≡ kept

pub brings-reads : (x : List Symbol) {kept next : List ℕ} {y : List Symbol} {frames : List (List ℕ)} → kept ≡ (scan 0 0 x).kept →
    BringsFrames kept y frames next → ReadsAs x y frames next
brings-reads x {y = y} e b =
    let m : More x y = more x y in
    record {
      found =
          rw (m.frames, b.found, e)
          (frames-append (scan 0 0 x).frames (scan m.place 0 (map byte (scan 0 0 x).kept ++ y)).frames
          ∙ ap (λ (l : List (List ℕ)). frames_of (scan 0 0 x).frames ++ l) (place-frames m.place 0 (map byte (scan 0 0 x).kept ++ y)));
      keeps = rw (m.kept, b.keeps, e) (place_kept m.place 0 (map byte (scan 0 0 x).kept ++ y));
    }

pub turns-read : (x : List Symbol) {kept last : List ℕ} {y : List Symbol} {frames : List (List ℕ)} → kept ≡ (scan 0 0 x).kept →
    Turns kept y frames last → ReadsAs x y frames last
turns-read x e none = record { found = rw (append-nil x, append-nil); keeps = rw append-nil (sym e) }
turns-read x e (turn {y = y} {z = z} {frames = frames} {more = others} b t) =
    let first : ReadsAs x y frames _ = brings-reads x e b in
    let rest : ReadsAs (x ++ y) z others _ = turns-read (x ++ y) (sym first.keeps) t in
    record {
      found = rw (← append_assoc x y z, rest.found, first.found) (append_assoc (frames_of (scan 0 0 x).frames) frames others);
      keeps = rw (← append_assoc x y z) rest.keeps;
    }

-- Turns from nothing on.
pub turns-from-nothing : {last : List ℕ} {y : List Symbol} {frames : List (List ℕ)} → Turns [] y frames last →
    (frames_of (scan 0 0 y).frames ≡ frames) × ((scan 0 0 y).kept ≡ last)
unfolding scan frames_of
turns-from-nothing {y = y} t = let r = turns-read [] refl t in (r.found, r.keeps)
