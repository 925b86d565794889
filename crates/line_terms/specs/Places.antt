-- Lists of frames with the places where they stand.
use Rattle.std.specs.Prelude.{ℕ, ◌<◌, ◌↔◌}
use mathlib.Core.List.{List, [], ◌∷◌, ◌++◌, map, Memᴰ}

-- A frame and its place, document 01's term: that of its first byte, counted from 0.
pub record Found : Type 0 where
  pub place : ℕ
  pub frame : List ℕ

-- Every place is above p.
abbrev pub AllAbove : ℕ → List Found → Type 0
AllAbove p [] = Unit
AllAbove p (f ∷ fs) = (p < f.place) × AllAbove p fs

-- Each place is above those before it.
abbrev pub Rising : List Found → Type 0
Rising [] = Unit
Rising (f ∷ fs) = AllAbove f.place fs × Rising fs

-- The bytes of the frames, joined.
unfoldable pub joined : List Found → List ℕ
joined [] = []
joined (f ∷ fs) = f.frame ++ joined fs

-- Frames found, without their places.
unfoldable pub frames_of : List Found → List (List ℕ)
frames_of fs = map (λ (f : Found). f.frame) fs

-- A strictly rising list of places and frames whose members are exactly those that `member` has.
pub record Exactly (member : ℕ → List ℕ → Type 1) : Type 1 where
  pub frames : List Found
  pub rising : Rising frames
  pub exact : (place : ℕ) (frame : List ℕ) → Memᴰ (record { place = place; frame = frame }) frames ↔ member place frame
