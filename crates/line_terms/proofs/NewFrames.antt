-- The frames that more symbols bring: those that the scan finds with them, which are exactly those certain after them and not before.
use Rattle.std.specs.Prelude.{ℕ, ◌≡◌, ◌⊎◌}
use Rattle.std.proofs.Common.{inl, inr}
use mathlib.Core.List.Memᴰ
use mathlib.Core.List.{List, ◌++◌, map, Memᴰ}
use Rattle.line_terms.specs.Line.{Symbol, byte, Certain, Newly}
use Rattle.line_terms.specs.Places.{Found, Rising, frames_of, Exactly}
use Rattle.line_terms.proofs.PlaceLaws.{once}
use Rattle.line_terms.specs.Scan.{scan}
use Rattle.line_terms.proofs.ScanLaws.{scan-rising, more, place-frames}
use Rattle.line_terms.proofs.ScanCertain.{found-certain, certain-found}

-- The frames that the scan finds with more symbols.
unfoldable pub new_frames : List Symbol → List Symbol → List Found
new_frames x y = (scan (more x y).place 0 (map byte (scan 0 0 x).kept ++ y)).frames

module _ (x y : List Symbol) where
  pub new-after : (scan 0 0 (x ++ y)).frames ≡ (scan 0 0 x).frames ++ new_frames x y
  unfolding new_frames
  new-after = (more x y).frames

  -- Without their places they are what the kept bytes and those symbols read as.
  pub new-reads : frames_of (new_frames x y) ≡ frames_of (scan 0 0 (map byte (scan 0 0 x).kept ++ y)).frames
  unfolding new_frames
  new-reads = place-frames (more x y).place 0 (map byte (scan 0 0 x).kept ++ y)

  pub new-rising : Rising (new_frames x y)
  unfolding new_frames
  new-rising = scan-rising _ 0 _

  -- They are certain after those symbols and not before, and there are no others.
  pub new-certain : (place : ℕ) (frame : List ℕ) → Memᴰ (record { place = place; frame = frame }) (new_frames x y) → Newly x y place frame
  new-certain place frame m = (
    found-certain (x ++ y) place frame (rw new-after (Memᴰ.append_right (scan 0 0 x).frames m)),
    λ c. once (new_frames x y) (certain-found x place frame c) (rw new-after at (scan-rising 0 0 (x ++ y))) m,
  )

  pub certain-new : (place : ℕ) (frame : List ℕ) → Newly x y place frame → Memᴰ (record { place = place; frame = frame }) (new_frames x y)
  certain-new place frame c =
      go (Memᴰ.append_cases (scan 0 0 x).frames (rw new-after at (certain-found (x ++ y) place frame c.0)))
    where
      f : Found
      f = record { place = place; frame = frame }

      go : Memᴰ f (scan 0 0 x).frames ⊎ Memᴰ f (new_frames x y) → Memᴰ f (new_frames x y)
      go (inl m) = absurd (c.1 (found-certain x place frame m))
      go (inr m) = m

  -- So they are exactly those.
  abbrev pub newly_found : Exactly (Newly x y)
  newly_found = record { frames = new_frames x y; rising = new-rising; exact = λ place frame. (new-certain place frame, certain-new place frame) }
