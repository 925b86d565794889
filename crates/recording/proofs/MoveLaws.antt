-- Laws of a move to the front of a buffer, byte by byte.
use Rattle.std.specs.Prelude.{ℕ, ◌+◌, ◌-◌, ◌≤◌, ◌<◌, ◌≡◌, List, map, take, drop, set}
use Rattle.std.proofs.Common.{arith, ap, ◌∙◌, map-id, length-drop}
use Rattle.std.proofs.Math.Path.{sym}
use Rattle.std.proofs.Math.ListN.{length, get_or, length-map}
use Rattle.std.proofs.Math.Seq.{get_or-drop, get_or-take, length-take-le}
use Rattle.slice_bytes.specs.Place.{slice}
use Rattle.laws.specs.Memory.{over}
use Rattle.laws.specs.MemoryLaws.{Mapping, mapping_start, mapping_next, mapping_end, over-behind}

-- A byte as it is.
abbrev pub itself : ℕ → ℕ
itself b = b

-- So many bytes stand between two places of a buffer.
slice_length : (rest end : ℕ) (buffer : List ℕ) → end ≤ length buffer → length (slice rest end buffer) ≡ end - rest
unfolding slice
slice_length rest end buffer h = rw (length-drop, length-take-le)

-- The first `i` of them stand over the front of the buffer as it was.
abbrev pub Moving : ℕ → ℕ → List ℕ → ℕ → List ℕ → Type 0
Moving rest end before i buffer = Mapping itself (slice rest end before) before i buffer

module _ {rest end : ℕ} {before : List ℕ} (o : rest ≤ end) (h : end ≤ length before) where
  pub moving_start : Moving rest end before 0 before
  moving_start = mapping_start (omega (arith, slice_length rest end before h))

  pub moving_next : {i : ℕ} {buffer : List ℕ} → Moving rest end before i buffer → i < end - rest →
      Moving rest end before (i + 1) (set buffer i (get_or buffer (rest + i) 0))
  unfolding slice
  moving_next {i} {buffer} m l =
      let size : length (drop rest (take end before)) ≡ end - rest = slice_length rest end before h in
      let few : length (map itself (take i (drop rest (take end before)))) ≡ i = length-map (take i (drop rest (take end before))) itself ∙ length-take-le i (drop rest (take end before)) m.passed in
      let there : get_or buffer (rest + i) 0 ≡ get_or before (rest + i) 0 = rw m.so_far (over-behind (map itself (take i (drop rest (take end before)))) before (rest + i) (omega arith) (omega arith)) in
      let same : get_or (drop rest (take end before)) i 0 ≡ get_or before (rest + i) 0 = get_or-drop rest (take end before) i 0 ∙ get_or-take end before (rest + i) 0 (omega arith) in
      mapping_next m (omega arith) (there ∙ sym same)

  pub moving_end : {i : ℕ} {buffer : List ℕ} → Moving rest end before i buffer → end - rest ≤ i → buffer ≡ over (slice rest end before) before
  moving_end m l = mapping_end m (omega (arith, slice_length rest end before h)) ∙ ap (λ (k : List ℕ). over k before) (map-id (slice rest end before))
