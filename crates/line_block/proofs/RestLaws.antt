-- What a reading keeps is the end of the block that was read.
use Rattle.std.specs.Prelude.{ℕ, ◌-◌, ◌≡◌, Bool, true, false, List, [], ◌∷◌, ◌++◌, map, length, drop}
use Rattle.std.proofs.Common.{arith, ap, sym, ◌∙◌, length-drop, drop_of_length-le}
use Rattle.std.proofs.Math.Decide.{dec_lt}
use Rattle.std.proofs.Math.Nat.{sub-zero}
use Rattle.std.proofs.Math.Seq.{drop-length}
use Rattle.line_terms.specs.Line.{byte, silence}
use Rattle.line_terms.specs.Rest.{RestOf}
use Rattle.line_terms.specs.Scan.{bytes_before, scan}
use Rattle.line_terms.proofs.BeginsLaws.{bytes-from}
use Rattle.line_terms.proofs.RestLaws.{scan-rest}
use Rattle.line_block.specs.Drain.{symbols, reading_from}
use Rattle.line_block.proofs.DrainLaws.{reading-closed}
use Rattle.line_block.specs.Block.{block_reading}

-- Bytes from a place on are the last of all the bytes.
last-bytes : (place : ℕ) (bytes kept : List ℕ) → drop place bytes ≡ kept → drop (length bytes - length kept) bytes ≡ kept
last-bytes place bytes kept e =
    let long : length bytes - place ≡ length kept = sym (length-drop place bytes) ∙ ap length e in
    elim (dec_lt (length bytes) place) [
      | yes l ↦
          let all : length bytes - length kept ≡ length bytes = omega arith in
          ap (λ (n : ℕ). drop n bytes) all ∙ drop-length bytes ∙ sym (drop_of_length-le bytes {i = place} (omega arith)) ∙ e
      | no l ↦
          let here : length bytes - length kept ≡ place = omega arith in
          ap (λ (n : ℕ). drop n bytes) here ∙ e
    ]

-- The rest of a block, where its answer says.
pub rest-there : (block : List ℕ) (ended : Bool) →
    drop (length block - length (block_reading block ended).kept) block ≡ (block_reading block ended).kept
unfolding block_reading reading_from symbols
rest-there block true =
    let none : (scan 0 0 (map byte block ++ (silence ∷ []))).kept ≡ [] = reading-closed 0 block in
    rw (none, sub-zero) (drop-length block)
rest-there block false =
    let r : RestOf (map byte block) (scan 0 0 (map byte block)).kept = scan-rest (map byte block) in
    last-bytes r.place block (scan 0 0 (map byte block)).kept
    (sym (bytes-from r.place block) ∙ ap bytes_before r.there ∙ bytes-from 0 (scan 0 0 (map byte block)).kept)
