-- The two texts that document 01 gives, as what steps write in whole that bring its input and then the end.
use Rattle.std.specs.Prelude.{◌≡◌, List, [], ◌∷◌, ◌++◌, map}
use Rattle.laws.specs.All.{AllOf}
use Rattle.frame.specs.CaseFrames.{case_a, case_c}
use Rattle.frame.specs.Frame.{total, checksum_of, unmasked, address_of, control_of, length_of, field_of, data_of}
use Rattle.frame.specs.Recognition.{recognised, recognised_body, recognised_end}
use Rattle.line_terms.specs.Line.{byte, silence}
use Rattle.line_terms.specs.Places.{frames_of}
use Rattle.line_terms.specs.Scan.{scan, reading_by, before, begins, before_silence, broken, bytes_before}
use Rattle.recording.specs.Chain.{Chain}
use Rattle.listing.specs.Text.{digit, hex_of, hex_all, head_of, tail_of, text_of}
use Rattle.listing.specs.Lines.{lines_of}
use Rattle.listing.proofs.ListedBlocks.{ListCall, IsListStep, on_buffer, line_of, listed_text, lines_of_lem}

-- FE FE FE FE and then case A: `000000000001 11 00000100`, and a newline.
whole_a : (calls : List ListCall) → AllOf IsListStep calls → Chain [] (map on_buffer calls) →
    line_of calls ≡ map byte (0xFE ∷ 0xFE ∷ 0xFE ∷ 0xFE ∷ case_a) ++ (silence ∷ []) →
    listed_text calls ≡ 0x30 ∷ 0x30 ∷ 0x30 ∷ 0x30 ∷ 0x30 ∷ 0x30 ∷ 0x30 ∷ 0x30 ∷ 0x30 ∷ 0x30 ∷ 0x30 ∷ 0x31 ∷ 0x20 ∷ 0x31 ∷ 0x31 ∷ 0x20 ∷ 0x30 ∷ 0x30 ∷ 0x30 ∷ 0x30 ∷ 0x30 ∷ 0x31 ∷ 0x30 ∷ 0x30 ∷ 0x0A ∷ []
unfolding scan reading_by before begins before_silence broken bytes_before recognised recognised_body recognised_end checksum_of total frames_of lines_of text_of head_of tail_of hex_all hex_of digit address_of control_of length_of field_of data_of unmasked
whole_a calls s h e = rw e at (lines_of_lem calls s h)

-- Case C: `AAAAAAAAAAAA 13`, with no blank after, and a newline.
whole_c : (calls : List ListCall) → AllOf IsListStep calls → Chain [] (map on_buffer calls) → line_of calls ≡ map byte case_c ++ (silence ∷ []) →
    listed_text calls ≡ 0x41 ∷ 0x41 ∷ 0x41 ∷ 0x41 ∷ 0x41 ∷ 0x41 ∷ 0x41 ∷ 0x41 ∷ 0x41 ∷ 0x41 ∷ 0x41 ∷ 0x41 ∷ 0x20 ∷ 0x31 ∷ 0x33 ∷ 0x0A ∷ []
unfolding scan reading_by before begins before_silence broken bytes_before recognised recognised_body recognised_end checksum_of total frames_of lines_of text_of head_of tail_of hex_all hex_of digit address_of control_of length_of field_of data_of unmasked
whole_c calls s h e = rw e at (lines_of_lem calls s h)
