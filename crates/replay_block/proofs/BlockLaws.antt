-- Laws of a block: what its beginning needs, what its records come to once they are all played, and each way out of a call.
use Rattle.std.specs.Prelude.{◌≡◌, ℕ, ◌+◌, ◌-◌, ◌*◌, ◌<◌, ◌≤◌, Bool, true, false, List, length, take, drop, ◌==◌, refl, Err, None, Ok, Option, Result, Some}
use Rattle.frame.specs.declared.refusal.Refusal.{Refusal}
use Rattle.trace.specs.Front.{found_record}
use Rattle.trace.specs.declared.RecordFound.{RecordFound}
use Rattle.std.proofs.Common.{arith, sym, ◌∙◌}
use Rattle.std.proofs.Math.Path.{ap}
use Rattle.std.proofs.lemmas.Bool.{false≢true}
use Rattle.std.proofs.Math.ListN.{length-drop}
use Rattle.std.proofs.Math.Seq.{length-take-le}
use borrow.Author.Tests.{le-leb, lt-leb}
use Rattle.laws.specs.Memory.{over}
use Rattle.laws.specs.TestLaws.{pick_cases}
use Rattle.line.proofs.RescanLaws.{part_of_front}
use Rattle.line_verdict.specs.VerdictOnLaws.{within-most}
use Rattle.listing.specs.Lines.{lines_of}
use Rattle.meter.specs.Meter.{MeterSized}
use Rattle.trace.specs.Trace.{front_of}
use Rattle.trace.proofs.FrontCases.{CutOff, cut-byte, cut-pulse, cut-key, FrontCase, ended, no_kind, cut_off_lem, bad-field, front_case}
use Rattle.trace.specs.declared.TraceRecord.{TraceRecord}
use Rattle.replay.specs.Replay.{is_within, played_all}
use Rattle.replay.proofs.PlayLaws.{both-within}
use Rattle.replay_block.specs.Block.{rest_in, went_on, is_stop, refusal_of, BlockOutcome, block_outcome, lines_in, after_block, block_played, block_replayed, Stops}
use Rattle.replay_block.proofs.ReadingLaws.{reads_all, rest-stops, one-reading}
use Rattle.replay_block.specs.Run.{run_at, NumbersFit, Ready, PlaysAll}
use Rattle.replay_block.specs.declared.Session.{Session}
use Rattle.replay_block.specs.declared.BlockAnswer.TheVariants.{Refused, Played, Stopped}
use Rattle.replay_block.specs.declared.run.Run.{Run}

-- 8,192 bytes of text and 18 for each byte of the block are room enough, since the receiver keeps at most 211 bytes.
pub ready_begin : {block text : List ℕ} {s : Session} → is_within s.state ≡ true → MeterSized s.state.meter →
    length s.state.receiver.kept ≡ 211 → NumbersFit s → 8192 + 18 * length block ≤ length text → Ready block (run_at s) text
ready_begin {s = s} within sized array numbers room =
    let r = s.state.receiver in
    record {
      within = within;
      sized = sized;
      array = array;
      numbers = numbers;
      reached = omega arith;
      room = omega (arith, within-most r.kept r.count (both-within s.state within).0);
    }

-- What a block comes to once all its good records are played.
pub record PlaysBlock (block : List ℕ) (s : Session) (run : Run) (lent left : List ℕ) : Type 0 where
  pub rest : drop run.at block ≡ rest_in block
  pub session : run.session ≡ after_block block s
  pub text : run.text ≡ length (lines_in block s)
  pub memory : left ≡ over (lines_in block s) lent

-- The records that were played are those of the block, since both readings go as far as they can.
pub plays-block : {block lent left : List ℕ} {s : Session} {run : Run} → PlaysAll block s run lent left → PlaysBlock block s run lent left
plays-block {block} {lent} {left} {s} {run} p =
    let g = p.goes in
    let same = one-reading g.reads p.stops (reads_all block) (rest-stops block) in
    let bytes : run.at - 0 ≡ length block - length (rest_in block) = omega (arith, ap length same.1, length-drop run.at block, g.ready.reached) in
    record {
      rest = same.1;
      session = g.session ∙ (λ i. went_on s (same.0 i) (played_all (same.0 i) s.state) (bytes i));
      text = omega (arith, g.text, ap (λ (rs : List TraceRecord). length (lines_of (played_all rs s.state).replies)) same.0);
      memory = g.memory ∙ ap (λ (rs : List TraceRecord). over (lines_of (played_all rs s.state).replies) lent) same.0;
    }

-- A record that is cut off has at most 6 bytes.
cut-few : {rest : List ℕ} → CutOff rest → length rest ≤ 6
cut-few (cut-byte body short) = omega arith
cut-few (cut-pulse body short) = omega arith
cut-few (cut-key body short) = omega arith

-- A rest at which the replay does not stop, and before which no good record stands, has at most 6 bytes.
pub rest-few : (rest : List ℕ) (ends : Bool) → Stops rest → is_stop (front_of rest) ends ≡ false → length rest ≤ 6
rest-few rest ends stops on = by (front_of rest) refl on
  where
    none-few : {other : List ℕ} → FrontCase other (Ok None) → length other ≤ 6
    none-few ended = omega arith

    refused-few : {other : List ℕ} {n : Refusal} → FrontCase other (Err n) → is_stop (Err n) ends ≡ false → length other ≤ 6
    refused-few (no_kind k) on = let z : ◌≡◌ {A = ℕ} 0 1 = cc in absurd (omega arith)
    refused-few (cut_off_lem k) on = cut-few k
    refused-few (bad-field k) on = let z : ◌≡◌ {A = ℕ} 0 1 = cc in absurd (omega arith)

    by : (f : Result (Option RecordFound) Refusal) → front_of rest ≡ f → is_stop f ends ≡ false → length rest ≤ 6
    by (Ok None) e on = none-few (front_case e)
    by (Err n) e on = refused-few (front_case e) on
    by (Ok (Some f)) e on = absurd (stops f.found f.length e)

-- The ways out of a call, in the order of its tests.
module _ (kept read : ℕ) (s : Session) (buffer text : List ℕ) where
  -- 16 for a session out of its ranges.
  pub declines-outside : is_within s.state ≡ false → block_outcome s (Refused 16) buffer text ≡ block_replayed kept read s buffer text
  unfolding block_replayed
  declines-outside outside = rw outside

  module _ (within : is_within s.state ≡ true) where
    -- 1 for a buffer shorter than the bytes kept and read.
    pub declines-buffer : length buffer < kept + read → block_outcome s (Refused 1) buffer text ≡ block_replayed kept read s buffer text
    unfolding block_replayed
    declines-buffer short = rw (within, lt-leb (kept + read) (length buffer) short)

    module _ (there : kept + read ≤ length buffer) where
      -- 1 for a text memory of under 8,192 bytes and 18 for each of them.
      pub declines-text : length text < 8192 + 18 * (kept + read) → block_outcome s (Refused 1) buffer text ≡ block_replayed kept read s buffer text
      unfolding block_replayed
      declines-text short = rw (within, le-leb (kept + read) (length buffer) there, lt-leb (8192 + 18 * (kept + read)) (length text) short)

      -- Else the block is played, and what stands at the front of the rest decides.
      module _ (room : 8192 + 18 * (kept + read) ≤ length text) {run : Run} {left : List ℕ}
          (p : PlaysBlock (take (kept + read) buffer) s run text left) {f : Result (Option RecordFound) Refusal} (told : f ≡ front_of (drop run.at (take (kept + read) buffer))) where
        -- The bytes kept and read.
        abbrev block : List ℕ
        block = take (kept + read) buffer

        -- None of the refusals.
        plays : block_played block (read == 0) s buffer text ≡ block_replayed kept read s buffer text
        unfolding block_replayed
        plays = rw (within, le-leb (kept + read) (length buffer) there, le-leb (8192 + 18 * (kept + read)) (length text) room)

        -- Where the run has ended is where the records of the block end.
        at_rest : f ≡ front_of (rest_in block)
        at_rest = told ∙ ap front_of p.rest

        -- A stop: the records before it are played, and the buffer is as it was.
        pub block-stops : is_stop f (read == 0) ≡ true →
            block_outcome run.session (Stopped (refusal_of f) run.text) buffer left ≡ block_replayed kept read s buffer text
        unfolding block_played
        block-stops stop =
            pick_cases (λ (o : BlockOutcome). block_outcome run.session (Stopped (refusal_of f) run.text) buffer left ≡ o)
            (is_stop (front_of (rest_in block)) (read == 0))
            (λ _. λ i. block_outcome (p.session i) (Stopped (refusal_of (at_rest i)) (p.text i)) buffer (p.memory i))
            (λ on. absurd (false≢true (sym on ∙ ap (λ (x : Result (Option RecordFound) Refusal). is_stop x (read == 0)) (sym at_rest) ∙ stop)))
            ∙ plays

        -- No stop: the bytes from where the run has ended are moved to the front of the buffer.
        pub block-keeps : is_stop f (read == 0) ≡ false →
            block_outcome run.session (Played run.text (kept + read - run.at)) (over (take (kept + read - run.at) (drop run.at buffer)) buffer) left
            ≡ block_replayed kept read s buffer text
        unfolding block_played
        block-keeps on =
            let rest : take (kept + read - run.at) (drop run.at buffer) ≡ rest_in block = part_of_front run.at (kept + read) buffer ∙ p.rest in
            let size : kept + read - run.at ≡ length (rest_in block) =
            omega (arith, ap length p.rest, length-drop run.at block, length-take-le (kept + read) buffer there) in
            let part : List ℕ = take (kept + read - run.at) (drop run.at buffer) in
            pick_cases (λ (o : BlockOutcome). block_outcome run.session (Played run.text (kept + read - run.at)) (over part buffer) left ≡ o)
            (is_stop (front_of (rest_in block)) (read == 0))
            (λ stop. absurd (false≢true (sym on ∙ ap (λ (x : Result (Option RecordFound) Refusal). is_stop x (read == 0)) at_rest ∙ stop)))
            (λ _. λ i. block_outcome (p.session i) (Played (p.text i) (size i)) (over (rest i) buffer) (p.memory i))
            ∙ plays
