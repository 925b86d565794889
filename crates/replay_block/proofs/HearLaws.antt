-- Laws of hearing: what one call of the receiver keeps and spends, where a byte or a silence stands, and what is heard one behind the other.
use Rattle.line.specs.Answer.{handed}
use Rattle.trace.specs.Front.{found_record}
use Rattle.std.specs.Prelude.{◌≡◌, ℕ, suc, ◌+◌, ◌-◌, ◌*◌, ◌<◌, ◌≤◌, true, List, [], ◌∷◌, ◌++◌, map, length, take, drop, ◌==◌, nat_le, slice_index, slice_index_or}
use native.Mathlib.Omega.{arith}
use Rattle.std.proofs.Math.Path.{refl, sym, ap}
use Rattle.std.proofs.Common.{subst, ◌∙◌, length-append, length-drop, drop-drop}
use Rattle.std.proofs.lemmas.Bool.{false≢true}
use Rattle.std.proofs.Math.Bool.{and-eq-true_iff}
use Rattle.std.proofs.Math.ListN.{length-take}
use Rattle.std.proofs.Math.Seq.{take-append_seam, drop-cons}
use borrow.Author.Tests.{eqb-true, eq-eqb, leb-true, le-leb}
use Rattle.laws.specs.Memory.{outcome, over}
use Rattle.frame.specs.EndToEnd.{cut_from}
use Rattle.frame.specs.Recognition.{recognised}
use Rattle.frame.proofs.RecognitionLaws.{open_most}
use Rattle.frame.specs.declared.Recognised.TheVariants.{Open}
use Rattle.line_verdict.specs.VerdictLaws.{within_as}
use Rattle.line_terms.specs.Line.{Symbol}
use Rattle.line_terms.specs.Line as symbol
use Rattle.line_terms.specs.Places.{joined}
use Rattle.line_terms.proofs.PlaceLaws.{count-frames}
use Rattle.line_terms.proofs.ScanLaws.{scan_kept_open}
use Rattle.line_terms.proofs.FramesFew.{bytes_in, frames-kept-few}
use Rattle.line.specs.Receiver.{kept_bytes, within_range, reading_with, keeping, called}
use Rattle.line.specs.declared.Receiver.{Receiver}
use Rattle.line.specs.declared.Received.{Received}
use Rattle.energy.specs.declared.Energies.{Energies}
use Rattle.meter.specs.declared.Meter.{Meter}
use Rattle.replay_frames.specs.Putting.{meter_after, replies_to}
use Rattle.trace.specs.Trace.{front_of}
use Rattle.trace.specs.Records.{ReadsAs, none, next}
use Rattle.trace.proofs.TraceLaws.{reads_then, good-within, good-size}
use Rattle.trace.proofs.FrontCases.{FrontCase, front_case, case_front}
use Rattle.trace.proofs.FrontCases as case
use Rattle.trace.specs.declared.TraceRecord.{TraceRecord}
use Rattle.trace.specs.declared.TraceRecord.TheVariants as records
use Rattle.replay.specs.Replay.{Play, state_of, heard_play, host_play, host_call, played, played_all}
use Rattle.replay.proofs.PlayLaws.{call-says, call-keeps, call-size, call-cuts, delivers-most, heard-delivered}
use Rattle.replay.proofs.StateLaws.{all_then, all_one}
use Rattle.replay.specs.declared.ReplayState.{ReplayState}
use Rattle.replay_block.specs.Hear.{stands_at, NoneStands, is_quiet, CanHear, HeardOn}
use Rattle.replay_block.specs.declared.hear.Heard.{Heard}

-- Bytes with one symbol behind them.
bytes-with : (l : List ℕ) (x : Symbol) → bytes_in (map symbol.byte l ++ (x ∷ [])) ≡ length l + bytes_in (x ∷ [])
unfolding bytes_in
bytes-with [] x = omega arith
bytes-with (b ∷ l) x = omega (arith, bytes-with l x)

-- One call of a receiver.
module _ (r : Receiver) (x : Symbol) where
  -- What it keeps is within its range.
  call-within : within_range (keeping (reading_with r x).kept r) ≡ true
  unfolding keeping reading_with
  call-within =
      let kept = (reading_with r x).kept in
      let begins : recognised kept ≡ Open = scan_kept_open 0 0 _ in
      within_as (over kept r.kept) (length kept) (open_most kept begins) (ap recognised (take-append_seam kept _) ∙ begins)

  -- What it delivers and keeps is no more than what it kept, and the symbol where it is a byte.
  call-spent : length (joined (reading_with r x).frames) + (keeping (reading_with r x).kept r).count ≤ r.count + bytes_in (x ∷ [])
  unfolding keeping reading_with kept_bytes
  call-spent =
      let kept = take r.count r.kept in
      let few : length kept ≤ r.count = rw length-take (omega arith) in
      omega (arith, frames-kept-few (map symbol.byte kept ++ (x ∷ [])), bytes-with kept x)

-- Records played where those before them came to a state and nothing else; and one record.
then-played : {t : ReplayState} (rs more : List TraceRecord) (s : ReplayState) → played_all rs s ≡ host_play t → played_all (rs ++ more) s ≡ played_all more t
then-played {t} rs more s e =
    let then = all_then rs more s in
    let state = then.state ∙ ap (λ (p : Play). (played_all more p.state).state) e in
    let frames = then.frames ∙ ap (λ (p : Play). p.frames ++ (played_all more p.state).frames) e in
    let replies = then.replies ∙ ap (λ (p : Play). p.replies ++ (played_all more p.state).replies) e in
    λ i. record { state = state i; frames = frames i; replies = replies i }

one-played : (r : TraceRecord) (s : ReplayState) → played_all (r ∷ []) s ≡ played r s
one-played r s =
    let one = all_one r s in
    λ i. record { state = one.state i; frames = one.frames i; replies = one.replies i }

-- Where a byte or a silence stands.
module _ (block : List ℕ) (at : ℕ) where
  -- A kind byte with so many bytes from it on.
  front-stands : {kind size : ℕ} {more : List ℕ} → drop at block ≡ kind ∷ more → 0 < size → size ≤ length (kind ∷ more) → stands_at block at kind size ≡ true
  unfolding stands_at
  front-stands {kind} {size} {more} here some long =
      let left : length block - at ≡ length (kind ∷ more) = sym (length-drop at block) ∙ ap length here in
      let same : slice_index_or block at 0 ≡ kind = ap (λ (l : List ℕ). slice_index l 0) (sym (drop-cons block at 0 (omega arith)) ∙ here) in
      rw (left, le-leb size (length (kind ∷ more)) long, same, eq-eqb kind kind refl)

  -- What the test says of the bytes from the place on.
  pub stands-front : {kind size : ℕ} → 0 < size → stands_at block at kind size ≡ true →
      (at + size ≤ length block) × (drop at block ≡ kind ∷ drop (suc at) block)
  unfolding stands_at
  stands-front {kind} {size} some e =
      let both = (and-eq-true_iff (nat_le size (length block - at)) (slice_index block at == kind)).0 e in
      let long : size ≤ length block - at = leb-true size (length block - at) both.0 in
      let same : slice_index_or block at 0 ≡ kind = eqb-true (slice_index block at) kind both.1 in
      (omega arith, drop-cons block at 0 (omega arith) ∙ ap (λ (k : ℕ). k ∷ drop (suc at) block) same)

  byte-stands : stands_at block at 1 2 ≡ true → front_of (drop at block) ≡ found_record (records.Byte (slice_index block (at + 1))) 2
  byte-stands e =
      let there = stands-front (omega arith) e in
      let next : suc at ≡ at + 1 = omega arith in
      ap front_of
      (there.1 ∙ ap (λ (l : List ℕ). 1 ∷ l) (drop-cons block (suc at) 0 (omega (arith, there.0)) ∙ ap (λ (k : ℕ). slice_index block k ∷ drop (suc (suc at)) block) next))
      ∙ case_front case.byte

  silence-stands : stands_at block at 2 1 ≡ true → front_of (drop at block) ≡ found_record records.Silence 1
  silence-stands e = ap front_of (stands-front (omega arith) e).1 ∙ case_front case.silence

  -- Where neither does, a good record is a call of the host.
  pub host-stands : {r : TraceRecord} {n : ℕ} → NoneStands block at → front_of (drop at block) ≡ found_record r n → (s : ReplayState) →
      played r s ≡ host_play (host_call r s)
  unfolding played
  host-stands none-stands good = by refl (front_case good)
    where
      by : {rest : List ℕ} {r : TraceRecord} {n : ℕ} → drop at block ≡ rest → FrontCase rest (found_record r n) → (s : ReplayState) → played r s ≡ host_play (host_call r s)
      by here case.byte s = absurd (false≢true (sym none-stands.no_byte ∙ front-stands here (omega arith) (omega arith)))
      by here case.silence s = absurd (false≢true (sym none-stands.no_silence ∙ front-stands here (omega arith) (omega arith)))
      by here (case.pulse low least most) s = refl
      by here case.key_on_lem s = refl
      by here case.key_off s = refl
      by here case.settle s = refl

-- What was heard, of what the last call of the receiver returned, the place behind the last record and the number of records.
abbrev pub heard_so : Received → ℕ → ℕ → Heard
heard_so received at records = record { received = received; at = at; records = records }

-- The same number of records, said otherwise.
pub heard_as : {block : List ℕ} {start at k n : ℕ} {r : Receiver} {frames : List ℕ} {received : Received} → k ≡ n →
    HeardOn block start r frames (heard_so received at k) → HeardOn block start r frames (heard_so received at n)
heard_as {block} {start} {at} {r = r} {frames = frames} {received = received} e h = subst (λ (m : ℕ). HeardOn block start r frames (heard_so received at m)) e h

-- Nothing yet.
pub heard-none : {block : List ℕ} {start : ℕ} {r : Receiver} {frames : List ℕ} → CanHear block start r frames →
    HeardOn block start r frames (heard_so (record { receiver = r; answer = handed 0 0 }) start 0)
unfolding played_all meter_after replies_to cut_from
heard-none can =
    record {
      read = [];
      reads = none;
      count = refl;
      from = omega arith;
      bytes = 0;
      frame-count = 0;
      answer = refl;
      later = λ some. absurd (omega arith);
      cuts = refl;
      size = omega arith;
      plays = λ m energies. refl;
      spent = omega arith;
      on = can;
    }

-- One symbol, which a record at the place is.
module _ {block : List ℕ} {at : ℕ} {r : Receiver} {frames : List ℕ} {symbol-record : TraceRecord} {n : ℕ} {received : Received} {left : List ℕ} (x : Symbol)
    (can : CanHear block at r frames) (good : front_of (drop at block) ≡ found_record symbol-record n)
    (is-heard : (s : ReplayState) → played symbol-record s ≡ heard_play x s) (long : 2 * bytes_in (x ∷ []) ≤ n)
    (e : outcome received left ≡ called x r frames) where
  heard-symbol : HeardOn block at r left (heard_so received (at + n) 1)
  heard-symbol =
      let says = call-says x r frames can.in_range_lem can.room e in
      let keeps = call-keeps x r frames can.in_range_lem can.room e in
      let cuts = call-cuts x r frames can.in_range_lem can.room e in
      let size = call-size x r frames can.in_range_lem can.room e in
      record {
        read = symbol-record ∷ [];
        reads = next good (subst (λ (l : List ℕ). ReadsAs l [] (drop (at + n) block)) (sym (drop-drop n at block)) none);
        count = refl;
        from = omega (arith, good-size (drop at block) good);
        bytes = _;
        frame-count = _;
        answer = says;
        later = λ some. omega arith;
        cuts = rw cuts (count-frames _);
        size = omega (arith, delivers-most r x can.in_range_lem, can.room);
        plays = λ m energies.
            one-played symbol-record (state_of r m energies) ∙ is-heard _ ∙ sym (heard-delivered x r frames can.in_range_lem can.room e m energies);
        spent = rw keeps (omega (arith, call-spent r x));
        on =
            record {
              in_range_lem = rw keeps (call-within r x);
              room = omega (arith, size, can.room);
              within_block = omega (arith, good-within (drop at block) good, length-drop at block, can.within_block);
            };
      }

-- More is heard behind what delivered nothing.
module _ {block : List ℕ} {start : ℕ} {r : Receiver} {frames left : List ℕ} {heard more : Heard} (a : HeardOn block start r frames heard)
    (quiet : is_quiet heard.received.answer ≡ true) (b : HeardOn block heard.at heard.received.receiver left more) where
  nothing : a.bytes ≡ 0
  nothing = eqb-true a.bytes 0 (sym (ap is_quiet a.answer) ∙ quiet)

  -- The records so far come to the receiver as it stands, and leave the meter alone.
  quiet-plays : (m : Meter) (energies : Energies) → played_all a.read (state_of r m energies) ≡ host_play (state_of heard.received.receiver m energies)
  unfolding meter_after replies_to cut_from
  quiet-plays m energies = a.plays m energies ∙ rw (a.answer, nothing)

  pub heard-then : HeardOn block start r left (heard_so more.received more.at (heard.records + more.records))
  heard-then =
      record {
        read = a.read ++ b.read;
        reads = reads_then a.reads b.reads;
        count = rw (length-append, a.count, b.count);
        from = omega (arith, a.from, b.from);
        bytes = b.bytes;
        frame-count = b.frame-count;
        answer = b.answer;
        later = λ some. omega (arith, b.later some);
        cuts = b.cuts;
        size = b.size;
        plays = λ m energies. then-played a.read b.read (state_of r m energies) (quiet-plays m energies) ∙ b.plays m energies;
        spent = omega (arith, a.spent, b.spent);
        on = b.on;
      }

-- A byte, and a silence, behind what delivered nothing.
module _ {block : List ℕ} {start : ℕ} {r : Receiver} {frames left : List ℕ} {heard : Heard} {received : Received} (a : HeardOn block start r frames heard)
    (quiet : is_quiet heard.received.answer ≡ true) where
  pub hears-byte : stands_at block heard.at 1 2 ≡ true →
      outcome received left ≡ called (symbol.byte (slice_index block (heard.at + 1))) heard.received.receiver frames →
      HeardOn block start r left (heard_so received (heard.at + 2) (heard.records + 1))
  unfolding played bytes_in
  hears-byte there e = heard-then a quiet (heard-symbol (symbol.byte _) a.on (byte-stands block heard.at there) (λ s. refl) (omega arith) e)

  pub hears-silence : stands_at block heard.at 2 1 ≡ true → outcome received left ≡ called symbol.silence heard.received.receiver frames →
      HeardOn block start r left (heard_so received (heard.at + 1) (heard.records + 1))
  unfolding played bytes_in
  hears-silence there e = heard-then a quiet (heard-symbol symbol.silence a.on (silence-stands block heard.at there) (λ s. refl) (omega arith) e)
