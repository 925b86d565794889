-- Laws of playing the records of a block: nothing played, some and then more, a call of the host, and what was heard.
use Rattle.frame.specs.declared.refusal.Refusal.{Refusal}
use Rattle.line.specs.Answer.{handed}
use Rattle.trace.specs.Front.{found_record}
use Rattle.std.specs.Prelude.{◌≡◌, ℕ, ◌+◌, ◌-◌, ◌*◌, ◌%◌, ◌^◌, ◌<◌, ◌≤◌, true, List, [], ◌∷◌, ◌++◌, length, take, drop, ◌≢◌, refl, Err}
use Rattle.std.proofs.Common.{arith, sym, subst, ◌∙◌, append-nil, append_assoc, length-drop, take_at, drop-drop}
use Rattle.std.proofs.Math.Path.{ap}
use Rattle.std.proofs.Math.ListN.{length-append}
use Rattle.std.proofs.Math.Seq.{length-take-le}
use borrow.Author.Rules.{part_to_end}
use Rattle.laws.specs.Memory.{over}
use Rattle.laws.specs.MemoryLaws.{over-length, over-over, over-itself, lent-over}
use Rattle.listing.specs.Lines.{lines_of}
use Rattle.listing.proofs.LinesLaws.{lines-append}
use Rattle.trace.specs.Trace.{front_of}
use Rattle.trace.specs.Records.{ReadsAs, none, next}
use Rattle.trace.proofs.TraceLaws.{reads_then, good-within, good-size}
use Rattle.trace.specs.declared.TraceRecord.{TraceRecord}
use Rattle.trace.specs.declared.TraceRecord.TheVariants as records
use Rattle.laws.specs.TestLaws.{pick_cases}
use Rattle.line.specs.declared.Receiver.{Receiver}
use Rattle.energy.specs.declared.Energies.{Energies}
use Rattle.meter.specs.Meter.{MeterSized, within_ranges}
use Rattle.meter.proofs.Ranges as meter
use Rattle.meter.specs.Host.{key_set}
use Rattle.meter.proofs.Calls as calls
use Rattle.meter.proofs.Calls.{keeps-within}
use Rattle.meter.specs.declared.KeySet.{KeySet}
use Rattle.meter.specs.declared.Meter.{Meter}
use Rattle.replay.proofs.StepWords.{InRanges, within-iff}
use Rattle.replay.specs.Replay.{Play, state_of, is_within, host_call, played, host_play, played_all}
use Rattle.replay.proofs.StateLaws.{all_then, all_one}
use Rattle.replay.specs.declared.ReplayState.{ReplayState}
use Rattle.replay_block.specs.Block.{counted, went_by, went_on, Stops}
use Rattle.frame.specs.EndToEnd.{cut}
use Rattle.line.proofs.RefusalWords as line
use Rattle.replay_frames.specs.Putting.{replies_to}
use Rattle.replay_frames.proofs.PuttingLaws.{after-sized, after-within, all-text}
use Rattle.replay_frames.specs.declared.FramesPut.{FramesPut}
use Rattle.replay.proofs.PlayLaws.{Puts}
use Rattle.replay_block.specs.Hear.{HeardOn}
use Rattle.replay_block.specs.declared.hear.Heard.{Heard}
use Rattle.replay_block.specs.Run.{most_text, NumbersFit, Ready, Goes, Turns, QuietTurn}
use Rattle.replay_block.specs.declared.Session.{Session}
use Rattle.replay_block.specs.declared.run.Run.{Run}

-- A number that counts on twice.
counted_twice : (n a b : ℕ) → counted (counted n a) b ≡ counted n (a + b)
unfolding counted
counted_twice n a b = omega arith

-- A session that goes on twice.
pub went_twice : (s : Session) (x y : ReplayState) (a b c d a₂ b₂ c₂ d₂ : ℕ) →
    went_by (went_by s x a b c d) y a₂ b₂ c₂ d₂ ≡ went_by s y (a + a₂) (b + b₂) (c + c₂) (d + d₂)
unfolding went_by
went_twice s x y a b c d a₂ b₂ c₂ d₂ =
    rw (counted_twice s.place a a₂, counted_twice s.records b b₂, counted_twice s.frames c c₂, counted_twice s.replies d d₂)

-- Text behind text in a memory.
memory-then : (lent first second : List ℕ) (used : ℕ) → used + length first ≤ length lent →
    over (take (used + length first) (over (take used lent ++ first) lent) ++ second) (over (take used lent ++ first) lent)
    ≡ over (take used lent ++ (first ++ second)) lent
memory-then lent first second used fits =
    let long : length (take used lent ++ first) ≡ used + length first =
    length-append (take used lent) first ∙ ap (λ (k : ℕ). k + length first) (length-take-le used lent (omega arith)) in
    let front : take (used + length first) (over (take used lent ++ first) lent) ≡ take used lent ++ first = take_at (take used lent ++ first) _ (used + length first) long in
    ap (λ (l : List ℕ). over (l ++ second) (over (take used lent ++ first) lent)) front
    ∙ over-over ((take used lent ++ first) ++ second) (take used lent ++ first) lent (omega (arith, length-append (take used lent ++ first) second))
    ∙ ap (λ (l : List ℕ). over l lent) (append_assoc (take used lent) first second)

-- The state after records is in the session.
goes-state : {block lent left : List ℕ} {a b : Run} → (g : Goes block a b lent left) → b.session.state ≡ (played_all g.read a.session.state).state
unfolding went_by
goes-state g = ap (λ (s : Session). s.state) g.session

-- Some records, and then more.
pub goes_then : {block m₀ m₁ m₂ : List ℕ} {a b c : Run} → Ready block a m₀ → Goes block a b m₀ m₁ → Goes block b c m₁ m₂ → Goes block a c m₀ m₂
goes_then {block} {m₀} {m₁} {m₂} {a} {b} {c} ready g h =
    let s = a.session.state in
    let then = all_then g.read h.read s in
    let mid : played_all h.read b.session.state ≡ played_all h.read (played_all g.read s).state = ap (played_all h.read) (goes-state g) in
    let first : List ℕ = lines_of (played_all g.read s).replies in
    let second : List ℕ = lines_of (played_all h.read b.session.state).replies in
    let lines : lines_of (played_all (g.read ++ h.read) s).replies ≡ first ++ second =
    ap lines_of then.replies ∙ lines-append (played_all g.read s).replies _ ∙ ap (λ (p : Play). lines_of (played_all g.read s).replies ++ lines_of p.replies) (sym mid) in
    let put : length (played_all (g.read ++ h.read) s).frames ≡ length (played_all g.read s).frames + length (played_all h.read b.session.state).frames =
    ap length then.frames ∙ length-append (played_all g.read s).frames _ ∙ ap (λ (p : Play). length (played_all g.read s).frames + length p.frames) (sym mid) in
    let given : length (played_all (g.read ++ h.read) s).replies ≡ length (played_all g.read s).replies + length (played_all h.read b.session.state).replies =
    ap length then.replies ∙ length-append (played_all g.read s).replies _ ∙ ap (λ (p : Play). length (played_all g.read s).replies + length p.replies) (sym mid) in
    let state : (played_all (g.read ++ h.read) s).state ≡ (played_all h.read b.session.state).state = then.state ∙ ap (λ (p : Play). p.state) (sym mid) in
    let bytes : (b.at - a.at) + (c.at - b.at) ≡ c.at - a.at = omega (arith, g.from, h.from) in
    let used : b.text ≤ length m₀ = omega (arith, g.ready.room, g.size) in
    record {
      read = g.read ++ h.read;
      reads = reads_then g.reads h.reads;
      from = omega (arith, g.from, h.from);
      session =
          h.session
          ∙ ap (λ (x : Session). went_on x h.read (played_all h.read b.session.state) (c.at - b.at)) g.session
          ∙ went_twice a.session _ _ _ _ _ _ _ _ _ _
          ∙ rw (state, put, given, length-append g.read h.read, bytes);
      text = rw lines (h.text ∙ rw g.text (omega (arith, length-append first second)));
      memory = rw lines (h.memory ∙ rw (g.memory, g.text) (memory-then m₀ first second a.text (omega (arith, g.text))));
      ready = h.ready;
      size = h.size ∙ g.size;
      most = omega (arith, g.most, h.most);
    }

-- No record.
pub goes_nowhere : {block memory : List ℕ} {run : Run} → Ready block run memory → Goes block run run memory memory
unfolding went_by counted lines_of played_all
goes_nowhere {block} {memory} {run} ready =
    record {
      read = [];
      reads = none;
      from = omega arith;
      session = same;
      text = omega arith;
      memory = rw append-nil (sym (over-itself run.text memory (omega (arith, ready.room))));
      ready = ready;
      size = refl;
      most = omega arith;
    }
  where
    place : run.session.place ≡ (run.session.place + (run.at - run.at)) % 2 ^ 64
    place = omega (arith, ready.numbers.place)

    records : run.session.records ≡ (run.session.records + 0) % 2 ^ 64
    records = omega (arith, ready.numbers.records)

    frames : run.session.frames ≡ (run.session.frames + 0) % 2 ^ 64
    frames = omega (arith, ready.numbers.frames)

    replies : run.session.replies ≡ (run.session.replies + 0) % 2 ^ 64
    replies = omega (arith, ready.numbers.replies)

    same : run.session ≡ went_on run.session [] (host_play run.session.state) (run.at - run.at)
    same = (λ i. record { state = run.session.state; place = place i; records = records i; frames = frames i; replies = replies i })

-- The numbers of a session that has gone on are below 2^64.
pub went_fits : (s : Session) (state : ReplayState) (a b c d : ℕ) → NumbersFit (went_by s state a b c d)
unfolding went_by counted
went_fits s state a b c d = record { place = omega arith; records = omega arith; frames = omega arith; replies = omega arith }

-- A call of the host leaves the receiver as it was, and the meter within its ranges.
record HostKeeps (s after : ReplayState) : Type 0 where
  receiver : after.receiver ≡ s.receiver
  within : is_within after ≡ true
  sized : MeterSized after.meter

host-keeps : (r : TraceRecord) (s : ReplayState) → is_within s ≡ true → MeterSized s.meter → HostKeeps s (host_call r s)
unfolding host_call calls.after key_set
host-keeps r s within sized = by r
  where
    ranges : InRanges s
    ranges = (within-iff s).0 within

    kept : (c : calls.MeterCall) → let t = calls.after c (record { meter = s.meter; forward = s.energies.forward; reverse = s.energies.reverse }) in
        meter.InRanges t.meter t.forward t.reverse
    kept c = keeps-within c _ ranges.meter

    again : (m : Meter) (e : Energies) → meter.InRanges m e.forward e.reverse → is_within (state_of s.receiver m e) ≡ true
    again m e w = (within-iff (state_of s.receiver m e)).1 (record { receiver = ranges.receiver; meter = w })

    by : (r : TraceRecord) → HostKeeps s (host_call r s)
    by (records.Byte b) = record { receiver = refl; within = within; sized = sized }
    by records.Silence = record { receiver = refl; within = within; sized = sized }
    by (records.Pulse direction rate amount) =
        record { receiver = refl; within = again _ _ (kept (calls.pulse amount direction rate)); sized = sized }
    by (records.Key on) =
        record {
          receiver = refl;
          within = again _ _ (kept (calls.key on));
          sized =
              pick_cases (λ (k : KeySet). MeterSized k.meter) (within_ranges s.meter s.energies.forward s.energies.reverse)
              (λ _. record { address = sized.address; passwords = sized.passwords; operator = sized.operator; registers = sized.registers })
              (λ _. sized);
        }
    by records.Settle = record { receiver = refl; within = again _ _ (kept calls.settle); sized = sized }

-- A call of the host.
pub host-goes : {r : TraceRecord} {n : ℕ} {block : List ℕ} {run : Run} → front_of (drop run.at block) ≡ found_record r n →
    ((s : ReplayState) → played r s ≡ host_play (host_call r s)) →
    QuietTurn block run (record { session = went_by run.session (host_call r run.session.state) n 1 0 0; at = run.at + n; text = run.text })
unfolding lines_of went_by
host-goes {r} {n} {block} {run} there of-host memory ready =
    let s = run.session.state in
    let fits : n ≤ length (drop run.at block) = good-within (drop run.at block) there in
    let some = good-size (drop run.at block) there in
    let one = all_one r s in
    let quiet = of-host s in
    let state : (played_all (r ∷ []) s).state ≡ host_call r s = one.state ∙ ap (λ (p : Play). p.state) quiet in
    let frames : (played_all (r ∷ []) s).frames ≡ [] = one.frames ∙ ap (λ (p : Play). p.frames) quiet in
    let replies : (played_all (r ∷ []) s).replies ≡ [] = one.replies ∙ ap (λ (p : Play). p.replies) quiet in
    let kept = host-keeps r s ready.within ready.sized in
    let count : (host_call r s).receiver.count ≡ s.receiver.count = ap (λ (x : Receiver). x.count) kept.receiver in
    let size : run.at + n - run.at ≡ n = omega arith in
    let less : run.text + (35 * (host_call r s).receiver.count + 18 * (length block - (run.at + n))) ≤ most_text block run = omega (arith, count) in
    record {
      goes =
          record {
            read = r ∷ [];
            reads = next there (subst (λ (l : List ℕ). ReadsAs l [] (drop (run.at + n) block)) (sym (drop-drop n run.at block)) none);
            from = omega arith;
            session = rw (state, frames, replies, size);
            text = rw replies (omega arith);
            memory = rw (replies, append-nil) (sym (over-itself run.text memory (omega (arith, ready.room))));
            ready =
                record {
                  within = kept.within;
                  sized = kept.sized;
                  array = ap (λ (x : Receiver). length x.kept) kept.receiver ∙ ready.array;
                  numbers = went_fits run.session _ n _ _ _;
                  reached = omega (arith, fits, length-drop run.at block, ready.reached);
                  room = omega (arith, less, ready.room);
                };
            size = refl;
            most = less;
          };
      stops = λ same. absurd (omega (arith, same, some));
    }

-- What was heard: there is room for the lines of the replies to what it delivers.
module _ {block memory : List ℕ} {run : Run} {heard : Heard} {frames : List ℕ} (ready : Ready block run memory)
    (h : HeardOn block run.at run.session.state.receiver frames heard) where
  pub heard-room : 35 * length (take h.bytes frames) ≤ length (take (length memory - run.text) (drop run.text memory))
  heard-room =
      rw (part_to_end memory run.text)
      (omega (arith, length-take-le h.bytes frames h.size, length-drop run.text memory, ready.room, h.spent, h.on.within_block, h.from))

  -- The frames that it delivers, put to the meter with these lines, are what the records come to.
  module _ {put : FramesPut} {text : List ℕ} (array : length heard.received.receiver.kept ≡ 211) (later : run.at < heard.at)
      (p : Puts (cut (take h.bytes frames)) run.session.state.meter run.session.state.energies
      (take (length memory - run.text) (drop run.text memory)) put text) where
    abbrev fs : List (List ℕ)
    fs = cut (take h.bytes frames)

    abbrev given : List (List ℕ)
    given = replies_to fs run.session.state.meter run.session.state.energies.forward run.session.state.energies.reverse

    all-played : played_all h.read run.session.state
        ≡ record {
          state = state_of heard.received.receiver put.meter run.session.state.energies;
          frames = fs;
          replies = given;
        }
    all-played = h.plays run.session.state.meter run.session.state.energies ∙ rw (h.answer, p.meter)

    given-few : length (lines_of given) ≤ 35 * h.bytes
    given-few =
        omega (
          arith,
          all-text (take h.bytes frames) run.session.state.meter run.session.state.energies.forward run.session.state.energies.reverse ready.sized,
          length-take-le h.bytes frames h.size,
        )

    within : is_within (state_of heard.received.receiver put.meter run.session.state.energies) ≡ true
    within =
        let before = (within-iff run.session.state).0 ready.within in
        (within-iff _).1
        (record {
          receiver = (line.in_range_iff heard.received.receiver).0 h.on.in_range_lem;
          meter = rw p.meter (after-within fs run.session.state.meter run.session.state.energies.forward run.session.state.energies.reverse before.meter);
        })

    sized : MeterSized put.meter
    sized = rw p.meter (after-sized fs run.session.state.meter run.session.state.energies.forward run.session.state.energies.reverse ready.sized)

    abbrev going : Run
    going =
        record {
          session = went_by run.session (state_of heard.received.receiver put.meter run.session.state.energies) (heard.at - run.at) heard.records
              h.frame-count (length given);
          at = heard.at;
          text = run.text + length (lines_of given);
        }

    less : most_text block going ≤ most_text block run
    unfolding went_by
    less = omega (arith, given-few, h.spent, h.on.within_block, h.from)

    abbrev left : List ℕ
    left = take run.text memory ++ (text ++ drop (length memory - run.text) (drop run.text memory))

    stored : left ≡ over (take run.text memory ++ lines_of given) memory
    stored =
        let itself : over (take run.text memory) memory ≡ memory = over-itself run.text memory (omega (arith, ready.room)) in
        let put-there : take run.text (over (take run.text memory) memory)
        ++ (over (lines_of given) (take (length (over (take run.text memory) memory) - run.text) (drop run.text (over (take run.text memory) memory)))
        ++ drop (length (over (take run.text memory) memory) - run.text) (drop run.text (over (take run.text memory) memory)))
        ≡ over (take run.text memory ++ lines_of given) memory =
        lent-over run.text (take run.text memory) (lines_of given) memory (length-take-le run.text memory (omega (arith, ready.room)))
        (omega (arith, given-few, ready.room, h.spent, h.on.within_block, h.from)) in
        rw p.memory (rw itself at put-there)

    -- What was heard, put to the meter.
    pub heard-goes : Goes block run going memory left
    unfolding went_by
    heard-goes =
        let size : length left ≡ length memory =
        ap length stored ∙ over-length (take run.text memory ++ lines_of given) memory
        (omega (arith, length-append (take run.text memory) (lines_of given), length-take-le run.text memory (omega (arith, ready.room)), given-few, ready.room, h.spent, h.on.within_block, h.from)) in
        record {
          read = h.read;
          reads = h.reads;
          from = omega (arith, h.from);
          session =
              (λ i. went_by run.session (state_of heard.received.receiver put.meter run.session.state.energies) (heard.at - run.at) (h.count i) (h.cuts i) (length given))
              ∙ ap (λ (q : Play). went_on run.session h.read q (heard.at - run.at)) (sym all-played);
          text = rw all-played;
          memory = rw all-played stored;
          ready =
              record {
                within = within;
                sized = sized;
                array = array;
                numbers = went_fits run.session _ (heard.at - run.at) _ _ _;
                reached = h.on.within_block;
                room = omega (arith, less, ready.room, size);
              };
          size = size;
          most = less;
        }

    -- As a turn.
    pub heard-turns : Turns block run going memory left
    heard-turns = record { goes = heard-goes; stops = λ same. absurd (omega (arith, same, later)) }

-- No good record: nothing is played.
pub none-turns : {block memory : List ℕ} {run : Run} → Ready block run memory → Stops (drop run.at block) → Turns block run run memory memory
none-turns ready stop = record { goes = goes_nowhere ready; stops = λ same. stop }

-- A delivery is no refusal.
pub not-delivered : {bytes count : ℕ} {n : Refusal} → handed bytes count ≢ Err n
not-delivered e = let z : ◌≡◌ {A = ℕ} 0 1 = cc in omega arith

-- A turn that ends with the same session and the same text.
pub turns_as : {block lent left : List ℕ} {run : Run} {s s₂ : Session} {at text text₂ : ℕ} → s ≡ s₂ → text ≡ text₂ →
    Turns block run (record { session = s₂; at = at; text = text₂ }) lent left → Turns block run (record { session = s; at = at; text = text }) lent left
turns_as e f t = rw (e, f) t
