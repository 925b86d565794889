-- Demand 1 of the letter: any bytes, in any state, get an answer and do no harm. That every operation answers is its contract, one equation
-- with no `requires`. Here stands, over every public operation that can refuse, where exactly it does, in document 01's words, and that a refusal
-- changes neither a receiver, nor a meter, nor its readings, nor any memory lent. What each answer says, and which is a refusal, is given by the
-- definitions that end in `Said`. Each operation's contract equates what it answers and leaves with the definition that stands here for it. The
-- calls from C hand on to these operations.
use Rattle.frame.specs.declared.refusal.Refusal.{Refusal}
use Rattle.std.specs.Prelude.{ℕ, ◌+◌, ◌-◌, ◌^◌, ◌≤◌, ◌<◌, ◌≡◌, List, Bool, true, ◌↔◌, ◌⊎◌, length, Err, Some}
use Rattle.laws.specs.Memory.{LeftAlone}
use Rattle.laws.specs.Said.{IsRefusal, Refuses}
use Rattle.laws.specs.Words.{FirstFails}
use Rattle.frame_parts.specs.Said.{written_said, CannotWrite, writing-refuses, in_place_refuses}
use Rattle.frame_parts.specs.Writing.{writing, writing_in_place}
use Rattle.line_terms.specs.Line.{Symbol}
use Rattle.line.specs.Receiver.{called}
use Rattle.line.proofs.Said.{receiver_said, CannotHear, call-refuses}
use Rattle.line.specs.declared.Receiver.{Receiver}
use Rattle.line_block.specs.Block.{block_read}
use Rattle.line_block.proofs.Said.{block_said, block-refuses}
use Rattle.recording.specs.Step.{step_read}
use Rattle.recording.proofs.Said as recorded
use Rattle.recording.proofs.Said.{step-refuses}
use Rattle.listing.specs.Text.{listing}
use Rattle.listing.specs.Step.{TooShort, step_listed}
use Rattle.listing.proofs.Said.{listed_said, step_listed_said, CannotList, listing-refuses, list_step_refuses}
use Rattle.receive_line.specs.WholeLine.{received_line}
use Rattle.receive_line.proofs.Said.{line_said, line-refuses}
use Rattle.item_address.specs.Address.{Good}
use Rattle.item_decimal.specs.Decimal.{packing}
use Rattle.item_decimal.proofs.Said.{packed_said, packing-refuses}
use Rattle.item.specs.Table.{item_of}
use Rattle.item.specs.declared.table.Item.{Item}
use Rattle.energy.specs.Energies.{Rows}
use Rattle.energy.specs.declared.Energies.{Energies}
use Rattle.meter_counting.specs.Counting as counting
use Rattle.meter_counting.specs.Counting.{energies_of}
use Rattle.meter_counting.proofs.Said as counted
use Rattle.meter_counting.proofs.Said.{host_said, Countable}
use Rattle.meter_holding.specs.Holding.{location_of, value_written, registers_after}
use Rattle.meter_holding.proofs.Said.{held_said, HasRoom, value-refuses, registers_as_before}
use Rattle.meter_holding.specs.declared.location.Location.TheVariants.{Register}
use Rattle.meter.specs.Meter.{MeterSized}
use Rattle.meter.proofs.Ranges.{InRanges}
use Rattle.meter.specs.Host.{created, key_set, pulsed_by, settled_by}
use Rattle.meter.specs.Answer.{answered}
use Rattle.meter.proofs.Said.{frame_said, Whole, fresh-refused, key-refuses, pulse-refuses, settle-refuses, frame-refuses}
use Rattle.meter.specs.declared.Meter.{Meter}
use Rattle.reader.specs.Allowed.{RequestSized}
use Rattle.reader.specs.Building.{built}
use Rattle.reader.specs.Judging.{judged}
use Rattle.reader.proofs.JudgeWords.{judge_words}
use Rattle.reader.proofs.Said.{built_said, CannotBuild, build-refuses, judge-refuses}
use Rattle.reader.specs.declared.Request.{Request}
use Rattle.reader_judgement.specs.Said.{judgement_said}
use Rattle.trace.specs.Trace.{front_of}
use Rattle.trace.specs.declared.TraceRecord.{TraceRecord}
use Rattle.trace.proofs.Said.{front_said, NoGoodRecord, front-refuses}
use Rattle.replay_frames.specs.Putting.{frames_put}
use Rattle.replay_frames.proofs.Said.{put_said, CannotPut, put-refuses}
use Rattle.replay.specs.Replay.{started, host_call, stepped}
use Rattle.replay.proofs.Said as replayed
use Rattle.replay.proofs.Said.{step_said, CannotStep, CallsNothing, start-refused, host_leaves}
use Rattle.replay.proofs.StepWords as replay
use Rattle.replay.specs.declared.ReplayState.{ReplayState}
use Rattle.replay_block.specs.Block.{begun, block_replayed}
use Rattle.replay_block.proofs.BlockWords.{block_played_said, CannotPlay, play_refuses, begin_refused}
use Rattle.replay_block.specs.declared.Session.{Session}
use Rattle.replay_text.specs.Texts as texts
use Rattle.replay_text.proofs.Said as said
use Rattle.replay_text.specs.declared.Message.{Message}
use Rattle.exchange.specs.Exchange.{Memories}
use Rattle.exchange.specs.ExchangeTerms.{Typed}
use Rattle.exchange.proofs.Said.{ExchangeAnswers, exchange-answers}

-- Each operation refuses exactly where the papers say so, and a refusal, by whatever number, changes nothing.
pub record RefusalsChangeNothing : Type 0 where
  -- The receiver, with a byte or a silence.
  pub receiver : (s : Symbol) (r : Receiver) (m : List ℕ)
      → let o = called s r m in
      Refuses {S = Receiver × List ℕ} (receiver_said o.answer.answer) (CannotHear r m) (r, m) (o.answer.receiver, o.memory)
  -- A recorded line: a block, a step, a step of the listing, the text of one frame, and a whole line as one function.
  pub read-block : (block : List ℕ) (ended : Bool) (m : List ℕ)
      → let o = block_read block ended m in Refuses (block_said o.answer) (length m < length block) m o.memory
  pub read_step : (kept read : ℕ) (ended : Bool) (buffer m : List ℕ)
      → let o = step_read kept read ended buffer m in
      Refuses {S = List ℕ × List ℕ} (recorded.step_said o.answer) ((length buffer < kept + read) ⊎ (length m < kept + read)) (buffer, m) (o.buffer, o.memory)
  pub list_step : (kept read : ℕ) (buffer frames text : List ℕ)
      → let o = step_listed kept read buffer frames text in
      Refuses {S = List ℕ × List ℕ × List ℕ} (step_listed_said o.answer) (TooShort (kept + read) buffer frames text) (buffer, frames, text) (o.buffer, o.frames, o.text)
  pub list_frame : (frame m : List ℕ) → let o = listing frame m in Refuses (listed_said o.answer) (CannotList frame m) m o.memory
  pub receive_line : (input m : List ℕ) → length input < 2 ^ 64 - 1
      → let o = received_line input m in Refuses (line_said o.answer) (length m < length input) m o.memory
  -- A frame written from its parts, and a number packed.
  pub write_frame : (address : List ℕ) (control : ℕ) (payload m : List ℕ)
      → let o = writing address control payload m in Refuses (written_said o.answer) (CannotWrite (length payload) m) m o.memory
  pub write_frame_in_place : (address : List ℕ) (control count : ℕ) (m : List ℕ)
      → let o = writing_in_place address control count m in Refuses (written_said o.answer) (CannotWrite count m) m o.memory
  pub pack : (n : ℕ) (m : List ℕ) → let o = packing n m in Refuses (packed_said o.answer) (100 ^ length m ≤ n) m o.memory
  -- A fresh meter: what comes back with a refusal is refused by every operation with 16.
  pub fresh-meter : (address : List ℕ)
      → let c = created address in
      (IsRefusal (host_said c.answer) ↔ (Good address → ⊥))
      × (IsRefusal (host_said c.answer) → InRanges c.meter c.energies.forward c.energies.reverse → ⊥)
  -- The calls of the host.
  pub set_key : (on : Bool) (m : Meter) (forward reverse : Rows)
      → let k = key_set on m forward reverse in Refuses (host_said k.answer) (InRanges m forward reverse → ⊥) m k.meter
  pub pulse : (amount direction rate : ℕ) (m : Meter) (forward reverse : Rows)
      → let c = pulsed_by amount direction rate m forward reverse in
      Refuses {S = Whole} (host_said c.answer) (InRanges m forward reverse × Countable direction rate → ⊥) (m, energies_of forward reverse) (c.meter, c.energies)
  pub settle : (m : Meter) (forward reverse : Rows)
      → let c = settled_by m forward reverse in
      Refuses {S = Whole} (host_said c.answer) (InRanges m forward reverse → ⊥) (m, energies_of forward reverse) (c.meter, c.energies)
  -- A pulse and a settlement counted, by what the caller says of the ranges.
  pub count-pulse : (amount direction rate : ℕ) (within : Bool) (forward reverse : Rows)
      → let c = counting.pulsed_by amount direction rate within forward reverse in
      Refuses (host_said c.answer) ((within ≡ true) × Countable direction rate → ⊥) (energies_of forward reverse) c.energies
  pub count-settle : (within : Bool) (forward reverse : Rows)
      → let c = counting.settled_by within forward reverse in Refuses (host_said c.answer) (within ≡ true → ⊥) (energies_of forward reverse) c.energies
  -- A frame put to a meter: where it is refused, `FrameIsRight` says. A value that is not written, and registers that take none.
  pub frame : (bytes : List ℕ) (m : Meter) (forward reverse : Rows) (memory : List ℕ)
      → let o = answered bytes m forward reverse memory in
      Refuses {S = Meter × List ℕ} (frame_said o.answer.answer) ((n : Refusal) × (o.answer.answer ≡ Err n)) (m, memory) (o.answer.meter, o.memory)
  pub write_value : (identifier : ℕ) (address registers : List ℕ) (forward reverse : Rows) (m : List ℕ)
      → let o = value_written identifier address registers forward reverse m in Refuses (held_said o.answer) (HasRoom identifier m → ⊥) m o.memory
  pub with_value : (identifier : ℕ) (value registers : List ℕ)
      → ((item : Item) (at : ℕ) → item_of identifier ≡ Some item → location_of item.kind ≡ Register at → length value ≡ item.length → ⊥)
      → LeftAlone registers (registers_after identifier value registers)
  -- The reader's end.
  pub build : (request : Request) (m : List ℕ) → RequestSized request
      → let o = built request m in Refuses (built_said o.answer) (CannotBuild request m) m o.memory
  pub judge : (request : Request) (bytes m : List ℕ) → RequestSized request
      → let o = judged request bytes m in Refuses (judgement_said o.answer) ((n : Refusal) × FirstFails (judge_words request bytes m) n) m o.memory
  -- A replay: what stands at the front of the rest of a trace, frames put to a meter, the start, and a step, by `step_at`, by the walker's `step` or by
  -- `walk_from`. What comes back from a start that is refused is refused by every step with 16.
  pub trace-front : (rest : List ℕ)
      → Refuses (front_said (front_of rest)) (NoGoodRecord rest) rest rest
  pub put-frames : (bytes : List ℕ) (m : Meter) (energies : Energies) (memory : List ℕ)
      → let o = frames_put bytes m energies memory in
      Refuses {S = Meter × List ℕ} (put_said o.answer.answer) (CannotPut bytes m energies memory) (m, memory) (o.answer.meter, o.memory)
  pub start_replay : (address : List ℕ)
      → let c = started address in
      (IsRefusal (host_said c.answer) ↔ (Good address → ⊥)) × (IsRefusal (host_said c.answer) → replay.InRanges c.state → ⊥)
  pub step_replay : (trace : List ℕ) (at : ℕ) (s : ReplayState) (m : List ℕ)
      → let o = stepped trace at s m in
      Refuses {S = ReplayState × List ℕ} (step_said o.answer.answer) (CannotStep trace at s m) (s, m) (o.answer.state, o.memory)
  -- The host's call of a record has no answer: where it calls nothing, the state is as it was.
  pub host-call : (r : TraceRecord) (s : ReplayState) → CallsNothing r s → LeftAlone s (host_call r s)
  -- A session of blocks: what comes back from a beginning that is refused is refused by every block with 16.
  pub begin_blocks : (address : List ℕ)
      → let b = begun address in
      (IsRefusal (host_said b.answer) ↔ (Good address → ⊥)) × (IsRefusal (host_said b.answer) → replay.InRanges b.session.state → ⊥)
  -- A block of a trace: the records before a refused one are played, and that one does nothing (`blocks_replayed`).
  pub play_block : (kept read : ℕ) (s : Session) (buffer text : List ℕ)
      → let o = block_replayed kept read s buffer text in
      Refuses {S = Session × List ℕ × List ℕ} (block_played_said o.answer.answer) (CannotPlay kept read s buffer text) (s, buffer, text) (o.answer.session, o.buffer, o.text)
  -- What the replay program says beside its listing.
  pub write_message : (message : Message) (m : List ℕ)
      → let o = texts.writing (texts.message_text message) m in
      Refuses (said.written_said o.answer) (length m < length (texts.message_text message)) m o.memory
  -- An exchange: a refusal, a silence, and what the reader makes of a reply.
  pub exchange : (request : Request) (m : Meter) (forward reverse : Rows) (lent : Memories) → Typed request → MeterSized m
      → ExchangeAnswers request m forward reverse lent

-- Demand 1.
pub demand_1 : RefusalsChangeNothing
demand_1 =
    record {
      receiver = call-refuses;
      read-block = block-refuses;
      read_step = step-refuses;
      list_step = list_step_refuses;
      list_frame = listing-refuses;
      receive_line = line-refuses;
      write_frame = writing-refuses;
      write_frame_in_place = in_place_refuses;
      pack = packing-refuses;
      fresh-meter = fresh-refused;
      set_key = key-refuses;
      pulse = pulse-refuses;
      settle = settle-refuses;
      count-pulse = counted.pulse-refuses;
      count-settle = counted.settle-refuses;
      frame = frame-refuses;
      write_value = value-refuses;
      with_value = registers_as_before;
      build = build-refuses;
      judge = judge-refuses;
      trace-front = front-refuses;
      put-frames = put-refuses;
      start_replay = start-refused;
      step_replay = replayed.step-refuses;
      host-call = host_leaves;
      begin_blocks = begin_refused;
      play_block = play_refuses;
      write_message = λ message. said.writing-refuses (texts.message_text message);
      exchange = exchange-answers;
    }
