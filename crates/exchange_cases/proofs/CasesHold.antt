-- Cases A to I hold: one proof over the table.
use Rattle.std.specs.Prelude.{ℕ, ◌≤◌, ◌≡◌, refl, ◌↔◌, true, length, replicate, Err, Ok, Result}
use Rattle.frame.specs.declared.refusal.Refusal.{Refusal}
use Rattle.reader_judgement.specs.declared.Reply.{Reply}
use Rattle.reader_judgement.specs.declared.Reply.TheVariants.{Error, Value}
use Rattle.std.proofs.Common.{ap, ◌∙◌, le-leb, arith}
use mathlib.Core.List.{List, [], ◌∷◌, ◌++◌, append-nil, Memᴰ}
use Rattle.std.proofs.Math.Seq.{drop-nil}
use Rattle.laws.specs.All.{all_of}
use Rattle.laws.specs.Memory.{Outcome, outcome, over}
use Rattle.frame.specs.Frame.{total, checksum_of, masked, unmasked, summed, frame_of, address_of, control_of, length_of, field_of, data_of, frame_for}
use Rattle.frame.specs.Recognition.{recognised, recognised_body, recognised_end, is_all, exactly_one}
use Rattle.frame.proofs.RecognitionLaws.{one-frame}
use Rattle.item_address.specs.Address.{is_good, low_bytes, has_short_form, is_short}
use Rattle.laws.specs.Checks.{first_failing}
use Rattle.item_range.specs.Range.{within}
use Rattle.item.specs.Content.{digits_at, minutes_in_range, in_range, content_of}
use Rattle.item_decimal.specs.Decimal.{is_decimal, first_bad_from, first_bad, all_decimal, digits, low_digits, packed}
use Rattle.item_command.specs.Reply.{control_code, reply_to}
use Rattle.item_same.specs.Same.{same}
use Rattle.item.specs.Table.{item_of, energy_item, readings, other_rows, found}
use Rattle.energy.specs.Reading.{reading_of, reading_in_range, reading_bytes}
use Rattle.energy.specs.Energies.{Rows, row_in_range, rows_in_range, zero_rows, reading_at}
use Rattle.line_terms.specs.Line.{Symbol, silence, Choice, Keeps, Certain}
use Rattle.line_terms.specs.Places.{Found, Rising, joined}
use Rattle.line_terms.proofs.PlaceLaws.{rising-same}
use Rattle.line_terms.specs.Scan.{scan, reading_by, before, begins, before_silence, broken, bytes_before}
use Rattle.line.specs.Receiver.{fresh}
use Rattle.line_terms.proofs.ScanLaws.{scan-rising}
use Rattle.line_terms.proofs.Closed.{taken-found}
use Rattle.line_terms.specs.Rest.{RestOf}
use Rattle.line_terms.proofs.RestLaws.{scan-rest}
use Rattle.line_terms.proofs.ScanCertain.{found-certain, certain-found}
use Rattle.line.proofs.Demand3.{Calls, heard, delivered_bytes, demand_3, ReceiverCall}
use Rattle.meter.specs.Meter.{within_ranges, fresh_meter, untouched}
use Rattle.energy.specs.Columns.{column_bytes, columns_bytes}
use Rattle.meter_decision.specs.Decision.{password_at, authorised, checks_of}
use Rattle.meter_holding.specs.Holding as holding
use Rattle.meter_holding.specs.Holding.{location_of, held_at, registers_with}
use Rattle.laws.specs.Part.{with_part}
use Rattle.meter_decision.specs.Request.{item_asked, level_of, password_of, operator_of, written_value}
use Rattle.item_identifier.specs.Identifier.{identifier_of, identifier_bytes}
use Rattle.item_command.specs.Command.{command_of}
use Rattle.item_command.specs.Addressee.{names_meter, addressed}
use Rattle.meter.proofs.Ranges.{within-ranges}
use Rattle.meter.proofs.AnswerLaws.{answered-treated, not-replied}
use Rattle.meter.specs.Answer.{Treatment, silent, replies, reply_data, meter_after, carried_out, treated, answered_with, delivered, answered}
use Rattle.meter.specs.declared.Meter.{Meter}
use Rattle.meter.specs.declared.Answered.{Answered}
use Rattle.reader.specs.Allowed.{is_allowed}
use Rattle.reader_allowed.specs.Allowed.{address_allowed, content_checks, value_conditions, conditions_of, admission}
use Rattle.reader.specs.Building.{sent_data, request_frame, request_bytes, built}
use Rattle.reader.specs.Judging.{is_judged, is_answer, call_checks, frame_checks, judgement_of, written, judged}
use Rattle.reader_judgement.specs.Judging.{is_normal, is_error, answers_from, error_checks, normal_checks, reply_value, data_judgement}
use Rattle.reader.specs.declared.Request.{Request}
use Rattle.exchange_cases.specs.Cases.{Case, line, goes_on, request, answer, judgement, table, at}

-- What a line comes to by computation, as it stands and with a silence behind it.
abbrev LineComputes : List Symbol → List Found → List ℕ → Type 0
LineComputes symbols frames kept =
    ((scan 0 0 symbols).frames ≡ frames) × ((scan 0 0 (symbols ++ (silence ∷ []))).frames ≡ frames) × ((scan 0 0 symbols).kept ≡ kept)

-- What each row comes to by computation.
abbrev Computes : Case → Type 0
Computes (line symbols frames kept) = LineComputes symbols frames kept
Computes (goes_on symbols frames kept behind then rest) = LineComputes symbols frames kept × LineComputes (symbols ++ behind) then rest
Computes (request asked bytes) = (is_allowed asked ≡ true) × (request_bytes asked ≡ bytes)
Computes (answer bytes m forward reply after) =
    (within_ranges m forward zero_rows ≡ true)
    × (exactly_one bytes ≡ true)
    × (delivered (treated bytes m forward zero_rows) m [] ≡ outcome (answered_with after (Ok (length reply))) reply)
Computes (judgement asked bytes says value) =
    (judgement_of asked bytes (replicate 196 0) ≡ says) × (written says (reply_value asked.action (data_of bytes)) [] ≡ value)

abbrev AllCompute : List Case → Type 0
AllCompute [] = Unit
AllCompute (c ∷ cases) = Computes c × AllCompute cases

computed : AllCompute table
unfolding scan reading_by before begins broken bytes_before recognised recognised_body recognised_end is_all exactly_one checksum_of total length_of field_of data_of unmasked masked summed frame_of frame_for address_of control_of is_good low_bytes has_short_form is_short digits_at within minutes_in_range in_range content_of is_decimal first_bad_from first_bad all_decimal digits low_digits packed control_code reply_to same item_of energy_item readings other_rows found reading_in_range reading_bytes row_in_range rows_in_range reading_at column_bytes columns_bytes with_part password_at location_of held_at holding.value_held registers_with holding.within_ranges fresh_meter command_of names_meter addressed identifier_of item_asked level_of password_of operator_of written_value authorised checks_of reply_data untouched meter_after carried_out treated delivered address_allowed value_conditions conditions_of admission is_allowed identifier_bytes sent_data request_frame request_bytes first_failing is_normal is_error answers_from is_answer error_checks normal_checks reply_value data_judgement judgement_of table reading_of all_of content_checks is_judged call_checks frame_checks before_silence
computed = ((refl, refl), ((refl, refl, refl), ((refl, refl, refl), ((refl, refl, refl), ((refl, refl), ((refl, refl), ((refl, refl, refl), ((refl, refl), ((refl, refl, refl), ((refl, refl), ((refl, refl), ((refl, refl, refl), ((refl, refl), ((refl, refl, refl), ((refl, refl), ((refl, refl, refl), (((refl, refl, refl), (refl, refl, refl)), (((refl, refl, refl), (refl, refl, refl)), ((refl, refl, refl), tt)))))))))))))))))))

-- A line: the frames listed are the certain ones, and those that every choice that keeps the rule takes; the bytes listed are its rest; and
-- calls of a fresh receiver that heard this line have handed on the frames' bytes.
pub record LineCase (symbols : List Symbol) (frames : List Found) (kept : List ℕ) : Type 1 where
  pub certain : (place : ℕ) (frame : List ℕ) → Memᴰ (at place frame) frames ↔ Certain symbols place frame
  pub taken : (taken : Choice) → Keeps symbols taken → (place : ℕ) (frame : List ℕ) → Memᴰ (at place frame) frames ↔ taken place frame
  pub rest : RestOf symbols kept
  pub delivered : (calls : List ReceiverCall) → Calls fresh calls → heard calls ≡ symbols → delivered_bytes calls ≡ joined frames

-- A request: whatever memory of at least 66 bytes is lent, these bytes are written over its front.
pub record RequestCase (asked : Request) (bytes : List ℕ) : Type 1 where
  pub sent : (m : List ℕ) → 66 ≤ length m → built asked m ≡ outcome (Ok (length bytes)) (over bytes m)

-- A frame: whatever memory of at least 212 bytes is lent, this reply is written over its front, and this is the meter afterwards.
pub record AnswerCase (bytes : List ℕ) (m : Meter) (forward : Rows) (reply : List ℕ) (after : Meter) : Type 1 where
  pub replied : (memory : List ℕ) → 212 ≤ length memory
      → answered bytes m forward zero_rows memory ≡ outcome (answered_with after (Ok (length reply))) (over reply memory)

-- A reply: whatever memory of at least 196 bytes is lent, the reader says this, and this value is written over its front.
pub record JudgementCase (asked : Request) (bytes : List ℕ) (says : Result Reply Refusal) (value : List ℕ) : Type 1 where
  pub judges : (m : List ℕ) → 196 ≤ length m → judged asked bytes m ≡ outcome says (over value m)

-- What each row says.
abbrev pub Says : Case → Type 1
Says (line symbols frames kept) = LineCase symbols frames kept
Says (goes_on symbols frames kept behind then rest) = LineCase symbols frames kept × LineCase (symbols ++ behind) then rest
Says (request asked bytes) = RequestCase asked bytes
Says (answer bytes m forward reply after) = AnswerCase bytes m forward reply after
Says (judgement asked bytes says value) = JudgementCase asked bytes says value

abbrev pub AllSay : List Case → Type 1
AllSay [] = Unit
AllSay (c ∷ cases) = Says c × AllSay cases

-- A reply that is delivered into no memory at all is delivered over the front of any.
delivered-over : (t : Treatment) (m after : Meter) (n : ℕ) (reply memory : List ℕ) → delivered t m [] ≡ outcome (answered_with after (Ok n)) reply
    → delivered t m memory ≡ outcome (answered_with after (Ok n)) (over reply memory)
unfolding delivered
delivered-over (silent k) m after n reply memory e =
    absurd (not-replied (ap (λ (o : Outcome Answered). o.answer.answer) e))
delivered-over (replies control payload then) m after n reply memory e =
    let frame : frame_for then.address control payload ≡ reply = rw (drop-nil, append-nil) at (ap (λ (o : Outcome Answered). o.memory) e) in
    rw (frame, ap (λ (o : Outcome Answered). o.answer) e)

-- Of the memory lent to the judge only its size matters.
same-judgement : (asked : Request) (bytes m m' : List ℕ) → 196 ≤ length m → 196 ≤ length m' → judgement_of asked bytes m ≡ judgement_of asked bytes m'
unfolding judgement_of call_checks
same-judgement asked bytes m m' h k = rw (le-leb 196 (length m) h, le-leb 196 (length m') k)

-- What is written into no memory at all is written over the front of any.
written_over : (says : Result Reply Refusal) (given value m : List ℕ) → written says given [] ≡ value → written says given m ≡ over value m
written_over (Ok (Value n)) given value m e = rw (← rw (drop-nil, append-nil) at e)
written_over (Ok (Error b)) given value m e = rw (← e)
written_over (Err n) given value m e = rw (← e)

-- A line that computes is so.
line_computes_says : (symbols : List Symbol) (frames : List Found) (kept : List ℕ) → LineComputes symbols frames kept → LineCase symbols frames kept
line_computes_says symbols frames kept h =
    record {
      certain = certain;
      rest = rw h.2 at (scan-rest symbols);
      taken = λ taken keeps place frame. rw h.1 at (taken-found symbols taken keeps place frame);
      delivered = λ calls called e. delivered calls called e;
    }
  where
    certain : (place : ℕ) (frame : List ℕ) → Memᴰ (at place frame) frames ↔ Certain symbols place frame
    certain place frame = rw (← h.0) (found-certain symbols place frame, certain-found symbols place frame)

    rising : Rising frames
    rising = rw h.0 at (scan-rising 0 0 symbols)

    delivered : (calls : List ReceiverCall) → Calls fresh calls → heard calls ≡ symbols → delivered_bytes calls ≡ joined frames
    delivered calls called e =
        let found = (demand_3 calls called).certain in
        let exact : (place : ℕ) (frame : List ℕ) → Memᴰ (at place frame) found.frames ↔ Certain symbols place frame =
        λ place frame. rw e at (found.exact place frame) in
        (demand_3 calls called).delivered
        ∙ ap joined
        (rising-same found.frames frames found.rising rising (λ f m. (certain f.place f.frame).1 ((exact f.place f.frame).0 m))
        (λ f m. (exact f.place f.frame).1 ((certain f.place f.frame).0 m)))

-- A row that computes is so.
computes_says : (c : Case) → Computes c → Says c
unfolding built judged
computes_says (line symbols frames kept) h = line_computes_says symbols frames kept h
computes_says (goes_on symbols frames kept behind then rest) h =
    (line_computes_says symbols frames kept h.0, line_computes_says (symbols ++ behind) then rest h.1)
computes_says (request asked bytes) h = record { sent = λ m room. rw (le-leb 66 (length m) room, h.0, h.1) }
computes_says (answer bytes m forward reply after) h =
    record {
      replied = λ memory room.
          answered-treated bytes m forward zero_rows memory ((within-ranges m forward zero_rows).0 h.0) room (one-frame bytes h.1)
          ∙ delivered-over (treated bytes m forward zero_rows) m after (length reply) reply memory h.2;
    }
computes_says (judgement asked bytes says value) h =
    record {
      judges = λ m room.
          let said : judgement_of asked bytes m ≡ says = same-judgement asked bytes m (replicate 196 0) room (omega arith) ∙ h.0 in
          rw (said, written_over says (reply_value asked.action (data_of bytes)) value m h.1);
    }

all_compute_say : (cases : List Case) → AllCompute cases → AllSay cases
all_compute_say [] h = tt
all_compute_say (c ∷ cases) h = (computes_says c h.0, all_compute_say cases h.1)

-- Cases A to I.
pub cases_a_to_i : AllSay table
cases_a_to_i = all_compute_say table computed
