-- Laws of a request's bytes: how many its data are, how they come to stand at their place, and the frame behind four FE.
use Rattle.std.specs.Prelude.{ℕ, ◌+◌, ◌-◌, ◌≤◌, ◌≡◌, refl, true, length, take, drop, Ok, Result}
use Rattle.frame_parts.specs.declared.WriteError.{WriteError}
use Rattle.std.proofs.Common.{ap, ◌∙◌, arith, length-append, length-drop, drop_of_length-le, take_all, drop-drop, length-take-le, le-leb}
use mathlib.Core.List.{List, [], ◌∷◌, ◌++◌, append-nil, append_assoc}
use Rattle.laws.specs.Memory.{Outcome, outcome, over}
use Rattle.laws.specs.Puts.{Puts}
use Rattle.frame.specs.Frame.{frame_for}
use Rattle.frame_parts.specs.Writing.{writing_in_place}
use Rattle.frame_parts.specs.WritingLaws.{written_in_place, placed-front}
use Rattle.item_identifier.proofs.IdentifierLaws.{identifier-four}
use Rattle.item_identifier.specs.Identifier.{identifier_bytes}
use Rattle.item_command.specs.Command.{control_for}
use Rattle.reader_judgement.specs.Judging.{command_for}
use Rattle.reader_judgement.specs.declared.Action.{Action}
use Rattle.reader_judgement.specs.declared.Action.TheVariants.{ReadData, ReadAddress, WriteData}
use Rattle.reader.specs.Allowed.{RequestSized, request_value, is_allowed}
use Rattle.reader.proofs.AllowedWords.{written-few, admitted_write}
use Rattle.reader.specs.Building.{wake_up, sent_to, sent_data, Counts, request_frame, request_bytes, built}
use Rattle.reader.specs.declared.Request.{Request}

-- The data of a write, part by part.
pub write_parts : (request : Request)
    → (((identifier_bytes request.identifier ++ (request.level ∷ [])) ++ request.password) ++ request.operator) ++ request_value request
    ≡ sent_data WriteData request
unfolding sent_data
write_parts request = simp append_assoc

-- They are twelve bytes and the value.
pub write_length : (request : Request) → length request.password ≡ 3 → length request.operator ≡ 4 → request.count ≤ length request.value
    → length (sent_data WriteData request) ≡ 12 + request.count
unfolding sent_data
write_length request three four fits =
    let long : length (take request.count request.value) ≡ request.count = length-take-le request.count request.value fits in
    simp length-append (omega (arith, identifier-four request.identifier))

-- The value of an allowed write has at most 38 bytes.
pub allowed_counts : (request : Request) → is_allowed request ≡ true → Counts request.action request
allowed_counts request h = of_action request.action refl
  where
    of_action : (action : Action) → request.action ≡ action → Counts action request
    of_action ReadData e = tt
    of_action ReadAddress e = tt
    of_action WriteData e = written-few request (admitted_write request h e)

-- A request whose value has at most 38 bytes has at most 50 data bytes.
pub counted-length : (request : Request) → RequestSized request → (action : Action) → Counts action request → length (sent_data action request) ≤ 50
unfolding sent_data
counted-length request sized ReadData h = omega (arith, identifier-four request.identifier)
counted-length request sized ReadAddress h = omega arith
counted-length request sized WriteData h = omega (arith, write_length request sized.password sized.operator (omega (arith, sized.value)))

-- An allowed request has at most 50 data bytes.
pub request-length : (request : Request) → RequestSized request → is_allowed request ≡ true → length (sent_data request.action request) ≤ 50
request-length request sized h = counted-length request sized request.action (allowed_counts request h)

-- An address field of six bytes is sent.
pub sent-six : (action : Action) (address : List ℕ) → length address ≡ 6 → length (sent_to action address) ≡ 6
sent-six ReadData address h = h
sent-six ReadAddress address h = refl
sent-six WriteData address h = h

-- Data put behind four FE, and their frame written in place, for which there is room.
module _ (bytes m : List ℕ) (few : length bytes ≤ 50) (room : 66 ≤ length m) where
  -- The memory behind the four FE.
  abbrev behind : List ℕ
  behind = drop 4 m

  behind-length : length behind ≡ length m - 4
  behind-length = length-drop 4 m

  -- The data put at their place behind the four FE.
  pub data_placed : {o y : List ℕ} → o ≡ over wake_up m → y ≡ over bytes (take (length o - 14) (drop 14 o))
      → take 14 o ++ (y ++ drop (length o - 14) (drop 14 o)) ≡ wake_up ++ over (take 10 behind ++ bytes) behind
  data_placed {o} {y} p q =
      let long : length o ≡ 4 + length behind = ap length p ∙ omega arith in
      let count : length o - 14 ≡ length behind - 10 = omega arith in
      let same : y ≡ over bytes (take (length behind - 10) (drop 10 behind)) = q ∙ rw (count, p) in
      rw (count, p) (ap (λ (l : List ℕ). wake_up ++ l) (placed-front bytes behind (omega (arith, behind-length)) y same))

  module _ (address : List ℕ) (control : ℕ) (six : length address ≡ 6) (o : List ℕ) (p : o ≡ wake_up ++ over (take 10 behind ++ bytes) behind) (n : ℕ) (e : n ≡ length bytes) (r : Result ℕ WriteError) (y : List ℕ)
      (w : outcome r y ≡ writing_in_place address control n (take (length o - 4) (drop 4 o))) where
    -- It is not refused.
    frame_in_place : outcome r y ≡ outcome (Ok (12 + length bytes)) (over (frame_for address control bytes) behind)
    frame_in_place =
        let s = over (take 10 behind ++ bytes) behind in
        let long : length o ≡ 4 + length s = ap length p ∙ omega arith in
        let whole : take (length o - 4) (drop 4 o) ≡ s = ap (λ (l : List ℕ). take (length o - 4) (drop 4 l)) p ∙ take_all (length o - 4) s (omega arith) in
        w ∙ rw (whole, e) (written_in_place address control bytes behind six (omega arith) (omega (arith, behind-length)))

    -- Its length is answered, and it stands behind the four FE.
    pub in_place_length : r ≡ Ok (12 + length bytes)
    in_place_length = ap (λ (o : Outcome (Result ℕ WriteError)). o.answer) frame_in_place

    pub in_place_over : take 4 o ++ (y ++ drop (length o - 4) (drop 4 o)) ≡ over (wake_up ++ frame_for address control bytes) m
    in_place_over =
        let frame = frame_for address control bytes in
        let left : y ≡ over frame behind = ap (λ (o : Outcome (Result ℕ WriteError)). o.memory) frame_in_place in
        let none : drop (length o - 4) (drop 4 o) ≡ [] = drop_of_length-le (drop 4 o) {i = length o - 4} (omega (arith, length-drop 4 o)) in
        let first : take 4 o ≡ wake_up = ap (λ (l : List ℕ). take 4 l) p in
        let same : 4 + length frame ≡ length (wake_up ++ frame) = omega arith in
        let rest : drop (length frame) behind ≡ drop (length (wake_up ++ frame)) m = drop-drop (length frame) 4 m ∙ ap (λ (k : ℕ). drop k m) same in
        rw (first, left, none, append-nil) (ap (λ (l : List ℕ). wake_up ++ (frame ++ l)) rest)

-- The parts of an allowed request, as the code makes them, written where there is room.
module _ (request : Request) (m : List ℕ) (room : 66 ≤ length m) (allowed : is_allowed request ≡ true)
    {address : List ℕ} {control : ℕ} (p : address ≡ sent_to request.action request.address)
    (q : control ≡ control_for (command_for request.action)) where
  -- Four FE and the frame are the request's bytes.
  request-made : wake_up ++ frame_for address control (sent_data request.action request) ≡ request_bytes request
  unfolding request_bytes request_frame
  request-made = rw (p, q)

  -- What the writing leaves is what is built.
  pub built-written : {n : ℕ} {last : List ℕ} → Puts (wake_up ++ frame_for address control (sent_data request.action request)) n m last
      → outcome (Ok n) last ≡ built request m
  unfolding built
  built-written e =
      rw (le-leb 66 (length m) room, allowed)
      (rw (e.count, e.memory)
      (ap (λ (l : List ℕ). outcome (Ok (length l)) (over l m)) request-made))
