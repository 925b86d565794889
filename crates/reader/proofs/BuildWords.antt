-- Document 01, "The reader's end": what the building of a request answers and leaves, in its own figures.
use Rattle.std.specs.Prelude.{ℕ, ◌≤◌, ◌<◌, ◌≡◌, refl, List, [], ◌∷◌, ◌++◌, length, replicate, leb, Err, Ok}
use Rattle.frame.specs.declared.refusal.Refusal.TheVariants.{NotAllowed, ShortMemory}
use Rattle.std.proofs.Common.{arith, leb-true, le-leb}
use Rattle.laws.specs.Memory.{outcome, over}
use Rattle.laws.specs.TestLaws.{not_true}
use Rattle.frame.specs.Frame.{frame_for}
use Rattle.item_identifier.specs.Identifier.{identifier_bytes}
use Rattle.reader_judgement.specs.declared.Action.{Action}
use Rattle.reader_judgement.specs.declared.Action.TheVariants.{ReadData, ReadAddress, WriteData}
use Rattle.reader.specs.Allowed.{RequestSized, request_value, is_allowed}
use Rattle.reader.proofs.AllowedWords.{AllowedInWords, allowed-words}
use Rattle.reader.specs.Building.{sent_data, frame_of_action, request_frame, request_bytes, built}
use Rattle.reader.specs.declared.Request.{Request}

-- The frame of each request: 11 with the identifier; 13 to six AA; 14 with identifier, level, password, operator code and value.
abbrev pub sent_frame : Action → Request → List ℕ
sent_frame ReadData request = frame_for request.address 0x11 (identifier_bytes request.identifier)
sent_frame ReadAddress request = frame_for (replicate 6 0xAA) 0x13 []
sent_frame WriteData request =
    frame_for request.address 0x14
    (identifier_bytes request.identifier ++ (request.level ∷ (request.password ++ (request.operator ++ request_value request))))

-- Four FE in front.
abbrev pub sent_bytes : Request → List ℕ
sent_bytes request = 0xFE ∷ 0xFE ∷ 0xFE ∷ 0xFE ∷ sent_frame request.action request

-- 1 under 66 bytes of memory, then 5 for a request that is not allowed; else these bytes.
pub record BuildIsRight (request : Request) (m : List ℕ) : Type 0 where
  pub short-memory : length m < 66 → built request m ≡ outcome (Err ShortMemory) m
  pub not-allowed : 66 ≤ length m → (AllowedInWords request.action request → ⊥) → built request m ≡ outcome (Err NotAllowed) m
  pub allowed : 66 ≤ length m → AllowedInWords request.action request
      → built request m ≡ outcome (Ok (length (sent_bytes request))) (over (sent_bytes request) m)

-- The frame of a request is this one.
pub frame_figures : (request : Request) → request_frame request ≡ sent_frame request.action request
unfolding request_frame sent_data
frame_figures request = go request.action
  where
    go : (action : Action) → frame_of_action action request ≡ sent_frame action request
    go ReadData = refl
    go ReadAddress = refl
    go WriteData = refl

bytes_figures : (request : Request) → request_bytes request ≡ sent_bytes request
unfolding request_bytes
bytes_figures request = rw (frame_figures request)

pub build-words : (request : Request) (m : List ℕ) → RequestSized request → BuildIsRight request m
unfolding built
build-words request m sized =
    record {
      short-memory = λ few. rw (not_true (leb 66 (length m)) (λ h. omega (arith, leb-true 66 (length m) h)));
      not-allowed =
          λ room none. rw (le-leb 66 (length m) room, not_true (is_allowed request) (λ h. none ((allowed-words request sized).0 h)));
      allowed = λ room words. rw (le-leb 66 (length m) room, (allowed-words request sized).1 words, bytes_figures request);
    }
