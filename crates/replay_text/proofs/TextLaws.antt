-- Laws of texts that are put into a buffer part by part, and written from there.
use Rattle.std.specs.Prelude.{ℕ, ◌≤◌, ◌<◌, ◌≡◌, List, ◌++◌, length, Some, None}
use Rattle.std.proofs.Common.{append_assoc, refl, ◌∙◌, arith, length-append}
use borrow.Author.Tests.{le-leb, lt-leb}
use Rattle.laws.specs.Memory.{outcome, over}
use Rattle.replay_text.specs.Line.{said, Adds}
use Rattle.replay_text.specs.declared.put.Line.{Line}
use Rattle.replay_text.specs.Texts.{writing, reason_text}
use Rattle.replay_text.specs.declared.Reason.{Reason}
use Rattle.replay_text.specs.declared.Reason.TheVariants.{Asked, NotOneArgument, BadAddress}

-- No reason is longer than this.
pub reason_most : (reason : Reason) → length (reason_text reason) ≤ 80
unfolding reason_text
reason_most Asked = omega arith
reason_most NotOneArgument = omega arith
reason_most BadAddress = omega arith

-- A part that is put behind what is put before it.
pub adds_on : {a b c : Line} {first second : List ℕ} → Adds a b first → Adds b c second → Adds a c (first ++ second)
adds_on {first = first} {second = second} before behind =
    record {
      end = omega (arith, before.end, behind.end, length-append first second);
      within = behind.within;
      text = rw (behind.text, before.text) (append_assoc _ first second);
    }

-- A text that is put into a line and copied from there is written; where the memory is shorter, nothing is.
module _ {text : List ℕ} {start line : Line} (memory : List ℕ) (none : start.end ≡ 0) (puts : Adds start line text) where
  count : line.end ≡ length text
  count = omega (arith, puts.end)

  front : said line ≡ text
  front = puts.text ∙ rw none refl

  pub put_written : line.end ≤ length memory → outcome (Some line.end) (over (said line) memory) ≡ writing text memory
  unfolding writing
  put_written room = rw (front, le-leb (length text) (length memory) (omega (arith, count)), count)

  pub put-unwritten : length memory < line.end → outcome None memory ≡ writing text memory
  unfolding writing
  put-unwritten short = rw (lt-leb (length text) (length memory) (omega (arith, count)))
