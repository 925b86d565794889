-- The array holds the kept bytes and the byte after them; what reading from the second place on leaves, with the rest copied back, is
-- what `read_rescans` asks.
use Rattle.std.proofs.Common.{ℕ, ◌≤◌, ◌+◌, ◌-◌, ◌≡◌, ap, sym, ◌∙◌, false, List, [], ◌∷◌, ◌++◌, arith, length, take, drop, replicate, length-append, length-take-le, length-drop, take_at}
use Rattle.line_block.specs.Answer.{block_gives}
use Rattle.line_block.specs.Block.{block_read}
use Rattle.line_block.proofs.BlockLaws.{read-delivers, read-declines, delivers-place}
use Rattle.line.proofs.RescanLaws.{second-size, second_open, read_rescans, put_front}
use Rattle.laws.specs.Memory.{outcome}
use Rattle.laws.specs.MemoryLaws.{over-length}
use Rattle.line.proofs.drain.rescan.Goals as goal
use Rattle.line.proofs.drain.rescan.Goals.{After-join, Joined-recognise, in-Open, in_default+in-Ok}

-- the bytes that are read: the kept ones and the byte after them
abbrev bytes : After-join → List ℕ
bytes c = take c.args.count c.args.kept.now ++ (c.args.b ∷ [])

bytes-size : (c : After-join) → length (bytes c) ≡ c.args.count + 1
bytes-size c = simp (length-append, length-take-le c.args.count c.args.kept.now (omega arith))

-- the array that is drained: those bytes over zeros
abbrev line : After-join → List ℕ
line c = c.join.new.out

line-size : (c : After-join) → length (line c) ≡ 212
line-size c =
    let n : length (bytes c) ≡ c.args.count + 1 = bytes-size c in
    ap length c.join.ensures ∙ over-length (bytes c) (replicate 212 0) (omega arith)

front : (c : After-join) → take (c.args.count + 1) (line c) ≡ bytes c
front c =
    ap (take (c.args.count + 1)) c.join.ensures ∙ take_at (bytes c) (drop (length (bytes c)) (replicate 212 0)) (c.args.count + 1) (bytes-size c)

long : (c : After-join) → c.args.count + 1 ≤ length (line c)
long c = omega (arith, line-size c)

-- the bytes from the second on
abbrev second : After-join → List ℕ
second c = take (c.args.count + 1 - 1) (drop 1 (line c))

size : (c : After-join) → length (second c) ≡ c.args.count
size c = second-size c.args.kept.now (line c) c.args.count c.args.b (front c) (long c)

-- where they are known to be read so, the place of the rest lies among them
rest-within : (c : After-join) {m₁ : List ℕ} {bytes frames rest : ℕ} →
    outcome (block_gives bytes frames rest) m₁ ≡ block_read (second c) false c.args.out.now → rest ≤ c.args.count
rest-within c r = omega (arith, delivers-place (read-delivers (second c) false _ _ _ _ _ r), size c)

abbrev joined_at : Joined-recognise → After-join
joined_at c = (goal.at.Joined-recognise c).After-join

-- by either way they are read as a block
reads : (c : Joined-recognise) → let d = c.match-recognise in
    (1 ≤ d.bytes.2) × (outcome (block_gives d.bytes.0 d.bytes.1 (d.bytes.2 - 1)) d.out ≡ block_read (second (joined_at c)) false c.args.out.now)
reads c =
    let j = joined_at c in
    let d = c.match-recognise in
    elim c.match-recognise.branch [
      | in_default+in-Ok w ↦
          let at : d.bytes.2 ≡ w.in-Ok.read.rest + 1 = ap (λ (t : ℕ × ℕ × ℕ). t.2) w.bytes-is in
          let one : d.bytes.2 - 1 ≡ w.in-Ok.read.rest = omega arith in (
            omega arith,
            (λ i. outcome (block_gives (w.bytes-is i).0 (w.bytes-is i).1 (one i)) (w.out-is i)) ∙ w.in-Ok.ensures,
          )
      | in-Open w ↦
          let at : d.bytes.2 ≡ 1 = ap (λ (t : ℕ × ℕ × ℕ). t.2) w.bytes-is in
          let one : d.bytes.2 - 1 ≡ 0 = omega arith in (
            omega arith,
            (λ i. outcome (block_gives (w.bytes-is i).0 (w.bytes-is i).1 (one i)) (w.out-is i))
                ∙ second_open c.args.kept.now (line j) c.args.count c.args.b (front j) (long j) c.args.out.now (omega arith) (sym w.in-Open.ensures),
          )
    ]

within : (c : Joined-recognise) → c.match-recognise.bytes.2 ≤ c.args.count + 1
within c = omega (arith, (reads c).0, rest-within (joined_at c) (reads c).1)

pub unreachable-requires : goal.unreachable-requires
unreachable-requires c =
    let j = (goal.at.unreachable-requires c).After-join in
    let e = read-declines (second j) false _ _ _ c.in-Err.ensures in omega (arith, e.short, size j)

pub overflow_add-bytes : goal.overflow_add-bytes
overflow_add-bytes c = omega (arith, rest-within (goal.at.overflow_add-bytes c).After-join c.in-Ok.ensures)

pub slice_bounds-copy_from_slice-count : goal.slice_bounds-copy_from_slice-count
slice_bounds-copy_from_slice-count c = within (goal.at.slice_bounds-copy_from_slice-count c).Joined-recognise

pub slice_bounds-copy_from_slice-count-2 : goal.slice_bounds-copy_from_slice-count-2
slice_bounds-copy_from_slice-count-2 c = within (goal.at.slice_bounds-copy_from_slice-count-2 c).Joined-recognise

pub slice_bounds-copy_from_slice-start : goal.slice_bounds-copy_from_slice-start
slice_bounds-copy_from_slice-start c = within (goal.at.slice_bounds-copy_from_slice-start c).Joined-recognise

pub overflow_sub-result : goal.overflow_sub-result
overflow_sub-result c = within (goal.at.overflow_sub-result c).Joined-recognise

pub returns : goal.returns
returns c =
    let t = (goal.at.returns c).Joined-recognise in
    let j = joined_at t in
    let d = c.match-recognise in
    let size : length (take (c.args.count + 1 - d.bytes.2) (drop d.bytes.2 (line j))) ≡ c.args.count + 1 - d.bytes.2 =
    length-take-le _ _ (omega (arith, within t, line-size j, length-drop d.bytes.2 (line j))) in
    read_rescans c.args.kept.now (line j) c.args.count c.args.b (front j) (long j) c.requires.b_value _ c.args.out.now _ _ _ _ (reads t).0 (reads t).1
    (put_front _ _ _ _ c.copy_from_slice.ensures.after size)
