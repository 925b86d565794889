-- Each byte is read as it was at the begin, and the bytes masked are all that is left.
use Rattle.std.proofs.Common.{◌≡◌, ℕ, ◌<◌, List, map, length, get_or, take, ap, ◌∙◌, append-nil, arith, length-take-le}
use lib.ListN.{length-map}
use lib.Seq.{drop-length}
use Rattle.frame.specs.Frame.{masked}
use Rattle.laws.specs.Memory.{over}
use Rattle.laws.specs.MemoryLaws.{Mapping, over-behind, mapping_next, mapping_end}
use Rattle.frame_parts.proofs.mask_field.Goals as goal

-- the next byte is as it was
unpassed : {xs zs : List ℕ} {i : ℕ} → Mapping masked xs xs i zs → i < length xs → get_or zs i 0 ≡ get_or xs i 0
unpassed {xs} {zs} {i} m h =
    let so_many : length (map masked (take i xs)) ≡ i = length-map (take i xs) masked ∙ length-take-le i xs m.passed in
    ap (λ (l : List ℕ). get_or l i 0) m.so_far ∙ over-behind (map masked (take i xs)) xs i (omega arith) h

-- the bytes masked over the bytes are all that is left
whole : (xs zs : List ℕ) → zs ≡ over (map masked xs) xs → zs ≡ map masked xs
whole xs zs e = e ∙ rw (length-map, drop-length) (append-nil (map masked xs))

pub loop-b-preserved : goal.loop-b-preserved
loop-b-preserved c =
    let inv = c.loop-b.invariant in
    let more = c.loop-b-test.true in
    mapping_next inv more (c.mask.ensures ∙ ap masked (unpassed inv more))

pub returns : goal.returns
returns c =
    let inv = c.loop-b.invariant in
    whole c.args.field.now _ (mapping_end inv (c.loop-b-test.false))
