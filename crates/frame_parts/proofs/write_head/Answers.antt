-- The address goes just behind the first 68, and the three bytes behind it are a run.
use Rattle.std.proofs.Common.{◌≡◌, ℕ, suc, ◌≤◌, List, [], ◌∷◌, length, set, ap, rules, not-suc-le-zero}
use borrow.Rule.Slice.PartMut.{put_mid}
use Rattle.laws.specs.Memory.{over}
use Rattle.laws.specs.MemoryLaws.{over-run}
use Rattle.frame_parts.proofs.write_head.Goals as goal

-- the first 68, and the address behind it
begun : (m address part : List ℕ) → 10 ≤ length m → length address ≡ 6 → part ≡ address → put_mid 1 6 (set m 0 0x68) part ≡ over (0x68 ∷ address) m
begun [] address part room six e = absurd (not-suc-le-zero room)
begun (b ∷ m) address part room six e = rw (e, six)

pub returns : goal.returns
returns c =
    let six : length c.args.address ≡ 6 = search rules in
    rw (begun c.args.out.now c.args.address _ c.requires six c.copy_from_slice.ensures.after)
    (over-run (0x68 ∷ c.args.control ∷ c.args.data_length ∷ []) (0x68 ∷ c.args.address) c.args.out.now 7 (ap suc six) c.requires)
