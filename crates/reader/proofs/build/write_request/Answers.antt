-- Four stores put the four FE at the front. There is room for the data at their place behind them and for the frame around the data, so it
-- is written in place and the other way out is not taken.
use Rattle.std.proofs.Common.{ℕ, ◌+◌, ◌-◌, ◌≤◌, ◌≡◌, List, ◌++◌, length, take, drop, arith, rules}
use Rattle.std.specs.Prelude.{Ok}
use Rattle.std.proofs.Math.ListN.{set}
use Rattle.laws.specs.Memory.{over}
use Rattle.laws.specs.MemoryLaws.{run-from}
use Rattle.frame.proofs.FrameLaws.{frame-for-length}
use Rattle.reader.specs.Building.{wake_up, sent_data}
use Rattle.reader.proofs.BuildingLaws.{counted-length, data_placed, in_place_length, in_place_over}
use Rattle.reader.proofs.build.write_request.Goals as goal
use Rattle.reader.proofs.build.write_request.Goals.{After-write_frame_in_place}

-- the array's length
six : (c : After-write_frame_in_place) → length c.args.address ≡ 6
six c = search rules

-- the data
abbrev bytes : After-write_frame_in_place → List ℕ
bytes c = sent_data c.args.request.action c.args.request

few : (c : After-write_frame_in_place) → length (bytes c) ≤ 50
few c = counted-length c.args.request (search rules) c.args.request.action c.requires.0

-- the memory after the four stores, and with the data at their place
abbrev with_wake_up : After-write_frame_in_place → List ℕ
with_wake_up c = set (set (set (set c.args.out.now 0 0xFE) 1 0xFE) 2 0xFE) 3 0xFE

abbrev with_data : After-write_frame_in_place → List ℕ
with_data c = let o = with_wake_up c in take 14 o ++ (c.put_data-count.new.out ++ drop (length o - 14) (drop 14 o))

data_there : (c : After-write_frame_in_place) → let behind = drop 4 c.args.out.now in with_data c ≡ wake_up ++ over (take 10 behind ++ bytes c) behind
data_there c =
    data_placed (bytes c) c.args.out.now (few c) c.requires.1 (run-from wake_up c.args.out.now 0 (omega (arith, c.requires.1)))
    c.put_data-count.ensures.memory

-- the frame is written in place
answered : (c : After-write_frame_in_place) → c.write_frame_in_place.result ≡ Ok (12 + length (bytes c))
answered c =
    in_place_length (bytes c) c.args.out.now (few c) c.requires.1 c.args.address c.args.control (six c) (with_data c) (data_there c) _
    c.put_data-count.ensures.count _ _ c.write_frame_in_place.ensures

pub returns-in_default : goal.returns-in_default
returns-in_default c = absurd (c.in_default.not-Ok _ (answered (goal.at.returns-in_default c).After-write_frame_in_place))

pub overflow_add-result : goal.overflow_add-result
overflow_add-result c =
    let w = (goal.at.overflow_add-result c).After-write_frame_in_place in
    let given : c.in-Ok.n ≡ 12 + length (bytes w) = cc (c.in-Ok.is, answered w) in
    omega (arith, given, few w)

-- and stands behind the four FE
pub returns : goal.returns
returns c =
    let w = (goal.at.returns c).After-write_frame_in_place in
    let given : c.in-Ok.n ≡ 12 + length (bytes w) = cc (c.in-Ok.is, answered w) in
    record {
      count = omega (arith, given, frame-for-length w.args.address w.args.control (bytes w) (six w));
      memory =
          in_place_over (bytes w) w.args.out.now (few w) w.requires.1 w.args.address w.args.control (six w) (with_data w) (data_there w) _
          w.put_data-count.ensures.count _ _ w.write_frame_in_place.ensures;
    }
