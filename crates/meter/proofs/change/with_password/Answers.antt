-- The part of the passwords that was lent comes back with the new password in it.
use Prim.Native.Nat.{◌+◌, ◌-◌, ◌*◌}
use mathlib.Core.Path.{◌≡◌}
use native.Mathlib.Omega.{arith}
use lib.ListN.{length}
use Rattle.std.proofs.Common.{drop-drop}
use Rattle.laws.specs.Part.{with_part}
use Rattle.meter.proofs.change.with_password.Goals as goal

pub returns : goal.returns
unfolding with_part
returns c =
    let a = c.args in
    let three : 3 * a.level + 3 - 3 * a.level ≡ length a.password.now = omega (arith, c.requires.1) in
    rw (c.copy_from_slice.ensures.after, three, drop-drop)
