-- The identifier is put at its place, and the value is written behind it: for the checks hold, the item is listed and fits.
use Prim.Native.Nat.{ℕ, ◌+◌, ◌-◌, ◌≤◌}
use Rattle.std.specs.Prelude.{None, Ok, Option, Result, Some, ℕ}
use Rattle.meter_holding.specs.declared.HeldError.{HeldError}
use mathlib.Core.Path.{◌≡◌, refl, ap, sym, ◌∙◌}
use mathlib.Core.List.{List, ◌++◌, append_assoc}
use mathlib.Core.Bool.{true, false≢true}
use native.Mathlib.Omega.{arith}
use lib.ListN.{length, take, drop, length-append, length-take, length-drop}
use lib.Seq.{length-take-le, drop-drop}
use borrow.Author.Tests.{eqb-true}
use Rattle.laws.specs.Memory.{Outcome, outcome, over}
use Rattle.laws.specs.MemoryLaws.{over-length}
use Rattle.laws.specs.JoinLaws.{two-over}
use Rattle.item.specs.Table.{item_of}
use Rattle.item.proofs.TableLaws.{listed-fits}
use Rattle.item.specs.declared.table.Item.{Item}
use Rattle.item_identifier.specs.Identifier.{identifier_of}
use Rattle.item_command.specs.declared.Command.TheVariants.{ReadData}
use Rattle.meter_decision.specs.Request.{item_asked}
use Rattle.meter_decision.specs.Decision.{is_listed, checks_of}
use Rattle.meter_holding.proofs.HoldingLaws.{value_written_lem}
use Rattle.meter.specs.Meter.{MeterSized, value_held}
use Rattle.meter.proofs.MeterLaws.{value-length}
use Rattle.meter.specs.Answer.{reply_data, value_asked}
use borrow.Author.Rules.{rules}
use Rattle.meter.proofs.answer.Answering.place_value.Goals as goal
use Rattle.meter.proofs.answer.Answering.place_value.Goals.{After-copy_from_slice, After-write_value, Start}

module _ (s : Start) where
  abbrev payload : List ℕ
  payload = s.args.payload.now

  abbrev memory : List ℕ
  memory = s.args.out.now

  -- the array fields' lengths
  sized : MeterSized s.args.self.meter
  sized = search rules

  -- the checks that hold
  four : length payload ≡ 4
  unfolding checks_of
  four = eqb-true _ _ s.requires.all_hold.0

  -- the item that is asked for
  found : (item : Item) × (item_of (identifier_of payload) ≡ Some item)
  unfolding checks_of item_asked
  found = go (item_of (identifier_of payload)) refl s.requires.all_hold.1.0
    where
      go : (l : Option Item) → item_of (identifier_of payload) ≡ l → is_listed l ≡ true → (item : Item) × (item_of (identifier_of payload) ≡ Some item)
      go (Some item) e h = (item, e)
      go None e h = absurd (false≢true h)

  abbrev item : Item
  item = found.0

  abbrev value : List ℕ
  value = value_held item s.args.self.meter s.args.self.energies.now.forward s.args.self.energies.now.reverse

  most : 4 + item.length ≤ 200
  most = listed-fits _ _ found.1

  size : length value ≡ item.length
  size = value-length _ _ found.1 s.args.self.meter sized s.args.self.energies.now.forward s.args.self.energies.now.reverse

  -- the value asked for is the item's
  abbrev held : List ℕ
  held = value_asked payload s.args.self.meter s.args.self.energies.now.forward s.args.self.energies.now.reverse

  asked : item.length ≡ length held
  unfolding item_asked
  asked = sym size ∙ rw found.1

  -- the data of the reply
  abbrev reply : List ℕ
  reply = reply_data ReadData payload s.args.self.meter held

-- the identifier's four bytes, and the memory with them at their place
module _ (c : After-copy_from_slice) where
  abbrev start : Start
  start = (goal.at.After-copy_from_slice c).Start

  abbrev first : List ℕ
  first = c.copy_from_slice.new.self

  front : first ≡ take 4 (payload start)
  front = c.copy_from_slice.ensures.after

  four_first : length first ≡ 4
  four_first = ap length front ∙ length-take-le 4 (payload start) (omega (arith, four start))

  abbrev stored : List ℕ
  stored = take 10 (memory start) ++ (first ++ drop 4 (drop 10 (memory start)))

  long : length (take 10 (memory start) ++ first) ≡ 14
  long = rw (length-append, four_first, length-take-le 10 (memory start) (omega (arith, start.requires.identifier_value.1)))

  in_place : stored ≡ over (take 10 (memory start) ++ first) (memory start)
  in_place = rw (long, append_assoc, drop-drop)

  room : length stored ≡ length (memory start)
  room = ap length in_place ∙ over-length (take 10 (memory start) ++ first) (memory start) (omega (arith, long, start.requires.identifier_value.1))

  together : first ++ value start ≡ reply start
  unfolding reply_data item_asked
  together = rw (front, (found start).1)

  -- the value behind it, in the rest that is lent and comes back
  behind : (back : List ℕ) → back ≡ over (value start) (take (length stored - 14) (drop 14 stored))
      → take 14 stored ++ (back ++ drop (length stored - 14) (drop 14 stored)) ≡ over (take 10 (memory start) ++ reply start) (memory start)
  behind back e =
      two-over 14 (take 10 (memory start) ++ first) (value start) (memory start) in_place long (omega (arith, size start, most start, start.requires.identifier_value.1)) e
      ∙ ap (λ (l : List ℕ). over l (memory start)) (append_assoc (take 10 (memory start)) first (value start) ∙ ap (λ (l : List ℕ). take 10 (memory start) ++ l) together)

abbrev stored_of : After-write_value → After-copy_from_slice
stored_of c = (goal.at.After-write_value c).After-copy_from_slice

wrote : (c : After-write_value) → let s = start (stored_of c) in let o = stored (stored_of c) in
    outcome c.write_value.result c.write_value.new.out ≡ outcome (Ok (item s).length) (over (value s) (take (length o - 14) (drop 14 o)))
wrote c =
    let s = start (stored_of c) in
    let o = stored (stored_of c) in
    let fits : (item s).length ≤ length (take (length o - 14) (drop 14 o)) =
    rw (length-take, length-drop) (omega (arith, room (stored_of c), most s, s.requires.identifier_value.1)) in
    c.write_value.ensures
    ∙ value_written_lem _ (item s) (ap item_of s.requires.identifier_value.0 ∙ (found s).1) s.args.self.meter.address s.args.self.meter.registers s.args.self.energies.now.forward
    s.args.self.energies.now.reverse _ fits

pub returns : goal.returns
returns c =
    let w = (goal.at.returns c).After-write_value in
    let s = start (stored_of w) in
    let o = stored (stored_of w) in
    let left : List ℕ = take 14 o ++ (w.write_value.new.out ++ drop (length o - 14) (drop 14 o)) in
    ap (λ (r : Result ℕ HeldError). outcome r left) (ap (λ (o : Outcome (Result ℕ HeldError)). o.answer) (wrote w) ∙ ap Ok (asked s))
    ∙ ap (λ (l : List ℕ). outcome (Ok (length (held s))) l) (behind (stored_of w) _ (ap (λ (o : Outcome (Result ℕ HeldError)). o.memory) (wrote w)))

pub slice_bounds-copy_from_slice-end-2 : goal.slice_bounds-copy_from_slice-end-2
slice_bounds-copy_from_slice-end-2 c =
    let s = (goal.at.slice_bounds-copy_from_slice-end-2 c).Start in
    omega (arith, length-take-le 4 (payload s) (omega (arith, four s)))

pub copy_from_slice-requires : goal.copy_from_slice-requires
copy_from_slice-requires c =
    let s = (goal.at.copy_from_slice-requires c).Start in
    let room : 4 ≤ length (drop 10 (memory s)) = rw length-drop (omega (arith, s.requires.identifier_value.1)) in
    omega (arith, length-take-le 4 (payload s) (omega (arith, four s)), length-take-le 4 (drop 10 (memory s)) room)
