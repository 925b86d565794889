-- What the answer says of its numbers: the text is within its buffer, and at most 211 bytes are kept.
use Rattle.std.proofs.Common.{sym, length-take-le}
use Rattle.listing.proofs.StepLaws.{ListedWithin, listed-within}
use Rattle.list_frames.proofs.input.list_read.Goals as goal
use Rattle.list_frames.proofs.input.list_read.Goals.{In-Ok}

within : (c : In-Ok) → ListedWithin c.list_step.new.text c.in-Ok.listed.text c.in-Ok.listed.kept
within c = listed-within _ _ _ _ _ c.in-Ok.ensures

pub slice_bounds-write_all-end : goal.slice_bounds-write_all-end
slice_bounds-write_all-end c = (within (goal.at.slice_bounds-write_all-end c).In-Ok).memory

pub slice_bounds-write_all-end-2 : goal.slice_bounds-write_all-end-2
slice_bounds-write_all-end-2 c = sym (length-take-le _ _ (within (goal.at.slice_bounds-write_all-end-2 c).In-Ok).memory)

pub returns : goal.returns
returns c = (within (goal.at.returns c).In-Ok).most
