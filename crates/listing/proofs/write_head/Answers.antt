-- The three parts are stored one behind the other: a law says that they are the head.
use Rattle.std.proofs.Common.{◌≡◌, ℕ, List, reverse, ap, ◌∙◌, arith, rules}
use Rattle.std.proofs.lemmas.List.{map-id}
use Rattle.std.proofs.lemmas.List.Edits.{sets}
use Rattle.frame.specs.Frame.{address_of, control_of}
use Rattle.frame_parts.specs.PartsLaws.{address-there}
use Rattle.listing.specs.Text.{hex_all}
use Rattle.listing.proofs.TextLaws.{head-stored}
use Rattle.listing.proofs.write_head.Goals as goal

pub returns : goal.returns
unfolding control_of
returns c =
    let frame = c.args.frame.now in
    let out = c.args.out.now in
    let address : c.reverse.new.self ≡ reverse (address_of frame) =
    c.reverse.ensures.after ∙ ap reverse (c.address_of-address.ensures ∙ address-there frame (omega arith)) in
    let digits = c.write_digits.ensures (λ b. b) (λ b r e. search rules) ∙ ap (λ (l : List ℕ). sets out 0 (hex_all l)) (map-id _ ∙ address) in
    c.write_byte.ensures ∙ rw digits (head-stored frame (omega arith) out)
