-- A turn is a round of what is heard, behind what was heard before.
use Rattle.std.proofs.Common.{◌≡◌, sym, refl, ap, not, ◌∙◌, subst, arith, rules}
use Rattle.std.proofs.lemmas.Bool.{eqb-false, false≢true}
use Rattle.replay_block.specs.Hear.{NoneStands}
use Rattle.replay_block.proofs.HearLaws.{heard-none, heard-then}
use Rattle.replay_block.proofs.hear.hear_on.Goals as goal
use Rattle.replay_block.proofs.hear.hear_on.Goals.{then-not-is_quiet, else-not-is_quiet}

pub loop-ends-init : goal.loop-ends-init
loop-ends-init c = (refl, rw c.unheard.ensures (heard-none c.requires), rw c.unheard.ensures refl)

pub returns-then-ends : goal.returns-then-ends
returns-then-ends c =
    let so_far = c.loop-ends.invariant in
    let more = c.hear_round-round.ensures in (
      heard-then so_far.1 so_far.2 more.0,
      λ back.
          let here : c.hear_round-round.result.at ≡ c.loop-ends.heard.at = omega (arith, back, so_far.1.from, more.0.from) in
          subst (NoneStands c.args.block.now) (sym here ∙ back) (more.1 here),
    )

pub loop-ends-smaller : goal.loop-ends-smaller
loop-ends-smaller c =
    let more = c.hear_round-round.ensures.0 in
    elim c.if-not-is_quiet.branch [
      | then-not-is_quiet w ↦ absurd (false≢true (sym c.if-ends.false ∙ w.ends-is ∙ ap not w.if-not-is_quiet.true))
      | else-not-is_quiet w ↦
          let later : c.hear_round-round.result.at ≡ c.loop-ends.heard.at → ⊥ = eqb-false _ _ (sym w.ends-is ∙ c.if-ends.false) in
          omega (arith, more.from, more.on.within_block)
    ]

pub loop-ends-preserved : goal.loop-ends-preserved
loop-ends-preserved c =
    let so_far = c.loop-ends.invariant in
    let more = c.hear_round-round.ensures in (
      search rules,
      heard-then so_far.1 so_far.2 more.0,
      elim c.if-not-is_quiet.branch [
        | then-not-is_quiet w ↦ absurd (false≢true (sym c.if-ends.false ∙ w.ends-is ∙ ap not w.if-not-is_quiet.true))
        | else-not-is_quiet w ↦ sym c.is_quiet.ensures ∙ w.if-not-is_quiet.false
      ],
    )
