use Rattle.std.proofs.Common.{arith, ◌∙◌}
use Rattle.beet_transcripts.proofs.DealtPoints.{inputs-dealt, part-whole}
use Rattle.beet_transcripts.proofs.dealing.deal_book.Goals as goal

pub deal_in_parts-requires-clause-can : goal.deal_in_parts-requires-clause-can
deal_in_parts-requires-clause-can g c = λ lifetimes outlive.
    rw (c.grid.ensures.value, c.bidders.ensures.value) (record {
      within = omega (arith, c.requires.lists);
      all = record {
        paired = c.requires.lists;
        of_grid = c.grid.ensures.limits.of_grid;
        enough = c.requires.words;
      };
    })

pub returns-clause-inputs : goal.returns-clause-inputs
returns-clause-inputs g c =
    let paired = rw (← c.bidders.ensures.value) at c.requires.lists in
    c.inputs.ensures.points
    ∙ rw (← c.bidders.ensures.value, ← c.grid.ensures.value)
    (inputs-dealt _ _ _ _ _ (part-whole _ _ _ _ _ _ paired c.in_ok-dealt.ensures))

pub returns-clause-seen : goal.returns-clause-seen
returns-clause-seen g c = λ s there.
    let paired = rw (← c.bidders.ensures.value) at c.requires.lists in
    rw (← c.bidders.ensures.value, ← c.grid.ensures.value)
    ((part-whole _ _ _ _ _ _ paired c.in_ok-dealt.ensures).bidders s there)

pub returns-clause-not_seen : goal.returns-clause-not_seen
returns-clause-not_seen g c = λ s none. c.in_ok-dealt.ensures.others s none
