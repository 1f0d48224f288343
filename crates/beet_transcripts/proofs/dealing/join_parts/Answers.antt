use Rattle.std.proofs.Common.{◌∙◌, sym}
use Rattle.beet_transcripts.proofs.dealing.join_parts.Goals as goal

pub merge-merged-requires : goal.merge-merged-requires
merge-merged-requires c =
    let second = sym c.in_ok-second.ensures.0 ∙ c.in_ok-few.ensures.1 in
    let alike = rw (c.in_ok-second.ensures.1, second) at c.requires in
    rw c.in_ok-few.ensures.0 alike

pub returns : goal.returns
returns c = λ grid whom few rest a b.
    let second = sym c.in_ok-second.ensures.0 ∙ c.in_ok-few.ensures.1 in
    let one = rw c.in_ok-second.ensures.1 at a in
    let other = rw second at b in
    let merged = rw c.in_ok-both.ensures.1 at (c.merge-merged.ensures grid whom few rest (rw c.in_ok-few.ensures.0 one) other) in
    rw c.in_ok-both.ensures.0 merged
