use Rattle.std.proofs.Common.{◌++◌, ◌∙◌, List, ℕ, append_assoc, subst}
use Rattle.beet_notice.specs.Notices.{seed_of_server}
use Rattle.beet_notice.specs.Noting.{HasSeeds}
use Rattle.beet_notice.proofs.seeds.Seeds.note_servers.Goals as goal

pub returns : goal.returns
returns c = λ seeds keeps.
    let one : List (List ℕ) = seed_of_server c.in-Three.sources.one in
    let two : List (List ℕ) = seed_of_server c.in-Three.sources.two in
    let three : List (List ℕ) = seed_of_server c.in-Three.sources.three in
    rw c.in-Three.is
    (subst (λ l. HasSeeds l c.note_server-3.new.self)
    (append_assoc (seeds ++ one) two three ∙ append_assoc seeds one (two ++ three))
    (c.in_ok-note_server-3.ensures ((seeds ++ one) ++ two)
    (c.in_ok-note_server-2.ensures (seeds ++ one) (c.in_ok-note_server.ensures seeds keeps))))
