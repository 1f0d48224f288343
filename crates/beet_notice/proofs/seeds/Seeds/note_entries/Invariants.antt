use Rattle.std.proofs.Common.{◌++◌, ℕ, List, take}
use Rattle.beet_notice.specs.Notices.{seeds_of_entries}
use Rattle.beet_notice.specs.Noting.{HasSeeds}
use Rattle.beet_notice.proofs.seeds.Seeds.note_entries.Given as goal

abbrev pub invariant-loop-entry : goal.invariant-loop-entry
invariant-loop-entry l =
    (seeds : List (List ℕ)) → HasSeeds seeds l.fn.self → HasSeeds (seeds ++ seeds_of_entries (take l.entry-index l.entries)) l.self
