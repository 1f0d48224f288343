-- What one more call adds to a record.
use Rattle.std.specs.Prelude.{[], ◌∷◌, ◌++◌}
use Rattle.beet_store.specs.Files.{answer_of, fetches_after}
use Rattle.beet_store.specs.Desks.{Put, Say}
use Rattle.beet_store.specs.Histories.{Recorded}
use Rattle.beet_store.specs.declared.history.Asked.{Asked}
use Rattle.beet_store.specs.declared.history.Asked.TheVariants as asked

-- the calls so far and one more
abbrev pub recorded : Recorded → Asked → Recorded
recorded before (asked.Fetch name limit answer) =
    record before { fetches = fetches_after before.fetches name.now limit (answer_of answer.now) }
recorded before (asked.Put name bytes answer) =
    record before { calls = before.calls ++ Put name.now bytes.now answer ∷ [] }
recorded before (asked.Say bytes answer) = record before { calls = before.calls ++ Say bytes.now answer ∷ [] }
