use Rattle.beet_station.specs.Notes.{notes_from}
use Rattle.beet_desk.proofs.making.note_queue.Given as goal

abbrev pub ghosts-open : goal.ghosts-open
ghosts-open g a = record { streams = notes_from g.S.Script.batch_of g.S.Script.inputs_of g.S.Script.rounds_of a._cores.now }
