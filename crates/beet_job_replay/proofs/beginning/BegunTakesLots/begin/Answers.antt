use Rattle.beet_job_replay.proofs.beginning.BegunTakesLots.begin.Goals as goal

pub returns : goal.returns
returns c = λ rows. rw (c.new.ensures.items, c.new-2.ensures.items) tt
