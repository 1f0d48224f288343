use Rattle.beet_desk.proofs.running.fn.run_watched.join+arg3+FnOnce.call_once.Goals as goal

pub join+arg3-requires : goal.join+arg3-requires
join+arg3-requires g c = let s = c.requires.1.1.1 in (s.0, (s.1, s.2))
