use Rattle.beet_threads.proofs.running.fn.in_threads.scope+FnOnce.call_once.Goals as goal

pub scope-requires : goal.scope-requires
scope-requires g c = let s = c.requires.1.1.1.1.1.1 in (s.0, (s.1, (s.2, (s.3, (s.4, s.5)))))
