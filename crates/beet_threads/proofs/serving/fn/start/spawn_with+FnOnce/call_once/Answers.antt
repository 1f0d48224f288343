use Rattle.beet_threads.proofs.serving.fn.start.spawn_with+FnOnce.call_once.Goals as goal

pub spawn_with-requires : goal.spawn_with-requires
spawn_with-requires g c = let s = c.requires.1.1.1.1.1.1 in (s.0, (s.1, (s.2, (s.3, (s.4, s.5)))))
