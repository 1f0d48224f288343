use Rattle.std.proofs.Common.{◌≡◌, None, take}
use Rattle.beet_store.specs.Files.{bytes_of}
use Rattle.beet_store.proofs.memory.place.Given as goal

abbrev pub invariant-loop-i : goal.invariant-loop-i
invariant-loop-i l = bytes_of (take l.i l.files) l.name ≡ None
