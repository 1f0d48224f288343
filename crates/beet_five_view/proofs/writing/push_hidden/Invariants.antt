use Rattle.std.proofs.Common.{◌≡◌, ◌++◌, ◌+◌, ◌*◌, slice_index}
use Rattle.std.specs.List.{flat_map}
use Rattle.beet_words.specs.Fields.{number_bytes}
use Rattle.beet_gates.specs.Each.{each}
use Rattle.beet_weights.specs.Quadratics.{point_of}
use Rattle.beet_five_view.proofs.writing.push_hidden.Given as goal

abbrev pub invariant-loop-k : goal.invariant-loop-k
invariant-loop-k l =
    l.file.items ≡ l.fn.file.items ++ flat_map number_bytes (each
    (λ k. point_of (slice_index l.values k) (slice_index l.numbers (2 * k)) (slice_index l.numbers (2 * k + 1)) l.server) l.k)
