use Rattle.std.proofs.Common.{◌≡◌, ◌<◌, ℕ, get_or, length}
use Rattle.beet_view.specs.declared.view.Seen.{Seen}
use Rattle.beet_audit.proofs.headers.same_marks.Given as goal

abbrev pub invariant-loop-i : goal.invariant-loop-i
invariant-loop-i l = record {
  many : length l.bidders ≡ length l.first;
  same : (k : ℕ) (d : Seen) → k < l.i → (get_or l.bidders k d).known ≡ (get_or l.first k d).known;
}
