use Rattle.std.proofs.Common.{◌≡◌, ◌≤◌, ◌-◌, ℕ, length}
use Rattle.beet_forms.specs.Faults.{Answers}
use Rattle.beet_words.specs.Fields.{Part, times}
use Rattle.beet_words.proofs.Times.{onto}
use Rattle.beet_words.proofs.many.read_many.Given as goal

abbrev pub invariant-loop-k : goal.invariant-loop-k
invariant-loop-k g l = record {
  read : (part : Part g.row.T.Denot) →
      ((from : ℕ) (read : _) → from ≤ length l.bytes → goal.F-post g l.read_one from read → Answers (λ r. r) (part from) read) →
      onto l.items.items (times (l.count - l._k) part l.next) ≡ times l.count part l.at;
  within : l.next ≤ length l.bytes;
}
