use Rattle.std.proofs.lemmas.Nat.{xor_lt}
use Rattle.beet_words.proofs.word.Word.xor.Goals as goal

pub invariant_of-result : goal.invariant_of-result
invariant_of-result c = xor_lt 61 _ _ c.self.invariant c.other.invariant
