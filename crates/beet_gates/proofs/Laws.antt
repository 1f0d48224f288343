-- The law of a script, a batch at a time.
use Rattle.std.proofs.Common.{◌≡◌, ℕ, zero, suc, inl, inr, true, false, List, ◌++◌, length, ap}
use Rattle.beet_gates.specs.declared.Batch.{Batch}
use Rattle.beet_gates.specs.Clear.{is_end}
use Rattle.beet_gates.specs.Scripts.{Standing, BatchStands, IsWithin, LawFrom, after, revealed}

module _ (next : ℕ → List ℕ → Batch) (bounds : Standing) where
  -- the batch that comes stands, and stays within the bounds
  pub law-now : (n : ℕ) (s : Standing) (opened : List ℕ) → LawFrom next bounds n s opened →
      BatchStands s (next s.done opened) × IsWithin bounds (after s (next s.done opened))
  law-now zero s opened l = (l.0, l.1)
  law-now (suc n) s opened l = (l.0, l.1)

  -- where it is not the end, the law holds after it, whatever it opens
  pub law-next : (n : ℕ) (s : Standing) (opened : List ℕ) → LawFrom next bounds (suc n) s opened → is_end (next s.done opened).act ≡ false →
      (new : List ℕ) → length new ≡ revealed (next s.done opened).act → LawFrom next bounds n (after s (next s.done opened)) (opened ++ new)
  law-next n s opened l more new len = elim l.2 [
    | inl end ↦ cc (more, ap is_end end)
    | inr rest ↦ rest new len
  ]

  -- where no batch is left, it is the end
  pub law-last : (s : Standing) (opened : List ℕ) → LawFrom next bounds zero s opened → is_end (next s.done opened).act ≡ true
  law-last s opened l = ap is_end l.2
