-- What one more turn reads of a reader.
use Rattle.std.proofs.Common.{◌≡◌, ◌≤◌, ℕ, List, ◌++◌, Option, Some, None, length, take, append_assoc, sym, ◌∙◌, ap}
use Rattle.std.proofs.lemmas.List.{take-append-le}
use Rattle.std.specs.Io.KnownBytes.{Consumes, Keeps}

-- what was read, and then some more
pub read_more : (a b c : Option (List ℕ)) (read piece : List ℕ) → Consumes a b read → Consumes b c piece → Consumes a c (read ++ piece)
read_more None b c read piece p q = tt
read_more (Some x) None c read piece p q = absurd p
read_more (Some x) (Some y) None read piece p q = absurd q
read_more (Some x) (Some y) (Some z) read piece p q = p ∙ ap (λ rest. read ++ rest) q ∙ sym (append_assoc read piece z)

-- a piece that lies at the front of a longer one
pub read_front : (a b c : Option (List ℕ)) (read piece rest : List ℕ) (n : ℕ) → n ≤ length piece → Consumes a b read →
    Consumes b c (take n piece) →
    Consumes a c (read ++ take n (piece ++ rest))
read_front a b c read piece rest n le p q = rw (take-append-le n piece rest le) (read_more a b c read (take n piece) p q)

-- nothing more was read
pub read_kept : (a b c : Option (List ℕ)) (read : List ℕ) → Consumes a b read → Keeps b c → Consumes a c read
read_kept None b c read p q = tt
read_kept (Some x) None c read p q = absurd p
read_kept (Some x) (Some y) None read p q = absurd q
read_kept (Some x) (Some y) (Some z) read p q = p ∙ ap (λ rest. read ++ rest) (sym q)

pub read_nothing : (a b c : Option (List ℕ)) (read piece : List ℕ) (n : ℕ) → n ≡ 0 → Consumes a b read →
    Consumes b c (take n piece) → Consumes a c read
read_nothing None b c read piece n none p q = tt
read_nothing (Some x) None c read piece n none p q = absurd p
read_nothing (Some x) (Some y) None read piece n none p q = absurd q
read_nothing (Some x) (Some y) (Some z) read piece n none p q = p ∙ ap (λ rest. read ++ rest) (rw none at q)
