-- What one more turn writes to a writer.
use Rattle.std.proofs.Common.{◌≡◌, ℕ, ◌+◌, ◌-◌, List, ◌++◌, Option, Some, None, length, take, drop, append_assoc}
use Rattle.std.proofs.Common.{length-drop, arith, ◌∙◌, ap}
use Rattle.std.proofs.lemmas.List.{take_all}
use Rattle.std.proofs.Math.Seq.{take-add, take-length}
use Rattle.std.specs.Io.KnownBytes.{Appends, Keeps}

-- what was written, and then some more
pub write_more : (a b c : Option (List ℕ)) (written piece : List ℕ) → Appends a b written → Appends b c piece →
    Appends a c (written ++ piece)
write_more None b c written piece p q = tt
write_more (Some x) None c written piece p q = absurd p
write_more (Some x) (Some y) None written piece p q = absurd q
write_more (Some x) (Some y) (Some z) written piece p q = q ∙ ap (λ front. front ++ piece) p ∙ append_assoc x written piece

-- the bytes that follow those that were written
pub write_next : (a b c : Option (List ℕ)) (bytes : List ℕ) (done count : ℕ) → Appends a b (take done bytes) →
    Appends b c (take count (take (length bytes - done) (drop done bytes))) → Appends a c (take (done + count) bytes)
write_next a b c bytes done count p q =
    let rest : take (length bytes - done) (drop done bytes) ≡ drop done bytes =
    take_all _ (drop done bytes) (omega (arith, length-drop {A = ℕ})) in
    rw (take-add done count bytes) (write_more a b c (take done bytes) (take count (drop done bytes)) p (rw rest at q))

-- nothing more was written
pub write_kept : (a b c : Option (List ℕ)) (written : List ℕ) → Appends a b written → Keeps b c → Appends a c written
write_kept None b c written p q = tt
write_kept (Some x) None c written p q = absurd p
write_kept (Some x) (Some y) None written p q = absurd q
write_kept (Some x) (Some y) (Some z) written p q = q ∙ p

-- all bytes were written
pub write_whole : (a b c : Option (List ℕ)) (bytes : List ℕ) (done : ℕ) → done ≡ length bytes →
    Appends a b (take done bytes) → Keeps b c → Appends a c bytes
write_whole a b c bytes done all p q = write_kept a b c bytes (rw (all, take-length bytes) at p) q
