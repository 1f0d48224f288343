-- What a script says: its batches, and the law that they keep. The inputs are the first wires; each batch appends its
-- lets in order, and then the results of its act.
use Rattle.std.specs.Prelude.{◌≡◌, ◌<◌, ◌≤◌, ◌+◌, ◌*◌, ◌⊎◌, ℕ, zero, suc, List, [], ◌∷◌, ◌++◌, length}
use Rattle.beet_field.specs.declared.trio.Trio.{Trio}
use Rattle.beet_field.specs.declared.TheConstants.{MOST_NUMBERS}
use Rattle.beet_gates.specs.declared.Act.{Act}
use Rattle.beet_gates.specs.declared.Act.TheVariants.{Deal, Mul, Reveal, End}
use Rattle.beet_gates.specs.declared.Batch.{Batch}
use Rattle.beet_gates.specs.declared.Linear.{Linear}
use Rattle.beet_gates.specs.declared.TheConstants.{MOST_LETS}

-- each wire that the terms name is below n; that of a term with factor 0 too
abbrev pub TermsBelow : ℕ → List (ℕ × ℕ) → Type 0
TermsBelow n [] = Unit {0}
TermsBelow n (t ∷ ts) = (t.1 < n) × TermsBelow n ts

-- each let names wires that stand before it
abbrev pub LetsBelow : ℕ → List Linear → Type 0
LetsBelow n [] = Unit {0}
LetsBelow n (l ∷ ls) = TermsBelow n l.terms × LetsBelow (n + 1) ls

-- each pair names wires below n
abbrev pub PairsBelow : ℕ → List (ℕ × ℕ) → Type 0
PairsBelow n [] = Unit {0}
PairsBelow n (p ∷ ps) = (p.0 < n) × (p.1 < n) × PairsBelow n ps

-- each wire is below n
abbrev pub WiresBelow : ℕ → List ℕ → Type 0
WiresBelow n [] = Unit {0}
WiresBelow n (w ∷ ws) = (w < n) × WiresBelow n ws

-- an act names wires below n, and is not empty
abbrev pub ActBelow : ℕ → Act → Type 0
ActBelow n Deal = Unit {0}
ActBelow n (Mul pairs) = (0 < length pairs.items) × PairsBelow n pairs.items
ActBelow n (Reveal wires) = (0 < length wires.items) × WiresBelow n wires.items
ActBelow n End = Unit {0}

-- how many numbers a server sends another for an act
abbrev pub size_of : Act → ℕ
size_of Deal = 61
size_of (Mul pairs) = length pairs.items
size_of (Reveal wires) = length wires.items
size_of End = 0

-- not too many lets, pairs or wires
abbrev pub IsSmall : Batch → Type 0
IsSmall b = (length b.lets.items ≤ MOST_LETS) × (size_of b.act ≤ MOST_NUMBERS)

-- how many servers deal, and how far a run has come: batches, wires, mask words and coefficients of each server, and
-- opened numbers
pub record Standing : Type 0 where
  pub dealers : ℕ
  pub done : ℕ
  pub wires : ℕ
  pub masks : ℕ
  pub coefficients : ℕ
  pub opened : ℕ

-- the standing after an act
abbrev pub acted : Standing → Act → Standing
acted s Deal = record s {
  done = s.done + 1;
  wires = s.wires + 61 * s.dealers;
  masks = s.masks + 1;
  coefficients = s.coefficients + 61;
}
acted s (Mul pairs) = record s {
  done = s.done + 1;
  wires = s.wires + length pairs.items;
  coefficients = s.coefficients + length pairs.items;
}
acted s (Reveal wires) = record s { done = s.done + 1; opened = s.opened + length wires.items }
acted s End = s

-- the standing once the lets of a batch are appended
abbrev pub with_lets : Standing → Batch → Standing
with_lets s b = record s { wires = s.wires + length b.lets.items }

abbrev pub after : Standing → Batch → Standing
after s b = acted (with_lets s b) b.act

-- the batch names only what stands, and is small
abbrev pub BatchStands : Standing → Batch → Type 0
BatchStands s b = LetsBelow s.wires b.lets.items × ActBelow (s.wires + length b.lets.items) b.act × IsSmall b

-- the wires, mask words and coefficients are within the bounds
abbrev pub IsWithin : Standing → Standing → Type 0
IsWithin bounds s = (s.wires ≤ bounds.wires) × (s.masks ≤ bounds.masks) × (s.coefficients ≤ bounds.coefficients)

-- how many numbers an act opens
abbrev pub revealed : Act → ℕ
revealed Deal = 0
revealed (Mul pairs) = 0
revealed (Reveal shown) = length shown.items
revealed End = 0

-- how many words an act takes of each server
abbrev pub deals_in : Act → ℕ
deals_in Deal = 1
deals_in (Mul pairs) = 0
deals_in (Reveal shown) = 0
deals_in End = 0

-- each server has at least n words
abbrev pub HasWords : ℕ → Trio (List ℕ) → Type 0
HasWords n words = (n ≤ length words.one) × (n ≤ length words.two) × (n ≤ length words.three)

-- from this standing, with these numbers opened so far, each batch stands and stays within the bounds, whatever
-- numbers are opened, and after at most n more comes the end
abbrev pub LawFrom : (ℕ → List ℕ → Batch) → Standing → ℕ → Standing → List ℕ → Type 0
LawFrom next bounds zero s opened =
    let b = next s.done opened in
    BatchStands s b × IsWithin bounds (after s b) × (b.act ≡ End)
LawFrom next bounds (suc n) s opened =
    let b = next s.done opened in
    BatchStands s b × IsWithin bounds (after s b)
    ×
    ((b.act ≡ End) ⊎ ((new : List ℕ) → length new ≡ revealed b.act → LawFrom next bounds n (after s b) (opened ++ new)))

-- the standing at the start among so many servers: the inputs are the first wires
abbrev pub start_among : ℕ → ℕ → Standing
start_among dealers inputs =
    record { dealers = dealers; done = 0; wires = inputs; masks = 0; coefficients = 0; opened = 0 }

-- the same among three
abbrev pub start_of : ℕ → Standing
start_of inputs = start_among 3 inputs

-- what a script may use
abbrev pub bounds_of : ℕ → ℕ → ℕ → Standing
bounds_of wires masks coefficients =
    record { dealers = 0; done = 0; wires = wires; masks = masks; coefficients = coefficients; opened = 0 }
