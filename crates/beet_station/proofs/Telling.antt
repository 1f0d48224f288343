-- What a server tells of a round.
use Rattle.std.proofs.Common.{◌≡◌, ◌≤◌, ◌<◌, ◌+◌, ◌-◌, ℕ, List, [], ◌∷◌, ◌++◌, length, drop, Some, slice_get, sym, refl}
use Rattle.std.proofs.Common.{ap, subst, ◌∙◌, arith, add-one}
use Rattle.std.proofs.lemmas.List.{drop_at, drop_all, drop_more, length-map}
use Rattle.std.proofs.lemmas.Option.{slice_get_within, get_or_from_slice_get}
use Rattle.beet_field.specs.declared.TheConstants.{MOST_NUMBERS}
use Rattle.beet_field.specs.declared.point.Point.{Point}
use Rattle.beet_gates.specs.Scripts.{LawFrom, Standing, size_of, start_of}
use Rattle.beet_gates.specs.declared.Act.{Act}
use Rattle.beet_gates.specs.declared.Act.TheVariants.{Deal, Mul, Reveal, End}
use Rattle.beet_gates.specs.declared.Batch.{Batch}
use Rattle.beet_gates.proofs.EachFacts.{get-each, length-each}
use Rattle.beet_sharing.specs.Runs.{Setup, Shared, coming, opened_at, opened_by, shared_at, standing_at}
use Rattle.beet_server.specs.Cores.{Core}
use Rattle.beet_server.specs.Fits.{IsRound}
use Rattle.beet_server.specs.Lockstep.{IsAtRound}
use Rattle.beet_gates.proofs.Laws.{law-now}
use Rattle.beet_sharing.proofs.Walk.{along, stands_at}
use Rattle.beet_station.specs.declared.notes.DeskNote.{DeskNote}
use Rattle.beet_station.specs.Notes.{a_note, note_of, notes, opened_in}

-- the front of what is left
pub drop-front : {A : Type 0} (l : List A) (n : ℕ) (x : A) → slice_get l n ≡ Some x → drop n l ≡ x ∷ drop (n + 1) l
drop-front {A} l n x e = drop_more l n x (slice_get_within l n x e) ∙ ap (λ (y : A). y ∷ drop (n + 1) l) (get_or_from_slice_get l n x x e)

-- the note on a round is the next
pub note-next : (o : Setup) (rounds : ℕ) (s : Point) (t : ℕ) → t < rounds →
    drop t (notes o rounds s) ≡ note_of o s t ∷ drop (t + 1) (notes o rounds s)
note-next o rounds s t lt = drop-front (notes o rounds s) t (note_of o s t) (get-each (note_of o s) rounds t lt)

-- after the last round there is none
pub no-note : (o : Setup) (rounds : ℕ) (s : Point) (t : ℕ) → t ≡ rounds → drop t (notes o rounds s) ≡ []
no-note o rounds s t last = drop_all t (notes o rounds s) (omega (arith, length-each (note_of o s) rounds, last))

-- a core that has passed a round has opened what the round opens
pub opened-more : {S : Type 0} (next : S → ℕ → List ℕ → Batch) (o : Setup) (t : ℕ) (s : Point) (c d : Core S) →
    IsAtRound next o t s c → IsAtRound next o (t + 1) s d →
    d.opened ≡ c.opened ++ opened_in o t
opened-more next o t s c d h k =
    let more : (shared_at o (t + 1)).opened ≡ (shared_at o t).opened ++ opened_in o t = rw add-one refl in
    k.fits.opened ∙ ap (λ r. (shared_at o r).opened) k.round ∙ more
    ∙ ap (λ l. l ++ opened_in o t) (sym (h.fits.opened ∙ ap (λ r. (shared_at o r).opened) h.round))

-- no act opens more numbers than its messages have
opened-few : (s : Shared) (a : Act) → length (opened_by s a) ≤ size_of a
opened-few s Deal = omega arith
opened-few s (Mul pairs) = omega arith
opened-few s (Reveal shown) = omega (arith, length-map shown.items (opened_at s.wires))
opened-few s End = omega arith

-- a round of a lawful run opens no more numbers than a message may have
pub opens-few : (o : Setup) (bounds : Standing) (most inputs t : ℕ) → LawFrom o.next bounds most (start_of inputs) [] →
    IsRound o t → length (opened_in o t) ≤ MOST_NUMBERS
opens-few o bounds most inputs t law on =
    let a = along o bounds most inputs law t (λ k lt. on k (omega (arith, lt))) in
    let now : o.next (stands_at o inputs t).done (shared_at o t).opened ≡ coming o t =
    ap (λ k. o.next k (shared_at o t).opened) a.lawful.at in
    let stands = rw now at (law-now o.next bounds (most - t) (stands_at o inputs t) (shared_at o t).opened a.lawful.law) in
    let small : size_of (coming o t).act ≤ MOST_NUMBERS = stands.0.2.1 in
    let few = opened-few (standing_at o t) (coming o t).act in
    omega (arith, small, few)

-- what stands behind the numbers that were opened before a round
pub opened-is : {S : Type 0} (next : S → ℕ → List ℕ → Batch) (o : Setup) (t : ℕ) (s : Point) (c d : Core S) →
    IsAtRound next o t s c → IsAtRound next o (t + 1) s d →
    (before now told : List ℕ) → before ≡ c.opened → now ≡ d.opened → told ≡ drop (length before) now → told ≡ opened_in o t
opened-is next o t s c d h k before now told was is behind =
    behind ∙ (λ i. drop (length (was i)) ((is ∙ opened-more next o t s c d h k) i))
    ∙ drop_at c.opened (opened_in o t) (length c.opened) refl

-- the sink is told what it awaits next
pub tells : (o : Setup) (rounds : ℕ) (s : Point) (t round : ℕ) (told : List ℕ) (Awaits : List DeskNote → Type 0) →
    t < rounds → round ≡ t → told ≡ opened_in o t →
    Awaits (drop t (notes o rounds s)) → Awaits (a_note s round told ∷ drop (t + 1) (notes o rounds s))
tells o rounds s t round told Awaits lt is opened awaits =
    subst Awaits (note-next o rounds s t lt ∙ (λ i. a_note s (sym is i) (sym opened i) ∷ drop (t + 1) (notes o rounds s))) awaits
