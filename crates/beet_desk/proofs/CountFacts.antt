-- The counts of notes.
use Rattle.std.proofs.Common.{◌≡◌, ◌≤◌, ◌<◌, ◌+◌, ◌*◌, ◌^◌, ℕ, zero, suc, true, false, true≢false, List, [], ◌∷◌, ◌++◌, length}
use Rattle.std.proofs.Common.{take, drop, Some, slice_get, sym, refl, ap, ◌∙◌, subst, arith}
use Rattle.std.proofs.Common.{length-append}
use Rattle.std.proofs.lemmas.List.{append-nil, take-append-drop}
use Rattle.std.proofs.lemmas.Option.{slice_get_within}
use Rattle.beet_field.specs.Trio.{member, with_member}
use Rattle.beet_field.specs.declared.TheConstants.{MOST_NUMBERS}
use Rattle.beet_field.specs.declared.point.Point.{Point}
use Rattle.beet_field.specs.declared.trio.Trio.{Trio}
use Rattle.beet_delivery.specs.Events.{same}
use Rattle.beet_delivery.proofs.ThreeServers.{same_self}
use Rattle.beet_gates.proofs.EachFacts.{each-suc, each-zero}
use Rattle.beet_queue.proofs.Members.{at_member, member-here}
use Rattle.beet_queue.proofs.Keeps.{of-snoc, of-snoc_other}
use Rattle.beet_gates.specs.declared.Batch.{Batch}
use Rattle.beet_server.specs.Cores.{Core}
use Rattle.beet_server.specs.Lockstep.{IsAtRound}
use Rattle.beet_sharing.specs.Runs.{Setup, shared_at}
use Rattle.beet_station.specs.declared.notes.DeskNote.{DeskNote}
use Rattle.beet_station.specs.Notes.{note_of, notes, opened_in}
use Rattle.beet_desk.specs.declared.counts.NoteCount.{NoteCount}
use Rattle.beet_desk.specs.Counts.{HasPlace, IsTally, count_in, count_of, none_yet, one_more, together, with_note}
use Rattle.beet_desk.specs.Ends.{Hands, of_server}

count_is : (a b : NoteCount) → a.notes ≡ b.notes → a.opened ≡ b.opened → a ≡ b
count_is a b n o = λ i. record { notes = n i; opened = o i }

pub count-snoc : (l : List DeskNote) (x : DeskNote) → count_of (l ++ x ∷ []) ≡ one_more x (count_of l)
count-snoc [] x = refl
count-snoc (y ∷ l) x = ap (one_more y) (count-snoc l x)
    ∙ count_is (one_more y (one_more x (count_of l))) (one_more x (one_more y (count_of l))) refl (omega arith)

pub count-append : (a b : List DeskNote) → count_of (a ++ b) ≡ together (count_of a) (count_of b)
count-append [] b = count_is (count_of b) (together none_yet (count_of b)) (omega arith) (omega arith)
count-append (x ∷ a) b = ap (one_more x) (count-append a b)
    ∙ count_is (one_more x (together (count_of a) (count_of b))) (together (one_more x (count_of a)) (count_of b)) (omega arith)
    (omega arith)

pub count-length : (l : List DeskNote) → (count_of l).notes ≡ length l
count-length [] = refl
count-length (x ∷ l) = let h = count-length l in omega arith

-- the notes of a run
pub count-notes : (o : Setup) (rounds : ℕ) (s : Point) → count_of (notes o rounds s) ≡ count_in o rounds
count-notes o zero s = ap count_of (each-zero (note_of o s))
count-notes o (suc t) s =
    ap count_of (each-suc (note_of o s) t) ∙ count-snoc (notes o t s) (note_of o s t) ∙ ap (one_more (note_of o s t)) (count-notes o t s)
    ∙ count_is (one_more (note_of o s t) (count_in o t)) (count_in o (suc t)) (omega arith)
    (sym (length-append (shared_at o t).opened (opened_in o t)))

-- one note more is counted
pub tally-more : (taken : List DeskNote) (counts : Trio NoteCount) (x : DeskNote) → IsTally taken counts →
    length x.numbers.items ≤ MOST_NUMBERS →
    IsTally (taken ++ x ∷ []) (with_note x counts)
tally-more taken counts x tally few s =
    let c : NoteCount = member counts x.server in
    let more : one_more x c ≡ count_of (of_server x.server (taken ++ x ∷ [])) =
    ap (one_more x) (tally x.server).0 ∙ sym (count-snoc (of_server x.server taken) x)
    ∙ ap count_of (sym (of-snoc (λ (n : DeskNote). n.server) x.server taken x (same_self x.server))) in
    let low : c.opened ≤ MOST_NUMBERS * c.notes = (tally x.server).1 in
    at_member (λ (d : NoteCount). (d ≡ count_of (of_server s (taken ++ x ∷ []))) × (d.opened ≤ MOST_NUMBERS * d.notes)) counts x.server s
    (one_more x c)
    (λ here. (subst (λ (k : Point). one_more x c ≡ count_of (of_server k (taken ++ x ∷ []))) here more, omega (arith, low, few)))
    (λ away. ((tally s).0 ∙ ap count_of (sym (of-snoc_other (λ (n : DeskNote). n.server) s taken x away)), (tally s).1))

-- the next note of a server has its place in the count
pub tally-room : (notes : Trio (List DeskNote)) (taken : List DeskNote) (counts : Trio NoteCount) (x : DeskNote) → IsTally taken counts →
    slice_get (member notes x.server) (length (of_server x.server taken)) ≡ Some x → length (member notes x.server) < 2 ^ 31 →
    (member counts x.server).notes < 2 ^ 31
tally-room notes taken counts x tally next few =
    let lt = slice_get_within (member notes x.server) (length (of_server x.server taken)) x next in
    let n : (member counts x.server).notes ≡ length (of_server x.server taken) = ap (λ (c : NoteCount). c.notes) (tally x.server).0
    ∙ count-length (of_server x.server taken) in
    omega (arith, lt, n, few)

-- with the first of the notes that are to be added
pub place-more : (c : NoteCount) (x : DeskNote) (l : List DeskNote) → HasPlace c (x ∷ l) → HasPlace (one_more x c) l
place-more c x l h =
    let low = h.0 in let room = h.1 in let few : length x.numbers.items ≤ MOST_NUMBERS = h.2 0 x refl in (
      omega (arith, low, few),
      omega (arith, room),
      λ k note e. h.2 (suc k) note e,
    )

add-more : (c : NoteCount) (x : DeskNote) (l : List DeskNote) → together (one_more x c) (count_of l) ≡ together c (count_of (x ∷ l))
add-more c x l = count_is (together (one_more x c) (count_of l)) (together c (count_of (x ∷ l))) (omega arith) (omega arith)

member-away : {A : Type 0} (t : Trio A) (s j : Point) (x : A) → same s j ≡ false → member (with_member t s x) j ≡ member t j
member-away t s j x away = at_member (λ y. y ≡ member t j) t s j x
    (λ here. absurd (true≢false (sym (same_self s) ∙ ap (same s) here ∙ away))) (λ _. refl)

-- a note that is handed out is added
module _ (counts : Trio NoteCount) (old new : Trio (List DeskNote)) (x : DeskNote) (hands : Hands old new x) where
  abbrev j : Point
  j = x.server

  first : member old j ≡ x ∷ member new j
  first = ap (λ t. member t j) hands ∙ member-here new j (x ∷ member new j)

  others : (s : Point) → same j s ≡ false → member old s ≡ member new s
  others s away = ap (λ t. member t s) hands ∙ member-away new j s (x ∷ member new j) away

  pub rest-place : ((s : Point) → HasPlace (member counts s) (member old s)) → (s : Point) →
      HasPlace (member (with_note x counts) s) (member new s)
  rest-place h s = at_member (λ c. HasPlace c (member new s)) counts j s (one_more x (member counts j))
      (λ here. subst (λ k. HasPlace (one_more x (member counts j)) (member new k)) here
      (place-more (member counts j) x (member new j) (subst (HasPlace (member counts j)) first (h j))))
      (λ away. subst (HasPlace (member counts s)) (others s away) (h s))

  pub rest-total : (s : Point) → together (member (with_note x counts) s) (count_of (member new s)) ≡ together (member counts s)
      (count_of (member old s))
  rest-total s = at_member (λ c. together c (count_of (member new s)) ≡ together (member counts s) (count_of (member old s))) counts j s
      (one_more x (member counts j))
      (λ here. subst (λ k. together (one_more x (member counts j)) (count_of (member new k)) ≡ together (member counts k)
      (count_of (member old k))) here
      (add-more (member counts j) x (member new j) ∙ ap (λ l. together (member counts j) (count_of l)) (sym first)))
      (λ away. ap (λ l. together (member counts s) (count_of l)) (sym (others s away)))

-- what was taken of a server and what is left of it are all its notes, once they are all pushed
pub taken-and-left : (l taken : List DeskNote) (pushed : ℕ) → taken ≡ take (length taken) l → drop pushed l ≡ [] →
    together (count_of taken) (count_of (drop (length taken) (take pushed l))) ≡ count_of l
taken-and-left l taken pushed first all =
    let whole : take pushed l ≡ l = sym (append-nil (take pushed l)) ∙ ap (λ r. take pushed l ++ r) (sym all)
    ∙ take-append-drop pushed l in
    sym (count-append taken (drop (length taken) (take pushed l)))
    ∙ ap count_of (ap (λ r. taken ++ drop (length taken) r) whole ∙ ap (λ t. t ++ drop (length taken) l) first
    ∙ take-append-drop (length taken) l)

-- the count of the notes of a server that has ended
pub ended-count : {S : Type 0} (next : S → ℕ → List ℕ → Batch) (o : Setup) (r : ℕ) (s : Point) (core : Core S) (n : NoteCount) →
    IsAtRound next o r s core →
    n.notes ≡ core.round → n.opened ≡ length core.opened → n ≡ count_in o r
ended-count next o r s core n at notes opened =
    count_is n (count_in o r) (notes ∙ at.round) (opened ∙ ap length (at.fits.opened ∙ ap (λ t. (shared_at o t).opened) at.round))
