-- What is known of the ends of the queue of notes.
use Rattle.std.proofs.Common.{◌≡◌, ◌≤◌, ◌<◌, ◌+◌, ◌*◌, ◌||◌, if◌then◌else◌, ℕ, zero, suc, Bool, true, false, List, [], ◌∷◌}
use Rattle.std.proofs.Common.{◌++◌, length, take, drop, Option, None, Some, MatchOption, slice_get, sym, refl, ap, ◌∙◌, subst, ⊎_elim}
use Rattle.std.proofs.Common.{arith, add-one}
use Rattle.std.proofs.lemmas.Bool.{cases_Bool}
use Rattle.std.proofs.lemmas.List.{append-nil, drop_all, drop_more, length_push, nil_from_length}
use Rattle.std.proofs.lemmas.Option.{slice_get_within, get_or_from_slice_get}
use Rattle.crossbeam_queue.specs.Fifo.{Held}
use Rattle.beet_field.specs.Trio.{member, trio_of, with_member}
use Rattle.beet_field.specs.declared.point.Point.{Point}
use Rattle.beet_field.specs.declared.point.Point.TheVariants.{One, Two, Three}
use Rattle.beet_field.specs.declared.trio.Trio.{Trio}
use Rattle.beet_delivery.specs.Events.{same}
use Rattle.beet_delivery.proofs.ThreeServers.{same_is, same_self}
use Rattle.beet_queue.specs.declared.rule.Known.{Known}
use Rattle.beet_queue.specs.Rule.{all_named, IsDue, KnowsAll, both, no_one, one_taken}
use Rattle.beet_queue.proofs.Members.{at_member, member-here, member-trio_of}
use Rattle.beet_queue.proofs.Keeps.{of-snoc, of-snoc_other, take_next}
use Rattle.beet_gates.specs.Scripts.{LawFrom, Standing, start_of}
use Rattle.beet_gates.proofs.EachFacts.{get-each, length-each}
use Rattle.beet_sharing.specs.Runs.{Setup, rounds_among}
use Rattle.beet_sharing.proofs.Rounds.{lawful-rounds}
use Rattle.beet_station.specs.Notes.{note_of, notes}
use Rattle.beet_station.specs.declared.notes.DeskNote.{DeskNote}
use Rattle.beet_desk.specs.Ends.{AreFirst, AreFrom, Hands, left_of, none_left, of_server}

-- with the next note of its server, those that were taken are still the first of their servers
pub first-still : (notes : Trio (List DeskNote)) (taken : List DeskNote) (x : DeskNote) → AreFirst notes taken →
    slice_get (member notes x.server) (length (of_server x.server taken)) ≡ Some x → AreFirst notes (taken ++ x ∷ [])
first-still notes taken x first next s = ⊎_elim
    (λ (yes : same x.server s ≡ true).
    let is : x.server ≡ s = same_is x.server s yes in
    let more : of_server s (taken ++ x ∷ []) ≡ of_server s taken ++ x ∷ [] = of-snoc (λ (n : DeskNote). n.server) s taken x yes in
    let next' : slice_get (member notes s) (length (of_server s taken)) ≡ Some x =
    subst (λ (j : Point). slice_get (member notes j) (length (of_server j taken)) ≡ Some x) is next in
    let count : length (of_server s (taken ++ x ∷ [])) ≡ length (of_server s taken) + 1 =
    ap length more ∙ length_push (of_server s taken) x in
    more ∙ ap (λ (l : List DeskNote). l ++ x ∷ []) (first s) ∙ sym (take_next (member notes s) (length (of_server s taken)) x next')
    ∙ ap (λ n. take n (member notes s)) (sym count))
    (λ (no : same x.server s ≡ false).
    let same_list : of_server s (taken ++ x ∷ []) ≡ of_server s taken = of-snoc_other (λ (n : DeskNote). n.server) s taken x no in
    same_list ∙ first s ∙ ap (λ (l : List DeskNote). take (length l) (member notes s)) (sym same_list))
    (cases_Bool (same x.server s))

trio_ext : {A : Type 0} (t u : Trio A) → ((j : Point) → member t j ≡ member u j) → t ≡ u
trio_ext t u at = λ i. record { one = at One i; two = at Two i; three = at Three i }

-- the right of each server, once they are all taken back, and how many of its notes were pushed
pub rights-back : (v a b c : Known DeskNote) → v.puts ≡ no_one → a.puts ≡ with_member no_one One true →
    b.puts ≡ with_member no_one Two true →
    c.puts ≡ with_member no_one Three true → (s : Point) → member (both (both (both v a) b) c).puts s ≡ true
rights-back v a b c none one two three =
    let joined : Trio Bool → Trio Bool → Trio Bool → Trio Bool → Trio Bool = λ p q r t.
    trio_of (λ s. member (trio_of (λ s. member (trio_of (λ s. member p s || member q s)) s || member r s)) s || member t s) in
    let all : (s : Point) → member (joined no_one (with_member no_one One true) (with_member no_one Two true)
    (with_member no_one Three true)) s ≡ true = each_right in
    subst (λ (y : Trio Bool × Trio Bool × Trio Bool × Trio Bool). (s : Point) → member (joined y.0 y.1 y.2 y.3) s ≡ true)
    (λ i. (sym none i, sym one i, sym two i, sym three i)) all where
      each_right : (s : Point) → member (trio_of
          (λ s. member (trio_of (λ s. member (trio_of (λ s. member no_one s || member (with_member no_one One true) s)) s || member
          (with_member no_one Two true) s)) s || member (with_member no_one Three true) s)) s ≡ true
      each_right One = refl
      each_right Two = refl
      each_right Three = refl

pub counts-back : (v a b c : Known DeskNote) → v.puts ≡ no_one → a.puts ≡ with_member no_one One true →
    b.puts ≡ with_member no_one Two true →
    c.puts ≡ with_member no_one Three true → (both (both (both v a) b) c).put ≡ record
    { one = a.put.one; two = b.put.two; three = c.put.three }
counts-back v a b c none one two three =
    let chosen : Trio Bool → Trio Bool → Trio Bool → Trio ℕ = λ q r t.
    trio_of (λ s. if member t s then member c.put s
    else member (trio_of (λ s. if member r s then member b.put s
    else member (trio_of (λ s. if member q s then member a.put s else member v.put s)) s)) s) in
    let are : chosen (with_member no_one One true) (with_member no_one Two true) (with_member no_one Three true) ≡ record
    { one = a.put.one; two = b.put.two; three = c.put.three } = refl in
    subst (λ (y : Trio Bool × Trio Bool × Trio Bool). chosen y.0 y.1 y.2 ≡ record
    { one = a.put.one; two = b.put.two; three = c.put.three })
    (λ i. (sym one i, sym two i, sym three i)) are

module _ {A : Type 0} where
  take-get : (l : List A) (p n : ℕ) → n < p → slice_get (take p l) n ≡ slice_get l n
  take-get l zero n lt = absurd (omega arith)
  take-get [] (suc p) n lt = refl
  take-get (x ∷ l) (suc p) zero lt = refl
  take-get (x ∷ l) (suc p) (suc n) lt = take-get l p n (omega arith)

  drop-front : (l : List A) (n : ℕ) (x : A) → slice_get l n ≡ Some x → drop n l ≡ x ∷ drop (n + 1) l
  drop-front l n x e = drop_more l n x (slice_get_within l n x e) ∙ ap (λ (y : A). y ∷ drop (n + 1) l) (get_or_from_slice_get l n x x e)

-- what is left, once the next note is handed out
pub hands : (notes : Trio (List DeskNote)) (put : Trio ℕ) (taken : List DeskNote) (x : DeskNote) →
    slice_get (member notes x.server) (length (of_server x.server taken)) ≡ Some x →
    length (of_server x.server taken) < member put x.server →
    Hands (left_of notes put taken) (left_of notes put (taken ++ x ∷ [])) x
hands notes put taken x next pushed =
    let s : Point = x.server in
    let left : List DeskNote → Point → List DeskNote = λ got j. drop (length (of_server j got)) (take (member put j) (member notes j)) in
    let now : Trio (List DeskNote) = left_of notes put (taken ++ x ∷ []) in
    let front : slice_get (take (member put s) (member notes s)) (length (of_server s taken)) ≡ Some x =
    take-get (member notes s) (member put s) (length (of_server s taken)) pushed ∙ next in
    let count : length (of_server s (taken ++ x ∷ [])) ≡ length (of_server s taken) + 1 =
    ap length (of-snoc (λ (n : DeskNote). n.server) s taken x (same_self s)) ∙ length_push (of_server s taken) x in
    let here : left taken s ≡ x ∷ member now s =
    drop-front (take (member put s) (member notes s)) (length (of_server s taken)) x front
    ∙ ap (λ n. x ∷ drop n (take (member put s) (member notes s))) (sym count)
    ∙ ap (λ (l : List DeskNote). x ∷ l) (sym (member-trio_of (left (taken ++ x ∷ [])) s)) in
    trio_ext (left_of notes put taken) (with_member now s (x ∷ member now s))
    (λ j. member-trio_of (left taken) j ∙ at_member (λ (l : List DeskNote). left taken j ≡ l) now s j (x ∷ member now s)
    (λ is. subst (λ (k : Point). left taken k ≡ x ∷ member now s) is here)
    (λ away. ap (λ (l : List DeskNote). drop (length l) (take (member put j) (member notes j)))
    (sym (of-snoc_other (λ (n : DeskNote). n.server) j taken x away))
    ∙ sym (member-trio_of (left (taken ++ x ∷ [])) j)))

-- nothing is left if all that was pushed was taken
pub nothing-left : (notes : Trio (List DeskNote)) (put : Trio ℕ) (taken : List DeskNote) →
    ((s : Point) → of_server s taken ≡ take (member put s) (member notes s)) → left_of notes put taken ≡ none_left
nothing-left notes put taken all =
    trio_ext (left_of notes put taken) none_left
    (λ j. member-trio_of (λ s. drop (length (of_server s taken)) (take (member put s) (member notes s))) j
    ∙ ap (λ (l : List DeskNote). drop (length (of_server j taken)) l) (sym (all j))
    ∙ drop_all (length (of_server j taken)) (of_server j taken) (omega arith)
    ∙ sym (member-trio_of (λ _. []) j))

-- the server of a sender's next note has the right to put it
pub next-put : (v : Known DeskNote) (s : Point) (x : DeskNote) → v.puts ≡ with_member no_one s true → AreFrom s (member v.streams s) →
    slice_get (member v.streams s) (member v.put s) ≡ Some x →
    (member v.puts x.server ≡ true) × (slice_get (member v.streams x.server) (member v.put x.server) ≡ Some x)
next-put v s x own from next =
    let is : x.server ≡ s = from (member v.put s) x next in (
      ap (λ (p : Trio Bool). member p x.server) own ∙ ap (λ (j : Point). member (with_member no_one s true) j) is
          ∙ member-here no_one s true,
      subst (λ (j : Point). slice_get (member v.streams j) (member v.put j) ≡ Some x) (sym is) next,
    )

-- the front of what is due is the next note
pub next-due : (l : List DeskNote) (n : ℕ) (x : DeskNote) (rest : List DeskNote) → drop n l ≡ x ∷ rest →
    (slice_get l n ≡ Some x) × (drop (n + 1) l ≡ rest)
next-due [] zero x rest e = absurd (cc)
next-due [] (suc n) x rest e = absurd (cc)
next-due (y ∷ l) zero x rest e = (cc, cc)
next-due (y ∷ l) (suc n) x rest e = rw add-one (let h = next-due l n x rest e in (h.0, rw add-one at h.1))

-- the notes of a run are of their server
pub are-from : (o : Setup) (rounds : ℕ) (s : Point) → AreFrom s (notes o rounds s)
are-from o rounds s k x e =
    let lt : k < rounds = subst (λ n. k < n) (length-each (note_of o s) rounds) (slice_get_within (notes o rounds s) k x e) in
    let same_note : Some x ≡ Some (note_of o s k) = sym e ∙ get-each (note_of o s) rounds k lt in
    let is : x ≡ note_of o s k = cc in
    ap (λ (n : DeskNote). n.server) is

-- what the last pass learns when it takes
pub rest-after : (v w : Known DeskNote) (r : Option DeskNote) → v.takes ≡ true → ((s : Point) → member v.puts s ≡ true) →
    MatchOption r ((w ≡ v) × Held 0 (KnowsAll (λ (n : DeskNote). n.server) v))
    (λ x. (w ≡ one_taken x v) × IsDue (λ (n : DeskNote). n.server) v x) →
    MatchOption r ((left_of w.streams w.put w.taken ≡ left_of v.streams v.put v.taken) × (left_of v.streams v.put v.taken ≡ none_left))
    (Hands (left_of v.streams v.put v.taken) (left_of w.streams w.put w.taken))
rest-after v w None takes rights h = (
  ap (λ (u : Known DeskNote). left_of u.streams u.put u.taken) h.0,
  nothing-left v.streams v.put v.taken
      (λ s. let none : h.1.0 ≡ [] = nil_from_length h.1.0 h.1.1 in
      let all = subst (λ (l : List DeskNote). of_server s (v.taken ++ l) ≡ take (member v.put s) (member v.streams s)) none
      (h.1.2 takes s (rights s)) in
      ap (of_server s) (sym (append-nil v.taken)) ∙ all),
)
rest-after v w (Some x) takes rights h =
    subst (λ (u : Known DeskNote). Hands (left_of v.streams v.put v.taken) (left_of u.streams u.put u.taken) x) (sym h.0)
    (hands v.streams v.put v.taken x h.1.0 (h.1.1 (rights x.server)))

-- what a receiver that takes goes on to know
pub receives : (v w : Known DeskNote) (r : Option DeskNote) → v.takes ≡ true → v.puts ≡ no_one → AreFirst v.streams v.taken →
    MatchOption r ((w ≡ v) × Held 0 (KnowsAll (λ (n : DeskNote). n.server) v))
    (λ x. (w ≡ one_taken x v) × IsDue (λ (n : DeskNote). n.server) v x) →
    (w.takes ≡ true) × (w.puts ≡ no_one) × AreFirst w.streams w.taken
receives v w None takes none first h =
    subst (λ (u : Known DeskNote). (u.takes ≡ true) × (u.puts ≡ no_one) × AreFirst u.streams u.taken) (sym h.0) (takes, none, first)
receives v w (Some x) takes none first h =
    subst (λ (u : Known DeskNote). (u.takes ≡ true) × (u.puts ≡ no_one) × AreFirst u.streams u.taken) (sym h.0)
    (takes, none, first-still v.streams v.taken x first h.1.0)

-- all notes of a run of at most so many rounds
pub named-few : (o : Setup) (bounds : Standing) (most inputs : ℕ) → LawFrom o.next bounds most (start_of inputs) [] →
    all_named (trio_of (notes o (rounds_among o most))) ≤ 3 * most
named-few o bounds most inputs law =
    let few = (lawful-rounds o bounds most inputs law).1 in
    omega (
      arith,
      few,
      length-each (note_of o One) (rounds_among o most),
      length-each (note_of o Two) (rounds_among o most),
      length-each (note_of o Three) (rounds_among o most),
    )
