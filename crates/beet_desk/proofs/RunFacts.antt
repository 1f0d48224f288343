-- What is known of the notes of a run.
use Rattle.std.proofs.Common.{◌≡◌, ◌≤◌, ◌<◌, ◌+◌, ◌*◌, ◌^◌, ℕ, zero, suc, List, [], ◌∷◌, ◌++◌, length, take, drop, Some, Result, Ok, Err}
use Rattle.std.proofs.Common.{IfErr, IfOk, slice_get, sym, ap, ◌∙◌, subst, arith, length-append}
use Rattle.std.proofs.lemmas.List.{append-nil, take-append-drop}
use Rattle.std.proofs.lemmas.Option.{slice_get_within}
use Rattle.atomic_table.specs.Seated.{TableId}
use Rattle.beet_field.specs.Trio.{member, trio_of}
use Rattle.beet_field.specs.declared.TheConstants.{MOST_NUMBERS}
use Rattle.beet_field.specs.declared.point.Point.{Point}
use Rattle.beet_field.specs.declared.trio.Trio.{Trio}
use Rattle.beet_gates.specs.Scripts.{LawFrom, Standing, start_of}
use Rattle.beet_gates.specs.declared.Batch.{Batch}
use Rattle.beet_gates.proofs.EachFacts.{get-each, length-each}
use Rattle.beet_queue.proofs.Members.{member-trio_of}
use Rattle.beet_sharing.specs.Runs.{Setup}
use Rattle.beet_sharing.proofs.Rounds.{lawful-rounds}
use Rattle.beet_server.specs.Cores.{Core, setup_of}
use Rattle.beet_server.proofs.Passing.{is_round}
use Rattle.beet_link.specs.Streams.{rounds_from}
use Rattle.beet_station.specs.Stations.{IsEnded}
use Rattle.beet_station.specs.declared.notes.DeskNote.{DeskNote}
use Rattle.beet_station.specs.Notes.{note_of, notes, notes_at, notes_from, notes_left}
use Rattle.beet_station.proofs.Telling.{opens-few}
use Rattle.beet_desk.specs.declared.counts.NoteCount.{NoteCount}
use Rattle.beet_desk.specs.Counts.{Added, HasPlace, IsTally, count_of, together}
use Rattle.beet_desk.specs.Ends.{AreSmall, AreFirst, Receiver, Sender, left_after, of_server, sender_at_start, IsWholeOf}
use Rattle.beet_desk.proofs.CountFacts.{count-length, taken-and-left}

pub in-ok : {A E : Type 0} (r : Result A E) (a : A) (Q : A → Type 0) → r ≡ Ok a → IfOk r Q → Q a
in-ok r a Q is h = subst (λ o. IfOk o Q) is h

pub in-err : {A E : Type 0} (r : Result A E) (e : E) (Q : E → Type 0) → r ≡ Err e → IfErr r Q → Q e
in-err r e Q is h = subst (λ o. IfErr o Q) is h

pub IfOk_then : {A E : Type 0} {P Q : A → Type 0} (r : Result A E) → IfOk r P → ((a : A) → P a → Q a) → IfOk r Q
IfOk_then (Ok a) h f = f a h
IfOk_then (Err e) h f = tt

-- the end of a server that has pushed all its notes
pub whole-of : (q r : TableId) (s : Point) (named : Trio (List DeskNote)) (l : List DeskNote) (start sink new : Sender) →
    IsWholeOf sink new → sink ≡ start →
    start ≡ sender_at_start q named s → member named s ≡ l → r ≡ q → (drop new.pushed l ≡ []) × (new.queue ≡ r) × (new.server ≡ s)
whole-of q r s named l start sink new whole same made is queue =
    let first = same ∙ made in (
      ap (drop new.pushed) (sym (whole.3 ∙ ap (λ (e : Sender). e.notes) first ∙ is)) ∙ whole.0,
      whole.1 ∙ ap (λ (e : Sender). e.queue) first ∙ sym queue,
      whole.2 ∙ ap (λ (e : Sender). e.server) first,
    )

drop-get : (l : List DeskNote) (n k : ℕ) → slice_get (drop n l) k ≡ slice_get l (n + k)
drop-get l zero k = let e : k ≡ 0 + k = omega arith in ap (slice_get l) e
drop-get [] (suc n) k = let e : suc (n + k) ≡ suc n + k = omega arith in ap (slice_get []) e
drop-get (x ∷ l) (suc n) k = let e : suc (n + k) ≡ suc n + k = omega arith in drop-get l n k ∙ ap (slice_get (x ∷ l)) e

module _ {S : Type 0} (next : S → ℕ → List ℕ → Batch) (inputs most : S → ℕ) where
  -- a server that stands as its run began
  pub stayed-as : (run start : Trio (Core S)) (me s : Point) (core : Core S) → run ≡ start → me ≡ s → core ≡ member run me →
      core ≡ member start s
  stayed-as run start me s core same name is = is ∙ (λ i. member (same i) (name i))

  -- the start of its run and its name are known by other words
  pub ended-as : (run start : Trio (Core S)) (me s : Point) (end : Core S) → run ≡ start → me ≡ s → IsEnded next inputs most run me end →
      IsEnded next inputs most start s end
  ended-as run start me s end same name = subst (λ (p : Trio (Core S) × Point). IsEnded next inputs most p.0 p.1 end)
      (λ i. (same i, name i))

  module _ (start : Trio (Core S)) where
    -- a sender that has pushed nothing awaits all notes
    pub starts-told : (q : TableId) (e : Sender) (s : Point) (run : Trio (Core S)) (core : Core S) →
        e ≡ sender_at_start q (notes_from next inputs most start) s → run ≡ start →
        core.round ≡ 0 → drop e.pushed e.notes ≡ notes_left next inputs most run s core.round
    starts-told q e s run core made is none =
        ap (λ (x : Sender). drop x.pushed x.notes) made ∙ member-trio_of (notes_at next inputs most start) s
        ∙ (λ i. drop (sym none i) (notes_at next inputs most (sym is i) s))

    module _ (bounds : Standing) (law : LawFrom (next start.one.script) bounds (most start.one.script)
        (start_of (inputs start.one.script)) []) where
      o : Setup
      o = setup_of next inputs start

      rounds : ℕ
      rounds = rounds_from next inputs most start

      pub small-notes : 3 * most start.one.script < 2 ^ 31 → (s : Point) → AreSmall (notes_at next inputs most start s)
      small-notes few s =
          let runs = lawful-rounds (setup_of next inputs start) bounds (most start.one.script) (inputs start.one.script) law in
          let le = runs.1 in
          let len = length-each (note_of (setup_of next inputs start) s) (rounds_from next inputs most start) in (
            omega (arith, few, le, len),
            λ k note e.
                let lt : k < rounds_from next inputs most start =
                subst (λ n. k < n) (length-each (note_of (setup_of next inputs start) s) (rounds_from next inputs most start))
                (slice_get_within (notes_at next inputs most start s) k note e) in
                let both : Some note ≡ Some (note_of (setup_of next inputs start) s k) =
                sym e ∙ get-each (note_of (setup_of next inputs start) s) (rounds_from next inputs most start) k lt in
                let is : note ≡ note_of (setup_of next inputs start) s k = cc in
                subst (λ (n : DeskNote). length n.numbers.items ≤ MOST_NUMBERS) (sym is)
                (opens-few (setup_of next inputs start) bounds (most start.one.script) (inputs start.one.script) k law
                (((is_round (setup_of next inputs start) (rounds_from next inputs most start) k runs.0)).1 lt)),
          )

-- once all notes of a server are pushed
module _ (rx : Receiver) (senders : Trio Sender) (counts : Trio NoteCount) (s : Point) (l : List DeskNote) (named : member rx.notes s ≡ l)
    (all : drop (member senders s).pushed l ≡ []) (first : AreFirst rx.notes rx.taken) (tally : IsTally rx.taken counts) where
  abbrev got : List DeskNote
  got = of_server s rx.taken

  left-is : member (left_after rx senders) s ≡ drop (length got) (take (member senders s).pushed l)
  left-is =
      member-trio_of (λ j. drop (length (of_server j rx.taken))
      (take (member (trio_of (λ j. (member senders j).pushed)) j) (member rx.notes j))) s
      ∙ (λ i. drop (length got) (take (member-trio_of (λ j. (member senders j).pushed) s i) (named i)))

  got-first : got ≡ take (length got) l
  got-first = first s ∙ ap (take (length got)) named

  whole : take (member senders s).pushed l ≡ l
  whole = sym (append-nil (take (member senders s).pushed l)) ∙ ap (λ r. take (member senders s).pushed l ++ r) (sym all)
      ∙ take-append-drop (member senders s).pushed l

  -- with what is left the count is that of all notes
  pub whole-count : (d : NoteCount) → Added (member counts s) (member (left_after rx senders) s) d → d ≡ count_of l
  whole-count d added =
      added ∙ (λ i. together ((tally s).0 i) (count_of (left-is i))) ∙ taken-and-left l got (member senders s).pushed got-first all

  -- and there is room for it
  pub has-place : AreSmall l → HasPlace (member counts s) (member (left_after rx senders) s)
  has-place small =
      let is : member (left_after rx senders) s ≡ drop (length got) l = left-is ∙ ap (drop (length got)) whole in
      let count : (member counts s).notes ≡ length got = ap (λ (c : NoteCount). c.notes) (tally s).0 ∙ count-length got in
      let sum : length got + length (drop (length got) l) ≡ length l =
      sym (length-append got (drop (length got) l))
      ∙ ap length (ap (λ t. t ++ drop (length got) l) got-first ∙ take-append-drop (length got) l) in
      let few = small.0 in
      subst (HasPlace (member counts s)) (sym is) (
        (tally s).1,
        omega (arith, count, sum, few),
        λ k note e. small.1 (length got + k) note (sym (drop-get l (length got) k) ∙ e),
      )
