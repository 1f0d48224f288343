-- Reading the envelopes of one bidder after another.
use Rattle.std.proofs.Common.{arith, ◌≡◌, ◌<◌, ◌≤◌, ◌+◌, ◌*◌, ℕ, List, [], ◌∷◌, ◌++◌, length, drop, get_or, Ok, Err}
use Rattle.std.proofs.Common.{sym, ◌∙◌, ap, subst, length-append}
use Rattle.std.proofs.lemmas.List.{drop_all, drop_more}
use Rattle.beet_field.specs.declared.trio.Trio.{Trio}
use Rattle.beet_store.specs.Files.{Seen}
use Rattle.beet_bids.specs.Grids.{Grid}
use Rattle.beet_farmer.specs.declared.list_file.ListEntry.{ListEntry}
use Rattle.beet_errand.specs.Fetches.{ReadsFor, Reads}
use Rattle.beet_errand.specs.declared.answer.Stop.{Stop}
use Rattle.beet_errand.specs.declared.answer.Stop.TheVariants.{OutOfMemory}
use Rattle.beet_errand.proofs.Frame.{Reached, bind, no_memory, reached_none, reached_more, reached_last, stopped}
use Rattle.beet_gathering.specs.Gather.{HasGathered, envelopes_errand, bidders_errand}
use Rattle.beet_gathering.proofs.Gathered.{Gathered}

next_entry : (entries : List ListEntry) (i : ℕ) (entry : ListEntry) → i < length entries → entry ≡ get_or entries i entry →
    drop i entries ≡ entry ∷ drop (i + 1) entries
next_entry entries i entry h e = drop_more entries i entry h ∙ ap (λ x. x ∷ drop (i + 1) entries) (sym e)

module _ {T : Type 0} (has_taken : Grid → List (Trio (List ℕ)) → T → Type 0) (grid : Grid) (entries : List ListEntry) where
  -- no bidder is read yet
  pub gathered_none : (seen : Seen) (gathered : T) → has_taken grid [] gathered → Gathered has_taken grid entries entries seen seen gathered
  gathered_none seen gathered h = record { bidders = []; read = reached_none; taken = h; count = omega arith }

  module _ (i : ℕ) (entry : ListEntry) (old middle now : Seen) (before : T) (lt : i < length entries)
      (e : entry ≡ get_or entries i entry) (g : Gathered has_taken grid entries (drop i entries) old middle before) where
    here : Gathered has_taken grid entries (entry ∷ drop (i + 1) entries) old middle before
    here = rw (next_entry entries i entry lt e) at g

    -- the bidder at a place is read, and its points are taken
    pub gathered_at : (points : Trio (List ℕ)) (after : T) →
        Reads (λ (p : Trio (List ℕ)). p) middle now (envelopes_errand grid entry.envelopes) (Ok points) →
        ((bidders : List (Trio (List ℕ))) → has_taken grid bidders before → has_taken grid (bidders ++ points ∷ []) after) →
        Gathered has_taken grid entries (drop (i + 1) entries) old now after
    gathered_at points after r take =
        let h = here in
        let count = h.count in
        let rest = λ (p : Trio (List ℕ)). bidders_errand grid (h.bidders ++ p ∷ []) (drop (i + 1) entries) in
        record {
          bidders = h.bidders ++ points ∷ [];
          read = subst (λ (p : Trio (List ℕ)). Reached old now (bidders_errand grid [] entries) (rest p)) r.gives.1
              (reached_more rest h.read r);
          taken = take h.bidders h.taken;
          count = omega (arith, length-append h.bidders (points ∷ []), count);
        }

    -- the bidder at a place stops the job
    pub stopped_at : {V U : Type 0} {shows : V → Trio (List ℕ) → Type 0} {last : U → List (Trio (List ℕ)) → Type 0} (stop : Stop) →
        ReadsFor shows middle now (envelopes_errand grid entry.envelopes) (Err stop) →
        ReadsFor last old now (bidders_errand grid [] entries) (Err stop)
    stopped_at stop r =
        let h = here in
        let rest = λ (p : Trio (List ℕ)). bidders_errand grid (h.bidders ++ p ∷ []) (drop (i + 1) entries) in
        reached_last h.read (stopped {rest = rest} r)

    -- memory runs out after it is read
    pub spent_at : {U : Type 0} {last : U → List (Trio (List ℕ)) → Type 0} (points : Trio (List ℕ)) →
        Reads (λ (p : Trio (List ℕ)). p) middle now (envelopes_errand grid entry.envelopes) (Ok points) →
        ReadsFor last old now (bidders_errand grid [] entries) (Err OutOfMemory)
    spent_at points r =
        let h = here in
        let rest = λ (p : Trio (List ℕ)). bidders_errand grid (h.bidders ++ p ∷ []) (drop (i + 1) entries) in
        reached_last h.read (bind {rest = rest} r no_memory)

  -- all bidders are read, and their points are taken
  pub all_gathered : {old now : Seen} (gathered : T) (i : ℕ) → length entries ≤ i →
      Gathered has_taken grid entries (drop i entries) old now gathered →
      ReadsFor (HasGathered has_taken grid entries) old now (bidders_errand grid [] entries) (Ok gathered)
  all_gathered gathered i ge g =
      let h = rw (drop_all i entries ge) at g in
      let count = h.count in
      record {
        gives = (h.bidders, record { taken = h.taken; count = omega (arith, count) }, h.read.went);
        cause = h.read.kept;
        later = omega (arith, h.read.kept);
      }
