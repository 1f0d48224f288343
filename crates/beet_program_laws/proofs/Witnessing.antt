-- What `witness` has read, put and said.
use Rattle.std.proofs.Common.{◌≡◌, ◌≤◌, ◌∷◌, ◌+◌, ◌*◌, ℕ, List, [], Some, None, length, nat_lt, if◌then◌else◌, All}
use Rattle.std.proofs.Common.{ap, arith, refl, subst, ◌∙◌}
use Rattle.beet_field.specs.Trio.{member}
use Rattle.beet_field.specs.declared.point.Point.{Point}
use Rattle.beet_field.specs.declared.point.Point.TheVariants.{One, Two, Three}
use Rattle.beet_field.specs.declared.trio.Trio.{Trio}
use Rattle.beet_store.specs.Files.{File}
use Rattle.beet_forms.specs.FaultLines.{fault_line_of}
use Rattle.beet_forms.specs.Names.{is_name_of}
use Rattle.beet_words.specs.Words.{IsWord}
use Rattle.beet_words.specs.declared.bundle.TheConstants.{MOST_BIDDERS}
use Rattle.beet_bids.specs.AuctionFiles.{auction_of}
use Rattle.beet_bids.specs.Grids.{Grid, IsGrid}
use Rattle.beet_bids.specs.declared.auction_file.TheConstants.{AUCTION_LIMIT}
use Rattle.beet_book.specs.ServerFiles.{servers_of}
use Rattle.beet_book.specs.declared.book_file.TheConstants.{MOST_PRODUCT}
use Rattle.beet_book.specs.declared.server_file.TheConstants.{SERVERS_LIMIT}
use Rattle.beet_farmer.specs.Lists.{list_of}
use Rattle.beet_farmer.specs.declared.list_file.TheConstants.{LIST_LIMIT}
use Rattle.beet_errand.specs.Errands.{Answer, reads}
use Rattle.beet_errand.specs.Statuses.{IsDoneCode}
use Rattle.beet_errand.specs.declared.answer.Refusal.TheVariants.{BadFile}
use Rattle.beet_load.specs.Limits.{over_product}
use Rattle.beet_load.specs.Servers.{ServerWords}
use Rattle.beet_load.specs.Counts.{counts_of}
use Rattle.beet_transcripts.specs.RunsOn.{view_of_points}
use Rattle.beet_job_witness.specs.Witness.{kept_job, list_job, witness_errand, witness_job, witnessed_answer}
use Rattle.beet_witness_laws.specs.SealedCurves.{AreInEnvelopes, CanBeWitnessed}
use Rattle.beet_witness_laws.proofs.SealedViews.{view-sealed}
use Rattle.beet_command.specs.Words.{are_names}
use Rattle.beet_app.specs.Jobs.{Answering}
use Rattle.beet_app_laws.specs.Calls.{Call, IsOf, RunsJobOf}
use Rattle.beet_app_laws.specs.Held.{IsHeld}
use Rattle.beet_app_laws.specs.Readings.{OpenRead}
use Rattle.beet_program_laws.specs.Accepted.{witness_words}
use Rattle.beet_program_laws.specs.Commands.{WitnessesEnvelopes}
use Rattle.beet_program_laws.proofs.Ends.{Found, WentOut, found, named}
use Rattle.beet_program_laws.proofs.Files.{list-few}
use Rattle.beet_program_laws.proofs.Grids.{grid-is}
use Rattle.beet_program_laws.proofs.Held.{held-yield}
use Rattle.beet_program_laws.proofs.Jobs.{points-sealed, sealed-yield, sealed_read, tells-of}
use Rattle.beet_program_laws.proofs.Read.{CanServeAll, within-limit}
use Rattle.beet_program_laws.proofs.Steps.{Yields, any-yield, passes-yield, reads-yield, then-told}

-- bidders whose points are in envelopes, and words that are enough and no more than are kept
within-limits : (grid : Grid) (bidders : List (Trio (List ℕ))) (words : Trio ServerWords) → IsGrid grid →
    length bidders ≤ MOST_BIDDERS → length bidders * grid.prices ≤ MOST_PRODUCT → All (AreInEnvelopes grid) bidders →
    CanServeAll (counts_of grid) words → CanBeWitnessed grid bidders words
within-limits grid bidders words is_grid few product held all = record {
  is_grid = is_grid;
  few = few;
  product = product;
  held = held;
  enough = record { one = all.one.enough; two = all.two.enough; three = all.three.enough };
  cut = record { one = all.one.kept.cut; two = all.two.kept.cut; three = all.three.kept.cut };
  masks = masks;
  coefficients = coefficients;
} where
  masks : (s : Point) → All IsWord (member words s).masks
  masks One = all.one.kept.masks
  masks Two = all.two.kept.masks
  masks Three = all.three.kept.masks

  coefficients : (s : Point) → All IsWord (member words s).coefficients
  coefficients One = all.one.kept.coefficients
  coefficients Two = all.two.kept.coefficients
  coefficients Three = all.three.kept.coefficients

module _ (files : List File) where
  -- what the files of sealed bids are read as, and what is answered
  pub record IsWitnessed (auction servers list out : List ℕ) (answer : Answer) : Type 0 where
    pub read : OpenRead files auction servers list
    pub grid_held : IsHeld files auction AUCTION_LIMIT auction_of read.grid.value
    pub can_serve : CanServeAll (counts_of read.grid.value) read.words.value.servers
    pub limits : CanBeWitnessed read.grid.value read.bidders.value read.words.value.servers
    pub is : answer ≡ witnessed_answer out read.grid.value read.words.value.servers read.bidders.value

  witness-yield : (auction servers list out : List ℕ) →
      Yields files (witness_job auction servers list out) (IsWitnessed auction servers list out)
  unfolding witness_job list_job kept_job
  witness-yield auction servers list out =
      then-told files (reads auction AUCTION_LIMIT auction_of) _ (IsHeld files auction AUCTION_LIMIT auction_of)
      (IsWitnessed auction servers list out) (held-yield files auction AUCTION_LIMIT auction_of) (λ grid r1 h1.
      then-told files (reads servers SERVERS_LIMIT servers_of) _ (λ sources. Unit {0})
      (IsWitnessed auction servers list out) (any-yield files servers SERVERS_LIMIT servers_of) (λ sources r2 h2.
      then-told files (reads list LIST_LIMIT list_of) _ (λ entries. length entries ≤ MOST_BIDDERS)
      (IsWitnessed auction servers list out)
      (reads-yield files list LIST_LIMIT list_of (λ entries. length entries ≤ MOST_BIDDERS) list-few) (λ entries r3 h3.
      passes-yield {A = Answer} files (nat_lt MOST_PRODUCT (0 + length entries * grid.prices)) BadFile
      (fault_line_of list over_product.place over_product.reason) _ (IsWitnessed auction servers list out) (λ within.
      sealed-yield files grid sources entries (witnessed_answer out grid) (IsWitnessed auction servers list out) (λ words bidders can held.
      record {
        read = sealed_read (record { value = grid; is = r1 }) (record { value = sources; is = r2 })
            (record { value = entries; is = r3 }) words bidders;
        grid_held = h1;
        can_serve = can;
        limits = within-limits grid bidders.value words.value.servers (grid-is h1.bytes grid h1.is) (omega (arith, h3, held.1))
            (within-limit (length bidders.value) (length entries) grid.prices held.1 within) held.0 can;
        is = refl;
      })))))

module _ (files : List File) (call : Call) (from : IsOf files call) (w : IsDoneCode call.status) where
  witnessed-by : (auction servers list put : List ℕ) (answer : Answer) →
      IsWitnessed files auction servers list put answer →
      WentOut answer call → WitnessesEnvelopes files auction servers list put call
  witnessed-by auction servers list put answer t o =
      let grid = t.read.grid.value in
      let words = t.read.words.value.servers in
      let told : Answer = witnessed_answer put grid words t.read.bidders.value in
      let out : WentOut told call = subst (λ (a : Answer). WentOut a call) t.is o in
      record {
        read = t.read;
        limits = t.limits;
        text = told.text;
        tells = tells-of files auction servers list t.read t.limits.is_grid t.can_serve call.status out.code;
        gives = out.calls;
        sealed = λ farmers held b enough hidden s.
            ap (λ (points : List (Trio (List ℕ))). view_of_points grid points words s)
            (points-sealed files grid t.read.entries.value t.read.bidders.value farmers t.limits.is_grid t.read.bidders.is b
            enough held) ∙ view-sealed grid farmers words b enough hidden s;
      }

  -- what was read and put
  pub witnessed : (auction servers list put : List ℕ) → RunsJobOf (witness_words auction servers list put) call →
      Found files call from w (witness_job auction servers list put) (λ answer. answer)
      (IsWitnessed files auction servers list put)
  witnessed auction servers list put ran =
      let job = Some (Answering (witness_errand auction servers list put)) in
      let r' = named files call from w (are_names (auction ∷ servers ∷ put ∷ []))
      (if is_name_of list then job else None) ran in
      let r = named files call from w (is_name_of list) job r' in
      found files call from w (witness_job auction servers list put) (λ answer. answer)
      (IsWitnessed files auction servers list put) (witness-yield files auction servers list put) r

  pub witnesses : (auction servers list put : List ℕ) → RunsJobOf (witness_words auction servers list put) call →
      WitnessesEnvelopes files auction servers list put call
  witnesses auction servers list put ran =
      let f = witnessed auction servers list put ran in
      witnessed-by auction servers list put f.value f.holds f.out
