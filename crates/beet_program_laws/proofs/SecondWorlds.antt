-- A recording of the second of two worlds puts again what was put for it.
use Rattle.std.proofs.Common.{◌≡◌, inl, ℕ, List, [], ◌∷◌, Option, Some, None, if◌then◌else◌, refl, sym}
use Rattle.std.proofs.Common.{subst}
use Rattle.std.specs.Prelude.{codes, option_map}
use Rattle.beet_field.specs.Point.{server_of}
use Rattle.beet_field.specs.Trio.{member, trio_of}
use Rattle.beet_field.specs.declared.point.Point.{Point}
use Rattle.beet_field.specs.declared.point.Point.TheVariants.{One, Two, Three}
use Rattle.beet_store.specs.Files.{File}
use Rattle.beet_forms.specs.Names.{is_name_of}
use Rattle.beet_words.specs.Bundles.{Words, bundle_bytes}
use Rattle.beet_words.proofs.BundleAgain.{bundle_of-bundle}
use Rattle.beet_bids.specs.Books.{Book}
use Rattle.beet_view.specs.BookViews.{transcript_for}
use Rattle.beet_headline.specs.Statements.{AreOnePair, AreTwoBooks}
use Rattle.beet_headline.proofs.Pairing.{mapped-pair}
use Rattle.beet_errand.specs.Errands.{Answer, answers}
use Rattle.beet_errand.specs.Fetches.{IsDone, IsRead}
use Rattle.beet_errand.specs.Overs.{ReadsTo}
use Rattle.beet_errand.specs.Statuses.{IsDoneCode}
use Rattle.beet_errand.specs.declared.answer.OwnRefusal.TheVariants.{OfWorlds}
use Rattle.beet_errand.specs.declared.answer.Status.TheVariants.{Done}
use Rattle.beet_load.specs.Loading.{AuctionWithBidders}
use Rattle.beet_load.specs.WholeViews.{loaded_with}
use Rattle.beet_load.specs.Wholes.{CanStart, curves_errand, limited_errand}
use Rattle.beet_job_record.specs.Records.{record_errand, recorded_answer}
use Rattle.beet_job_worlds.specs.Answering.{ShowsTheSame, worlds_text}
use Rattle.beet_job_worlds.specs.Ending.{ShowsWorlds, compared_errand}
use Rattle.beet_job_worlds.specs.Reading.{Both, both_errand, first_book, second_book, words_read}
use Rattle.beet_job_worlds.proofs.SecondWords.{bundle-fits, can-run, words-uncut}
use Rattle.beet_command.specs.Words.{are_names}
use Rattle.beet_app.specs.Jobs.{Answering, Comparing}
use Rattle.beet_app_laws.proofs.Led.{read-to}
use Rattle.beet_app_laws.proofs.Telling.{one-value, told-both}
use Rattle.beet_app_laws.specs.Calls.{Call, IsOf, Puts, RunsJob, RunsJobOf}
use Rattle.beet_program_laws.specs.Again.{IsPutAgain, PutsFor, record_words}
use Rattle.beet_program_laws.proofs.Ends.{WentOut, found, named, no-job, shown-ends}
use Rattle.beet_program_laws.proofs.Grids.{grid-is}
use Rattle.beet_program_laws.proofs.Jobs.{runs-in}
use Rattle.beet_program_laws.proofs.Read.{IsLimited, can-run-cut, limited}
use Rattle.beet_program_laws.proofs.SecondBook.{HoldsBook, curves-held, second-yield}
use Rattle.beet_program_laws.proofs.Steps.{Yields, gives-yield, then-yields}
use Rattle.beet_program_laws.proofs.Worlds.{is-both, undone}

-- ---- what was read for two worlds is held

module _ (files : List File) (auction servers list1 list2 : List ℕ) where
  record HoldsBoth (both : Both) : Type 0 where
    first : IsLimited files auction both.first
    second : HoldsBook files list2 both.first.grid both.second

  both-held : Yields files (both_errand auction servers list1 list2) HoldsBoth
  unfolding both_errand
  both-held =
      then-yields files (limited_errand auction servers list1) _ (IsLimited files auction) HoldsBoth
      (limited files auction servers list1) (λ first h.
      then-yields files (curves_errand 0 list2 first.grid) _ (HoldsBook files list2 first.grid) HoldsBoth
      (curves-held files list2 first.grid) (λ second k.
      gives-yield files HoldsBoth (record { first = first; second = second }) (record { first = h; second = k })))

  is-held : (both : Both) → ReadsTo files (both_errand auction servers list1 list2) both → HoldsBoth both
  is-held both r =
      let step = both_errand auction servers list1 list2 in
      let next = λ (v : Both). answers Done [] in
      let (other, q, h) = both-held next (subst (λ (x : Answer). IsDone x.status) (sym (r next)) (inl refl)) in
      subst HoldsBoth (one-value files step other both q r told-both) h

-- the member for a server
own-of : (f : Point → List ℕ) (seen : List ℕ) (s : Point) → f s ≡ seen → member (trio_of f) s ≡ seen
own-of f seen One e = e
own-of f seen Two e = e
own-of f seen Three e = e

-- ---- a recording of the second book

module _ (held : List File) (call : Call) (from : IsOf held call)
    (w : IsDoneCode call.status) (name servers list put : List ℕ) (second : Book) (words : Words) (s : Point)
    (seen : List ℕ) where
  recorded-for : transcript_for second words s ≡ seen →
      WentOut (recorded_answer put (loaded_with second words)) call →
      PutsFor s seen put call
  recorded-for is out = record {
    transcripts = trio_of (transcript_for second words);
    own = own-of (transcript_for second words) seen s is;
    text = (recorded_answer put (loaded_with second words)).text;
    gives = out.calls;
  }

  puts-for : transcript_for second words s ≡ seen →
      Yields held (limited_errand name servers list) (λ loaded. loaded ≡ loaded_with second words) →
      RunsJobOf (record_words name servers list put) call →
      PutsFor s seen put call
  puts-for is yields ran =
      let job = Some (Answering (record_errand name servers list put)) in
      let r' = named held call from w (are_names (name ∷ servers ∷ put ∷ []))
      (if is_name_of list then job else None) ran in
      let r = named held call from w (is_name_of list) job r' in
      let f = found held call from w (limited_errand name servers list) (recorded_answer put)
      (λ loaded. loaded ≡ loaded_with second words) yields r in
      recorded-for is (subst (λ (l : AuctionWithBidders). WentOut (recorded_answer put l) call) f.holds f.out)

-- ---- the whole

module _ (files : List File) (call : Call) (from : IsOf files call)
    (w : IsDoneCode call.status) (auction servers list1 list2 : List ℕ) (s : Point) (server out : List ℕ)
    (at : server_of server ≡ Some s) where
  abbrev PutAgain : Type 0
  PutAgain = IsPutAgain files auction list2 server out call

  again : (both : Both) (answer : Answer) → IsRead call.shelf call.shelf_now (both_errand auction servers list1 list2) both →
      ShowsTheSame s out (first_book both) (words_read both) (second_book both) answer →
      WentOut answer call → PutAgain
  again both answer is_read same went =
      let read = read-to files call.shelf call.shelf_now from (both_errand auction servers list1 list2) both is_read in
      let h = is-held files auction servers list1 list2 both read in
      let right = h.first.right in
      let loaded = both.first in
      let first = first_book both in
      let words = words_read both in
      let second = second_book both in
      let run = runs-in loaded right in
      let two : AreTwoBooks s first second = record {
        first_book = run.is_book;
        second_book = (is-both files auction servers list1 list2 both read).second;
        agree = same.agree;
      } in
      let pair : AreOnePair s first words second same.second_words =
      mapped-pair s first second words same.second_words two run.can_run same.mapped in
      let start : CanStart first words =
      can-run-cut loaded.grid loaded.servers loaded.farmers right.few right.farmers right.servers in
      let start2 : CanStart second same.second_words =
      can-run s first second words same.second_words start refl same.mapped pair.second_runs.enough in
      let fits = bundle-fits second same.second_words start2
      (grid-is h.first.grid.bytes loaded.grid h.first.grid.is) two.second_book.few in
      let read_back = bundle_of-bundle same.second_words fits pair.second_runs.are_words in
      let uncut = words-uncut second same.second_words start2 in
      record {
        s = s;
        server_is = at;
        seen = same.seen;
        bundle = bundle_bytes same.second_words;
        text = worlds_text first words;
        gives = subst (λ (a : Answer). Puts call a.files a.text) same.is went.calls;
        again = λ held' recording name servers' list put holds done.
            puts-for held' recording done.from done.code name servers' list put second
            same.second_words s same.seen
            same.second_seen
            (subst (λ (x : Words). Yields held' (limited_errand name servers' list)
            (λ loaded. loaded ≡ loaded_with second x)) uncut
            (second-yield files held' auction list2 second same.second_words h.first.grid h.second
            start2.lists read_back
            name servers' list holds)) done.runs;
      }

  compared : RunsJob (Some (Comparing auction servers list1 list2 s out)) call →
      PutAgain
  compared r =
      shown-ends files call from w {C = PutAgain} OfWorlds
      (compared_errand auction servers list1 list2 s)
      (ShowsWorlds auction servers list1 list2 s out) (undone files auction servers list1 list2 s)
      (λ answer shows went. again shows.value answer shows.read shows.shown went) r

module _ (files : List File) (call : Call) (from : IsOf files call)
    (w : IsDoneCode call.status) (auction servers list1 list2 server out : List ℕ) where
  by-server : (at : Option Point) → server_of server ≡ at →
      RunsJob (option_map (λ s. Comparing auction servers list1 list2 s out) at) call →
      IsPutAgain files auction list2 server out call
  by-server None e ran = no-job files call from w ran
  by-server (Some s) e ran =
      compared files call from w auction servers list1 list2 s server out e ran

  pub puts-again : RunsJobOf (codes "worlds" ∷ auction ∷ servers ∷ list1 ∷ list2 ∷ server ∷ out ∷ []) call →
      IsPutAgain files auction list2 server out call
  puts-again ran =
      by-server (server_of server) refl
      (named files call from w (are_names (auction ∷ servers ∷ list1 ∷ list2 ∷ out ∷ []))
      (option_map (λ s. Comparing auction servers list1 list2 s out) (server_of server)) ran)
