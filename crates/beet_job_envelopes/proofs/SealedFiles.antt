-- Files that hold envelopes that were sealed are read as the points that were sealed.
use Rattle.std.proofs.Common.{◌≡◌, ℕ, ◌≤◌, List, [], ◌∷◌, ◌++◌, map, length, All, Some, Ok, refl, sym, ap, ◌∙◌, append_assoc, append-nil}
use Rattle.std.proofs.lemmas.List.Elements.{All-head, All-tail}
use Rattle.beet_field.specs.declared.point.Point.{Point}
use Rattle.beet_field.specs.declared.point.Point.TheVariants.{One, Two, Three}
use Rattle.beet_field.specs.declared.trio.Trio.{Trio}
use Rattle.beet_store.specs.Files.{File, bytes_of}
use Rattle.beet_forms.specs.Faults.{Reading}
use Rattle.beet_words.specs.Words.{accepted}
use Rattle.beet_bids.specs.Curves.{IsOfGrid}
use Rattle.beet_bids.specs.Grids.{Grid, IsGrid}
use Rattle.beet_farmer.specs.declared.envelope.Envelope.{Envelope}
use Rattle.beet_farmer.specs.declared.list_file.ListEntry.{ListEntry}
use Rattle.beet_farmer.specs.Envelopes.{envelope_of}
use Rattle.beet_farmer.specs.Sealing.{points_in, sealed_envelope}
use Rattle.beet_bids.specs.Books.{IsBook}
use Rattle.beet_book.specs.Farmers.{BidderWithWords, book_with}
use Rattle.beet_errand.specs.Errands.{Errand, reads}
use Rattle.beet_errand.specs.Overs.{ReadsTo, answer_over}
use Rattle.beet_load.specs.Counts.{words_wanted}
use Rattle.beet_load.proofs.Farming.{lt_false}
use Rattle.beet_gathering.specs.Gather.{envelopes_errand, bidders_errand}
use Rattle.beet_job_envelopes.specs.SealedBooks.{HaveWords, HoldsSealed, HoldEachSealed, sealed_bytes, sealed_points}
use Rattle.beet_farmer.proofs.SealedAgain.{sealed-again}
use Rattle.beet_job_envelopes.proofs.SealedBooks.{sealed-size}
use Rattle.beet_farmer.specs.declared.envelope.TheConstants.{ENVELOPE_LIMIT}

-- a file that is held and within the limit is read as its value
read-on : {A : Type 0} (files : List File) (name : List ℕ) (limit : ℕ) (grammar : List ℕ → Reading A)
    (bytes : List ℕ) (value : A) → bytes_of files name ≡ Some bytes → length bytes ≤ limit → grammar bytes ≡ Ok value →
    ReadsTo files (reads name limit grammar) value
read-on files name limit grammar bytes value held short is next =
    rw (held, lt_false limit (length bytes) short, is) refl

module _ (files : List File) (grid : Grid) (limits : IsGrid grid) where
  -- the envelope of a farmer for a server
  envelope-on : (farmer : BidderWithWords) (s : Point) (name : List ℕ) → IsOfGrid grid farmer.bidder.curve →
      words_wanted grid ≤ length (accepted farmer.words) → bytes_of files name ≡ Some (sealed_bytes grid farmer s) →
      ReadsTo files (reads name ENVELOPE_LIMIT (envelope_of grid s))
      (sealed_envelope farmer.bidder.curve farmer.words s)
  envelope-on farmer s name of_grid enough held =
      read-on files name ENVELOPE_LIMIT (envelope_of grid s) (sealed_bytes grid farmer s)
      (sealed_envelope farmer.bidder.curve farmer.words s) held
      (sealed-size grid farmer.bidder.curve farmer.words s limits of_grid enough)
      (sealed-again grid farmer.bidder.curve farmer.words s limits of_grid enough)

  -- the three envelopes of a farmer
  bidder-on : (farmer : BidderWithWords) (entry : ListEntry) → IsOfGrid grid farmer.bidder.curve →
      words_wanted grid ≤ length (accepted farmer.words) →
      HoldsSealed files grid entry farmer → ReadsTo files (envelopes_errand grid entry.envelopes) (sealed_points farmer)
  bidder-on farmer entry of_grid enough held next =
      let one = sealed_envelope farmer.bidder.curve farmer.words One in
      let two = sealed_envelope farmer.bidder.curve farmer.words Two in
      let last : Envelope → Envelope → Envelope → Errand =
      λ first second third. next (points_in (record { one = first; two = second; three = third })) in
      let third : Envelope → Envelope → Errand =
      λ first second. reads entry.envelopes.three ENVELOPE_LIMIT (envelope_of grid Three) (last first second) in
      let second : Envelope → Errand = λ first. reads entry.envelopes.two ENVELOPE_LIMIT (envelope_of grid Two) (third first) in
      envelope-on farmer One entry.envelopes.one of_grid enough held.one second
      ∙ envelope-on farmer Two entry.envelopes.two of_grid enough held.two (third one)
      ∙ envelope-on farmer Three entry.envelopes.three of_grid enough held.three (last one two)

  -- the envelopes of all farmers, after those that are read
  bidders-on : (read : List (Trio (List ℕ))) (entries : List ListEntry) (farmers : List BidderWithWords) →
      All (λ bidder. IsOfGrid grid bidder.curve) (map (λ farmer. farmer.bidder) farmers) → HaveWords grid farmers →
      HoldEachSealed files grid entries farmers →
      ReadsTo files (bidders_errand grid read entries) (read ++ map sealed_points farmers)
  bidders-on read [] [] of_grid enough held next = ap (λ all. answer_over files (next all)) (sym (append-nil read))
  bidders-on read [] (farmer ∷ farmers) of_grid enough held next = absurd held
  bidders-on read (entry ∷ entries) [] of_grid enough held next = absurd held
  bidders-on read (entry ∷ entries) (farmer ∷ farmers) of_grid enough held next =
      let bidders = map (λ farmer. farmer.bidder) farmers in
      let points = sealed_points farmer in
      bidder-on farmer entry (All-head (λ bidder. IsOfGrid grid bidder.curve) farmer.bidder bidders of_grid)
      (All-head (λ farmer. words_wanted grid ≤ length (accepted farmer.words)) farmer farmers enough) held.0
      (λ p. bidders_errand grid (read ++ p ∷ []) entries next)
      ∙ bidders-on (read ++ points ∷ []) entries farmers
      (All-tail (λ bidder. IsOfGrid grid bidder.curve) farmer.bidder bidders of_grid)
      (All-tail (λ farmer. words_wanted grid ≤ length (accepted farmer.words)) farmer farmers enough) held.1 next
      ∙ ap (λ all. answer_over files (next all)) (append_assoc read (points ∷ []) (map sealed_points farmers))

-- files of sealed envelopes are read as the points that were sealed
pub sealed-files : (files : List File) (grid : Grid) (entries : List ListEntry) (farmers : List BidderWithWords) →
    IsGrid grid → IsBook (book_with grid farmers) → HaveWords grid farmers → HoldEachSealed files grid entries farmers →
    ReadsTo files (bidders_errand grid [] entries) (map sealed_points farmers)
sealed-files files grid entries farmers limits b enough held =
    bidders-on files grid limits [] entries farmers b.of_grid enough held
