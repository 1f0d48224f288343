-- What the job `seal` has read and put.
use Rattle.std.proofs.Common.{◌≡◌, ◌≤◌, ℕ, List, [], ◌∷◌, length, nat_lt, Option, Some, None, Ok, refl, subst}
use Rattle.std.specs.Prelude.{codes, option_map}
use Rattle.std.proofs.lemmas.Bool.{ltb-false}
use Rattle.beet_field.specs.Trio.{member}
use Rattle.beet_field.specs.declared.point.Point.{Point}
use Rattle.beet_field.specs.declared.point.Point.TheVariants.{One, Two, Three}
use Rattle.beet_field.specs.declared.trio.Trio.{Trio}
use Rattle.beet_store.specs.Files.{File}
use Rattle.beet_words.specs.Words.{accepted}
use Rattle.beet_bids.specs.AuctionFiles.{auction_of}
use Rattle.beet_bids.specs.BidFiles.{bid_of}
use Rattle.beet_bids.specs.Curves.{Curve, IsCurve, IsOfGrid}
use Rattle.beet_bids.specs.Grids.{Grid, IsGrid}
use Rattle.beet_bids.specs.declared.auction_file.TheConstants.{AUCTION_LIMIT}
use Rattle.beet_bids.specs.declared.bid_file.TheConstants.{BID_LIMIT}
use Rattle.beet_plan.specs.Kept.{words_kept}
use Rattle.beet_book.specs.Dealing.{points_at, quantities}
use Rattle.beet_book.specs.declared.entries.BidderSource.{BidderSource}
use Rattle.beet_farmer.specs.Envelopes.{envelope_bytes, envelope_of}
use Rattle.beet_farmer.specs.Sealing.{sealed_envelope}
use Rattle.beet_farmer.proofs.SealedAgain.{sealed-again}
use Rattle.beet_errand.specs.Errands.{Answer, gives, reads}
use Rattle.beet_errand.specs.Statuses.{IsDoneCode}
use Rattle.beet_errand.specs.declared.answer.Refusal.TheVariants.{TooFewWords}
use Rattle.beet_load.specs.Counts.{words_wanted}
use Rattle.beet_load.specs.Farmers.{words_errand}
use Rattle.beet_load.specs.WordTexts.{too_few_text}
use Rattle.beet_job_envelopes.specs.Seal.{own_words_errand, seal_errand, seal_job, sealed_answer}
use Rattle.beet_job_envelopes.specs.SourceWords.{source_word}
use Rattle.beet_command.specs.Words.{are_names}
use Rattle.beet_app.specs.Jobs.{Answering, seal_of}
use Rattle.beet_app_laws.specs.Calls.{Call, IsOf, RunsJob, RunsJobOf}
use Rattle.beet_app_laws.specs.Readings.{Read}
use Rattle.beet_program_laws.specs.Commands.{Seals}
use Rattle.beet_program_laws.proofs.Ends.{WentOut, found, named, no-job}
use Rattle.beet_program_laws.proofs.Files.{AreFew, bid-is}
use Rattle.beet_program_laws.proofs.Grids.{grid-is}
use Rattle.beet_program_laws.proofs.Read.{words-yield}
use Rattle.beet_program_laws.proofs.Steps.{Yields, gives-yield, passes-yield, reads-yield, then-told, then-yields}

module _ (files : List File) where
  -- the words of a farmer that are enough
  record AreEnough (grid : Grid) (words : List ℕ) : Type 0 where
    few : AreFew (words_kept grid.prices) words
    enough : words_wanted grid ≤ length (accepted words)

  own-words-yield : (grid : Grid) (source : BidderSource) → Yields files (own_words_errand grid source) (AreEnough grid)
  own-words-yield grid source =
      then-yields files (words_errand None source (words_kept grid.prices)) _ (AreFew (words_kept grid.prices))
      (AreEnough grid)
      (words-yield files None tt source (words_kept grid.prices)) (λ words few.
      passes-yield files (nat_lt (length (accepted words)) (words_wanted grid))
      TooFewWords (too_few_text None 1 (length (accepted words)) (words_wanted grid)) (gives words)
      (AreEnough grid) (λ enough.
      gives-yield files (AreEnough grid) words (record { few = few; enough = ltb-false _ _ enough })))

  -- what the files of a sealed bid are read as, and what is answered
  record IsSealed (auction bid : List ℕ) (source : BidderSource) (out : List ℕ) (answer : Answer) : Type 0 where
    grid : Read files (reads auction AUCTION_LIMIT auction_of)
    is_grid : IsGrid grid.value
    curve : Read files (reads bid BID_LIMIT (bid_of grid.value))
    is_curve : IsCurve curve.value × IsOfGrid grid.value curve.value
    words : Read files (own_words_errand grid.value source)
    are_enough : AreEnough grid.value words.value
    is : answer ≡ sealed_answer grid.value out curve.value words.value

  seal-yield : (auction bid : List ℕ) (source : BidderSource) (out : List ℕ) →
      Yields files (seal_job auction bid source out) (IsSealed auction bid source out)
  unfolding seal_job
  seal-yield auction bid source out =
      then-told files (reads auction AUCTION_LIMIT auction_of) _ IsGrid (IsSealed auction bid source out)
      (reads-yield files auction AUCTION_LIMIT auction_of IsGrid (λ bytes grid e. grid-is bytes grid e))
      (λ grid grid_read is_grid.
      then-told files (reads bid BID_LIMIT (bid_of grid)) _ (λ curve. IsCurve curve × IsOfGrid grid curve)
      (IsSealed auction bid source out)
      (reads-yield files bid BID_LIMIT (bid_of grid) (λ curve. IsCurve curve × IsOfGrid grid curve)
      (λ bytes curve e. bid-is grid bytes curve e)) (λ curve curve_read is_curve.
      then-told files (own_words_errand grid source) (λ words. gives (sealed_answer grid out curve words))
      (AreEnough grid)
      (IsSealed auction bid source out) (own-words-yield grid source) (λ words words_read are_enough.
      gives-yield files (IsSealed auction bid source out) (sealed_answer grid out curve words) (record {
        grid = record { value = grid; is = grid_read };
        is_grid = is_grid;
        curve = record { value = curve; is = curve_read };
        is_curve = is_curve;
        words = record { value = words; is = words_read };
        are_enough = are_enough;
        is = refl;
      }))))

-- the bytes of the three envelopes
abbrev sealed_trio : Grid → Curve → List ℕ → Trio (List ℕ)
sealed_trio grid curve words = record {
  one = envelope_bytes grid (sealed_envelope curve words One);
  two = envelope_bytes grid (sealed_envelope curve words Two);
  three = envelope_bytes grid (sealed_envelope curve words Three);
}

-- each of them is read again
again : (grid : Grid) (curve : Curve) (words : List ℕ) → IsGrid grid → IsOfGrid grid curve →
    words_wanted grid ≤ length (accepted words) →
    (s : Point) → envelope_of grid s (member (sealed_trio grid curve words) s)
    ≡ Ok (record { server = s; points = points_at (quantities curve) (accepted words) s })
again grid curve words is_grid of_grid enough One = sealed-again grid curve words One is_grid of_grid enough
again grid curve words is_grid of_grid enough Two = sealed-again grid curve words Two is_grid of_grid enough
again grid curve words is_grid of_grid enough Three = sealed-again grid curve words Three is_grid of_grid enough

module _ (files : List File) (call : Call) (from : IsOf files call) (w : IsDoneCode call.status) where
  sealed-by : (auction bid word : List ℕ) (source : BidderSource) (out : List ℕ) (answer : Answer) →
      source_word word ≡ Some source →
      IsSealed files auction bid source out answer → WentOut answer call →
      Seals files auction bid word out call
  sealed-by auction bid word source out answer named t went =
      let grid : Grid = t.grid.value in
      let curve : Curve = t.curve.value in
      let words : List ℕ = t.words.value in
      let gone : WentOut (sealed_answer grid out curve words) call =
      subst (λ (x : Answer). WentOut x call) t.is went in
      record {
        read = record { grid = t.grid; curve = t.curve; from = source; from_is = named; words = t.words };
        is_grid = t.is_grid;
        is_curve = t.is_curve.0;
        of_grid = t.is_curve.1;
        are_words = t.are_enough.few.0;
        enough = t.are_enough.enough;
        envelopes = sealed_trio grid curve words;
        read_back = again grid curve words t.is_grid t.is_curve.1 t.are_enough.enough;
        is_done = gone.code;
        gives = gone.calls;
      }

  by-source : (auction bid word out : List ℕ) (source : Option BidderSource) → source_word word ≡ source →
      RunsJob (option_map (λ from. Answering (seal_errand auction bid from out)) source) call →
      Seals files auction bid word out call
  by-source auction bid word out None e ran = no-job files call from w ran
  by-source auction bid word out (Some source) e ran =
      let f = found files call from w (seal_job auction bid source out) (λ answer. answer)
      (IsSealed files auction bid source out) (seal-yield files auction bid source out) ran in
      sealed-by auction bid word source out f.value e f.holds f.out

  pub seals : (auction bid word out : List ℕ) →
      RunsJobOf (codes "seal" ∷ auction ∷ bid ∷ word ∷ out ∷ []) call →
      Seals files auction bid word out call
  seals auction bid word out ran =
      by-source auction bid word out (source_word word) refl
      (named files call from w (are_names (auction ∷ bid ∷ out ∷ []))
      (seal_of auction bid word out) ran)
