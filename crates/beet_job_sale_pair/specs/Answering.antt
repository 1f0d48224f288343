-- What the job `pair` answers for two sales that agree: what one server sees of both, and the words of the second.
use Rattle.std.specs.Prelude.{◌≡◌, ℕ, List}
use Rattle.beet_field.specs.declared.point.Point.{Point}
use Rattle.beet_words.specs.Bundles.{Words, bundle_bytes}
use Rattle.beet_sale_file.specs.Sales.{SaleRecord, bids_of}
use Rattle.beet_sale_map.specs.Bids.{Agree}
use Rattle.beet_sale_map.specs.Worlds.{IsOnlyFirst, IsOnlySecond, Mapped}
use Rattle.beet_highbid.specs.SaleViews.{sale_transcript}
use Rattle.beet_errand.specs.Errands.{Answer}
use Rattle.beet_errand.specs.Worlds.{files_of_worlds, telling_equal}
use Rattle.beet_sale_load.specs.SaleLoading.{SaleRead}
use Rattle.beet_job_sale.specs.SaleAnswers.{sold}

-- the transcript of a server of a sale with these words
abbrev pub transcript_of : SaleRecord → Words → Point → List ℕ
transcript_of sale words s = sale_transcript sale.gates (bids_of sale.rows) words s

-- the answer that tells how the first sale ends, and puts what the server has seen twice, once for each sale, and then
-- the words of the second
abbrev pub agreed_answer : List ℕ → SaleRead → List ℕ → Words → Answer
agreed_answer out first seen second_words =
    telling_equal (sold first) (files_of_worlds out seen seen (bundle_bytes second_words))

-- an answer shows that two sales look the same to a server: they agree, words of the second are mapped from those of
-- the first, and with them the server sees the same. The answer tells what it has seen, and these words; no others are
-- mapped from those of the first, and they are mapped from no others
pub record ShowsTheSameSale (s : Point) (out : List ℕ) (first : SaleRead) (second : SaleRecord) (answer : Answer) :
    Type 0 where
  pub agree : Agree s (bids_of first.sale.rows) (bids_of second.rows)
  pub second_words : Words
  pub mapped : Mapped s first.sale.gates (bids_of first.sale.rows) first.words (bids_of second.rows) second_words
  pub only : IsOnlySecond s first.sale.gates (bids_of first.sale.rows) first.words (bids_of second.rows) second_words
  pub back : IsOnlyFirst s first.sale.gates (bids_of first.sale.rows) first.words (bids_of second.rows) second_words
  pub seen : List ℕ
  pub first_seen : transcript_of first.sale first.words s ≡ seen
  pub second_seen : transcript_of second second_words s ≡ seen
  pub is : answer ≡ agreed_answer out first seen second_words
