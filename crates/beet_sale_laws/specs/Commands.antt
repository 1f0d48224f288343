-- What each command of the program of sales has read, put and said if its run ends with status 0 or 6, over a shelf
-- whose answers are of these files; and why `pair` refuses two sales.
use Rattle.std.specs.Prelude.{◌≡◌, ◌∷◌, ◌++◌, ℕ, Bool, List, [], Some, codes, true, false}
use Rattle.beet_field.specs.declared.point.Point.{Point}
use Rattle.beet_store.specs.Files.{File}
use Rattle.beet_words.specs.Bundles.{Words, bundle_bytes}
use Rattle.beet_gates.specs.declared.Gates.{Gates}
use Rattle.beet_delivery.specs.Events.{Triple}
use Rattle.beet_server.specs.Cores.{Core}
use Rattle.beet_world.specs.Worlds.{World}
use Rattle.beet_sale_plan.specs.Outcome.{IsSale}
use Rattle.beet_sale_plan.specs.Sale.{Sale}
use Rattle.beet_sale_plan.specs.declared.SaleEnd.TheVariants.{Sold, MasksSpent}
use Rattle.beet_sale_file.specs.Sales.{bids_of}
use Rattle.beet_sale_file.specs.declared.rows.SaleBid.{SaleBid}
use Rattle.beet_sale_map.specs.Bids.{Agree, AreSaleBids, AreTwoSales, bids_of as numbers_of}
use Rattle.beet_highbid.specs.SalePairs.{AreOneSalePair, CanSell}
use Rattle.beet_errand.specs.Worlds.{equal_text, files_of_worlds}
use Rattle.beet_sale_load.specs.SaleLoading.{SaleRead, sale_errand}
use Rattle.beet_sale_run.specs.SaleRuns.{rounds_read}
use Rattle.beet_sale_run.specs.Standings.{IsSaleCore, StandsRight, WereGiven, are_spent}
use Rattle.beet_job_sale.specs.SaleTexts.{sale_text}
use Rattle.beet_job_sale_pair.specs.Answering.{transcript_of}
use Rattle.beet_job_sale_pair.specs.Differences.{difference_between, refused_text}
use Rattle.beet_job_sale_pair.specs.Reading.{Both, both_errand}
use Rattle.beet_sale_app.specs.Doing.{task_of}
use Rattle.beet_sale_app.specs.Jobs.{job_of}
use Rattle.beet_app_laws.specs.Calls.{Call, Puts, Says}
use Rattle.beet_app_laws.specs.Readings.{Read}
use Rattle.beet_program_laws.specs.Refusals.{RefusesWorlds}
use Rattle.beet_app_laws.specs.Tables.{IsDoneTable, RunsTable}

-- the words of each command
abbrev pub sale_words : List ℕ → List ℕ → List (List ℕ)
sale_words sale servers = codes "sale" ∷ sale ∷ servers ∷ []

abbrev pub pair_words : List ℕ → List ℕ → List ℕ → List ℕ → List ℕ → List (List ℕ)
pair_words sale1 sale2 servers server out = codes "pair" ∷ sale1 ∷ sale2 ∷ servers ∷ server ∷ out ∷ []

-- the call ran these words over these files
abbrev pub RunsSale : List File → List (List ℕ) → Call → Type 0
RunsSale = RunsTable job_of task_of

-- and ended with status 0 or 6
abbrev pub IsDoneSale : List File → List (List ℕ) → Call → Type 0
IsDoneSale = IsDoneTable job_of task_of

-- the bids of a sale that is read
abbrev pub bids_in : SaleRead → List SaleBid
bids_in read = bids_of read.sale.rows

-- whether its masks are spent
abbrev pub is_spent : SaleRead → Bool
is_spent read = are_spent read.sale.gates (bids_in read) read.words

-- bids within their limits, and words with which their sale can be run: whatever the order, the repeats and the delays
-- of the messages, a server that has ended has sold to the winner at the price, or the masks are spent
pub record ServersSell (gates : Gates) (bids : List SaleBid) (words : Words) : Type 0 where
  pub are_bids : AreSaleBids bids
  pub can_sell : CanSell bids words
  pub stands : (es : List Triple) (w : World Sale) (s : Point) (c : Core Sale) → WereGiven gates bids words es w →
      IsSaleCore w s c → StandsRight gates bids words es s c

-- a text names the first bidder whose bid is at least every other, the greatest bid of the others, and the rounds
pub record TellsTheWinner (read : SaleRead) (text : List ℕ) : Type 0 where
  pub winner : ℕ
  pub price : ℕ
  pub sale : IsSale (numbers_of (bids_in read)) winner price
  pub is : text ≡ sale_text read.sale.rows (Sold winner price) (rounds_read read)

-- the status and the text tell how the sale ends: at 0 the masks are not spent, and the text names the winner and the
-- price; at 6 they are spent, and the text says so. Both tell after how many rounds
pub record TellsTheSale (read : SaleRead) (status : ℕ) (text : List ℕ) : Type 0 where
  pub sold : status ≡ 0 →
      (is_spent read ≡ false) × TellsTheWinner read text
  pub spent : status ≡ 6 →
      (is_spent read ≡ true)
      × (text ≡ sale_text read.sale.rows MasksSpent (rounds_read read))

-- `sale`: the files read as a sale with words; what its servers open was said, and nothing else
pub record SaysTheSale (files : List File) (sale servers : List ℕ) (call : Call) : Type 0 where
  pub read : Read files (sale_errand sale servers)
  pub run : ServersSell read.value.sale.gates (bids_in read.value) read.value.words
  pub text : List ℕ
  pub tells : TellsTheSale read.value call.status text
  pub said : Says call text

-- the bids of the second of two sales that are read
abbrev pub second_bids : Both → List SaleBid
second_bids both = bids_of both.second.rows

-- `pair`: the files read as two sales with the same gates that agree for the server, and words for the first; there are
-- words for the second that go with these and with no others. What the server sees of both runs was put, which is the
-- same, and these words; and how the first run ends was said
pub record PutsBothSales (files : List File) (sale1 sale2 servers : List ℕ) (s : Point) (out : List ℕ) (call : Call) :
    Type 0 where
  pub read : Read files (both_errand sale1 sale2 servers)
  pub gates : read.value.second.gates ≡ read.value.first.sale.gates
  pub two : AreTwoSales s (bids_in read.value.first) (second_bids read.value)
  pub run : ServersSell read.value.first.sale.gates (bids_in read.value.first) read.value.first.words
  pub second_words : Words
  pub pair : AreOneSalePair s read.value.first.sale.gates (bids_in read.value.first) read.value.first.words
      (second_bids read.value) second_words
  pub same : transcript_of read.value.second second_words s
      ≡ transcript_of read.value.first.sale read.value.first.words s
  pub text : List ℕ
  pub tells : TellsTheSale read.value.first call.status text
  pub gives : Puts call
      (files_of_worlds out (transcript_of read.value.first.sale read.value.first.words s)
      (transcript_of read.value.second second_words s) (bundle_bytes second_words))
      (text ++ equal_text)

-- `pair` at status 7, of two sales that are read: they do not agree for the server. The line tells the first thing by
-- which it can tell them apart, and nothing was put
abbrev pub RefusesBothSales : Point → Both → Call → Type 0
RefusesBothSales s both =
    RefusesWorlds refused_text (λ fault. difference_between s (bids_in both.first) (second_bids both) ≡ Some fault)
    (Agree s (bids_in both.first) (second_bids both))
