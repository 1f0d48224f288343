-- What the job `worlds` answers for two books that agree: what one server sees in both worlds, and the words of the
-- second.
use Rattle.std.specs.Prelude.{◌≡◌, ℕ, List, ◌++◌}
use Rattle.beet_field.specs.declared.point.Point.{Point}
use Rattle.beet_words.specs.Bundles.{Words, bundle_bytes}
use Rattle.beet_bids.specs.Books.{Book}
use Rattle.beet_auction.specs.Endings.{book_finish, book_rounds}
use Rattle.beet_view.specs.BookViews.{transcript_for}
use Rattle.beet_two_books.specs.Agreement.{Agree}
use Rattle.beet_auction_map.specs.MappedWords.{IsOnlyFirst, IsOnlySecond, Mapped}
use Rattle.beet_errand.specs.Errands.{Answer}
use Rattle.beet_errand.specs.Worlds.{equal_text, files_of_worlds}
use Rattle.beet_run.specs.Outcomes.{status_of}
use Rattle.beet_run.specs.OutcomeTexts.{outcome_text}

-- how the first world ends, and that the transcripts are equal
abbrev pub worlds_text : Book → Words → List ℕ
worlds_text first words =
    outcome_text first.grid (book_finish first words.masks) (book_rounds first words.masks)
    ++ equal_text

-- the answer that puts what the server has seen twice, once for each world, and then the words of the second
abbrev pub agreed_answer : List ℕ → Book → Words → List ℕ → Words → Answer
agreed_answer out first words seen second_words = record {
  status = status_of (book_finish first words.masks);
  files = files_of_worlds out seen seen (bundle_bytes second_words);
  text = worlds_text first words;
}

-- an answer shows that two books look the same to a server: they agree, words of the second world are mapped from those
-- of the first, and with them the server sees the same. The answer tells what it has seen, and these words; no others
-- are mapped from those of the first world, and they are mapped from no others
pub record ShowsTheSame (s : Point) (out : List ℕ) (first : Book) (words : Words) (second : Book)
    (answer : Answer) : Type 0 where
  pub agree : Agree s first second
  pub second_words : Words
  pub mapped : Mapped s first words second second_words
  pub only : IsOnlySecond s first words second second_words
  pub back : IsOnlyFirst s first words second second_words
  pub seen : List ℕ
  pub first_seen : transcript_for first words s ≡ seen
  pub second_seen : transcript_for second second_words s ≡ seen
  pub is : answer ≡ agreed_answer out first words seen second_words
