-- What the job `five_worlds` answers for two books that agree: what two servers see together in both worlds, and the
-- words of the second.
use Rattle.std.specs.Prelude.{◌≡◌, ℕ, List}
use Rattle.beet_bids.specs.Books.{Book}
use Rattle.beet_errand.specs.Errands.{Answer}
use Rattle.beet_errand.specs.Worlds.{files_of_worlds, telling_equal}
use Rattle.beet_five_dealing.specs.FiveWords.{FiveWords}
use Rattle.beet_five_load.specs.FiveLoading.{FiveRead}
use Rattle.beet_five_map.specs.FiveWorlds.{Agree, AreOnePair}
use Rattle.beet_five_view.specs.JointBooks.{joint_transcript, joint_view_of}
use Rattle.beet_five_view.specs.WordsFiles.{words_bytes}
use Rattle.beet_five_run.specs.FiveOutcomes.{cleared_by_five}

-- the answer of the job `five` for the first book, which tells besides that the transcripts are equal, and puts what
-- the two servers have seen in either world, and the words of the second
abbrev pub agreed_answer : ℕ → ℕ → List ℕ → FiveRead → Book → FiveWords → Answer
agreed_answer a b out first second words' =
    telling_equal (cleared_by_five first)
    (files_of_worlds out (joint_transcript a b first.book first.words) (joint_transcript a b second words')
    (words_bytes words'))

-- an answer shows that two books look the same to servers a and b together: they agree, words of the second world are
-- mapped from those of the first, and with them the two servers see the same. No other words are mapped from those of
-- the first world, and they are mapped from no others. The answer tells what was seen in either world, and these words
pub record ShowsTheSameForTwo (a b : ℕ) (out : List ℕ) (first : FiveRead) (second : Book) (answer : Answer) :
    Type 0 where
  pub agree : Agree a b first.book second
  pub second_words : FiveWords
  pub pair : AreOnePair a b first.book first.words second second_words
  pub views : joint_view_of a b second second_words ≡ joint_view_of a b first.book first.words
  pub is : answer ≡ agreed_answer a b out first second second_words
