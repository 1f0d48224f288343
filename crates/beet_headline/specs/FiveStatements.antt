-- What two of five servers cannot tell apart.
use Rattle.std.specs.Prelude.{◌≡◌, ℕ}
use Rattle.beet_bids.specs.Books.{Book}
use Rattle.beet_five_dealing.specs.FiveWords.{FiveWords}
use Rattle.beet_five_map.specs.FiveWorlds.{AreOnePair}
use Rattle.beet_five_view.specs.JointBooks.{joint_transcript, joint_view_of}

-- words of two books that go with each other, and with no others, with which both auctions can be run; what servers a
-- and b see together is the same, and so is its file, byte for byte
pub record LookTheSame (a b : ℕ) (first : Book) (words : FiveWords) (second : Book) (words' : FiveWords) : Type 0 where
  pub pair : AreOnePair a b first words second words'
  pub views : joint_view_of a b second words' ≡ joint_view_of a b first words
  pub transcripts : joint_transcript a b second words' ≡ joint_transcript a b first words
