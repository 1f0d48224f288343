-- What the job `pair` answers for two sessions that look the same to a server: what the server sees of both, and the
-- words of the second.
use Rattle.std.specs.Prelude.{◌≡◌, ℕ, List}
use Rattle.beet_field.specs.declared.point.Point.{Point}
use Rattle.beet_words.specs.Bundles.{Words}
use Rattle.beet_errand.specs.Errands.{Answer}
use Rattle.beet_errand.specs.Worlds.{files_of_worlds, telling_equal}
use Rattle.beet_job_session.specs.Sessions.{session_answer}
use Rattle.beet_lot_map.specs.LotMaps.{SessionMapped, session_transcripts}
use Rattle.beet_lot_view.specs.SessionViews.{session_view_bytes, session_words_bytes}
use Rattle.beet_job_session_pair.specs.Reading.{Both, first_books, first_words}

-- the answer that tells of the first session what `session` tells, and puts what the server has seen twice, once for
-- each session, and then the words of the second
abbrev pub paired_answer : List ℕ → Both → List (List ℕ) → List Words → Answer
paired_answer out both seen second_words =
    telling_equal (session_answer both.rows both.lots)
    (files_of_worlds out (session_view_bytes seen) (session_view_bytes seen) (session_words_bytes second_words))

-- an answer shows that two sessions look the same to a server: there are as many lots, the books of each agree, and its
-- words of the second session are mapped from those of the first, in the one way there is; with them the server sees
-- the same of each lot. The answer tells what it has seen, and these words
pub record ShowsTheSame (s : Point) (out : List ℕ) (both : Both) (answer : Answer) : Type 0 where
  pub second_words : List Words
  pub mapped : SessionMapped s (first_books both) (first_words both) both.seconds second_words
  pub seen : List (List ℕ)
  pub first_seen : session_transcripts s (first_books both) (first_words both) ≡ seen
  pub second_seen : session_transcripts s both.seconds second_words ≡ seen
  pub is : answer ≡ paired_answer out both seen second_words
