-- What the command `pair` of the program of sessions has read, put and said if its run ends with status 0 or 6, over
-- a shelf whose answers are of these files; and why it refuses two sessions.
use Rattle.std.specs.Prelude.{◌≡◌, ◌++◌, ℕ, List, length, map}
use Rattle.beet_field.specs.declared.point.Point.{Point}
use Rattle.beet_store.specs.Files.{File}
use Rattle.beet_words.specs.Bundles.{Words}
use Rattle.beet_bids.specs.Books.{Book}
use Rattle.beet_auction_map.specs.ViewsWith.{transcript_with}
use Rattle.beet_headline.specs.Statements.{AreOnePair, AreTwoBooks}
use Rattle.beet_lot_map.specs.LotMaps.{AgreeBefore, RefusesSession}
use Rattle.beet_lot_view.specs.SessionViews.{session_view_bytes, session_words_bytes}
use Rattle.beet_lot_files.specs.declared.session_file.LotRow.{LotRow}
use Rattle.beet_lot_load.specs.Telling.{lots_status, lots_text}
use Rattle.beet_errand.specs.Overs.{ReadsTo}
use Rattle.beet_errand.specs.Statuses.{code_of}
use Rattle.beet_errand.specs.Worlds.{equal_text, files_of_worlds}
use Rattle.beet_job_session_pair.specs.Reading.{Both, both_errand, first_books}
use Rattle.beet_job_session_pair.specs.Refusals.{refused_text}
use Rattle.beet_app_laws.specs.Calls.{Call, Puts}
use Rattle.beet_program_laws.specs.Outcomes.{ServersOpen}
use Rattle.beet_program_laws.specs.Refusals.{RefusesWorlds}
use Rattle.beet_session_laws.specs.Lots.{Lot, end_of_lot, loaded_lot}

-- a lot of two sessions: two books of accepted bids that agree for a server, and words for the first with which its
-- auction can be run; there are words for the second that go with these and with no others
pub record LotPair (s : Point) : Type 0 where
  pub first : Book
  pub words : Words
  pub second : Book
  pub two : AreTwoBooks s first second
  pub run : ServersOpen first words
  pub second_words : Words
  pub pair : AreOnePair s first words second second_words

-- the lot of the first session
abbrev pub first_lot : {s : Point} → LotPair s → Lot
first_lot pair = record { book = pair.first; words = pair.words; run = pair.run }

-- what the server sees of it
abbrev pub first_seen : {s : Point} → LotPair s → List ℕ
first_seen {s = s} pair = transcript_with pair.first pair.words s

-- and of the lot of the second session
abbrev pub second_seen : {s : Point} → LotPair s → List ℕ
second_seen {s = s} pair = transcript_with pair.second pair.second_words s

-- `pair`: the files read as the rows and the lots of the first session, and the books of the second, which agree lot by
-- lot for the server; there are words for each lot of the second that go with those of the first and with no others.
-- What the server sees of either session was put, which is the same, and these words. Of each lot of the first session
-- its name and its end was said, and nothing else than that the transcripts are equal. The status is 6 exactly if a lot
-- of the first session is spent
pub record PutsBothSessions (files : List File) (session1 session2 servers : List ℕ) (s : Point) (out : List ℕ)
    (call : Call) :
    Type 0 where
  pub rows : List LotRow
  pub lots : List (LotPair s)
  pub count : length lots ≡ length rows
  pub read : ReadsTo files (both_errand session1 session2 servers) (record {
    rows = rows;
    lots = map (λ pair. loaded_lot (first_lot pair)) lots;
    seconds = map (λ pair. pair.second) lots;
  })
  pub same : map second_seen lots ≡ map first_seen lots
  pub status_is : call.status ≡ code_of (lots_status (map (λ pair. end_of_lot (first_lot pair)) lots))
  pub gives : Puts call
      (files_of_worlds out (session_view_bytes (map first_seen lots)) (session_view_bytes (map second_seen lots))
      (session_words_bytes (map (λ pair. pair.second_words) lots)))
      (lots_text rows (map (λ pair. end_of_lot (first_lot pair)) lots) ++ equal_text)

-- two sessions agree for a server: they have as many lots, and the books of each lot agree
pub record SessionsAgree (s : Point) (firsts seconds : List Book) : Type 0 where
  pub lots : length seconds ≡ length firsts
  pub each : AgreeBefore s firsts seconds (length firsts)

-- `pair` at status 7: the two sessions that were read do not agree for the server. The line tells the first thing by
-- which it can tell them apart, and nothing was put
abbrev pub RefusesBothSessions : Point → Both → Call → Type 0
RefusesBothSessions s both =
    RefusesWorlds refused_text (RefusesSession s (first_books both) both.seconds)
    (SessionsAgree s (first_books both) both.seconds)
