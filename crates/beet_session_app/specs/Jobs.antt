-- The table of commands: a row for each, with its words and the errand that they name; and `pair` besides.
use Rattle.std.specs.Prelude.{ℕ, List, [], ◌∷◌, Option, Some, None, ◌&&◌, if◌then◌else◌, codes}
use Rattle.beet_command.specs.Lines.{Words, WithTwo, WithThree}
use Rattle.beet_command.specs.Words.{are_names, is_word}
use Rattle.beet_errand.specs.Errands.{Errand}
use Rattle.beet_job_session.specs.Sessions.{session_errand}
use Rattle.beet_job_replay.specs.Replay.{replay_errand}
use Rattle.beet_pair_words.specs.Jobs.{Job, job_of as job_by}

-- the errand of a command with two files
abbrev pub errand_of_two : List ℕ → List ℕ → List ℕ → Option Errand
errand_of_two command session servers =
    if is_word command (codes "session") && are_names (session ∷ servers ∷ [])
    then Some (session_errand session servers)
    else None

-- the errand of a command with three files
abbrev pub errand_of_three : List ℕ → List ℕ → List ℕ → List ℕ → Option Errand
errand_of_three command session servers schedule =
    if is_word command (codes "replay") && are_names (session ∷ servers ∷ schedule ∷ [])
    then Some (replay_errand session servers schedule)
    else None

-- the errand that the words of a command name
abbrev pub errand_in : Words → Option Errand
errand_in (WithTwo command a b) = errand_of_two command a b
errand_in (WithThree command a b c) = errand_of_three command a b c
errand_in words = None

-- the job that the words name: a command, and exactly its words
abbrev pub job_of : List (List ℕ) → Option Job
job_of words = job_by errand_in words
