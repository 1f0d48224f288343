-- The table of commands: a row for each, with its words and the job that they name.
use Rattle.std.specs.Prelude.{ℕ, List, [], ◌∷◌, Bool, false, Option, Some, None, option_map, ◌&&◌, ◌||◌, codes}
use Rattle.std.specs.Prelude.{if◌then◌else◌, bytes_eq, nat_lt, option_and_then}
use Rattle.beet_field.specs.Point.{server_of}
use Rattle.beet_field.specs.declared.point.Point.{Point}
use Rattle.beet_forms.specs.Names.{is_name_of}
use Rattle.beet_errand.specs.Errands.{Errand}
use Rattle.beet_command.specs.Lines.{Words, WithTwo, WithThree, WithFour, WithSix, WithSeven, words_in}
use Rattle.beet_command.specs.Words.{are_names, is_word}
use Rattle.beet_job_tally.specs.Tally.{tally_errand}
use Rattle.beet_job_clear.specs.Clear.{clear_errand}
use Rattle.beet_job_watch.specs.Watch.{watch_errand}
use Rattle.beet_job_rehearse.specs.Rehearse.{rehearse_errand}
use Rattle.beet_job_record.specs.Records.{record_errand}
use Rattle.beet_job_witness.specs.Witness.{witness_errand}
use Rattle.beet_job_envelopes.specs.SourceWords.{source_word}
use Rattle.beet_job_envelopes.specs.Seal.{seal_errand}
use Rattle.beet_job_envelopes.specs.Open.{open_errand}
use Rattle.beet_job_trial.specs.Sizes.{sizes_of}
use Rattle.beet_job_trial.specs.Trial.{trial_errand}
use Rattle.beet_job_five.specs.Five.{five_errand}

-- a job: it has an errand, which ends with its answer; or it compares two worlds for one server of three or for two of
-- five, with the words of the second as they are mapped; or it tells what is found in an auction and three transcripts
pub data Job : Type 0 where
  Answering : Errand → Job
  Comparing : List ℕ → List ℕ → List ℕ → List ℕ → Point → List ℕ → Job
  ComparingForTwo : List ℕ → List ℕ → List ℕ → List ℕ → ℕ × ℕ → List ℕ → Job
  Auditing : List ℕ → List ℕ → List ℕ → List ℕ → Job

-- the job of a command with two words
abbrev pub job_of_two : List ℕ → List ℕ → List ℕ → Option Job
job_of_two command first second =
    if is_word command (codes "tally") && are_names (first ∷ second ∷ [])
    then Some (Answering (tally_errand first second))
    else if is_word command (codes "trial")
    then option_map (λ sizes. Answering (trial_errand sizes.0 sizes.1)) (sizes_of first second)
    else None

-- the job of a command with three files
abbrev pub job_of_three : List ℕ → List ℕ → List ℕ → List ℕ → Option Job
job_of_three command first second third =
    if are_names (first ∷ second ∷ third ∷ []) then
    if is_word command (codes "clear") then Some (Answering (clear_errand first second third))
    else if is_word command (codes "watch") then Some (Answering (watch_errand first second third))
    else if is_word command (codes "open") then Some (Answering (open_errand first second third))
    else None
    else None

-- the job `seal` with its words, of which the third names where the farmer's words come from
abbrev pub seal_of : List ℕ → List ℕ → List ℕ → List ℕ → Option Job
seal_of auction bid source out = option_map (λ from. Answering (seal_errand auction bid from out)) (source_word source)

-- the job of a command with four words
abbrev pub job_of_four : List ℕ → List ℕ → List ℕ → List ℕ → List ℕ → Option Job
job_of_four command first second third fourth =
    if are_names (first ∷ second ∷ fourth ∷ []) then
    if is_word command (codes "seal") then seal_of first second third fourth
    else if is_name_of third then
    if is_word command (codes "rehearse") then Some (Answering (rehearse_errand first second third fourth))
    else if is_word command (codes "record") then Some (Answering (record_errand first second third fourth))
    else if is_word command (codes "witness") then Some (Answering (witness_errand first second third fourth))
    else if is_word command (codes "audit") then Some (Auditing first second third fourth)
    else None
    else None
    else None

-- the job of a command with six words, of which the fifth is a server's number
abbrev pub job_of_six : List ℕ → List ℕ → List ℕ → List ℕ → List ℕ → List ℕ → List ℕ → Option Job
job_of_six command auction servers first second server out =
    if is_word command (codes "worlds") && are_names (auction ∷ servers ∷ first ∷ second ∷ out ∷ [])
    then option_map (λ s. Comparing auction servers first second s out) (server_of server)
    else None

-- the job that the words of a command among three servers name: a command, and exactly its words
abbrev pub job_in : Words → Option Job
job_in (WithTwo command a b) = job_of_two command a b
job_in (WithThree command a b c) = job_of_three command a b c
job_in (WithFour command a b c d) = job_of_four command a b c d
job_in (WithSix command a b c d e f) = job_of_six command a b c d e f
job_in words = None

-- the job of a command among five servers with three files
abbrev pub five_job_of_three : List ℕ → List ℕ → List ℕ → List ℕ → Option Job
five_job_of_three command auction servers book =
    if is_word command (codes "five") && are_names (auction ∷ servers ∷ book ∷ [])
    then Some (Answering (five_errand auction servers book))
    else None

-- the server of five of a digit, or none if the text is no server's
abbrev pub server_of_five : List ℕ → Option ℕ
server_of_five text =
    if bytes_eq text (codes "1") then Some 1
    else if bytes_eq text (codes "2") then Some 2
    else if bytes_eq text (codes "3") then Some 3
    else if bytes_eq text (codes "4") then Some 4
    else if bytes_eq text (codes "5") then Some 5
    else None

-- two servers, if the first is below the second
abbrev pub in_order : ℕ → ℕ → Option (ℕ × ℕ)
in_order a b = if nat_lt a b then Some (a, b) else None

-- the two servers of five of two digits, of which the first is below the second
abbrev pub two_of_five : List ℕ → List ℕ → Option (ℕ × ℕ)
two_of_five one other =
    option_and_then (λ a. option_and_then (in_order a) (server_of_five other)) (server_of_five one)

-- the job of a command among five servers with seven words, of which the fifth and the sixth are numbers of servers
abbrev pub five_job_of_seven : List ℕ → List ℕ → List ℕ → List ℕ → List ℕ → List ℕ → List ℕ → List ℕ → Option Job
five_job_of_seven command auction servers first second one other out =
    if is_word command (codes "five_worlds") && are_names (auction ∷ servers ∷ first ∷ second ∷ out ∷ [])
    then option_map (λ two. ComparingForTwo auction servers first second two out) (two_of_five one other)
    else None

-- the job that the words of a command among five servers name
abbrev pub five_job_in : Words → Option Job
five_job_in (WithThree command a b c) = five_job_of_three command a b c
five_job_in (WithSeven command a b c d e f g) = five_job_of_seven command a b c d e f g
five_job_in words = None

abbrev pub five_job_of : List (List ℕ) → Option Job
five_job_of words = five_job_in (words_in words)

-- whether the first of the words is a command among five servers
abbrev pub is_of_five : List (List ℕ) → Bool
is_of_five [] = false
is_of_five (command ∷ words) = is_word command (codes "five") || is_word command (codes "five_worlds")

-- the job that the words name
abbrev pub job_of : List (List ℕ) → Option Job
job_of words = if is_of_five words then five_job_of words else job_in (words_in words)
