-- The lines that tell how three servers stand.
use Rattle.std.specs.Prelude.{ℕ, List, ◌++◌, codes, decimal}
use Rattle.beet_field.specs.Point.{number_of}
use Rattle.beet_field.specs.declared.point.Point.{Point}
use Rattle.beet_field.specs.declared.point.Point.TheVariants.{One, Two, Three}
use Rattle.beet_field.specs.declared.trio.Trio.{Trio}
use Rattle.beet_bids.specs.Grids.{Grid}
use Rattle.beet_errand.specs.Texts.{line_of}
use Rattle.beet_run.specs.OutcomeTexts.{finish_text}
use Rattle.beet_job_rehearse.specs.declared.standing.Standing.{Standing}
use Rattle.beet_job_rehearse.specs.declared.standing.Standing.TheVariants.{Waiting, Ended}
use Rattle.beet_job_rehearse.specs.declared.standing.Rehearsal.{Rehearsal}

-- how a server stands: it waits in a round, or its run has ended so
abbrev pub standing_text : Grid → Standing → List ℕ
standing_text grid (Waiting round) = codes "round " ++ decimal round ++ codes " waiting"
standing_text grid (Ended finish) = finish_text (codes " ") grid finish

-- the line of a server
abbrev pub server_text : Grid → Point → Standing → List ℕ
server_text grid s standing =
    line_of (codes "server " ++ decimal (number_of s) ++ codes " " ++ standing_text grid standing)

-- a line for each server
abbrev pub servers_text : Grid → Trio Standing → List ℕ
servers_text grid servers =
    server_text grid One servers.one ++ server_text grid Two servers.two ++ server_text grid Three servers.three

-- the line for so many messages that are not delivered
abbrev pub undelivered_line : ℕ → List ℕ
undelivered_line undelivered = line_of (codes "undelivered " ++ decimal undelivered)

-- a line for each server, and one for the messages that are not delivered
abbrev pub rehearsal_text : Grid → Rehearsal → List ℕ
rehearsal_text grid rehearsal = servers_text grid rehearsal.servers ++ undelivered_line rehearsal.undelivered
