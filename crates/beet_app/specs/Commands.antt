-- The job of a command whose words are read.
use Rattle.beet_job_tally.specs.Tally.{tally_errand}
use Rattle.beet_job_clear.specs.Clear.{clear_errand}
use Rattle.beet_job_watch.specs.Watch.{watch_errand}
use Rattle.beet_job_rehearse.specs.Rehearse.{rehearse_errand}
use Rattle.beet_job_record.specs.Records.{record_errand}
use Rattle.beet_job_witness.specs.Witness.{witness_errand}
use Rattle.beet_job_envelopes.specs.Open.{open_errand}
use Rattle.beet_job_envelopes.specs.Seal.{seal_errand}
use Rattle.beet_job_envelopes.specs.SourceWords.{named_source}
use Rattle.beet_job_trial.specs.Sizes.{AreSizes}
use Rattle.beet_job_trial.specs.Trial.{trial_errand}
use Rattle.beet_job_five.specs.Five.{five_errand}
use Rattle.beet_app.specs.Jobs.{Job, Answering, Comparing, ComparingForTwo, Auditing}
use Rattle.beet_app.specs.declared.commands.Command.{Command}
use Rattle.beet_app.specs.declared.commands.Command.TheVariants.{Tally, Clear, Watch, Rehearse, Record, Audit, Worlds}
use Rattle.beet_app.specs.declared.commands.Command.TheVariants.{Seal, Open, Witness, Trial}
use Rattle.beet_app.specs.declared.five.FiveCommand.{FiveCommand}
use Rattle.beet_app.specs.declared.five.FiveCommand.TheVariants.{Five, FiveWorlds}

-- the job of a command with these words
abbrev pub job_for : Command → Job
job_for (Tally auction book) = Answering (tally_errand auction.now book.now)
job_for (Clear files) = Answering (clear_errand files.auction.now files.servers.now files.book.now)
job_for (Watch files) = Answering (watch_errand files.auction.now files.servers.now files.book.now)
job_for (Rehearse files schedule) =
    Answering (rehearse_errand files.auction.now files.servers.now files.book.now schedule.now)
job_for (Record files out) =
    Answering (record_errand files.auction.now files.servers.now files.book.now out.now)
job_for (Audit files) = Auditing files.auction.now files.one.now files.two.now files.three.now
job_for (Worlds files s) =
    Comparing files.auction.now files.servers.now files.first.now files.second.now s files.out.now
job_for (Seal files source) =
    Answering (seal_errand files.auction.now files.bid.now (named_source source) files.out.now)
job_for (Open files) = Answering (open_errand files.auction.now files.servers.now files.list.now)
job_for (Witness files out) =
    Answering (witness_errand files.auction.now files.servers.now files.list.now out.now)
job_for (Trial bidders prices) = Answering (trial_errand bidders prices)

-- the numbers of a trial are within its limits
abbrev pub HasSizes : Command → Type 0
HasSizes (Tally auction book) = Unit {0}
HasSizes (Clear files) = Unit {0}
HasSizes (Watch files) = Unit {0}
HasSizes (Rehearse files schedule) = Unit {0}
HasSizes (Record files out) = Unit {0}
HasSizes (Audit files) = Unit {0}
HasSizes (Worlds files s) = Unit {0}
HasSizes (Seal files source) = Unit {0}
HasSizes (Open files) = Unit {0}
HasSizes (Witness files out) = Unit {0}
HasSizes (Trial bidders prices) = AreSizes bidders prices

-- the job of a command among five servers with these words
abbrev pub five_job_for : FiveCommand → Job
five_job_for (Five files) = Answering (five_errand files.auction.now files.servers.now files.book.now)
five_job_for (FiveWorlds files two) =
    ComparingForTwo files.auction.now files.servers.now files.first.now files.second.now (two.a, two.b) files.out.now
