-- The job of a command whose words are read.
use Rattle.beet_errand.specs.Errands.{Errand}
use Rattle.beet_pair_words.specs.Jobs.{Job, Answering, Comparing}
use Rattle.beet_pair_words.specs.declared.command.Command.{Command}
use Rattle.beet_pair_words.specs.declared.command.Command.TheVariants.{Own, Pair}

-- the job of a command with these words, if one of the program's own has this errand
abbrev pub job_for : {A : Type 0} → (A → Errand) → Command A → Job
job_for errand_of (Own command) = Answering (errand_of command)
job_for errand_of (Pair files s) = Comparing files.first.now files.second.now files.servers.now s files.out.now
