use Rattle.std.proofs.Common.{ap, option_map, ◌∙◌}
use Rattle.beet_command.proofs.Reading.{of_line}
use Rattle.beet_pair_words.specs.Jobs.{Comparing, job_in}
use Rattle.beet_pair_words.proofs.Made.{from_words, made-of}
use Rattle.beet_pair_words.proofs.command.read_command.Goals as goal

pub returns-in_ok-files-in-Five : goal.returns-in_ok-files-in-Five
returns-in_ok-files-in-Five g c =
    let line = c.in-Five in
    of_line (job_in g.A.OwnCommand.errand_in) _ _ _ _ c.read_line.ensures line.is
    (ap (option_map (from_words Comparing)) c.in_ok-files-in-Five.ensures
    ∙ made-of Comparing line.name.now line.first.now line.second.now line.servers.now line.server.now line.out.now)
