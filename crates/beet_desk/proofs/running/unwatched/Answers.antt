use Rattle.std.proofs.Common.{◌≡◌}
use Rattle.beet_field.specs.Trio.{member}
use Rattle.beet_field.specs.declared.point.Point.TheVariants.{One, Two, Three}
use Rattle.beet_field.specs.declared.trio.Trio.{Trio}
use Rattle.beet_server.specs.Cores.{setup_of}
use Rattle.beet_server.proofs.Rounds.{by_point}
use Rattle.beet_link.specs.Streams.{rounds_from}
use Rattle.beet_desk.specs.declared.counts.NoteCount.{NoteCount}
use Rattle.beet_desk.specs.Counts.{count_in}
use Rattle.beet_desk.proofs.CountFacts.{ended-count}
use Rattle.beet_desk.proofs.running.unwatched.Goals as goal

pub returns-clause-counts : goal.returns-clause-counts
returns-clause-counts g c =
    let script = g.S.Script in
    let o = setup_of script.batch_of script.inputs_of c.args.fresh in
    let rounds = rounds_from script.batch_of script.inputs_of script.rounds_of c.args.fresh in
    let end = c.lockstep-cores.result in
    let counts : Trio NoteCount = record { one = c.count_at.result; two = c.count_at-2.result; three = c.count_at-3.result } in
    by_point (λ s. member counts s ≡ count_in o rounds)
    (ended-count script.batch_of o rounds One end.one c.count_at.result (c.lockstep-cores.ensures.ended One) c.count_at.ensures.notes
    c.count_at.ensures.opened)
    (ended-count script.batch_of o rounds Two end.two c.count_at-2.result (c.lockstep-cores.ensures.ended Two) c.count_at-2.ensures.notes
    c.count_at-2.ensures.opened)
    (ended-count script.batch_of o rounds Three end.three c.count_at-3.result (c.lockstep-cores.ensures.ended Three)
    c.count_at-3.ensures.notes c.count_at-3.ensures.opened)
